-- Participants are taken out one after the other.
use Rattle.std.proofs.Common.{◌≡◌, List, [], ◌∷◌, not, ◌&&◌, None, sym, ap, ◌∙◌}
use Rattle.std.specs.Prelude.{filter}
use Rattle.std.specs.Map.{lookup, remove_entry}
use Rattle.std.specs.Ordering.{is_eq}
use Rattle.std.specs.Str.{bytes_eq}
use Rattle.rtps_types.specs.declared.identity.Guid.{Guid}
use Rattle.rtps_types.specs.declared.identity.GuidPrefix.{GuidPrefix}
use Rattle.rtps_proxy.specs.Kept as proxy
use Rattle.rtps_proxy.specs.Matches.{AllStand, Match, ended}
use Rattle.rtps_discovery.specs.Known.{RemoteParticipant, is_of, prefix_order, publications_writer, subscriptions_writer}
use Rattle.rtps_discovery.specs.Leave.{any_of, are_of, ended_by, endpoint}
use Rattle.rtps_discovery.proofs.Leaving.{both_out, removed_all}
use Rattle.rtps_discovery.proofs.Taking.{of_equal}
use Rattle.rtps_discovery.proofs.Together.{filter_both, filter_every, same_filter}

-- one more is out
pub participant_goes : (p : GuidPrefix) (ps : List GuidPrefix) (old new : List (GuidPrefix × RemoteParticipant)) → new ≡ remove_entry (λ q. is_eq (prefix_order p q)) old → lookup (λ q. is_eq (prefix_order p q)) new ≡ None
    → filter (λ (e : GuidPrefix × RemoteParticipant). not (is_of ps e.0)) new ≡ filter (λ (e : GuidPrefix × RemoteParticipant). not (is_of (p ∷ ps) e.0)) old
participant_goes p ps old new is none =
    ap (filter (λ (e : GuidPrefix × RemoteParticipant). not (is_of ps e.0))) (is ∙ removed_all (λ q. is_eq (prefix_order p q)) old (ap (lookup (λ q. is_eq (prefix_order p q))) (sym is) ∙ none))
    ∙ filter_both (λ (e : GuidPrefix × RemoteParticipant). not (is_of ps e.0)) (λ (e : GuidPrefix × RemoteParticipant). not (is_eq (prefix_order p e.0))) old
    ∙ same_filter (λ (e : GuidPrefix × RemoteParticipant). not (is_eq (prefix_order p e.0)) && not (is_of ps e.0)) (λ (e : GuidPrefix × RemoteParticipant). not (is_of (p ∷ ps) e.0))
    (λ e. ap (λ b. not b && not (is_of ps e.0)) (sym (of_equal p (endpoint e.0 publications_writer))) ∙ both_out (bytes_eq p.0 e.0.0) (is_of ps e.0)) old

module _ {X : Type 0} where
  pub endpoints_go : (p : GuidPrefix) (ps : List GuidPrefix) (old new : List (Guid × X)) → new ≡ filter (λ e. not (are_of p e)) old → filter (λ e. not (any_of ps e)) new ≡ filter (λ e. not (any_of (p ∷ ps) e)) old
  endpoints_go p ps old new is =
      ap (filter (λ (e : Guid × X). not (any_of ps e))) is
      ∙ filter_both (λ (e : Guid × X). not (any_of ps e)) (λ (e : Guid × X). not (are_of p e)) old
      ∙ same_filter (λ (e : Guid × X). not (are_of p e) && not (any_of ps e)) (λ (e : Guid × X). not (any_of (p ∷ ps) e)) (λ e. both_out (bytes_eq p.0 e.0.prefix.0) (is_of ps e.0.prefix)) old

  -- none are left to go
  pub none_go : (ps : List GuidPrefix) (es : List (Guid × X)) → ps ≡ [] → filter (λ e. not (any_of ps e)) es ≡ es
  none_go ps es none = ap (λ l. filter (λ (e : Guid × X). not (any_of l e)) es) none ∙ filter_every es

pub no_participants_go : (ps : List GuidPrefix) (es : List (GuidPrefix × RemoteParticipant)) → ps ≡ [] → filter (λ (e : GuidPrefix × RemoteParticipant). not (is_of ps e.0)) es ≡ es
no_participants_go ps es none = ap (λ l. filter (λ (e : GuidPrefix × RemoteParticipant). not (is_of l e.0)) es) none ∙ filter_every es

-- the matches that are kept now, once those that are left end, are those that are kept once all did
pub record Ending (left all : List GuidPrefix) (ms : List Match) (now : List (Guid × proxy.ProxyView)) : Type 0 where
  pub matches : List Match
  pub stand : AllStand matches now
  pub same : ended_by left matches ≡ ended_by all ms

pub ending_more : (p : GuidPrefix) (left all rest : List GuidPrefix) (ms : List Match) (now new : List (Guid × proxy.ProxyView)) → rest ≡ p ∷ left
    → ((l : List Match) → AllStand l now → AllStand (ended (endpoint p subscriptions_writer) (ended (endpoint p publications_writer) l)) new)
    → Ending rest all ms now → Ending left all ms new
ending_more p left all rest ms now new cut end e = record {
  matches = ended (endpoint p subscriptions_writer) (ended (endpoint p publications_writer) e.matches);
  stand = end e.matches e.stand;
  same = ap (λ l. ended_by l e.matches) (sym cut) ∙ e.same;
}

pub ending_all : (left all : List GuidPrefix) (ms : List Match) (now : List (Guid × proxy.ProxyView)) → left ≡ [] → Ending left all ms now → AllStand (ended_by all ms) now
ending_all left all ms now none e = let same : e.matches ≡ ended_by all ms = ap (λ l. ended_by l e.matches) (sym none) ∙ e.same in rw (← same) e.stand
