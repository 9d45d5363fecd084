use Rattle.std.proofs.Common.{◌≡◌, ◌+◌, List, [], ◌∷◌, drop, get_or, not, None, sym, ap, subst, ◌∙◌}
use Rattle.std.specs.Prelude.{filter}
use Rattle.std.proofs.lemmas.List.{at_drop_all, drop_more}
use Rattle.rtps_types.specs.declared.identity.GuidPrefix.{GuidPrefix}
use Rattle.std.specs.Map.{lookup}
use Rattle.std.specs.Ordering.{is_eq}
use Rattle.rtps_discovery.specs.Ends.{EndsAt, Renews, end_of}
use Rattle.rtps_discovery.specs.Known.{RemoteParticipant, is_of, prefix_order}
use Rattle.rtps_discovery.proofs.Ends.{covers_then}
use Rattle.rtps_discovery.proofs.Several.{no_participants_go, participant_goes}
use Rattle.rtps_discovery.proofs.leave.forget_participants.Goals as goal

pub loop-prefix-preserved : goal.loop-prefix-preserved
loop-prefix-preserved g c =
    let i = c.loop-prefix.prefix-index in
    let all = c.args.prefixes.now in
    let p : GuidPrefix = get_or all i (record { 0 = [] }) in
    let left = drop (i + 1) all in
    let cut : drop i all ≡ p ∷ left = drop_more all i (record { 0 = [] }) c.loop-prefix-test.true in
    record {
      stay = participant_goes p left c.loop-prefix.participants.entries c.remove-gone.new.self.entries c.remove-gone.ensures.entries c.remove-gone.ensures.updates.1
          ∙ ap (λ ps. filter (λ (e : GuidPrefix × RemoteParticipant). not (is_of ps e.0)) c.loop-prefix.participants.entries) (sym cut) ∙ c.loop-prefix.invariant.stay;
      covers = λ h.
          let covers = c.loop-prefix.invariant.covers h in
          let was : c.end_of.result ≡ end_of (lookup (λ q. is_eq (prefix_order p q)) c.loop-prefix.participants.entries) = c.end_of.ensures ∙ ap end_of c.remove-gone.ensures.value in
          let renews : Renews p None c.loop-prefix.leases c.end.new.self = c.end.ensures (subst (λ o. EndsAt p o c.loop-prefix.leases) (sym was) (covers p)) in
          covers_then p None c.loop-prefix.leases c.end.new.self c.loop-prefix.participants.entries c.remove-gone.new.self.entries renews c.remove-gone.ensures.updates.0 covers;
    }

pub returns-clause-left : goal.returns-clause-left
returns-clause-left g c =
    let i = c.loop-prefix.prefix-index in
    let all = c.args.prefixes.now in
    let none : drop i all ≡ [] = at_drop_all (λ (l : List GuidPrefix). l) all i c.loop-prefix-test.false in
    sym (no_participants_go (drop i all) c.loop-prefix.participants.entries none) ∙ c.loop-prefix.invariant.stay
