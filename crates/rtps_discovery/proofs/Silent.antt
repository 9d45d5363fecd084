-- Who is forgotten at a moment; and it doesn't matter how often moments pass.
use Rattle.std.proofs.Common.{◌≡◌, ℕ, ◌≤◌, Bool, true, false, not, ◌&&◌, if◌then◌else◌, cond, List, Option, Some, None, refl, sym, ap, ◌∙◌, arith}
use Rattle.std.specs.Prelude.{filter, max}
use Rattle.std.specs.List.Sorted.{IsStrictlySortedBy}
use Rattle.std.specs.Map.{keys_of}
use Rattle.std.specs.Ordering.{is_eq}
use Rattle.std.proofs.lemmas.Bool.Decides.{nat_tests}
use Rattle.std.proofs.lemmas.Map.Entries.{lookup-filter-keys}
use Rattle.rtps_types.specs.declared.identity.Guid.{Guid}
use Rattle.rtps_types.specs.declared.identity.GuidPrefix.{GuidPrefix}
use Rattle.rtps_proxy.specs.Matches.{Match}
use Rattle.rtps_discovery.specs.Announcement.{Offer}
use Rattle.rtps_discovery.specs.Ends.{end_of}
use Rattle.rtps_discovery.specs.Known.{Known, RemoteParticipant, expired, is_of, moved, participant_at, passed, prefix_order}
use Rattle.rtps_discovery.specs.Leases.{deadline, is_after}
use Rattle.rtps_discovery.specs.Silence.{MomentsBetweenAddNothing, SilenceIsForgotten, has_lapsed, is_silent}
use Rattle.rtps_discovery.proofs.Ends.{prefix_is}
use Rattle.rtps_discovery.proofs.Expiring.{expired_is, is_of_has}
use Rattle.rtps_discovery.proofs.Together.{filter_both, same_filter, sorted_left}

abbrev at : GuidPrefix → GuidPrefix → Bool
at p q = is_eq (prefix_order p q)

lapsed : (moment : ℕ) (o : Option RemoteParticipant) → is_after moment (end_of o) ≡ has_lapsed moment o
lapsed moment None = refl
lapsed moment (Some x) = refl

-- a lease that has ended stays so
later : (a b : ℕ) (o : Option RemoteParticipant) → a ≤ b → has_lapsed a o ≡ true → has_lapsed b o ≡ true
later a b None le h = absurd cc
later a b (Some x) le h = by_last (deadline x.heard x.lease) h
  where
    by_last : (d : Option ℕ) → is_after a d ≡ true → is_after b d ≡ true
    by_last None h = absurd cc
    by_last (Some l) h = grind (arith, nat_tests)

-- filters one after the other
twice : {X : Type 0} (f g h : X → Bool) → ((x : X) → (f x && g x) ≡ h x) → (xs : List X) → filter g (filter f xs) ≡ filter h xs
twice f g h same xs = filter_both g f xs ∙ same_filter (λ x. f x && g x) h same xs

-- ---- who is forgotten

module _ (moment : ℕ) (k : Known) (up : IsStrictlySortedBy prefix_order (keys_of k.participants)) where
  gone : (p : GuidPrefix) → is_of (expired (moved moment k)) p ≡ is_silent moment k p
  gone p = is_of_has (expired (moved moment k)) p ∙ expired_is (max k.moment moment) k.participants p up ∙ lapsed (max k.moment moment) (participant_at k p)

  left_at : (p : GuidPrefix) → participant_at (passed moment k) p ≡ (if is_silent moment k p then None else participant_at k p)
  left_at p =
      lookup-filter-keys (at p) (λ q. not (is_of (expired (moved moment k)) q)) (not (is_of (expired (moved moment k)) p))
      (λ q h. ap (λ r. not (is_of (expired (moved moment k)) r)) (sym (prefix_is p q h))) k.participants
      ∙ ap (λ b. cond (not b) (participant_at k p) None) (gone p) ∙ by_test (is_silent moment k p)
    where
      by_test : (b : Bool) → cond (not b) (participant_at k p) None ≡ (if b then None else participant_at k p)
      by_test true = refl
      by_test false = refl

pub silence_is_forgotten : SilenceIsForgotten
silence_is_forgotten moment k up = record {
  participant = left_at moment k up;
  participants = same_filter (λ (e : GuidPrefix × RemoteParticipant). not (is_of (expired (moved moment k)) e.0)) (λ (e : GuidPrefix × RemoteParticipant). not (is_silent moment k e.0)) (λ e. ap not (gone moment k up e.0)) k.participants;
  announcers = same_filter (λ (m : Match). not (is_of (expired (moved moment k)) m.pairing.writer.prefix)) (λ (m : Match). not (is_silent moment k m.pairing.writer.prefix)) (λ m. ap not (gone moment k up m.pairing.writer.prefix)) k.announcers;
  writers = same_filter (λ (e : Guid × Offer). not (is_of (expired (moved moment k)) e.0.prefix)) (λ (e : Guid × Offer). not (is_silent moment k e.0.prefix)) (λ e. ap not (gone moment k up e.0.prefix)) k.writers;
  remote_readers = same_filter (λ (g : Guid). not (is_of (expired (moved moment k)) g.prefix)) (λ (g : Guid). not (is_silent moment k g.prefix)) (λ g. ap not (gone moment k up g.prefix)) k.remote_readers;
}

-- ---- two moments, one after the other

module _ (m n : ℕ) (k : Known) (up : IsStrictlySortedBy prefix_order (keys_of k.participants)) where
  abbrev both : ℕ
  both = max (max k.moment n) m

  gone_then : (p : GuidPrefix) → is_of (expired (moved m (passed n k))) p ≡ has_lapsed both (if is_silent n k p then None else participant_at k p)
  gone_then p =
      gone m (passed n k) (sorted_left (λ (e : GuidPrefix × RemoteParticipant). not (is_of (expired (moved n k)) e.0)) k.participants up) p
      ∙ ap (has_lapsed both) (left_at n k up p)

  one_moment : max k.moment (max m n) ≡ both
  one_moment = omega arith

  not_later : max k.moment n ≤ both
  not_later = omega arith

  gone_at_once : (p : GuidPrefix) → is_of (expired (moved (max m n) k)) p ≡ has_lapsed both (participant_at k p)
  gone_at_once p = gone (max m n) k up p ∙ ap (λ i. has_lapsed i (participant_at k p)) one_moment

  same_gone : (p : GuidPrefix) → (not (is_of (expired (moved n k)) p) && not (is_of (expired (moved m (passed n k))) p)) ≡ not (is_of (expired (moved (max m n) k)) p)
  same_gone p =
      ap (λ b. not b && not (is_of (expired (moved m (passed n k))) p)) (gone n k up p)
      ∙ ap (λ b. not (is_silent n k p) && not b) (gone_then p) ∙ by_first (is_silent n k p) refl ∙ sym (ap not (gone_at_once p))
    where
      by_first : (b : Bool) → is_silent n k p ≡ b → (not b && not (has_lapsed both (if b then None else participant_at k p))) ≡ not (has_lapsed both (participant_at k p))
      by_first true e = sym (ap not (later (max k.moment n) both (participant_at k p) not_later e))
      by_first false e = refl

  between : passed m (passed n k) ≡ passed (max m n) k
  between =
      ap (λ (l : List (GuidPrefix × RemoteParticipant)). record (passed m (passed n k)) { participants = l }) (twice (λ (e : GuidPrefix × RemoteParticipant). not (is_of (expired (moved n k)) e.0)) (λ (e : GuidPrefix × RemoteParticipant). not (is_of (expired (moved m (passed n k))) e.0)) (λ (e : GuidPrefix × RemoteParticipant). not (is_of (expired (moved (max m n) k)) e.0)) (λ e. same_gone e.0) k.participants)
      ∙ ap (λ (l : List Match). record (passed m (passed n k)) { participants = (passed (max m n) k).participants; announcers = l }) (twice (λ (a : Match). not (is_of (expired (moved n k)) a.pairing.writer.prefix)) (λ (a : Match). not (is_of (expired (moved m (passed n k))) a.pairing.writer.prefix)) (λ (a : Match). not (is_of (expired (moved (max m n) k)) a.pairing.writer.prefix)) (λ a. same_gone a.pairing.writer.prefix) k.announcers)
      ∙ ap (λ (l : List (Guid × Offer)). record (passed (max m n) k) { moment = both; writers = l; remote_readers = (passed m (passed n k)).remote_readers }) (twice (λ (e : Guid × Offer). not (is_of (expired (moved n k)) e.0.prefix)) (λ (e : Guid × Offer). not (is_of (expired (moved m (passed n k))) e.0.prefix)) (λ (e : Guid × Offer). not (is_of (expired (moved (max m n) k)) e.0.prefix)) (λ e. same_gone e.0.prefix) k.writers)
      ∙ ap (λ (l : List Guid). record (passed (max m n) k) { moment = both; remote_readers = l }) (twice (λ (h : Guid). not (is_of (expired (moved n k)) h.prefix)) (λ (h : Guid). not (is_of (expired (moved m (passed n k))) h.prefix)) (λ (h : Guid). not (is_of (expired (moved (max m n) k)) h.prefix)) (λ h. same_gone h.prefix) k.remote_readers)
      ∙ ap (λ (i : ℕ). record (passed (max m n) k) { moment = i }) (sym one_moment)

pub moments_between_add_nothing : MomentsBetweenAddNothing
moments_between_add_nothing = between
