-- A reader that went hears nothing more.
use Rattle.std.proofs.Common.{◌≡◌, ℕ, ◌<◌, ◌==◌, Bool, true, false, if◌then◌else◌, List, [], ◌∷◌, ◌++◌, length, map, Option, Some, None, Contains, refl, sym, ap, ◌∙◌, subst, arith, append-nil}
use Rattle.std.specs.List.{AllByRecursion}
use Rattle.std.proofs.lemmas.Bool.Decides.{nat_tests}
use Rattle.rtps_types.specs.MatchChange.{MatchChange, Matches, Unmatches, Refuses}
use Rattle.rtps_types.specs.declared.identity.Guid.{Guid}
use Rattle.rtps_types.specs.declared.place.Place.{Place}
use Rattle.rtps_types.specs.declared.policy.PolicyId.{PolicyId}
use Rattle.rtps_discovery.specs.Addressed.{is_discovery}
use Rattle.rtps_discovery.specs.Announcement.{Announcement, Offer}
use Rattle.rtps_discovery.specs.Changes.{ChangeAt, at, changes, changes_run}
use Rattle.rtps_discovery.specs.Joining.{joined, parted, vacated, without_fixed, without_reader}
use Rattle.rtps_discovery.specs.Known.{Known, Unmatched, Refused, Wish, is_fixed, is_matched, known_after, moved, passed, reader_at, standing, writer_at}
use Rattle.rtps_discovery.specs.Records.{announcements, changes_by, noted}
use Rattle.rtps_discovery.proofs.Differences.{at_first, differences, later_in}
use Rattle.dds_topic.specs.Decoding.{Decoding}
use Rattle.rtps_reader.specs.Reader.{Reader, reader_run}
use Rattle.rtps_reader.specs.Step.{StepView, Changes, Starts, Stops}
use Rattle.rtps_run.specs.Occurrence.{Occurrence, Passes, Came, Joins, Parts as Goes, head_of, place_of}
use Rattle.rtps_run.specs.Seen.{notices_by, reader_count}
use Rattle.rtps_run.specs.World.{World, addressed_to, changes_for, count_after, doings, is_reliable, known_then, stops, world_after}
use Rattle.rtps_run.proofs.ByRank.{front_there, other_vacated, vacated_none}
use Rattle.rtps_run.proofs.Counting.{no_fewer, within}
use Rattle.rtps_run.proofs.Matched.{told_more, told_run}
use Rattle.rtps_run.proofs.OneOrder.{filter_none}
use Rattle.rtps_run.proofs.Routed.{readers_after, readers_stay}
use Rattle.rtps_serial.proofs.Agreeing.{fixed_kept, fixed_stay, noted_alike, other_fixed, own_fixed}
use Rattle.rtps_serial.proofs.Told.{both_for, told_both}

-- ---- changes of a rank that has no reader

none_ranked : (rank : ℕ) (cs : List ChangeAt) → ((x : MatchChange) → Contains cs (at rank x) → ⊥) → AllByRecursion (λ (c : ChangeAt). (c.rank == rank) ≡ false) cs
none_ranked rank [] none = tt
none_ranked rank (c ∷ cs) none = (by_test (c.rank == rank) refl, none_ranked rank cs (λ x there. none x (later_in c cs (at rank x) there)))
  where
    by_test : (b : Bool) → (c.rank == rank) ≡ b → b ≡ false
    by_test false e = refl
    by_test true e =
        let same : c.rank ≡ rank = grind (arith, nat_tests) in
        absurd (none c.what (subst (λ k. Contains (c ∷ cs) (at k c.what)) same (at_first c cs)))

no_standing : (o : Option Wish) (w : Option Offer) (policy : PolicyId) → o ≡ None → standing o w ≡ Refused policy → ⊥
no_standing o w policy none refused = let bad : Unmatched ≡ Refused policy = sym (ap (λ p. standing p w) none) ∙ refused in absurd cc

pub none_for : (before after : Known) (rank : ℕ) → before.fixed ≡ after.fixed → reader_at before.readers rank ≡ None → reader_at after.readers rank ≡ None → ((g : Guid) → is_fixed before.fixed rank g ≡ false)
    → changes_for rank (changes before after) ≡ []
none_for before after rank fixed was is free =
    ap (map (λ (c : ChangeAt). Changes c.what)) (filter_none (λ (c : ChangeAt). c.rank == rank) (changes before after) (none_ranked rank (changes before after) nothing_at))
  where
    not_before : (g : Guid) → is_matched before rank g ≡ false
    not_before g = rw (free g, was) refl

    not_then : (g : Guid) → is_matched after rank g ≡ false
    not_then g = rw (sym (ap (λ f. is_fixed f rank g) fixed) ∙ free g, is) refl

    nothing_at : (x : MatchChange) → Contains (changes before after) (at rank x) → ⊥
    nothing_at (Matches w ls) there =
        let bad : true ≡ false = sym (((differences before after fixed).begin rank w ls).0 there).1.0 ∙ not_then w in absurd cc
    nothing_at (Unmatches w) there =
        let bad : true ≡ false = sym (((differences before after fixed).end rank w).0 there).0 ∙ not_before w in absurd cc
    nothing_at (Refuses w policy) there =
        no_standing (reader_at after.readers rank) (writer_at after w) policy is (((differences before after fixed).refuse rank w policy).0 there).0.refused

none_run : (k : Known) (said : List Announcement) (rank : ℕ) → reader_at k.readers rank ≡ None → ((g : Guid) → is_fixed k.fixed rank g ≡ false) → changes_for rank (changes_run k said) ≡ []
none_run k [] rank none free = refl
none_run k (a ∷ more) rank none free =
    let still : reader_at (known_after k a).readers rank ≡ None = ap (λ (rs : List (Option Wish)). reader_at rs rank) (readers_after k a) ∙ none in
    both_for rank (changes k (known_after k a)) (changes_run (known_after k a) more)
    ∙ ap (λ l. l ++ changes_for rank (changes_run (known_after k a) more)) (none_for k (known_after k a) rank (sym (fixed_stay k a)) none still free)
    ∙ none_run (known_after k a) more rank still (λ g. ap (λ f. is_fixed f rank g) (fixed_stay k a) ∙ free g)

-- a step that stops a reader tells nothing
pub told_stop : {M : Type 0} (decoding : Decoding M) (place : Place) (r : Reader) (b : Bool) → told_run decoding place r (if b then Stops ∷ [] else []) ≡ []
told_stop decoding place r true = refl
told_stop decoding place r false = refl

-- ---- a reader that went

module _ {M : Type 0} (decoding : Decoding M) (rank : ℕ) where
  -- the rank was given, and has no reader now
  pub record IsAbsent (w : World M) : Type 0 where
    pub below : rank < reader_count w
    pub none : reader_at w.known.readers rank ≡ None
    pub free : (h : Guid) → is_fixed w.known.fixed rank h ≡ false

  told_none : (w : World M) (o : Occurrence) → IsAbsent w → told_run decoding (place_of o) (w.readers rank) (doings w.known rank o) ≡ []
  told_none w (Passes index moment) t = ap (told_run decoding (head_of index) (w.readers rank)) (none_for (moved moment w.known) (passed moment w.known) rank refl t.none t.none t.free)
  told_none w (Came e) t = ap (told_run decoding e.place (w.readers rank)) (by_kind (is_discovery e.writer))
    where
      by_kind : (b : Bool) → (if b then changes_for rank (changes_by w.known e) else addressed_to w.known rank e (reader_at w.known.readers rank)) ≡ []
      by_kind true = none_run (noted w.known e) (announcements w.known e) rank (ap (λ (rs : List (Option Wish)). reader_at rs rank) (noted_alike w.known e).readers ∙ t.none) (λ h. ap (λ f. is_fixed f rank h) (noted_alike w.known e).fixed ∙ t.free h)
      by_kind false = ap (addressed_to w.known rank e) t.none
  told_none w (Joins index r) t = by_new (rank == length w.known.readers) refl
    where
      cs : List ChangeAt
      cs = changes (without_fixed (length w.known.readers) w.known) (joined r w.known)

      first_step : StepView
      first_step = Starts w.known.own r.entity (is_reliable r.policies.reliability)

      by_new : (b : Bool) → (rank == length w.known.readers) ≡ b → told_run decoding (head_of index) (w.readers rank) ((if b then first_step ∷ [] else []) ++ changes_for rank cs) ≡ []
      by_new true e = let below = t.below in absurd (grind (arith, nat_tests))
      by_new false e = ap (told_run decoding (head_of index) (w.readers rank))
          (none_for (without_fixed (length w.known.readers) w.known) (joined r w.known) rank refl t.none (front_there w.known.readers (Some r) rank t.below ∙ t.none) (λ h. other_fixed w.known.fixed rank (length w.known.readers) h e ∙ t.free h))
  told_none w (Goes index gone) t =
      sym (told_both decoding (head_of index) (w.readers rank) cs (stops rank gone))
      ∙ ap (λ l. l ++ told_run decoding (head_of index) (reader_run (w.readers rank) cs) (stops rank gone))
      (ap (told_run decoding (head_of index) (w.readers rank)) (none_for w.known (without_reader gone w.known) rank refl t.none (still (rank == gone) refl) t.free))
      ∙ told_stop decoding (head_of index) (reader_run (w.readers rank) cs) (rank == gone)
    where
      cs : List StepView
      cs = changes_for rank (changes w.known (without_reader gone w.known))

      still : (b : Bool) → (rank == gone) ≡ b → reader_at (vacated gone w.known.readers) rank ≡ None
      still true e = let is : rank ≡ gone = grind (arith, nat_tests) in ap (reader_at (vacated gone w.known.readers)) is ∙ vacated_none w.known.readers gone
      still false e = other_vacated gone rank w.known.readers e ∙ t.none

  -- it gives out nothing more
  pub absent_silent : (w : World M) (o : Occurrence) → IsAbsent w → notices_by rank (world_after decoding w o).put ≡ notices_by rank w.put
  absent_silent w o t =
      told_more decoding w rank o (within (reader_count w) (count_after w o) rank (no_fewer w.known o) t.below)
      ∙ ap (λ l. notices_by rank w.put ++ l) (told_none w o t)
      ∙ append-nil (notices_by rank w.put)

  none_then : (w : World M) (o : Occurrence) → IsAbsent w → (reader_at (known_then w.known o).readers rank ≡ None) × ((h : Guid) → is_fixed (known_then w.known o).fixed rank h ≡ false)
  none_then w (Passes index moment) t = (t.none, t.free)
  none_then w (Came e) t = (ap (λ (rs : List (Option Wish)). reader_at rs rank) (readers_stay w.known e) ∙ t.none, λ h. ap (λ f. is_fixed f rank h) (fixed_kept w.known e) ∙ t.free h)
  none_then w (Joins index r) t = (front_there w.known.readers (Some r) rank t.below ∙ t.none, λ h. free (rank == length w.known.readers) refl h)
    where
      free : (b : Bool) → (rank == length w.known.readers) ≡ b → (h : Guid) → is_fixed (joined r w.known).fixed rank h ≡ false
      free true e h = let below = t.below in absurd (grind (arith, nat_tests))
      free false e h = other_fixed w.known.fixed rank (length w.known.readers) h e ∙ t.free h
  none_then w (Goes index gone) t = by_gone (rank == gone) refl
    where
      by_gone : (b : Bool) → (rank == gone) ≡ b → (reader_at (vacated gone w.known.readers) rank ≡ None) × ((h : Guid) → is_fixed (parted gone w.known).fixed rank h ≡ false)
      by_gone true e =
          let is : rank ≡ gone = grind (arith, nat_tests) in
          (ap (reader_at (vacated gone w.known.readers)) is ∙ vacated_none w.known.readers gone, λ h. ap (λ n. is_fixed (parted gone w.known).fixed n h) is ∙ own_fixed w.known.fixed gone h)
      by_gone false e = (other_vacated gone rank w.known.readers e ∙ t.none, λ h. other_fixed w.known.fixed rank gone h e ∙ t.free h)

  -- and stays away
  pub still_absent : (w : World M) (o : Occurrence) → IsAbsent w → IsAbsent (world_after decoding w o)
  still_absent w o t = record {
    below = within (reader_count w) (count_after w o) rank (no_fewer w.known o) t.below;
    none = (none_then w o t).0;
    free = (none_then w o t).1;
  }
