-- What a reader keeps after a step.
use Rattle.std.proofs.Common.{◌≡◌, ◌+◌, ℕ, false, suc, List, [], ◌∷◌, ◌++◌, length, Option, Some, None, refl, sym, ap, ◌∙◌, subst}
use Rattle.std.proofs.lemmas.List.{length-map}
use Rattle.rtps_types.specs.declared.policy.PolicyId.{PolicyId}
use Rattle.rtps_types.specs.MatchChange.{Matches, Unmatches, Refuses}
use Rattle.rtps_types.specs.declared.identity.Guid.{Guid}
use Rattle.rtps_types.specs.declared.locator.Locator.{Locator}
use Rattle.rtps_types.specs.declared.place.Place.{Place}
use Rattle.rtps_proxy.specs.declared.effects.Effects.{Effects}
use Rattle.rtps_proxy.specs.Change.{change_view}
use Rattle.rtps_proxy.specs.History.{MatchEvent}
use Rattle.rtps_proxy.specs.Kept.{ProxyView}
use Rattle.rtps_proxy.specs.Matches.{AllStand, AreTaken, Match, begun, ended, extended, fresh, match_with}
use Rattle.dds_topic.specs.Decoding.{Decoding}
use Rattle.rtps_reader.specs.declared.notice.Notice.{Notice}
use Rattle.rtps_reader.specs.declared.notice.NoticeKind.TheVariants.{Matched, Unmatched, Incompatible}
use Rattle.rtps_reader.specs.declared.stateful.StatefulReader.{StatefulReader}
use Rattle.rtps_reader.specs.declared.status.Counts.{Counts}
use Rattle.rtps_reader.specs.Reader.{Reader, fresh_with, lost_at, notice_of, reader_after, ready_at, tells, told_of, pairing_of}
use Rattle.rtps_reader.specs.Standing.{IsSameReader, StandsAt, counts_after, counts_given, kept_by, status_by}
use Rattle.rtps_reader.specs.Step.{Takes, Changes}
use Rattle.rtps_reader.specs.Status.{capped, status_of}
use Rattle.rtps_reader.proofs.Counting.{Adds, GrowBy, adds_end, adds_match, adds_none, adds_refusal, adds_told, first_status, grow_event, grow_match, grow_none, grow_refusal, status_adds}

-- there is one match for each that is kept
pub as_many : (ms : List Match) (ss : List (Guid × ProxyView)) → AllStand ms ss → length ss ≡ length ms
as_many [] [] all = refl
as_many [] (s ∷ ss) all = absurd all
as_many (m ∷ ms) [] all = absurd all
as_many (m ∷ ms) (s ∷ ss) all = ap suc (as_many ms ss all.1)

-- what is kept of a reader that differs by its matches alone, once it gave out some notices more
pub stands_more : {M A : Type 0} (r r1 : Reader) (given added : List (Notice M)) (old new : StatefulReader A) (b : ℕ) (rs : List PolicyId) (n k : ℕ)
    → StandsAt r given (kept_by false old) → IsSameReader old new → r1 ≡ record r { matches = r1.matches } → AllStand r1.matches new.matches
    → Adds b rs n k added → GrowBy b rs n k old.counts new.counts → StandsAt r1 (given ++ added) (kept_by false new)
stands_more r r1 given added old new b rs n k stands same only all adds grow = record {
  sound = refl;
  own = same.own ∙ stands.own ∙ sym (ap (λ (q : Reader). q.own) only);
  entity = same.entity ∙ stands.entity ∙ sym (ap (λ (q : Reader). q.entity) only);
  reliable = same.reliable ∙ stands.reliable ∙ sym (ap (λ (q : Reader). q.reliable) only);
  matches = all;
  status = status_adds r r1 given added old.counts new.counts (length old.matches) (length new.matches) b rs n k (ap (λ (q : Reader). q.fixed) only) (as_many r1.matches new.matches all) adds grow stands.status;
}

-- an event was taken in
pub stands_taken : {M A : Type 0} (d : Decoding M) (r : Reader) (given : List (Notice M)) (place : Place) (w : Guid) (e : MatchEvent) (old new : StatefulReader A) (taken : Option (Effects A))
    → StandsAt r given (kept_by false old) → IsSameReader old new → AllStand (extended w e r.matches) new.matches → AreTaken (match_with w r.matches) e taken → new.counts ≡ counts_given old.counts taken
    → StandsAt (reader_after r (Takes w e)) (given ++ tells d r place (Takes w e)) (kept_by false new)
stands_taken {M} {A} d r given place w e old new taken stands same all are counts = by_match (match_with w r.matches) taken are counts
  where
    by_match : (o : Option Match) (taken : Option (Effects A)) → AreTaken o e taken → new.counts ≡ counts_given old.counts taken
        → StandsAt (reader_after r (Takes w e)) (given ++ told_of d place w e o) (kept_by false new)
    by_match None None are counts = stands_more r (reader_after r (Takes w e)) given [] old new 0 [] 0 0 stands same refl all (adds_none M) (subst (GrowBy 0 [] 0 0 old.counts) (sym counts) (grow_none old.counts))
    by_match None (Some effects) are counts = absurd are
    by_match (Some m) None are counts = absurd are
    by_match (Some m) (Some effects) are counts =
        let count : length effects.ready.items ≡ length (ready_at m e) = sym (length-map effects.ready.items change_view) ∙ ap length are.ready in
        let is : counts_after old.counts (lost_at m e) (length (ready_at m e)) ≡ new.counts = sym (counts ∙ ap (λ n. counts_after old.counts n (length effects.ready.items)) are.lost ∙ ap (counts_after old.counts (lost_at m e)) count) in
        stands_more r (reader_after r (Takes w e)) given (told_of d place w e (Some m)) old new 0 [] (lost_at m e) (length (ready_at m e)) stands same refl all
        (adds_told d place w e m) (subst (GrowBy 0 [] (lost_at m e) (length (ready_at m e)) old.counts) is (grow_event old.counts (lost_at m e) (length (ready_at m e))))

-- a match began
pub stands_begun : {M A : Type 0} (d : Decoding M) (r : Reader) (given : List (Notice M)) (place : Place) (w : Guid) (locators : List Locator) (old new : StatefulReader A)
    → StandsAt r given (kept_by false old) → IsSameReader old new → AllStand (begun (fresh (pairing_of old.own old.entity old.reliable (w, locators))) r.matches) new.matches → new.counts ≡ record old.counts { matched_total = capped (old.counts.matched_total + 1) }
    → StandsAt (reader_after r (Changes (Matches w locators))) (given ++ tells d r place (Changes (Matches w locators))) (kept_by false new)
stands_begun {M} d r given place w locators old new stands same all counts =
    stands_more r (reader_after r (Changes (Matches w locators))) given (notice_of place w Matched) old new 1 [] 0 0 stands same refl (subst (λ m. AllStand (begun m r.matches) new.matches) ours all) (adds_match M place w) (subst (GrowBy 1 [] 0 0 old.counts) (sym counts) (grow_match old.counts))
  where
    ours : fresh (pairing_of old.own old.entity old.reliable (w, locators)) ≡ fresh_with r (w, locators)
    ours =
        ap (λ k. fresh (pairing_of k old.entity old.reliable (w, locators))) stands.own
        ∙ ap (λ k. fresh (pairing_of r.own k old.reliable (w, locators))) stands.entity
        ∙ ap (λ k. fresh (pairing_of r.own r.entity k (w, locators))) stands.reliable

-- a match ended
pub stands_ended : {M A : Type 0} (d : Decoding M) (r : Reader) (given : List (Notice M)) (place : Place) (w : Guid) (old new : StatefulReader A)
    → StandsAt r given (kept_by false old) → IsSameReader old new → AllStand (ended w r.matches) new.matches → new.counts ≡ old.counts
    → StandsAt (reader_after r (Changes (Unmatches w))) (given ++ tells d r place (Changes (Unmatches w))) (kept_by false new)
stands_ended {M} d r given place w old new stands same all counts =
    stands_more r (reader_after r (Changes (Unmatches w))) given (notice_of place w Unmatched) old new 0 [] 0 0 stands same refl all (adds_end M place w) (subst (GrowBy 0 [] 0 0 old.counts) (sym counts) (grow_none old.counts))

-- a writer was refused
pub stands_refused : {M A : Type 0} (d : Decoding M) (r : Reader) (given : List (Notice M)) (place : Place) (w : Guid) (policy : PolicyId) (old new : StatefulReader A)
    → StandsAt r given (kept_by false old) → IsSameReader old new → new.matches ≡ old.matches → new.counts ≡ record old.counts { incompatible_total = capped (old.counts.incompatible_total + 1); last_policy = Some policy }
    → StandsAt (reader_after r (Changes (Refuses w policy))) (given ++ tells d r place (Changes (Refuses w policy))) (kept_by false new)
stands_refused {M} d r given place w policy old new stands same kept counts =
    stands_more r (reader_after r (Changes (Refuses w policy))) given (notice_of place w (Incompatible policy)) old new 0 (policy ∷ []) 0 0 stands same refl (subst (AllStand r.matches) (sym kept) stands.matches)
    (adds_refusal M place w policy) (subst (GrowBy 0 (policy ∷ []) 0 0 old.counts) (sym counts) (grow_refusal old.counts policy))

-- the status at the start
pub started : (r : Reader) (counts : Counts) (now : ℕ) (ss : List (Guid × ProxyView)) → counts ≡ record { matched_total = capped (0 + now); incompatible_total = 0; last_policy = None; lost_total = 0; samples = 0 } → now ≡ length ss → AllStand r.matches ss → r.fixed ≡ length r.matches
    → status_by counts (length ss) ≡ status_of {M = Unit {0}} r []
started r counts now ss is count all fixed =
    ap (status_by counts) (sym count) ∙ first_status r counts now is (count ∙ as_many r.matches ss all) fixed
