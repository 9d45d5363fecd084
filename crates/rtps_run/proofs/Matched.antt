-- What one step does to the match of a reader with a writer, and what the reader gives out at it.
use Rattle.std.proofs.Common.{◌≡◌, ℕ, zero, suc, ◌<◌, ◌≤◌, Bool, true, false, if◌then◌else◌, List, [], ◌∷◌, ◌++◌, map, Option, Some, None, refl, sym, ◌∙◌, ap, subst, arith, eqb, append-nil, append_assoc, true≢false, inl, inr}
use Rattle.std.specs.Option.{option_map}
use Rattle.std.specs.List.{AllByRecursion}
use Rattle.std.proofs.lemmas.Bool.{eq-eqb}
use Rattle.std.proofs.lemmas.Bool.Decides.{eqb_tells, nat_tests}
use Rattle.rtps_types.specs.SequenceNumber.{IsNumber}
use Rattle.rtps_types.specs.declared.identity.Guid.{Guid}
use Rattle.rtps_types.specs.declared.place.Place.{Place}
use Rattle.rtps_types.proofs.Nearest.{value_of-nearest}
use Rattle.rtps_discovery.specs.Known.{Known}
use Rattle.rtps_proxy.specs.Change.{ChangeView}
use Rattle.rtps_proxy.specs.History.{MatchEvent}
use Rattle.rtps_proxy.specs.Matches.{Match, ended, extended, match_with, same_guid}
use Rattle.rtps_proxy.specs.Replies.{ReplyView}
use Rattle.rtps_proxy.proofs.Matching.{same_is}
use Rattle.dds_topic.specs.Decoding.{Decoding}
use Rattle.rtps_reader.specs.declared.notice.Notice.{Notice}
use Rattle.rtps_reader.specs.declared.notice.NoticeKind.TheVariants.{Lost}
use Rattle.rtps_reader.specs.Body.{body_by}
use Rattle.rtps_reader.specs.Reader.{Reader, loses, lost_at, presented, reader_after, ready_at, sends, tells, told_of}
use Rattle.rtps_reader.specs.Step.{StepView}
use Rattle.rtps_reader.proofs.Begun.{same_self}
use Rattle.rtps_run.specs.Occurrence.{Occurrence, place_of}
use Rattle.rtps_run.specs.Presentation.{Shown, shown_in}
use Rattle.rtps_run.specs.Seen.{notices_by}
use Rattle.rtps_run.specs.World.{NoticeOf, World, count_after, discovery_puts, doings, puts_at, puts_below, puts_run, sent_by, world_after}
use Rattle.rtps_run.proofs.Dealt.{notices_by-append}
use Rattle.rtps_run.proofs.Routed.{no_notice}
use Rattle.rtps_run.proofs.Shown.{samples_of, shown}

pub other_way : (a b : Guid) → same_guid a b ≡ false → same_guid b a ≡ false
other_way a b h = by_test (same_guid b a) refl
  where
    by_test : (t : Bool) → same_guid b a ≡ t → t ≡ false
    by_test true e =
        let both : true ≡ false = sym (subst (λ g. same_guid a g ≡ true) (sym (same_is b a e)) (same_self a)) ∙ h in
        absurd cc
    by_test false e = refl

-- a match once an event came for it
abbrev pub extend : MatchEvent → Match → Match
extend c m = record { pairing = m.pairing; past = c ∷ m.past }

-- an event of one writer extends the match with it, and with no other
pub extended_match : (g w : Guid) (c : MatchEvent) (ms : List Match) → match_with g (extended w c ms) ≡ (if same_guid g w then option_map (extend c) (match_with g ms) else match_with g ms)
extended_match g w c ms = by_test (same_guid g w) refl
  where
    same : (ms : List Match) → match_with g (extended g c ms) ≡ option_map (extend c) (match_with g ms)
    same [] = refl
    same (m ∷ ms) = by_match (same_guid m.pairing.writer g) refl (same ms)
      where
        by_match : (b : Bool) → same_guid m.pairing.writer g ≡ b → match_with g (extended g c ms) ≡ option_map (extend c) (match_with g ms)
            → match_with g (extended g c (m ∷ ms)) ≡ option_map (extend c) (match_with g (m ∷ ms))
        by_match true e rest = rw e (rw e refl)
        by_match false e rest = rw e (rw e rest)

    others : same_guid g w ≡ false → (ms : List Match) → match_with g (extended w c ms) ≡ match_with g ms
    others differ [] = refl
    others differ (m ∷ ms) = by_match (same_guid m.pairing.writer w) refl (others differ ms)
      where
        by_match : (b : Bool) → same_guid m.pairing.writer w ≡ b → match_with g (extended w c ms) ≡ match_with g ms
            → match_with g (extended w c (m ∷ ms)) ≡ match_with g (m ∷ ms)
        by_match true e rest =
            let is : m.pairing.writer ≡ w = same_is m.pairing.writer w e in
            let not_this : same_guid m.pairing.writer g ≡ false = subst (λ v. same_guid v g ≡ false) (sym is) (other_way g w differ) in
            rw e (rw not_this refl)
        by_match false e rest = rw e (ap (λ o. if same_guid m.pairing.writer g then Some m else o) rest)

    by_test : (b : Bool) → same_guid g w ≡ b → match_with g (extended w c ms) ≡ (if b then option_map (extend c) (match_with g ms) else match_with g ms)
    by_test true e = subst (λ v. match_with g (extended v c ms) ≡ option_map (extend c) (match_with g ms)) (same_is g w e) (same ms)
    by_test false e = others e ms

pub either_way : {X : Type 0} (b : Bool) (x : X) → (if b then x else x) ≡ x
either_way true x = refl
either_way false x = refl

none_twice : (b : Bool) (x : Option Match) (o : Option Match) → (if b then None else o) ≡ (if b then None else (if b then x else o))
none_twice true x o = refl
none_twice false x o = refl

none_later : (a b : Bool) (x : Option Match) (o : Option Match) → (a ≡ true → b ≡ false) → (if a then x else (if b then None else o)) ≡ (if b then None else (if a then x else o))
none_later true true x o h = absurd (true≢false (h refl))
none_later true false x o h = refl
none_later false b x o h = refl

-- the match with one writer ends, and with no other
pub ended_match : (g w : Guid) (ms : List Match) → match_with g (ended w ms) ≡ (if same_guid w g then None else match_with g ms)
ended_match g w [] = sym (either_way (same_guid w g) None)
ended_match g w (m ∷ ms) = by_test (same_guid m.pairing.writer w) refl (ended_match g w ms)
  where
    differs : same_guid m.pairing.writer w ≡ false → same_guid m.pairing.writer g ≡ true → same_guid w g ≡ false
    differs other this = other_way g w (subst (λ h. same_guid h w ≡ false) (same_is m.pairing.writer g this) other)

    by_test : (b : Bool) → same_guid m.pairing.writer w ≡ b → match_with g (ended w ms) ≡ (if same_guid w g then None else match_with g ms)
        → match_with g (ended w (m ∷ ms)) ≡ (if same_guid w g then None else match_with g (m ∷ ms))
    by_test true e rest =
        let same : same_guid m.pairing.writer g ≡ same_guid w g = ap (λ h. same_guid h g) (same_is m.pairing.writer w e) in
        rw e (rest ∙ none_twice (same_guid w g) (Some m) (match_with g ms) ∙ ap (λ b. if same_guid w g then None else (if b then Some m else match_with g ms)) (sym same))
    by_test false e rest =
        rw e (ap (λ o. if same_guid m.pairing.writer g then Some m else o) rest
        ∙ none_later (same_guid m.pairing.writer g) (same_guid w g) (Some m) (match_with g ms) (differs e))

-- ---- the samples among the notices of a reader

samples_then : {M : Type 0} (b : Bool) (x xs ys : List (Shown M)) → (if b then x ++ (xs ++ ys) else xs ++ ys) ≡ (if b then x ++ xs else xs) ++ ys
samples_then true x xs ys = sym (append_assoc x xs ys)
samples_then false x xs ys = refl

samples_of-append : {M : Type 0} (g : Guid) (xs ys : List (Notice M)) → samples_of g (xs ++ ys) ≡ samples_of g xs ++ samples_of g ys
samples_of-append g [] ys = refl
samples_of-append g (n ∷ xs) ys = rw (samples_of-append g xs ys) (samples_then (same_guid n.writer g) (shown_in n.place n.what) (samples_of g xs) (samples_of g ys))

-- the notices of a writer's match give its samples, and none of another's
own_samples : {M : Type 0} (decoding : Decoding M) (place : Place) (g : Guid) (ss : List ChangeView) → AllByRecursion (λ (s : ChangeView). IsNumber s.number) ss → samples_of g (map (presented decoding place g) ss) ≡ map (shown decoding place) ss
own_samples decoding place g [] all = refl
own_samples {M} decoding place g (s ∷ ss) all =
    rw (same_self g) (ap (λ n. numbered n ∷ samples_of g (map (presented decoding place g) ss)) (value_of-nearest s.number all.0) ∙ ap (λ l. shown decoding place s ∷ l) (own_samples decoding place g ss all.1))
  where
    numbered : ℕ → Shown M
    numbered n = record { place = place; number = n; time = s.time; body = body_by decoding s.info s.payload }

no_losses : {M : Type 0} (place : Place) (g w : Guid) (count : ℕ) → samples_of {M = M} g (loses place w count) ≡ []
no_losses {M} place g w count = by_test (eqb count 0)
  where
    none : List (Shown M)
    none = []

    by_test : (b : Bool) → samples_of {M = M} g (if b then [] else record { place = place; writer = w; what = Lost count } ∷ []) ≡ []
    by_test true = refl
    by_test false = either_way (same_guid w g) none

pub samples_told : {M : Type 0} (decoding : Decoding M) (place : Place) (g : Guid) (c : MatchEvent) (m : Match) → AllByRecursion (λ (s : ChangeView). IsNumber s.number) (ready_at m c) → samples_of g (told_of decoding place g c (Some m)) ≡ map (shown decoding place) (ready_at m c)
samples_told decoding place g c m all =
    samples_of-append g (loses place g (lost_at m c)) (map (presented decoding place g) (ready_at m c))
    ∙ ap (λ l. l ++ samples_of g (map (presented decoding place g) (ready_at m c))) (no_losses place g g (lost_at m c))
    ∙ own_samples decoding place g (ready_at m c) all

other_samples : {M : Type 0} (decoding : Decoding M) (place : Place) (g w : Guid) → same_guid w g ≡ false → (ss : List ChangeView) → samples_of g (map (presented decoding place w) ss) ≡ []
other_samples decoding place g w h [] = refl
other_samples decoding place g w h (s ∷ ss) = rw h (other_samples decoding place g w h ss)

pub told_by_other : {M : Type 0} (decoding : Decoding M) (place : Place) (g w : Guid) (c : MatchEvent) (o : Option Match) → same_guid w g ≡ false → samples_of g (told_of decoding place w c o) ≡ []
told_by_other decoding place g w c None h = refl
told_by_other decoding place g w c (Some m) h =
    samples_of-append g (loses place w (lost_at m c)) (map (presented decoding place w) (ready_at m c))
    ∙ ap (λ l. l ++ samples_of g (map (presented decoding place w) (ready_at m c))) (no_losses place g w (lost_at m c))
    ∙ other_samples decoding place g w h (ready_at m c)

-- ---- the notices of one reader among all that is put out

-- what a reader gives out at one step after the other
abbrev pub told_run : {M : Type 0} → Decoding M → Place → Reader → List StepView → List (Notice M)
told_run decoding place r [] = []
told_run decoding place r (d ∷ ds) = tells decoding r place d ++ told_run decoding place (reader_after r d) ds

heard_all : {M : Type 0} (rank : ℕ) (ns : List (Notice M)) → notices_by rank (map (NoticeOf rank) ns) ≡ ns
heard_all rank [] = refl
heard_all rank (n ∷ ns) = rw (eq-eqb rank rank refl) (ap (λ l. n ∷ l) (heard_all rank ns))

heard_none : {M : Type 0} (rank k : ℕ) → eqb k rank ≡ false → (ns : List (Notice M)) → notices_by rank (map (NoticeOf k) ns) ≡ []
heard_none rank k h [] = refl
heard_none rank k h (n ∷ ns) = rw h (heard_none rank k h ns)

none_sent : {M : Type 0} (rank k : ℕ) (ss : List (Place × ReplyView)) → notices_by {M = M} rank (map (sent_by (Some k)) ss) ≡ []
none_sent rank k [] = refl
none_sent rank k (s ∷ ss) = none_sent rank k ss

-- of what a reader puts out at a step, its notices
pub heard_at : {M : Type 0} (decoding : Decoding M) (place : Place) (rank : ℕ) (r : Reader) (d : StepView) → notices_by rank (puts_at decoding place rank r d) ≡ tells decoding r place d
heard_at decoding place rank r d =
    notices_by-append rank (map (NoticeOf rank) (tells decoding r place d)) (map (sent_by (Some rank)) (sends r place d))
    ∙ ap (λ l. notices_by rank (map (NoticeOf rank) (tells decoding r place d)) ++ l) (none_sent rank rank (sends r place d))
    ∙ append-nil (notices_by rank (map (NoticeOf rank) (tells decoding r place d)))
    ∙ heard_all rank (tells decoding r place d)

heard_run : {M : Type 0} (decoding : Decoding M) (place : Place) (rank : ℕ) (r : Reader) (ds : List StepView) → notices_by rank (puts_run decoding place rank r ds) ≡ told_run decoding place r ds
heard_run decoding place rank r [] = refl
heard_run decoding place rank r (d ∷ ds) =
    notices_by-append rank (puts_at decoding place rank r d) (puts_run decoding place rank (reader_after r d) ds)
    ∙ ap (λ l. l ++ notices_by rank (puts_run decoding place rank (reader_after r d) ds)) (heard_at decoding place rank r d)
    ∙ ap (λ l. tells decoding r place d ++ l) (heard_run decoding place rank (reader_after r d) ds)

-- and none of another reader's
pub other_at : {M : Type 0} (decoding : Decoding M) (place : Place) (rank k : ℕ) (r : Reader) (d : StepView) → eqb k rank ≡ false → notices_by rank (puts_at decoding place k r d) ≡ []
other_at decoding place rank k r d h =
    notices_by-append rank (map (NoticeOf k) (tells decoding r place d)) (map (sent_by (Some k)) (sends r place d))
    ∙ ap (λ l. notices_by rank (map (NoticeOf k) (tells decoding r place d)) ++ l) (none_sent rank k (sends r place d))
    ∙ append-nil (notices_by rank (map (NoticeOf k) (tells decoding r place d)))
    ∙ heard_none rank k h (tells decoding r place d)

other_run : {M : Type 0} (decoding : Decoding M) (place : Place) (rank k : ℕ) (r : Reader) (ds : List StepView) → eqb k rank ≡ false → notices_by rank (puts_run decoding place k r ds) ≡ []
other_run decoding place rank k r [] h = refl
other_run decoding place rank k r (d ∷ ds) h =
    notices_by-append rank (puts_at decoding place k r d) (puts_run decoding place k (reader_after r d) ds)
    ∙ ap (λ l. l ++ notices_by rank (puts_run decoding place k (reader_after r d) ds)) (other_at decoding place rank k r d h)
    ∙ other_run decoding place rank k (reader_after r d) ds h

pub none_below : {M : Type 0} (decoding : Decoding M) (k : Known) (o : Occurrence) (readers : ℕ → Reader) (rank n : ℕ) → n ≤ rank → notices_by rank (puts_below decoding k o readers n) ≡ []
none_below decoding k o readers rank zero le = refl
none_below decoding k o readers rank (suc n) le =
    let differ : eqb n rank ≡ false = grind (arith, nat_tests) in
    notices_by-append rank (puts_below decoding k o readers n) (puts_run decoding (place_of o) n (readers n) (doings k n o))
    ∙ ap (λ l. notices_by rank (puts_below decoding k o readers n) ++ l) (other_run decoding (place_of o) rank n (readers n) (doings k n o) differ)
    ∙ append-nil (notices_by rank (puts_below decoding k o readers n))
    ∙ none_below decoding k o readers rank n (omega arith)

-- of what all readers put out at an occurrence, the notices of one
by_rank : {M : Type 0} (decoding : Decoding M) (k : Known) (o : Occurrence) (readers : ℕ → Reader) (rank n : ℕ) → rank < n
    → notices_by rank (puts_below decoding k o readers n) ≡ told_run decoding (place_of o) (readers rank) (doings k rank o)
by_rank decoding k o readers rank zero l = absurd (omega arith)
by_rank decoding k o readers rank (suc n) l =
    elim (eqb_tells n rank) [
      | inl w ↦ (
          notices_by-append rank (puts_below decoding k o readers n) (puts_run decoding (place_of o) n (readers n) (doings k n o))
          ∙ ap (λ l. l ++ notices_by rank (puts_run decoding (place_of o) n (readers n) (doings k n o))) (none_below decoding k o readers rank n (omega (arith, w.1)))
          ∙ ap (λ i. notices_by rank (puts_run decoding (place_of o) i (readers i) (doings k i o))) w.1
          ∙ heard_run decoding (place_of o) rank (readers rank) (doings k rank o)
          )
      | inr w ↦ (
          let differ = w.1 in
          notices_by-append rank (puts_below decoding k o readers n) (puts_run decoding (place_of o) n (readers n) (doings k n o))
          ∙ ap (λ l. notices_by rank (puts_below decoding k o readers n) ++ l) (other_run decoding (place_of o) rank n (readers n) (doings k n o) w.0)
          ∙ append-nil (notices_by rank (puts_below decoding k o readers n))
          ∙ by_rank decoding k o readers rank n (omega arith)
          )
    ]

-- all notices of an occurrence are readers': discovery gives out none
pub heard_then : {M : Type 0} (decoding : Decoding M) (w : World M) (rank : ℕ) (o : Occurrence) (n : ℕ)
    → notices_by rank (discovery_puts w.known o ++ puts_below decoding w.known o w.readers n) ≡ notices_by rank (puts_below decoding w.known o w.readers n)
heard_then {M} decoding w rank o n =
    notices_by-append rank (discovery_puts w.known o) (puts_below decoding w.known o w.readers n)
    ∙ ap (λ l. l ++ notices_by rank (puts_below decoding w.known o w.readers n)) (no_notice {M = M} w.known o rank)

heard_more : {M : Type 0} (decoding : Decoding M) (w : World M) (rank : ℕ) (o : Occurrence)
    → notices_by rank (world_after decoding w o).put ≡ notices_by rank w.put ++ notices_by rank (puts_below decoding w.known o w.readers (count_after w o))
heard_more decoding w rank o =
    notices_by-append rank w.put (discovery_puts w.known o ++ puts_below decoding w.known o w.readers (count_after w o))
    ∙ ap (λ l. notices_by rank w.put ++ l) (heard_then decoding w rank o (count_after w o))

-- one occurrence more, as the reader of a rank reports it
pub told_more : {M : Type 0} (decoding : Decoding M) (w : World M) (rank : ℕ) (o : Occurrence) → rank < count_after w o
    → notices_by rank (world_after decoding w o).put ≡ notices_by rank w.put ++ told_run decoding (place_of o) (w.readers rank) (doings w.known rank o)
told_more decoding w rank o below =
    heard_more decoding w rank o
    ∙ ap (λ l. notices_by rank w.put ++ l) (by_rank decoding w.known o w.readers rank (count_after w o) below)
