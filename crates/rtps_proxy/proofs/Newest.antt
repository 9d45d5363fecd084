-- The samples of which a best-effort reader awaits fragments: the 64 greatest numbers above the top.
use Rattle.std.proofs.Common.{◌≡◌, ℕ, suc, ◌<◌, ◌≤◌, Bool, true, false, not, ◌&&◌, ◌||◌, cond, List, [], ◌∷◌, length, map, refl, sym, ◌∙◌, ap, arith, ltb, eqb, inl, inr, Option, None, Result, Ok, Err}
use Rattle.std.specs.Prelude.{is_some, IfOk, OnOk}
use Rattle.std.specs.List.{filter, AllByRecursion}
use Rattle.std.proofs.lemmas.Bool.Decides.{nat_tests, leb_tells, eqb_tells}
use Rattle.rtps_types.specs.declared.time.Timestamp.{Timestamp}
use Rattle.rtps_receiver.specs.EventBody.{EventBodyView, FragmentView, Whole, Fragment, Heartbeat, Gap, HeartbeatFrag}
use Rattle.rtps_proxy.specs.BestEffort.{Taken, above, begun_by, greatest, is_among, ready, ready_by, skipped, standing, taken, takes_fragments, top_of, with_ready}
use Rattle.rtps_proxy.specs.Change.{change_view, ChangeView}
use Rattle.rtps_proxy.specs.Effects.{BestEffortStandsAt, given_in}
use Rattle.rtps_proxy.specs.Fragments.{Begun, begun_at, fits, fits_in, grown, is_faulty, opened, whole_at, with_fragments_of}
use Rattle.rtps_proxy.specs.History.{MatchEvent}
use Rattle.rtps_proxy.specs.Kept.{BestEffortView, takes_above}
use Rattle.rtps_proxy.specs.Pending.{fits_found, found_at, last_64, place_in, whole_found}
use Rattle.rtps_proxy.specs.Steps.{BestEffortStep}
use Rattle.rtps_proxy.specs.declared.effects.Effects.{Effects}
use Rattle.rtps_proxy.proofs.Places.{and_both}
use Rattle.rtps_proxy.proofs.Seats.{Rising, filter_both, found_is, listed, rising_passing, rising_put, whole_listed}
use Rattle.rtps_proxy.proofs.Wholes.{frags_at}

-- how many have a greater number
abbrev count_above : ℕ → List Begun → ℕ
count_above n bs = length (above n bs)

filter_shorter : (p : Begun → Bool) (bs : List Begun) → length (filter p bs) ≤ length bs
filter_shorter p [] = omega arith
filter_shorter p (b ∷ bs) = by_test (p b) (filter_shorter p bs)
  where
    by_test : (t : Bool) → length (filter p bs) ≤ length bs → length (cond t (b ∷ filter p bs) (filter p bs)) ≤ suc (length bs)
    by_test true rest = omega arith
    by_test false rest = omega arith

all_above : (n : ℕ) (bs : List Begun) → AllByRecursion (λ c. n < c.number) bs → count_above n bs ≡ length bs
all_above n [] all = refl
all_above n (b ∷ bs) all =
    let here : n < b.number = all.0 in
    let passes : ltb n b.number ≡ true = grind (arith, nat_tests) in
    rw passes (ap suc (all_above n bs all.1))

-- the greater the number, the fewer are above it
fewer_above : (m n : ℕ) (bs : List Begun) → m ≤ n → count_above n bs ≤ count_above m bs
fewer_above m n [] le = omega arith
fewer_above m n (b ∷ bs) le =
    let rest : count_above n bs ≤ count_above m bs = fewer_above m n bs le in
    elim (leb_tells (suc n) b.number) [
      | inl w ↦ (
          let over : n < b.number = w.1 in
          let both : ltb m b.number ≡ true = grind (arith, nat_tests) in
          rw (w.0, both) (omega arith)
          )
      | inr w ↦ rw w.0 (by_test (ltb m b.number) rest)
    ]
  where
    by_test : (t : Bool) → count_above n bs ≤ count_above m bs → count_above n bs ≤ length (cond t (b ∷ above m bs) (above m bs))
    by_test true rest = omega arith
    by_test false rest = omega arith

-- one is not above itself
module _ (b : Begun) where
  not_itself : (n : ℕ) → n ≡ b.number → (bs : List Begun) → count_above n (b ∷ bs) ≡ count_above n bs
  not_itself n same bs = let no : ltb n b.number ≡ false = grind (arith, nat_tests) in rw no refl

  one_more : (n : ℕ) (bs : List Begun) → count_above n (b ∷ bs) ≤ suc (count_above n bs)
  one_more n bs = by_test (ltb n b.number)
    where
      by_test : (t : Bool) → length (cond t (b ∷ above n bs) (above n bs)) ≤ suc (count_above n bs)
      by_test true = omega arith
      by_test false = omega arith

  not_the_least : (n : ℕ) (bs : List Begun) → b.number < n → count_above n (b ∷ bs) ≡ count_above n bs
  not_the_least n bs less = let no : ltb n b.number ≡ false = grind (arith, nat_tests) in rw no refl

all_weaker : (P Q : Begun → Type 0) (bs : List Begun) → ((b : Begun) → P b → Q b) → AllByRecursion P bs → AllByRecursion Q bs
all_weaker P Q [] f all = tt
all_weaker P Q (b ∷ bs) f all = (f b all.0, all_weaker P Q bs f all.1)

all_both : (P Q R : Begun → Type 0) (bs : List Begun) → ((b : Begun) → P b → Q b → R b) → AllByRecursion P bs → AllByRecursion Q bs → AllByRecursion R bs
all_both P Q R [] f all also = tt
all_both P Q R (b ∷ bs) f all also = (f b all.0 also.0, all_both P Q R bs f all.1 also.1)

-- so above each one are fewer than all
fewer_than_all : (bs : List Begun) → AllByRecursion (λ c. count_above c.number bs < length bs) bs
fewer_than_all [] = tt
fewer_than_all (b ∷ bs) =
    let le : count_above b.number bs ≤ length bs = filter_shorter (λ c. ltb b.number c.number) bs in
    let here : count_above b.number (b ∷ bs) ≡ count_above b.number bs = not_itself b b.number refl bs in
    let first : count_above b.number (b ∷ bs) < suc (length bs) = omega arith in (
      first,
      all_weaker (λ c. count_above c.number bs < length bs) (λ c. count_above c.number (b ∷ bs) < suc (length bs)) bs
          (λ c less. let more : count_above c.number (b ∷ bs) ≤ suc (count_above c.number bs) = one_more b c.number bs in omega arith) (fewer_than_all bs),
    )

filter_all : (p : Begun → Bool) (bs : List Begun) → AllByRecursion (λ b. p b ≡ true) bs → filter p bs ≡ bs
filter_all p [] all = refl
filter_all p (b ∷ bs) all = rw all.0 (ap (λ (cs : List Begun). b ∷ cs) (filter_all p bs all.1))

-- where at most 65 stand, all but the first of 65 are among the 64 greatest
pub greatest_is : (bs : List Begun) → Rising bs → length bs ≤ 65 → greatest bs ≡ last_64 bs
greatest_is [] rising short = refl
greatest_is (b ∷ bs) rising short = elim (leb_tells (suc 64) (suc (length bs))) [
  | inl w ↦ (
      let full : length bs ≡ 64 = omega (arith, w.1) in
      let all : count_above b.number (b ∷ bs) ≡ 64 = not_itself b b.number refl bs ∙ all_above b.number bs rising.0 ∙ full in
      let out : ltb (count_above b.number (b ∷ bs)) 64 ≡ false = grind (arith, nat_tests) in
      rw (w.0, out) (filter_all (λ c. is_among (b ∷ bs) c.number) bs (all_both (λ c. b.number < c.number) (λ c. count_above c.number bs < length bs) (λ c. is_among (b ∷ bs) c.number ≡ true) bs
      (λ c over less.
      let same : count_above c.number (b ∷ bs) ≡ count_above c.number bs = not_the_least b c.number bs over in
      let few : count_above c.number (b ∷ bs) < 64 = omega arith in
      grind (arith, nat_tests)) rising.0 (fewer_than_all bs)))
      )
  | inr w ↦ (
      let few : length (b ∷ bs) ≤ 64 = omega (arith, w.1) in
      rw w.0 (filter_all (λ c. is_among (b ∷ bs) c.number) (b ∷ bs) (all_weaker (λ c. count_above c.number (b ∷ bs) < length (b ∷ bs)) (λ c. is_among (b ∷ bs) c.number ≡ true) (b ∷ bs)
      (λ c less. let below : count_above c.number (b ∷ bs) < 64 = omega (arith, few, less) in grind (arith, nat_tests)) (fewer_than_all (b ∷ bs))))
      )
]

-- fragments of a number add none above it
pub above_put : (time : Option Timestamp) (f : FragmentView) (bs : List Begun) → above f.number (with_fragments_of time f bs) ≡ above f.number bs
above_put time f [] = let itself : ltb f.number f.number ≡ false = grind (arith, nat_tests) in rw itself refl
above_put time f (b ∷ bs) =
    let rest : above f.number (with_fragments_of time f bs) ≡ above f.number bs = above_put time f bs in
    let itself : ltb f.number f.number ≡ false = grind (arith, nat_tests) in
    elim (leb_tells (suc b.number) f.number) [
      | inl w ↦ (
          let below : b.number < f.number = w.1 in
          let no : ltb f.number b.number ≡ false = grind (arith, nat_tests) in
          rw w.0 (rw no rest)
          )
      | inr w ↦ elim (eqb_tells b.number f.number) [
        | inl v ↦ (
            let same : b.number ≡ f.number = v.1 in
            let no : ltb f.number b.number ≡ false = grind (arith, nat_tests) in
            rw (w.0, v.0) (rw no refl)
            )
        | inr v ↦ rw (w.0, v.0) (rw itself refl)
      ]
    ]

-- those above one of the greatest are among them
pub above_greatest : (n : ℕ) (bs : List Begun) → is_among bs n ≡ true → above n (greatest bs) ≡ above n bs
above_greatest n bs among = filter_both (λ b. ltb n b.number) (λ b. is_among bs b.number) out bs
  where
    out : (b : Begun) → is_among bs b.number ≡ false → ltb n b.number ≡ false
    out b not_among = elim (leb_tells (suc n) b.number) [
      | inl w ↦ (
          let fewer : count_above b.number bs ≤ count_above n bs = fewer_above n b.number bs (omega (arith, w.1)) in
          let both : true ≡ false = grind (arith, nat_tests) in
          absurd cc
          )
      | inr w ↦ w.0
    ]

put_length : (time : Option Timestamp) (f : FragmentView) (bs : List Begun) → length (with_fragments_of time f bs) ≤ suc (length bs)
put_length time f [] = omega arith
put_length time f (b ∷ bs) = by_tests (ltb b.number f.number) (eqb b.number f.number) (put_length time f bs)
  where
    by_tests : (s t : Bool) → length (with_fragments_of time f bs) ≤ suc (length bs) → length (cond s (b ∷ with_fragments_of time f bs) (cond t (grown b f ∷ bs) (grown (opened time f) f ∷ b ∷ bs))) ≤ suc (suc (length bs))
    by_tests true t rest = omega arith
    by_tests false true rest = omega arith
    by_tests false false rest = omega arith

-- by rising number, at most 64
pub record InOrder (bs : List Begun) : Type 0 where
  pub rising : Rising bs
  pub few : length bs ≤ 64

in_order_above : (n : ℕ) (bs : List Begun) → InOrder bs → InOrder (above n bs)
in_order_above n bs h = record {
  rising = rising_passing (λ k. ltb n k) bs h.rising;
  few = let le : length (above n bs) ≤ length bs = filter_shorter (λ c. ltb n c.number) bs in let few = h.few in omega arith;
}

last_few : (bs : List Begun) → length bs ≤ 65 → length (last_64 bs) ≤ 64
last_few [] short = omega arith
last_few (b ∷ bs) short = elim (leb_tells (suc 64) (suc (length bs))) [ inl w ↦ rw w.0 (omega arith) | inr w ↦ (let le = w.1 in rw w.0 (omega arith)) ]

in_order_put : (time : Option Timestamp) (f : FragmentView) (bs : List Begun) → InOrder bs → InOrder (greatest (with_fragments_of time f bs))
in_order_put time f bs h =
    let rising : Rising (with_fragments_of time f bs) = rising_put time f bs h.rising in
    let more : length (with_fragments_of time f bs) ≤ suc (length bs) = put_length time f bs in
    let few = h.few in
    let short : length (with_fragments_of time f bs) ≤ 65 = omega arith in
    record {
      rising = rising_passing (λ k. is_among (with_fragments_of time f bs) k) (with_fragments_of time f bs) rising;
      few = rw (greatest_is (with_fragments_of time f bs) rising short) (last_few (with_fragments_of time f bs) short);
    }

pub in_order : (past : List MatchEvent) → InOrder (standing past)
in_order [] = record { rising = tt; few = omega arith }
in_order (e ∷ past) = with_it (begun_by (taken past) e.time e.body) (ready_by (taken past) e.time e.body) (by_body e.body (in_order past))
  where
    with_it : (bs : List Begun) (ss : List ChangeView) → InOrder bs → InOrder (with_ready bs (top_of past) ss).begun
    with_it bs [] h = h
    with_it bs (s ∷ ss) h = in_order_above s.number bs h

    by_test : (t : Bool) (f : FragmentView) → InOrder (standing past) → InOrder (cond t (greatest (with_fragments_of e.time f (standing past))) (standing past))
    by_test true f h = in_order_put e.time f (standing past) h
    by_test false f h = h

    by_body : (b : EventBodyView) → InOrder (standing past) → InOrder (begun_by (taken past) e.time b)
    by_body (Whole c) h = h
    by_body (Fragment f) h = by_test (takes_fragments (taken past) f) f h
    by_body (Heartbeat b) h = h
    by_body (Gap g) h = h
    by_body (HeartbeatFrag b) h = h

-- whether a number is among the greatest, by its place
among_is : (n : ℕ) (bs : List Begun) → InOrder bs → (ltb 0 (place_in n bs) || (ltb (length bs) 64 || is_some (found_at n bs))) ≡ is_among bs n
among_is n [] h = refl
among_is n (b ∷ bs) h =
    let few = h.few in
    let less : count_above n bs ≤ length bs = filter_shorter (λ c. ltb n c.number) bs in
    elim (leb_tells (suc b.number) n) [
      | inl w ↦ (
          let below : b.number < n = w.1 in
          let same : count_above n (b ∷ bs) ≡ count_above n bs = not_the_least b n bs below in
          let among : ltb (count_above n (b ∷ bs)) 64 ≡ true = grind (arith, nat_tests) in
          let behind : ltb 0 (suc (place_in n bs)) ≡ true = grind (arith, nat_tests) in
          rw (w.0, among) (rw behind refl)
          )
      | inr w ↦ elim (eqb_tells b.number n) [
        | inl v ↦ (
            let here : n ≡ b.number = sym v.1 in
            let same : count_above n (b ∷ bs) ≡ count_above n bs = not_itself b n here bs in
            let among : ltb (count_above n (b ∷ bs)) 64 ≡ true = grind (arith, nat_tests) in
            rw (w.0, v.0, among) (or_true (ltb (suc (length bs)) 64))
            )
        | inr v ↦ (
            let differ = v.1 in
            let over : n < b.number = omega (arith, w.1, differ) in
            let all : count_above n (b ∷ bs) ≡ suc (length bs) = all_above n (b ∷ bs) (over, all_weaker (λ c. b.number < c.number) (λ c. n < c.number) bs (λ c l. omega arith) h.rising.0) in
            rw (w.0, v.0, all) (or_false (ltb (suc (length bs)) 64))
            )
      ]
    ]
  where
    or_true : (t : Bool) → (t || true) ≡ true
    or_true true = refl
    or_true false = refl

    or_false : (t : Bool) → (t || false) ≡ t
    or_false true = refl
    or_false false = refl

-- whether fragments are taken, by what is kept
pub takes_is : (past : List MatchEvent) (f : FragmentView) → (ltb (top_of past) f.number && ((ltb 0 (place_in f.number (standing past)) || (ltb (length (standing past)) 64 || is_some (found_at f.number (standing past)))) && fits_found (standing past) f)) ≡ takes_fragments (taken past) f
takes_is past f =
    let bs = standing past in
    let h = in_order past in
    let fit : fits_found bs f ≡ fits bs f = ap (λ o. not (is_faulty f) && fits_in o f) (found_is f.number bs h.rising) in
    ap (λ b. ltb (top_of past) f.number && (b && fits_found bs f)) (among_is f.number bs h)
    ∙ ap (λ b. ltb (top_of past) f.number && (is_among bs f.number && b)) fit
    ∙ last_first (ltb (top_of past) f.number) (is_among bs f.number) (fits bs f)
  where
    last_first : (a b c : Bool) → (a && (b && c)) ≡ (c && (a && b))
    last_first true true true = refl
    last_first true true false = refl
    last_first true false true = refl
    last_first true false false = refl
    last_first false true true = refl
    last_first false true false = refl
    last_first false false true = refl
    last_first false false false = refl

pub takes_then : (past : List MatchEvent) (f : FragmentView) (r : BestEffortView) → BestEffortStandsAt past r → takes_above r f ≡ takes_fragments (taken past) f
takes_then past f r at = rw (at.top, at.pending) (takes_is past f)

-- the sample that fragments make whole, by what is kept
pub whole_is : (past : List MatchEvent) (time : Option Timestamp) (f : FragmentView) → whole_at f.number (with_fragments_of time f (standing past)) ≡ listed (whole_found (found_at f.number (with_fragments_of time f (standing past))))
whole_is past time f =
    whole_listed (begun_at f.number (with_fragments_of time f (standing past)))
    ∙ ap (λ o. listed (whole_found o)) (sym (found_is f.number (with_fragments_of time f (standing past)) (rising_put time f (standing past) (in_order past).rising)))

-- what an event leaves and gives by which a change is received, or by which none is
abbrev pub brings : List MatchEvent → MatchEvent → List Begun
brings past event = begun_by (taken past) event.time event.body

module _ {A : Type 0} (past : List MatchEvent) (event : MatchEvent) where
  pub receives : {T E : Type 0} (s : ChangeView) → ready past event ≡ s ∷ [] → (old : ℕ) (bs : List Begun) → old ≡ top_of past → above s.number bs ≡ above s.number (brings past event)
      → (new : BestEffortView) (effects : Effects A) (result : Result T E)
      → OnOk result (new.top ≡ s.number) → OnOk result (new.begun ≡ above s.number bs) → OnOk result (new.sound ≡ true)
      → OnOk result (effects.lost ≡ skipped old (s ∷ [])) → OnOk result (map change_view effects.ready.items ≡ s ∷ []) → OnOk result (effects.answer ≡ None)
      → IfOk (given_in effects result) (BestEffortStep past event new)
  receives s is old bs was same new effects (Ok done) top begun sound lost ready answer =
      let after : taken (event ∷ past) ≡ with_ready (brings past event) (top_of past) (s ∷ []) = ap (with_ready (brings past event) (top_of past)) is in
      record {
        stands = record { top = top ∙ sym (ap (λ (t : Taken). t.top) after); pending = begun ∙ same ∙ sym (ap (λ (t : Taken). t.begun) after); sound = sound };
        lost = lost ∙ ap (λ n. skipped n (s ∷ [])) was ∙ sym (ap (skipped (top_of past)) is);
        ready = ready ∙ sym is;
        answer = answer;
      }
  receives s is old bs was same new effects (Err e) top begun sound lost ready answer = tt

  pub receives_none : ready past event ≡ [] → (new : BestEffortView) (effects : Effects A) → new.top ≡ top_of past → new.begun ≡ brings past event → new.sound ≡ true
      → effects.lost ≡ 0 → effects.ready.items ≡ [] → effects.answer ≡ None → BestEffortStep past event new effects
  receives_none is new effects top begun sound lost ready answer =
      let after : taken (event ∷ past) ≡ with_ready (brings past event) (top_of past) [] = ap (with_ready (brings past event) (top_of past)) is in
      record {
        stands = record { top = top ∙ sym (ap (λ (t : Taken). t.top) after); pending = begun ∙ sym (ap (λ (t : Taken). t.begun) after); sound = sound };
        lost = lost ∙ sym (ap (skipped (top_of past)) is);
        ready = ap (map change_view) ready ∙ sym is;
        answer = answer;
      }

-- fragments that aren't taken do nothing; those that are bring their samples, and what they make whole is ready
module _ (past : List MatchEvent) (time : Option Timestamp) (f : FragmentView) where
  abbrev pub Grown : List Begun
  Grown = with_fragments_of time f (standing past)

  pub left_none : takes_fragments (taken past) f ≡ false → ready past (frags_at time f) ≡ []
  left_none left = ap (λ b. cond b (whole_at f.number Grown) []) left

  pub left_begun : takes_fragments (taken past) f ≡ false → begun_by (taken past) time (Fragment f) ≡ standing past
  left_begun left = ap (λ b. cond b (greatest Grown) (standing past)) left

  module _ (takes_it : takes_fragments (taken past) f ≡ true) where
    pub taken_ready : ready past (frags_at time f) ≡ listed (whole_found (found_at f.number Grown))
    taken_ready = ap (λ b. cond b (whole_at f.number Grown) []) takes_it ∙ whole_is past time f

    pub taken_begun : begun_by (taken past) time (Fragment f) ≡ greatest Grown
    taken_begun = ap (λ b. cond b (greatest Grown) (standing past)) takes_it

    -- at most 65 are there then
    pub taken_last : begun_by (taken past) time (Fragment f) ≡ last_64 Grown
    taken_last =
        let h = in_order past in
        let few = h.few in
        let more : length Grown ≤ suc (length (standing past)) = put_length time f (standing past) in
        taken_begun ∙ greatest_is Grown (rising_put time f (standing past) h.rising) (omega arith)

    -- and those above its number are as they were
    pub taken_above : above f.number (begun_by (taken past) time (Fragment f)) ≡ above f.number Grown
    taken_above =
        let among : is_among (standing past) f.number ≡ true = (and_both (ltb (top_of past) f.number) (is_among (standing past) f.number) (and_both (fits (standing past) f) _ takes_it).1).1 in
        let still : is_among Grown f.number ≡ true = ap (λ (bs : List Begun). ltb (length bs) 64) (above_put time f (standing past)) ∙ among in
        ap (above f.number) taken_begun ∙ above_greatest f.number Grown still
