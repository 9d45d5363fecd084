-- In one match the samples rise, a DATA or DATA_FRAGs brought each, and what is passed over was given up.
use Rattle.std.proofs.Common.{◌≡◌, ℕ, zero, suc, ◌<◌, ◌≤◌, ◌⊎◌, Bool, true, false, not, ◌&&◌, ◌||◌, cond, List, [], ◌∷◌, ◌++◌, map, refl, sym, ◌∙◌, ap, arith, ltb, eqb, inl, inr, max}
use Rattle.std.specs.List.{list_any, filter, AllByRecursion}
use Rattle.std.proofs.lemmas.Bool.Decides.{nat_tests, leb_tells, eqb_tells}
use Rattle.std.proofs.lemmas.List.Folds.{list_any-append}
use Rattle.std.proofs.lemmas.Map.Views.{any-filter_same}
use Rattle.rtps_receiver.specs.EventBody.{EventBodyView, WholeView, FragmentView, Whole, Fragment, Heartbeat, Gap, HeartbeatFrag}
use Rattle.rtps_types.specs.Numbers.{all_below}
use Rattle.rtps_proxy.specs.Fragments.{fits, whole_at, with_fragments_of}
pub use Rattle.rtps_proxy.proofs.EventBody.{ready_brought}
use Rattle.rtps_proxy.proofs.Wholes.{frags_left, frags_received, never_two, whole_number}
use Rattle.rtps_proxy.specs.Change.{ChangeView, change_of}
use Rattle.rtps_proxy.specs.Gap.{is_irrelevant, names}
use Rattle.rtps_proxy.specs.Heartbeat.{first_after, first_of, is_new}
use Rattle.rtps_proxy.specs.History.{MatchEvent}
use Rattle.rtps_proxy.specs.Received.{Taken, in_order, is_covered, is_settled, put, ready, received, taken, takes_fragments}
use Rattle.rtps_proxy.specs.Settled.{has_room_by}
use Rattle.rtps_proxy.specs.Presentation.{GivesUp, IsGivenUp, IsPresented, PassesOverOnly, RisesStrictly, presented}

or_cases : (a b : Bool) → (a || b) ≡ true → (a ≡ true) ⊎ (b ≡ true)
or_cases true b h = inl refl
or_cases false b h = inr h

or_none : (a b : Bool) → (a || b) ≡ false → (a ≡ false) × (b ≡ false)
or_none true b h = absurd cc
or_none false b h = (refl, h)

or_left : (a b : Bool) → a ≡ true → (a || b) ≡ true
or_left true b h = refl
or_left false b h = absurd cc

or_right : (a b : Bool) → b ≡ true → (a || b) ≡ true
or_right true b h = refl
or_right false b h = h

and_first : (a b : Bool) → (a && b) ≡ true → a ≡ true
and_first true b h = refl
and_first false b h = absurd cc

and_second : (a b : Bool) → (a && b) ≡ true → b ≡ true
and_second true b h = h
and_second false b h = absurd cc

not_true : (a : Bool) → not a ≡ true → a ≡ false
not_true true h = absurd cc
not_true false h = refl

only_now : (a b : Bool) → a ≡ true → b ≡ false → (a && not b) ≡ true
only_now true false h k = refl
only_now true true h k = absurd cc
only_now false b h k = absurd cc

-- all below a number pass, so one below it does
below_at : (p : ℕ → Bool) (n k : ℕ) → all_below p n ≡ true → k < n → p k ≡ true
below_at p zero k h l = absurd (omega arith)
below_at p (suc n) k h l =
    elim (eqb_tells k n) [
      | inl w ↦ (let same : k ≡ n = w.1 in rw same (and_first (p n) (all_below p n) h))
      | inr w ↦ (let differ = w.1 in below_at p n k (and_second (p n) (all_below p n) h) (omega arith))
    ]

below_all : (p : ℕ → Bool) (n : ℕ) → ((k : ℕ) → k < n → p k ≡ true) → all_below p n ≡ true
below_all p zero h = refl
below_all p (suc n) h =
    let here : p n ≡ true = h n (omega arith) in
    rw here (below_all p n (λ k l. h k (omega arith)))

covered_less : (past : List MatchEvent) (n k : ℕ) → is_covered past n ≡ true → k ≤ n → is_covered past k ≡ true
covered_less past n k h le = below_all (is_settled past) (suc k) (λ j l. below_at (is_settled past) (suc n) j h (omega arith))

-- what is covered is below what isn't
covered_apart : (past : List MatchEvent) (m n : ℕ) → is_covered past m ≡ true → is_covered past n ≡ false → m < n
covered_apart past m n h g =
    elim (leb_tells n m) [
      | inl w ↦ (let both : true ≡ false = sym (covered_less past m n h w.1) ∙ g in absurd cc)
      | inr w ↦ w.1
    ]

-- an event of which the change is received: its number wasn't settled
record Takes (past : List MatchEvent) (e : MatchEvent) : Type 0 where
  sample : ChangeView
  got : received (e ∷ past) ≡ sample ∷ received past
  unsettled : is_settled past sample.number ≡ false

abbrev Step : List MatchEvent → MatchEvent → Type 0
Step past e = (received (e ∷ past) ≡ received past) ⊎ Takes past e

-- at most one sample is received at an event
step : (past : List MatchEvent) (e : MatchEvent) → Step past e
step past e = by_body e.body
  where
    by_test : (c : WholeView) (b : Bool) → (not (is_settled past c.number) && has_room_by (received past) past c.number) ≡ b → Step past (record { time = e.time; body = Whole c })
    by_test c true h = inr (record {
      sample = change_of e.time c;
      got = rw h refl;
      unsettled = not_true (is_settled past c.number) (and_first _ _ h);
    })
    by_test c false h = inl (rw h refl)

    by_whole : (f : FragmentView) → takes_fragments (taken past) past f ≡ true → (ss : List ChangeView) → whole_at f.number (with_fragments_of e.time f (taken past).begun) ≡ ss → Step past (record { time = e.time; body = Fragment f })
    by_whole f h [] whole = inl (frags_received past e.time f h [] whole)
    by_whole f h (s ∷ []) whole = inr (record {
      sample = s;
      got = frags_received past e.time f h (s ∷ []) whole;
      unsettled = ap (is_settled past) (whole_number f.number (with_fragments_of e.time f (taken past).begun) s [] whole) ∙ not_true (is_settled past f.number) (and_first _ _ (and_second (fits (taken past).begun f) _ h));
    })
    by_whole f h (s ∷ t ∷ ss) whole = absurd (never_two f.number (with_fragments_of e.time f (taken past).begun) s t ss whole)

    by_fragments : (f : FragmentView) (b : Bool) → takes_fragments (taken past) past f ≡ b → Step past (record { time = e.time; body = Fragment f })
    by_fragments f true h = by_whole f h (whole_at f.number (with_fragments_of e.time f (taken past).begun)) refl
    by_fragments f false h = inl (ap (λ (t : Taken). t.changes) (frags_left past e.time f h))

    by_body : (b : EventBodyView) → Step past (record { time = e.time; body = b })
    by_body (Whole c) = by_test c (not (is_settled past c.number) && has_room_by (received past) past c.number) refl
    by_body (Fragment f) = by_fragments f (takes_fragments (taken past) past f) refl
    by_body (Heartbeat h) = inl refl
    by_body (Gap g) = inl refl
    by_body (HeartbeatFrag h) = inl refl

-- no number twice
abbrev AreDistinct : List ChangeView → Type 0
AreDistinct [] = Unit {0}
AreDistinct (s ∷ ss) = (list_any (λ t. eqb t.number s.number) ss ≡ false) × AreDistinct ss

distinct_received : (past : List MatchEvent) → AreDistinct (received past)
distinct_received [] = tt
distinct_received (e ∷ past) = by_step (step past e) (distinct_received past)
  where
    by_step : Step past e → AreDistinct (received past) → AreDistinct (received (e ∷ past))
    by_step (inl same) rest = rw same rest
    by_step (inr t) rest = rw t.got ((or_none _ (list_any (λ s. eqb s.number t.sample.number) (received past)) t.unsettled).1, rest)

module _ (P : ChangeView → Type 0) where
  all_put : (s : ChangeView) (ts : List ChangeView) → P s → AllByRecursion P ts → AllByRecursion P (put s ts)
  all_put s [] here rest = (here, tt)
  all_put s (t ∷ ts) here rest =
      let more : AllByRecursion P (put s ts) = all_put s ts here rest.1 in
      elim (leb_tells (suc t.number) s.number) [ inl w ↦ rw w.0 (rest.0, more) | inr w ↦ rw w.0 (here, rest) ]

  all_in_order : (ss : List ChangeView) → AllByRecursion P ss → AllByRecursion P (in_order ss)
  all_in_order [] h = tt
  all_in_order (s ∷ ss) h = all_put s (in_order ss) h.0 (all_in_order ss h.1)

  all_filter : (p : ChangeView → Bool) (ss : List ChangeView) → AllByRecursion P ss → AllByRecursion P (filter p ss)
  all_filter p [] h = tt
  all_filter p (s ∷ ss) h = by_test (p s) (all_filter p ss h.1)
    where
      by_test : (b : Bool) → AllByRecursion P (filter p ss) → AllByRecursion P (cond b (s ∷ filter p ss) (filter p ss))
      by_test true rest = (h.0, rest)
      by_test false rest = rest

  all_append : (ss ts : List ChangeView) → AllByRecursion P ss → AllByRecursion P ts → AllByRecursion P (ss ++ ts)
  all_append [] ts h k = k
  all_append (s ∷ ss) ts h k = (h.0, all_append ss ts h.1 k)

all_weaker : (P Q : ChangeView → Type 0) (ss : List ChangeView) → ((s : ChangeView) → P s → Q s) → AllByRecursion P ss → AllByRecursion Q ss
all_weaker P Q [] f h = tt
all_weaker P Q (s ∷ ss) f h = (f s h.0, all_weaker P Q ss f h.1)

passes : (p : ChangeView → Bool) (ss : List ChangeView) → AllByRecursion (λ s. p s ≡ true) (filter p ss)
passes p [] = tt
passes p (s ∷ ss) = by_test (p s) refl (passes p ss)
  where
    by_test : (b : Bool) → p s ≡ b → AllByRecursion (λ t. p t ≡ true) (filter p ss) → AllByRecursion (λ t. p t ≡ true) (cond b (s ∷ filter p ss) (filter p ss))
    by_test true e rest = (e, rest)
    by_test false e rest = rest

any_put : (p : ChangeView → Bool) (s : ChangeView) (ts : List ChangeView) → list_any p (put s ts) ≡ (p s || list_any p ts)
any_put p s [] = refl
any_put p s (t ∷ ts) =
    let rest : list_any p (put s ts) ≡ (p s || list_any p ts) = any_put p s ts in
    elim (leb_tells (suc t.number) s.number) [ inl w ↦ rw (w.0, rest) (swapped (p t) (p s) (list_any p ts)) | inr w ↦ rw w.0 refl ]
  where
    swapped : (a b c : Bool) → (a || (b || c)) ≡ (b || (a || c))
    swapped true true c = refl
    swapped true false c = refl
    swapped false b c = refl

any-in_order : (p : ChangeView → Bool) (ss : List ChangeView) → list_any p (in_order ss) ≡ list_any p ss
any-in_order p [] = refl
any-in_order p (s ∷ ss) = any_put p s (in_order ss) ∙ ap (λ b. p s || b) (any-in_order p ss)

none_filtered : (q p : ChangeView → Bool) (ss : List ChangeView) → list_any q ss ≡ false → list_any q (filter p ss) ≡ false
none_filtered q p [] h = refl
none_filtered q p (s ∷ ss) h = by_test (p s) (or_none (q s) (list_any q ss) h) (none_filtered q p ss (or_none (q s) (list_any q ss) h).1)
  where
    by_test : (b : Bool) → (q s ≡ false) × (list_any q ss ≡ false) → list_any q (filter p ss) ≡ false → list_any q (cond b (s ∷ filter p ss) (filter p ss)) ≡ false
    by_test true both rest = rw both.0 rest
    by_test false both rest = rest

distinct_filtered : (p : ChangeView → Bool) (ss : List ChangeView) → AreDistinct ss → AreDistinct (filter p ss)
distinct_filtered p [] h = tt
distinct_filtered p (s ∷ ss) h = by_test (p s) (distinct_filtered p ss h.1)
  where
    by_test : (b : Bool) → AreDistinct (filter p ss) → AreDistinct (cond b (s ∷ filter p ss) (filter p ss))
    by_test true rest = (none_filtered (λ t. eqb t.number s.number) p ss h.0, rest)
    by_test false rest = rest

-- samples with numbers that rise strictly
abbrev Rise : List ChangeView → Type 0
Rise [] = Unit {0}
Rise (s ∷ ss) = AllByRecursion (λ t. s.number < t.number) ss × Rise ss

all_numbers : (n : ℕ) (ss : List ChangeView) → AllByRecursion (λ t. n < t.number) ss → AllByRecursion (λ m. n < m) (map (λ (s : ChangeView). s.number) ss)
all_numbers n [] h = tt
all_numbers n (s ∷ ss) h = (h.0, all_numbers n ss h.1)

numbers_rise : (ss : List ChangeView) → Rise ss → RisesStrictly (map (λ (s : ChangeView). s.number) ss)
numbers_rise [] h = tt
numbers_rise (s ∷ ss) h = (all_numbers s.number ss h.0, numbers_rise ss h.1)

put_strictly : (s : ChangeView) (ts : List ChangeView) → list_any (λ t. eqb t.number s.number) ts ≡ false → Rise ts → Rise (put s ts)
put_strictly s [] new h = (tt, tt)
put_strictly s (t ∷ ts) new h =
    let both = or_none (eqb t.number s.number) (list_any (λ t. eqb t.number s.number) ts) new in
    let rest : Rise (put s ts) = put_strictly s ts both.1 h.1 in
    elim (leb_tells (suc t.number) s.number) [
      | inl w ↦ (let less : t.number < s.number = omega arith in rw w.0 (all_put (λ u. t.number < u.number) s ts less h.0, rest))
      | inr w ↦ (
          let more : s.number < t.number = grind (arith, nat_tests, both.0, w.1) in
          rw w.0 ((more, all_weaker (λ u. t.number < u.number) (λ u. s.number < u.number) ts (λ u l. omega arith) h.0), h)
          )
    ]

in_order_strictly : (ss : List ChangeView) → AreDistinct ss → Rise (in_order ss)
in_order_strictly [] h = tt
in_order_strictly (s ∷ ss) h = put_strictly s (in_order ss) (any-in_order (λ t. eqb t.number s.number) ss ∙ h.0) (in_order_strictly ss h.1)

append_strictly : (p : ℕ → Bool) → ((m n : ℕ) → p m ≡ true → p n ≡ false → m < n) → (ss ts : List ChangeView) → AllByRecursion (λ s. p s.number ≡ true) ss → AllByRecursion (λ t. p t.number ≡ false) ts → Rise ss → Rise ts → Rise (ss ++ ts)
append_strictly p apart [] ts h k hs ks = ks
append_strictly p apart (s ∷ ss) ts h k hs ks = (
  all_append (λ t. s.number < t.number) ss ts hs.0 (all_weaker (λ t. p t.number ≡ false) (λ t. s.number < t.number) ts (λ t e. apart s.number t.number h.0 e) k),
  append_strictly p apart ss ts h.1 k hs.1 ks,
)

-- what is ready was not covered, and now is
abbrev gets_ready : List MatchEvent → MatchEvent → ChangeView → Bool
gets_ready past e s = is_covered (e ∷ past) s.number && not (is_covered past s.number)

ready_passes : (past : List MatchEvent) (e : MatchEvent) → AllByRecursion (λ s. gets_ready past e s ≡ true) (ready past e)
ready_passes past e = all_in_order (λ s. gets_ready past e s ≡ true) _ (passes (gets_ready past e) (received (e ∷ past)))

ready_covered : (past : List MatchEvent) (e : MatchEvent) → AllByRecursion (λ s. is_covered (e ∷ past) s.number ≡ true) (ready past e)
ready_covered past e = all_weaker (λ s. gets_ready past e s ≡ true) (λ s. is_covered (e ∷ past) s.number ≡ true) (ready past e) (λ s. and_first (is_covered (e ∷ past) s.number) (not (is_covered past s.number))) (ready_passes past e)

ready_uncovered : (past : List MatchEvent) (e : MatchEvent) → AllByRecursion (λ s. is_covered past s.number ≡ false) (ready past e)
ready_uncovered past e = all_weaker (λ s. gets_ready past e s ≡ true) (λ s. is_covered past s.number ≡ false) (ready past e) (λ s h. not_true (is_covered past s.number) (and_second (is_covered (e ∷ past) s.number) (not (is_covered past s.number)) h)) (ready_passes past e)

-- the first number never falls
first_rises : (past : List MatchEvent) (e : MatchEvent) → first_of past ≤ first_of (e ∷ past)
first_rises past e = by_body e.body
  where
    by_body : (b : EventBodyView) → first_of past ≤ first_after past (first_of past) b
    by_body (Whole c) = omega arith
    by_body (Fragment f) = omega arith
    by_body (Heartbeat h) = elim (is_new past h.count) as (λ b. first_of past ≤ cond b (max (first_of past) h.first) (first_of past)) [ true ↦ omega arith | false ↦ omega arith ]
    by_body (Gap g) = omega arith
    by_body (HeartbeatFrag h) = omega arith

-- what was received stays so
received_stays : (past : List MatchEvent) (e : MatchEvent) (p : ChangeView → Bool) → list_any p (received past) ≡ true → list_any p (received (e ∷ past)) ≡ true
received_stays past e p h = by_step (step past e)
  where
    by_step : Step past e → list_any p (received (e ∷ past)) ≡ true
    by_step (inl same) = rw same h
    by_step (inr t) = rw t.got (or_right (p t.sample) (list_any p (received past)) h)

-- what was settled stays so
settled_stays : (past : List MatchEvent) (e : MatchEvent) (n : ℕ) → is_settled past n ≡ true → is_settled (e ∷ past) n ≡ true
settled_stays past e n h =
    elim (or_cases (ltb n (first_of past) || is_irrelevant past n) (list_any (λ s. eqb s.number n) (received past)) h) [
      | inl d ↦ elim (or_cases (ltb n (first_of past)) (is_irrelevant past n) d) [
        | inl b ↦ (
            let below : n < first_of past = grind (arith, nat_tests) in
            let more : first_of past ≤ first_of (e ∷ past) = first_rises past e in
            let still : ltb n (first_of (e ∷ past)) ≡ true = grind (arith, nat_tests) in
            or_left _ _ (or_left _ _ still)
            )
        | inr b ↦ or_left _ _ (or_right (ltb n (first_of (e ∷ past))) _ (or_right (names e.body n) (is_irrelevant past n) b))
      ]
      | inr d ↦ or_right _ _ (received_stays past e (λ s. eqb s.number n) d)
    ]

covered_stays : (past : List MatchEvent) (e : MatchEvent) (n : ℕ) → is_covered past n ≡ true → is_covered (e ∷ past) n ≡ true
covered_stays past e n h = below_all (is_settled (e ∷ past)) (suc n) (λ k l. settled_stays past e k (below_at (is_settled past) (suc n) k h l))

presented_covered : (past : List MatchEvent) → AllByRecursion (λ s. is_covered past s.number ≡ true) (presented past)
presented_covered [] = tt
presented_covered (e ∷ past) =
    all_append (λ s. is_covered (e ∷ past) s.number ≡ true) (presented past) (ready past e)
    (all_weaker (λ s. is_covered past s.number ≡ true) (λ s. is_covered (e ∷ past) s.number ≡ true) (presented past) (λ s. covered_stays past e s.number) (presented_covered past))
    (ready_covered past e)

samples_rise : (past : List MatchEvent) → Rise (presented past)
samples_rise [] = tt
samples_rise (e ∷ past) =
    append_strictly (is_covered past) (covered_apart past) (presented past) (ready past e) (presented_covered past) (ready_uncovered past e)
    (samples_rise past)
    (in_order_strictly _ (distinct_filtered (gets_ready past e) (received (e ∷ past)) (distinct_received (e ∷ past))))

pub presented_rises : (past : List MatchEvent) → RisesStrictly (map (λ (s : ChangeView). s.number) (presented past))
presented_rises past = numbers_rise (presented past) (samples_rise past)

-- what is below the first number was given up
given_up_first : (past : List MatchEvent) (k : ℕ) → 1 ≤ k → k < first_of past → IsGivenUp past k
given_up_first [] k one l = absurd (omega arith)
given_up_first (e ∷ past) k one l = by_body e.body l (given_up_first past k one)
  where
    by_test : (b : Bool) (first : ℕ) → (k < first_of past → IsGivenUp past k) → k < cond b (max (first_of past) first) (first_of past) → ((b ≡ true) × (k < first)) ⊎ IsGivenUp past k
    by_test true first rest l = elim (leb_tells (suc k) first) [ inl w ↦ inl (refl, omega arith) | inr w ↦ inr (rest (omega arith)) ]
    by_test false first rest l = inr (rest l)

    by_body : (b : EventBodyView) → k < first_after past (first_of past) b → (k < first_of past → IsGivenUp past k) → GivesUp past b k ⊎ IsGivenUp past k
    by_body (Whole c) l rest = inr (rest l)
    by_body (Fragment f) l rest = inr (rest l)
    by_body (Heartbeat h) l rest = by_test (is_new past h.count) h.first rest l
    by_body (Gap g) l rest = inr (rest l)
    by_body (HeartbeatFrag h) l rest = inr (rest l)

-- what a gap named was given up
given_up_named : (past : List MatchEvent) (k : ℕ) → is_irrelevant past k ≡ true → IsGivenUp past k
given_up_named [] k h = absurd cc
given_up_named (e ∷ past) k h = by_body e.body h (given_up_named past k)
  where
    by_body : (b : EventBodyView) → (names b k || is_irrelevant past k) ≡ true → (is_irrelevant past k ≡ true → IsGivenUp past k) → GivesUp past b k ⊎ IsGivenUp past k
    by_body (Whole c) h rest = inr (rest h)
    by_body (Fragment f) h rest = inr (rest h)
    by_body (Heartbeat b) h rest = inr (rest h)
    by_body (Gap g) h rest = elim (or_cases (names (Gap g) k) (is_irrelevant past k) h) [ inl d ↦ inl d | inr d ↦ inr (rest d) ]
    by_body (HeartbeatFrag b) h rest = inr (rest h)

-- what is received now and was covered before was received before
received_before : (past : List MatchEvent) (e : MatchEvent) (k : ℕ) → list_any (λ s. eqb s.number k) (received (e ∷ past)) ≡ true → is_covered past k ≡ true → list_any (λ s. eqb s.number k) (received past) ≡ true
received_before past e k h covered = by_step (step past e)
  where
    by_step : Step past e → list_any (λ s. eqb s.number k) (received past) ≡ true
    by_step (inl same) = rw same at h
    by_step (inr t) = elim (or_cases (eqb t.sample.number k) (list_any (λ s. eqb s.number k) (received past)) (rw t.got at h)) [
      | inl d ↦ (
          let same : t.sample.number ≡ k = grind (arith, nat_tests) in
          let settled : is_settled past k ≡ true = below_at (is_settled past) (suc k) k covered (omega arith) in
          let both : true ≡ false = sym settled ∙ ap (is_settled past) (sym same) ∙ t.unsettled in
          absurd cc
          )
      | inr d ↦ d
    ]

-- what is received and covered was presented
presented_from : (past : List MatchEvent) (k : ℕ) → list_any (λ s. eqb s.number k) (received past) ≡ true → is_covered past k ≡ true → IsPresented past k
presented_from [] k h covered = absurd cc
presented_from (e ∷ past) k h covered =
    list_any-append (λ s. eqb s.number k) (presented past) (ready past e)
    ∙ by_test (is_covered past k) refl (presented_from past k)
  where
    by_test : (b : Bool) → is_covered past k ≡ b → (list_any (λ s. eqb s.number k) (received past) ≡ true → is_covered past k ≡ true → IsPresented past k) → (list_any (λ s. eqb s.number k) (presented past) || list_any (λ s. eqb s.number k) (ready past e)) ≡ true
    by_test true was rest = or_left _ _ (rest (received_before past e k h was) was)
    by_test false was rest = or_right _ _ (
        any-in_order (λ s. eqb s.number k) _
        ∙ any-filter_same (λ (s : ChangeView). eqb s.number k) (gets_ready past e) true same (received (e ∷ past))
        ∙ h
        )
      where
        same : (s : ChangeView) → eqb s.number k ≡ true → gets_ready past e s ≡ true
        same s t =
            let alike : s.number ≡ k = grind (arith, nat_tests) in
            only_now _ _ (ap (is_covered (e ∷ past)) alike ∙ covered) (ap (is_covered past) alike ∙ was)

passes_over : (past : List MatchEvent) (s : ChangeView) → is_covered past s.number ≡ true → PassesOverOnly past s
passes_over past s covered k one l =
    let settled : is_settled past k ≡ true = below_at (is_settled past) (suc s.number) k covered (omega arith) in
    elim (or_cases (ltb k (first_of past) || is_irrelevant past k) (list_any (λ t. eqb t.number k) (received past)) settled) [
      | inl d ↦ elim (or_cases (ltb k (first_of past)) (is_irrelevant past k) d) [
        | inl b ↦ (let below : k < first_of past = grind (arith, nat_tests) in inl (given_up_first past k one below))
        | inr b ↦ inl (given_up_named past k b)
      ]
      | inr d ↦ inr (presented_from past k d (covered_less past s.number k covered (omega arith)))
    ]

pub ready_passes_over : (past : List MatchEvent) (e : MatchEvent) → AllByRecursion (PassesOverOnly (e ∷ past)) (ready past e)
ready_passes_over past e =
    all_weaker (λ s. is_covered (e ∷ past) s.number ≡ true) (PassesOverOnly (e ∷ past)) (ready past e) (λ s. passes_over (e ∷ past) s) (ready_covered past e)
