-- The frontier that a proxy keeps is the least number that isn't settled.
use Rattle.std.proofs.Math.Nat.{suc-add}
use Rattle.std.proofs.Common.{add-zero, add-suc, ◌≡◌, ℕ, zero, suc, ◌+◌, ◌<◌, ◌≤◌, ◌⊎◌, Bool, true, false, not, ◌&&◌, ◌||◌, cond, List, [], ◌∷◌, refl, ◌∙◌, arith, ltb, leb, eqb, inl, inr, max}
use Rattle.std.specs.List.{list_any}
use Rattle.std.proofs.lemmas.Bool.Decides.{eqb_tells, nat_tests, leb_tells}
use Rattle.rtps_types.specs.NumberSet.{members}
use Rattle.rtps_receiver.specs.EventBody.{EventBodyView, WholeView, FragmentView, Whole, Fragment, Heartbeat, Gap, HeartbeatFrag}
use Rattle.rtps_proxy.specs.Runs.{Run}
use Rattle.rtps_types.specs.Numbers.{first_failing}
use Rattle.rtps_proxy.specs.Change.{change_of}
use Rattle.rtps_proxy.specs.Gap.{is_irrelevant, names}
use Rattle.rtps_proxy.specs.Heartbeat.{first_after, first_of, is_new}
use Rattle.rtps_proxy.specs.History.{MatchEvent}
use Rattle.rtps_proxy.specs.Received.{frontier_of, greatest_in, greatest_named, is_settled, max_of, received, taken, taken_after, takes_fragments, with_begun}
use Rattle.rtps_proxy.specs.Fragments.{with_fragments_of}
use Rattle.rtps_proxy.specs.Settled.{has_room_by, is_settled_by}
use Rattle.rtps_proxy.proofs.Wholes.{any_whole}
use Rattle.rtps_proxy.proofs.Standing.{Shows, marks_at, marks_below}

or_cases : (a b : Bool) → (a || b) ≡ true → (a ≡ true) ⊎ (b ≡ true)
or_cases true b h = inl refl
or_cases false b h = inr h

first_bound : (past : List MatchEvent) → first_of past ≤ greatest_named past + 1
first_bound [] = omega arith
first_bound (e ∷ past) = by_body e.body (first_bound past)
  where
    by_body : (b : EventBodyView) → first_of past ≤ greatest_named past + 1 → first_after past (first_of past) b ≤ max (greatest_in b) (greatest_named past) + 1
    by_body (Whole c) rest = omega arith
    by_body (Fragment f) rest = omega arith
    by_body (Heartbeat h) rest =
        elim (is_new past h.count) as (λ b. cond b (max (first_of past) h.first) (first_of past) ≤ max h.first (greatest_named past) + 1) [ true ↦ omega arith | false ↦ omega arith ]
    by_body (Gap g) rest = omega arith
    by_body (HeartbeatFrag h) rest = omega arith

member_bound : (ns : List ℕ) (n : ℕ) → list_any (λ m. eqb m n) ns ≡ true → n ≤ max_of ns
member_bound [] n h = absurd cc
member_bound (m ∷ ns) n h =
    elim (or_cases (eqb m n) (list_any (λ k. eqb k n) ns) h) [
      | inl e ↦ (let same : m ≡ n = grind (arith, nat_tests) in omega arith)
      | inr e ↦ (let rest : n ≤ max_of ns = member_bound ns n e in omega arith)
    ]

named_bound : (b : EventBodyView) (n : ℕ) → names b n ≡ true → n ≤ greatest_in b
named_bound (Whole c) n h = absurd cc
named_bound (Fragment f) n h = absurd cc
named_bound (Heartbeat b) n h = absurd cc
named_bound (Gap g) n h =
    elim (or_cases (leb g.start n && ltb n g.list.base) (list_any (λ m. eqb m n) (members g.list)) h) [
      | inl d ↦ (let below : n < g.list.base = grind (arith, nat_tests) in omega arith)
      | inr d ↦ (let among : n ≤ max_of (members g.list) = member_bound (members g.list) n d in omega arith)
    ]
named_bound (HeartbeatFrag b) n h = absurd cc

irrelevant_bound : (past : List MatchEvent) (n : ℕ) → is_irrelevant past n ≡ true → n ≤ greatest_named past
irrelevant_bound [] n h = absurd cc
irrelevant_bound (e ∷ past) n h =
    elim (or_cases (names e.body n) (is_irrelevant past n) h) [
      | inl d ↦ (let here : n ≤ greatest_in e.body = named_bound e.body n d in omega arith)
      | inr d ↦ (let rest : n ≤ greatest_named past = irrelevant_bound past n d in omega arith)
    ]

received_bound : (past : List MatchEvent) (n : ℕ) → list_any (λ s. eqb s.number n) (received past) ≡ true → n ≤ greatest_named past
received_bound [] n h = absurd cc
received_bound (e ∷ past) n h = by_body e.body (received_bound past n) h
  where
    by_test : (c : WholeView) (b : Bool) → (list_any (λ s. eqb s.number n) (received past) ≡ true → n ≤ greatest_named past) → list_any (λ s. eqb s.number n) (cond b (change_of e.time c ∷ received past) (received past)) ≡ true → n ≤ max c.number (greatest_named past)
    by_test c true rest h = elim (or_cases (eqb c.number n) (list_any (λ s. eqb s.number n) (received past)) h) [
      | inl e ↦ (let same : c.number ≡ n = grind (arith, nat_tests) in omega arith)
      | inr e ↦ (let le : n ≤ greatest_named past = rest e in omega arith)
    ]
    by_test c false rest h = let le : n ≤ greatest_named past = rest h in omega arith

    by_fragments : (f : FragmentView) (b : Bool) → (list_any (λ s. eqb s.number n) (received past) ≡ true → n ≤ greatest_named past) → list_any (λ s. eqb s.number n) (cond b (with_begun (taken past) (with_fragments_of e.time f (taken past).begun) f.number) (taken past)).changes ≡ true → n ≤ max f.number (greatest_named past)
    by_fragments f true rest h = elim (any_whole f.number n (with_fragments_of e.time f (taken past).begun) (received past) h) [
      | inl e ↦ omega (arith, e)
      | inr e ↦ (let le : n ≤ greatest_named past = rest e in omega arith)
    ]
    by_fragments f false rest h = let le : n ≤ greatest_named past = rest h in omega arith

    by_body : (b : EventBodyView) → (list_any (λ s. eqb s.number n) (received past) ≡ true → n ≤ greatest_named past) → list_any (λ s. eqb s.number n) (taken_after (taken past) past (record { time = e.time; body = b })).changes ≡ true → n ≤ max (greatest_in b) (greatest_named past)
    by_body (Whole c) rest h = by_test c (not (is_settled_by (received past) past c.number) && has_room_by (received past) past c.number) rest h
    by_body (Fragment f) rest h = by_fragments f (takes_fragments (taken past) past f) rest h
    by_body (Heartbeat b) rest h = let le : n ≤ greatest_named past = rest h in omega arith
    by_body (Gap g) rest h = let le : n ≤ greatest_named past = rest h in omega arith
    by_body (HeartbeatFrag b) rest h = let le : n ≤ greatest_named past = rest h in omega arith

-- nothing above what was named is settled
pub settled_bound : (past : List MatchEvent) (n : ℕ) → is_settled past n ≡ true → n ≤ greatest_named past
settled_bound past n h =
    elim (or_cases (ltb n (first_of past) || is_irrelevant past n) (list_any (λ s. eqb s.number n) (received past)) h) [
      | inl e ↦ elim (or_cases (ltb n (first_of past)) (is_irrelevant past n) e) [
        | inl d ↦ (let below : n < first_of past = grind (arith, nat_tests) in omega (arith, first_bound past))
        | inr d ↦ irrelevant_bound past n d
      ]
      | inr e ↦ received_bound past n e
    ]

found_first : (p : ℕ → Bool) (f : ℕ) → ((n : ℕ) → n < f → p n ≡ true) → p f ≡ false → (k n : ℕ) → n ≤ f → f ≤ n + k → first_failing p n k ≡ f
found_first p f below at zero n low high = omega arith
found_first p f below at (suc k) n low high =
    elim (leb_tells (suc n) f) [
      | inl w ↦ (
          let here : p n ≡ true = below n (omega arith) in
          rw here (found_first p f below at k (suc n) (omega arith) (omega arith))
          )
      | inr w ↦ (
          let same : n ≡ f = omega arith in
          let here : p n ≡ false = rw same at in
          rw here same
          )
    ]

pub frontier_is : (past : List MatchEvent) (f : ℕ) (rs : List Run) → Shows past f rs → frontier_of past ≡ f
unfolding frontier_of
frontier_is past f rs shows =
    found_first (is_settled past) f (λ n l. shows.settled n ∙ marks_below f rs n l) (shows.settled f ∙ marks_at f rs shows.apart) (greatest_named past + 1) 0 (omega arith)
    (elim (leb_tells f (greatest_named past + 1)) [
      | inl w ↦ omega arith
      | inr w ↦ (
          let over : is_settled past (greatest_named past + 1) ≡ true = shows.settled (greatest_named past + 1) ∙ marks_below f rs (greatest_named past + 1) w.1 in
          omega (arith, settled_bound past (greatest_named past + 1) over)
          )
    ])

least_first : (p : ℕ → Bool) (k n : ℕ) → p (n + k) ≡ false → ((j : ℕ) → j < n → p j ≡ true) → ((j : ℕ) → j < first_failing p n k → p j ≡ true) × (p (first_failing p n k) ≡ false)
least_first p zero n fails below = (below, rw add-zero at fails)
least_first p (suc k) n fails below = by_test (p n) refl (λ here. least_first p k (suc n) (rw (suc-add n k, ← add-suc n k) fails) (λ j l. elim (eqb_tells j n) [ inl w ↦ (let same : j ≡ n = w.1 in rw same here) | inr w ↦ (let differ = w.1 in below j (omega arith)) ]))
  where
    by_test : (b : Bool) → p n ≡ b → (p n ≡ true → ((j : ℕ) → j < first_failing p (suc n) k → p j ≡ true) × (p (first_failing p (suc n) k) ≡ false)) → ((j : ℕ) → j < cond (p n) (first_failing p (suc n) k) n → p j ≡ true) × (p (cond (p n) (first_failing p (suc n) k) n) ≡ false)
    by_test true e rest = rw e (rest e)
    by_test false e rest = rw e (below, e)

unsettled_end : (past : List MatchEvent) → is_settled past (0 + (greatest_named past + 1)) ≡ false
unsettled_end past = by_test (is_settled past (0 + (greatest_named past + 1))) refl
  where
    by_test : (b : Bool) → is_settled past (0 + (greatest_named past + 1)) ≡ b → b ≡ false
    by_test true e = absurd (omega (arith, settled_bound past (0 + (greatest_named past + 1)) e))
    by_test false e = refl

-- the frontier is the least number that isn't settled, whatever came
pub frontier_least : (past : List MatchEvent) → ((n : ℕ) → n < frontier_of past → is_settled past n ≡ true) × (is_settled past (frontier_of past) ≡ false)
unfolding frontier_of
frontier_least past = least_first (is_settled past) (greatest_named past + 1) 0 (unsettled_end past) (λ j l. absurd (omega arith))
