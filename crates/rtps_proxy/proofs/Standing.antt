-- What one event does to what a reliable proxy keeps.
use Rattle.std.proofs.Common.{◌≡◌, ℕ, zero, suc, ◌<◌, ◌≤◌, Bool, true, false, not, ◌&&◌, ◌||◌, cond, List, [], ◌∷◌, refl, sym, ◌∙◌, ap, arith, ltb, leb, eqb, inl, inr}
use Rattle.std.specs.List.{filter, list_any}
use Rattle.std.proofs.lemmas.Bool.Decides.{nat_tests, leb_tells}
use Rattle.std.proofs.lemmas.List.Elements.{filter_agree}
use mathlib.Core.Path.{fun_ext}
use Rattle.rtps_types.specs.Numbers.{lacks, all_below, count_failing}
use Rattle.rtps_proxy.specs.Runs.{AreApart, Run, marks}
use Rattle.rtps_proxy.specs.Change.{ChangeView}
use Rattle.rtps_proxy.specs.Gap.{is_irrelevant, names}
use Rattle.rtps_proxy.specs.Heartbeat.{first_of, has_heartbeat}
use Rattle.rtps_proxy.specs.History.{MatchEvent}
use Rattle.rtps_proxy.specs.Received.{held, in_order, is_covered, is_settled, lost, ready, received}
use Rattle.rtps_proxy.specs.Held.{behind_front, front_below, is_below, not_below}
use Rattle.rtps_proxy.proofs.Apart.{none_behind}
use Rattle.rtps_proxy.proofs.Ordering.{behind_is, filter-filter, filter-in_order, front_is, in_order_rises}

-- where f is the least number that fails, all below k pass exactly if k is at most f
pub all_below_is : (p : ℕ → Bool) (f : ℕ) → ((n : ℕ) → n < f → p n ≡ true) → p f ≡ false → (k : ℕ) → all_below p k ≡ leb k f
all_below_is p f below at zero = grind (arith, nat_tests)
all_below_is p f below at (suc k) =
    let rest : all_below p k ≡ leb k f = all_below_is p f below at k in
    elim (leb_tells (suc k) f) [
      | inl w ↦ (
          let here : p k ≡ true = below k (omega arith) in
          let le : leb k f ≡ true = grind (arith, nat_tests) in
          rw (here, w.0) (rest ∙ le)
          )
      | inr w ↦ elim (leb_tells k f) [
        | inl v ↦ (
            let same : k ≡ f = omega arith in
            let here : p k ≡ false = rw same at in
            rw (here, w.0) refl
            )
        | inr v ↦ rw (rest, v.0, w.0) (and_false (p k))
      ]
    ]
  where
    and_false : (b : Bool) → (b && false) ≡ false
    and_false true = refl
    and_false false = refl

pub marks_below : (f : ℕ) (rs : List Run) (n : ℕ) → n < f → marks f rs n ≡ true
marks_below f rs n l = let e : ltb n f ≡ true = grind (arith, nat_tests) in rw e refl

pub marks_at : (f : ℕ) (rs : List Run) → AreApart f rs → marks f rs f ≡ false
marks_at f rs apart = let e : ltb f f ≡ false = grind (arith, nat_tests) in rw e (none_behind f f rs apart (omega arith))

-- something up to a number is missing exactly if the frontier is at most that number
pub lacks_is : (f : ℕ) (rs : List Run) → AreApart f rs → (n : ℕ) → lacks (marks f rs) n ≡ leb f n
lacks_is f rs apart n =
    let all : all_below (marks f rs) (suc n) ≡ leb (suc n) f = all_below_is (marks f rs) f (λ k l. marks_below f rs k l) (marks_at f rs apart) (suc n) in
    ap not all ∙ grind (arith, nat_tests)

-- what a frontier and runs say of a history: which numbers are settled
pub record Shows (past : List MatchEvent) (f : ℕ) (rs : List Run) : Type 0 where
  pub settled : (n : ℕ) → is_settled past n ≡ marks f rs n
  pub apart : AreApart f rs

pub covered_is : (past : List MatchEvent) (f : ℕ) (rs : List Run) → Shows past f rs → (n : ℕ) → is_covered past n ≡ ltb n f
covered_is past f rs shows n =
    all_below_is (is_settled past) f (λ k l. shows.settled k ∙ marks_below f rs k l) (shows.settled f ∙ marks_at f rs shows.apart) (suc n)

pub frontier_rises : (f : ℕ) (rs : List Run) (f' : ℕ) (rs' : List Run) → ((n : ℕ) → marks f rs n ≡ true → marks f' rs' n ≡ true) → AreApart f' rs' → f ≤ f'
frontier_rises f rs f' rs' keeps apart =
    elim (leb_tells f f') [
      | inl w ↦ w.1
      | inr w ↦ (let both : true ≡ false = sym (keeps f' (marks_below f rs f' w.1)) ∙ marks_at f' rs' apart in absurd cc)
    ]

-- those that wait after an event, in order, are split by the new frontier
pub settle_ready : (past : List MatchEvent) (event : MatchEvent) (f' : ℕ) (rs' : List Run) (waiting : List ChangeView) → Shows (event ∷ past) f' rs' → waiting ≡ in_order (filter (λ s. not (is_covered past s.number)) (received (event ∷ past))) → filter (is_below f') waiting ≡ ready past event
settle_ready past event f' rs' waiting shows' is =
    ap (filter (is_below f')) is
    ∙ filter_agree (is_below f') (λ s. is_covered (event ∷ past) s.number) (λ s. sym (covered_is (event ∷ past) f' rs' shows' s.number)) _
    ∙ filter-in_order (λ s. is_covered (event ∷ past) s.number) _
    ∙ ap in_order (filter-filter (λ s. is_covered (event ∷ past) s.number) (λ s. not (is_covered past s.number)) (received (event ∷ past)))

pub settle_held : (past : List MatchEvent) (event : MatchEvent) (f f' : ℕ) (rs rs' : List Run) (waiting : List ChangeView) → Shows past f rs → Shows (event ∷ past) f' rs' → f ≤ f' → waiting ≡ in_order (filter (λ s. not (is_covered past s.number)) (received (event ∷ past))) → filter (not_below f') waiting ≡ in_order (held (event ∷ past))
settle_held past event f f' rs rs' waiting shows shows' le is =
    ap (filter (not_below f')) is
    ∙ filter_agree (not_below f') (λ s. not (is_covered (event ∷ past) s.number)) (λ s. ap not (sym (covered_is (event ∷ past) f' rs' shows' s.number))) _
    ∙ filter-in_order (λ s. not (is_covered (event ∷ past) s.number)) _
    ∙ ap in_order (
    filter-filter (λ s. not (is_covered (event ∷ past) s.number)) (λ s. not (is_covered past s.number)) (received (event ∷ past))
    ∙ filter_agree _ _ both (received (event ∷ past))
    )
  where
    both : (s : ChangeView) → (not (is_covered (event ∷ past) s.number) && not (is_covered past s.number)) ≡ not (is_covered (event ∷ past) s.number)
    both s =
        let now : is_covered (event ∷ past) s.number ≡ ltb s.number f' = covered_is (event ∷ past) f' rs' shows' s.number in
        let before : is_covered past s.number ≡ ltb s.number f = covered_is past f rs shows s.number in
        rw (now, before) (grind (arith, nat_tests))

-- where nothing is received at an event, those that waited are split
pub split_ready : (past : List MatchEvent) (event : MatchEvent) (f' : ℕ) (rs' : List Run) (waiting : List ChangeView) → Shows (event ∷ past) f' rs' → received (event ∷ past) ≡ received past → waiting ≡ in_order (held past) → front_below f' waiting ≡ ready past event
split_ready past event f' rs' waiting shows' same is =
    let same_ones : waiting ≡ in_order (filter (λ s. not (is_covered past s.number)) (received (event ∷ past))) = rw same is in
    let front : front_below f' waiting ≡ filter (is_below f') waiting = rw is (front_is f' (in_order (held past)) (in_order_rises (held past))) in
    front ∙ settle_ready past event f' rs' waiting shows' same_ones

pub split_held : (past : List MatchEvent) (event : MatchEvent) (f f' : ℕ) (rs rs' : List Run) (waiting : List ChangeView) → Shows past f rs → Shows (event ∷ past) f' rs' → f ≤ f' → received (event ∷ past) ≡ received past → waiting ≡ in_order (held past) → behind_front f' waiting ≡ in_order (held (event ∷ past))
split_held past event f f' rs rs' waiting shows shows' le same is =
    let same_ones : waiting ≡ in_order (filter (λ s. not (is_covered past s.number)) (received (event ∷ past))) = rw same is in
    let behind : behind_front f' waiting ≡ filter (not_below f') waiting = rw is (behind_is f' (in_order (held past)) (in_order_rises (held past))) in
    behind ∙ settle_held past event f f' rs rs' waiting shows shows' le same_ones

-- the event's numbers, then those that were settled
name_tests : (first named old got : Bool) → ((first || (named || old)) || got) ≡ (named || ((first || old) || got))
name_tests true true old got = refl
name_tests true false old got = refl
name_tests false true old got = refl
name_tests false false old got = refl

pub or_true : (b : Bool) → (b || true) ≡ true
or_true true = refl
or_true false = refl

-- an event that names numbers and does nothing else
pub names_shows : (past : List MatchEvent) (event : MatchEvent) (f f' : ℕ) (rs rs' : List Run) → Shows past f rs → first_of (event ∷ past) ≡ first_of past → received (event ∷ past) ≡ received past → ((n : ℕ) → marks f' rs' n ≡ (names event.body n || marks f rs n)) → AreApart f' rs' → Shows (event ∷ past) f' rs' × (f ≤ f')
names_shows past event f f' rs rs' shows first got adds apart = (
  record {
    settled = λ n.
        rw (first, got)
        (name_tests (ltb n (first_of past)) (names event.body n) (is_irrelevant past n) (list_any (λ s. eqb s.number n) (received past))
        ∙ ap (λ b. names event.body n || b) (shows.settled n)
        ∙ sym (adds n));
    apart = apart;
  },
  frontier_rises f rs f' rs' (λ n e. adds n ∙ ap (λ b. names event.body n || b) e ∙ or_true (names event.body n)) apart,
)

-- all below the first number are settled, so none of them is lost
pub count_none : (p : ℕ → Bool) (n : ℕ) → ((k : ℕ) → k < n → p k ≡ true) → count_failing p n ≡ 0
count_none p zero h = refl
count_none p (suc n) h =
    let here : p n ≡ true = h n (omega arith) in
    let rest : count_failing p n ≡ 0 = count_none p n (λ k l. h k (omega arith)) in
    grind arith

none_lost : (past : List MatchEvent) → count_failing (is_settled past) (first_of past) ≡ 0
none_lost past = count_none (is_settled past) (first_of past) (λ k l.
    let below : ltb k (first_of past) ≡ true = grind (arith, nat_tests) in rw below refl)

pub lost_nothing : (past : List MatchEvent) (event : MatchEvent) → first_of (event ∷ past) ≡ first_of past → lost past event ≡ 0
lost_nothing past event same =
    rw same (elim (has_heartbeat past) as (λ b. cond b (count_failing (is_settled past) (first_of past)) 0 ≡ 0) [ true ↦ none_lost past | false ↦ refl ])

keeps_none : (ss : List ChangeView) → filter (λ s. false) ss ≡ []
keeps_none [] = refl
keeps_none (s ∷ ss) = keeps_none ss

-- where an event settles nothing, nothing gets ready
pub none_ready : (past : List MatchEvent) (event : MatchEvent) → ((n : ℕ) → is_settled (event ∷ past) n ≡ is_settled past n) → ready past event ≡ []
none_ready past event same =
    ap in_order (filter_agree (λ s. is_covered (event ∷ past) s.number && not (is_covered past s.number)) (λ s. false) (λ s. ap (λ b. b && not (is_covered past s.number)) (same_covered past event same s.number) ∙ never (is_covered past s.number)) (received (event ∷ past)) ∙ keeps_none (received (event ∷ past)))
  where
    never : (b : Bool) → (b && not b) ≡ false
    never true = refl
    never false = refl

    same_covered : (past : List MatchEvent) (event : MatchEvent) → ((n : ℕ) → is_settled (event ∷ past) n ≡ is_settled past n) → (n : ℕ) → is_covered (event ∷ past) n ≡ is_covered past n
    same_covered past event same n = ap (λ (p : ℕ → Bool). all_below p (suc n)) (fun_ext same)

-- and the same ones are held
pub same_held : (past : List MatchEvent) (event : MatchEvent) → ((n : ℕ) → is_settled (event ∷ past) n ≡ is_settled past n) → received (event ∷ past) ≡ received past → held (event ∷ past) ≡ held past
same_held past event same got =
    filter_agree (λ s. not (is_covered (event ∷ past) s.number)) (λ s. not (is_covered past s.number)) (λ s. ap (λ (p : ℕ → Bool). not (all_below p (suc s.number))) (fun_ext same)) (received (event ∷ past))
    ∙ ap (filter (λ s. not (is_covered past s.number))) got
