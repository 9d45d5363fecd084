-- What a heartbeat does to what a reliable proxy keeps, and its answer.
use Rattle.std.proofs.Common.{◌≡◌, ℕ, zero, suc, ◌+◌, ◌%◌, ◌^◌, ◌<◌, ◌≤◌, Bool, true, false, not, ◌&&◌, ◌||◌, cond, List, ◌∷◌, refl, sym, ◌∙◌, ap, arith, ltb, leb, eqb, inl, inr, max, Option, Some, None}
use Rattle.std.specs.Prelude.{ℤ, int_lt, is_some}
use Rattle.std.specs.Option.{option_map}
use Rattle.std.specs.List.{list_any}
use Rattle.std.proofs.lemmas.Bool.Decides.{nat_tests, leb_tells}
use Rattle.std.proofs.lemmas.Int.{ints}
use Rattle.std.proofs.Math.Nat.{add-mod, mod-mod}
use mathlib.Core.Path.{fun_ext}
use Rattle.rtps_types.specs.declared.time.Timestamp.{Timestamp}
use Rattle.rtps_receiver.specs.EventBody.{HeartbeatView, Heartbeat}
use Rattle.rtps_types.specs.Numbers.{lacks, count_failing}
use Rattle.rtps_proxy.specs.Runs.{AreApart, Run, marks}
use Rattle.rtps_proxy.specs.Answer.{Acknack, acknack_by, answer, answers, is_answered, is_incomplete}
use Rattle.rtps_proxy.specs.Effects.{exceeds}
use Rattle.rtps_proxy.specs.Gap.{is_irrelevant}
use Rattle.rtps_proxy.specs.Heartbeat.{announced_of, first_of, is_new}
use Rattle.rtps_proxy.specs.History.{MatchEvent}
use Rattle.rtps_proxy.specs.Kept.{Pairing}
use Rattle.rtps_proxy.specs.Received.{frontier_of, is_settled, received}
use Rattle.rtps_proxy.specs.Replies.{reply_of}
use Rattle.rtps_proxy.proofs.Frontier.{frontier_is}
use Rattle.rtps_proxy.proofs.Standing.{Shows, count_none, covered_is, frontier_rises, lacks_is, or_true}

abbrev pub beat_at : Option Timestamp → HeartbeatView → MatchEvent
beat_at time h = record { time = time; body = Heartbeat h }

-- a count that is accepted takes the place of the greatest
pub newer : (greatest : Option ℤ) (count next : ℤ) → exceeds greatest count ≡ true → (int_lt count next && exceeds greatest next) ≡ int_lt count next
newer None count next h = and_true (int_lt count next)
  where
    and_true : (b : Bool) → (b && true) ≡ b
    and_true true = refl
    and_true false = refl
newer (Some greatest) count next h = grind (arith, ints)

below_max : (n a b : ℕ) → ltb n (max a b) ≡ (ltb n b || ltb n a)
below_max n a b = grind (arith, nat_tests)

or_beat : (first low named got : Bool) → (((low || first) || named) || got) ≡ ((true && low) || ((first || named) || got))
or_beat first true named got = refl
or_beat first false named got = refl

-- a heartbeat that isn't accepted does nothing
module _ (past : List MatchEvent) (time : Option Timestamp) (h : HeartbeatView) (refused : is_new past h.count ≡ false) where
  pub refused_first : first_of (beat_at time h ∷ past) ≡ first_of past
  refused_first = rw refused refl

  pub refused_announced : announced_of (beat_at time h ∷ past) ≡ announced_of past
  refused_announced = rw refused refl

  pub refused_settled : (n : ℕ) → is_settled (beat_at time h ∷ past) n ≡ is_settled past n
  refused_settled n = rw refused refl

  pub refused_answer : answer past (beat_at time h) ≡ None
  refused_answer = rw refused refl

  pub refused_answers : answers (beat_at time h ∷ past) ≡ answers past
  refused_answers = rw refused refl

-- the counts that are accepted after one that isn't are the same
pub refused_counts : (greatest : Option ℤ) (count next : ℤ) → exceeds greatest count ≡ false → (int_lt count next && exceeds greatest next) ≡ exceeds greatest next
refused_counts None count next h = absurd cc
refused_counts (Some greatest) count next h = grind (arith, ints)

pub has_greatest : (greatest : Option ℤ) (count : ℤ) → exceeds greatest count ≡ false → true ≡ is_some greatest
has_greatest None count h = absurd cc
has_greatest (Some greatest) count h = refl

-- to count after what all pass, or from the beginning, is the same
count_max : (p : ℕ → Bool) (a b : ℕ) → ((k : ℕ) → k < a → p k ≡ true) → count_failing p (max a b) ≡ count_failing p b
count_max p a b h =
    elim (leb_tells a b) [
      | inl w ↦ (let e : max a b ≡ b = omega arith in rw e refl)
      | inr w ↦ (
          let e : max a b ≡ a = omega arith in
          rw e (count_none p a h ∙ sym (count_none p b (λ k l. h k (omega arith))))
          )
    ]

count_agree : (p q : ℕ → Bool) → ((n : ℕ) → p n ≡ q n) → (n : ℕ) → count_failing p n ≡ count_failing q n
count_agree p q h zero = refl
count_agree p q h (suc n) = let rest : count_failing p n ≡ count_failing q n = count_agree p q h n in rw (h n, rest) refl

pub one_more : (a m : ℕ) → (a % m + 1) % m ≡ (a + 1) % m
one_more a m = add-mod (a % m) 1 m ∙ ap (λ x. (x + 1 % m) % m) (mod-mod a m) ∙ sym (add-mod a 1 m)

module _ (past : List MatchEvent) (time : Option Timestamp) (h : HeartbeatView) (accepted : is_new past h.count ≡ true) where
  first_is : first_of (beat_at time h ∷ past) ≡ max (first_of past) h.first
  first_is = rw accepted refl

  pub announced_is : announced_of (beat_at time h ∷ past) ≡ max (announced_of past) h.last
  announced_is = rw accepted refl

  pub beat_shows : (f f' : ℕ) (rs rs' : List Run) → Shows past f rs → ((n : ℕ) → marks f' rs' n ≡ ((leb 0 n && ltb n h.first) || marks f rs n)) → AreApart f' rs' → Shows (beat_at time h ∷ past) f' rs' × (f ≤ f')
  beat_shows f f' rs rs' shows adds apart = (
    record {
      settled = λ n.
          let any : leb 0 n ≡ true = grind (arith, nat_tests) in
          rw (first_is, below_max n (first_of past) h.first)
          (or_beat (ltb n (first_of past)) (ltb n h.first) (is_irrelevant past n) (list_any (λ s. eqb s.number n) (received past))
          ∙ ap (λ b. (true && ltb n h.first) || b) (shows.settled n)
          ∙ ap (λ b. (b && ltb n h.first) || marks f rs n) (sym any)
          ∙ sym (adds n));
      apart = apart;
    },
    frontier_rises f rs f' rs' (λ n e. adds n ∙ ap (λ b. (leb 0 n && ltb n h.first) || b) e ∙ or_true (leb 0 n && ltb n h.first)) apart,
  )

  pub beat_lost : (f : ℕ) (rs : List Run) → Shows past f rs → count_failing (marks f rs) h.first ≡ count_failing (is_settled past) (first_of (beat_at time h ∷ past))
  beat_lost f rs shows =
      count_agree (marks f rs) (is_settled past) (λ n. sym (shows.settled n)) h.first
      ∙ sym (ap (count_failing (is_settled past)) first_is ∙ count_max (is_settled past) (first_of past) h.first (λ k l.
      let below : ltb k (first_of past) ≡ true = grind (arith, nat_tests) in rw below refl))

  -- something is missing exactly if the frontier is at most the announced number
  incomplete_is : (f : ℕ) (rs : List Run) → Shows (beat_at time h ∷ past) f rs → is_incomplete (beat_at time h ∷ past) ≡ leb f (announced_of (beat_at time h ∷ past))
  incomplete_is f rs shows = rw (covered_is (beat_at time h ∷ past) f rs shows (announced_of (beat_at time h ∷ past))) (grind (arith, nat_tests))

  pub answered_is : (f announced : ℕ) (rs : List Run) → Shows (beat_at time h ∷ past) f rs → announced ≡ announced_of (beat_at time h ∷ past) → is_answered past (beat_at time h) ≡ (not h.final_flag || (not h.liveliness && lacks (marks f rs) announced))
  answered_is f announced rs shows same =
      ap (λ b. b && (not h.final_flag || (not h.liveliness && is_incomplete (beat_at time h ∷ past)))) accepted
      ∙ ap (λ b. not h.final_flag || (not h.liveliness && b)) (incomplete_is f rs shows ∙ ap (leb f) (sym same) ∙ sym (lacks_is f rs shows.apart announced))

pub count_is : (past : List MatchEvent) (event : MatchEvent) (due : Bool) (earlier : ℕ) → is_answered past event ≡ due → earlier ≡ answers past % 2 ^ 32 → cond due ((earlier + 1) % 2 ^ 32) earlier ≡ answers (event ∷ past) % 2 ^ 32
count_is past event true earlier is same = rw (is, same) (one_more (answers past) (2 ^ 32))
count_is past event false earlier is same = rw (is, same) refl

pub answer_is : (past : List MatchEvent) (event : MatchEvent) (due : Bool) (f announced earlier : ℕ) (rs : List Run) → Shows (event ∷ past) f rs → is_answered past event ≡ due → announced ≡ announced_of (event ∷ past) → earlier ≡ answers past % 2 ^ 32 → cond due (Some (acknack_by (marks f rs) f announced earlier)) None ≡ answer past event
answer_is past event true f announced earlier rs shows is same counted =
    let settled : is_settled (event ∷ past) ≡ marks f rs = fun_ext shows.settled in
    let base : frontier_of (event ∷ past) ≡ f = frontier_is (event ∷ past) f rs shows in
    let counts : (earlier + 1) % 2 ^ 32 ≡ (answers past + 1) % 2 ^ 32 = rw counted (one_more (answers past) (2 ^ 32)) in
    let all = is_settled (event ∷ past) in
    rw is
    (ap (λ (p : ℕ → Bool). Some (acknack_by p f announced earlier)) (sym settled)
    ∙ ap (λ (n : ℕ). Some (acknack_by all n announced earlier)) (sym base)
    ∙ ap (λ (n : ℕ). Some (acknack_by all (frontier_of (event ∷ past)) n earlier)) same
    ∙ ap (λ (n : ℕ). Some (record (acknack_by all (frontier_of (event ∷ past)) (announced_of (event ∷ past)) (answers past)) { count = n })) counts)
answer_is past event false f announced earlier rs shows is same counted = rw is refl

map_due : (w : Pairing) (due : Bool) (a : Acknack) → option_map (reply_of w) (cond due (Some a) None) ≡ cond due (Some (reply_of w a)) None
map_due w true a = refl
map_due w false a = refl

pub reply_is : (w : Pairing) (past : List MatchEvent) (event : MatchEvent) (due : Bool) (f announced earlier : ℕ) (rs : List Run) → Shows (event ∷ past) f rs → is_answered past event ≡ due → announced ≡ announced_of (event ∷ past) → earlier ≡ answers past % 2 ^ 32 → cond due (Some (reply_of w (acknack_by (marks f rs) f announced earlier))) None ≡ option_map (reply_of w) (answer past event)
reply_is w past event due f announced earlier rs shows is same counted =
    sym (map_due w due (acknack_by (marks f rs) f announced earlier)) ∙ ap (option_map (reply_of w)) (answer_is past event due f announced earlier rs shows is same counted)
