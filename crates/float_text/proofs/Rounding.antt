-- Rounding, and what reads as one float.
use Rattle.std.proofs.Common.{◌≡◌, ◌≢◌, ℕ, zero, suc, ◌+◌, ◌-◌, ◌*◌, ◌/◌, ◌%◌, ◌^◌, ◌<◌, ◌≤◌, ◌⊎◌, inl, inr, Bool, true, false, not, if◌then◌else◌, ◌&&◌, ◌==◌, nat_lt, nat_le, refl, sym, ap, subst, ◌∙◌, arith, List}
use Rattle.std.proofs.Math.Nat.{pow-suc, mul_comm, div-eq_of_lt}
use Rattle.std.proofs.lemmas.Nat.{div-add-mod', div-mul-add, mod-mul-add, mod_below, mul-le}
use Rattle.std.proofs.lemmas.Bool.{lt-ltb, le-ltb, le-leb, cases_lt, cases_order}
use Rattle.float_text.specs.Shortest.{Span, nearest, rounded, is_from, is_read, reads_back, places_up_to, places_of, span_of}
use Rattle.float_text.specs.Digits.{number_of}
use Rattle.float_text.specs.Held.{held, IsWide}
use Rattle.float_text.proofs.Numbers.{ten_pow, is_zero, not_zero, true_zero, false_zero}

pub from_less : (equal : Bool) (low high : ℕ) → low < high → is_from equal low high ≡ true
from_less true low high h = le-leb low high (omega arith)
from_less false low high h = lt-ltb low high h

pub lt-leb : (low high : ℕ) → high < low → nat_le low high ≡ false
lt-leb low high h = grind arith

pub from_more : (equal : Bool) (low high : ℕ) → high < low → is_from equal low high ≡ false
from_more true low high h = lt-leb low high h
from_more false low high h = le-ltb low high (omega arith)

-- what twice a number says of its half: below and rest of the division by a step
pub record Halves (below rest halves left step : ℕ) : Type 0 where
  pub near : rest < step
  pub is : ((2 * rest < step) × (halves ≡ 2 * below)) ⊎ ((step ≤ 2 * rest) × (halves ≡ 2 * below + 1) × (left + step ≡ 2 * rest))

pub halves_of : (twice step : ℕ) → 0 < step → twice % 2 ≡ 0 → Halves (twice / 2 / step) (twice / 2 % step) (twice / step) (twice % step) step
halves_of twice step some even =
    let below : ℕ = twice / 2 / step in
    let rest : ℕ = twice / 2 % step in
    let near : twice / 2 % step < step = mod_below (twice / 2) step some in
    let whole : twice / 2 / step * step + twice / 2 % step ≡ twice / 2 = div-add-mod' (twice / 2) step in
    record {
      near = near;
      is = elim (cases_lt (2 * (twice / 2 % step)) step) [
        | inl less ↦
            let e : twice ≡ 2 * (twice / 2 / step) * step + 2 * (twice / 2 % step) = omega arith in
            inl (less, ap (λ n. n / step) e ∙ div-mul-add (2 * (twice / 2 / step)) step (2 * (twice / 2 % step)) less)
        | inr more ↦
            let small : 2 * (twice / 2 % step) - step < step = omega arith in
            let e : twice ≡ (2 * (twice / 2 / step) + 1) * step + (2 * (twice / 2 % step) - step) = omega arith in
            let left : twice % step ≡ 2 * (twice / 2 % step) - step =
            ap (λ n. n % step) e ∙ mod-mul-add (2 * (twice / 2 / step) + 1) step (2 * (twice / 2 % step) - step) small in
            inr (more, ap (λ n. n / step) e ∙ div-mul-add (2 * (twice / 2 / step) + 1) step (2 * (twice / 2 % step) - step) small, omega arith)
      ];
    }

pub nearest_less : (below rest step : ℕ) → 2 * rest < step → nearest below rest step ≡ below
nearest_less below rest step h = rw (lt-ltb (2 * rest) step h) refl

pub nearest_more : (below rest step : ℕ) → step < 2 * rest → nearest below rest step ≡ below + 1
nearest_more below rest step h = rw (le-ltb (2 * rest) step (omega arith), lt-ltb step (2 * rest) h) refl

pub nearest_half : (below rest step : ℕ) → step ≡ 2 * rest → nearest below rest step ≡ below + below % 2
nearest_half below rest step h = rw (le-ltb (2 * rest) step (omega arith), le-ltb step (2 * rest) (omega arith)) refl

round_even : (below rest halves left step : ℕ) → Halves below rest halves left step → halves % 2 ≡ 0 → halves / 2 ≡ nearest below rest step
round_even below rest halves left step h e = elim h.is [
  | inl less ↦ omega (arith, nearest_less below rest step less.0, less.1)
  | inr more ↦ absurd (omega (arith, more.1))
]

round_half : (below rest halves left step : ℕ) → Halves below rest halves left step → halves % 2 ≢ 0 → left ≡ 0
    → halves / 2 + halves / 2 % 2 ≡ nearest below rest step
round_half below rest halves left step h e z = elim h.is [
  | inl less ↦ absurd (omega (arith, less.1))
  | inr more ↦
      let same : halves / 2 ≡ below = omega (arith, more.1) in
      rw same (sym (nearest_half below rest step (omega (arith, more.2))))
]

round_up : (below rest halves left step : ℕ) → Halves below rest halves left step → halves % 2 ≢ 0 → 0 < left
    → halves / 2 + 1 ≡ nearest below rest step
round_up below rest halves left step h e z = elim h.is [
  | inl less ↦ absurd (omega (arith, less.1))
  | inr more ↦
      let same : halves / 2 ≡ below = omega (arith, more.1) in
      rw same (sym (nearest_more below rest step (omega (arith, more.2))))
]

pub rounded_even : (twice places halves : ℕ) → twice % 2 ≡ 0 → halves ≡ twice / 10 ^ places → halves % 2 ≡ 0
    → halves / 2 ≡ rounded (twice / 2) places
rounded_even twice places halves e h z =
    rw h (round_even _ _ _ _ _ (halves_of twice (10 ^ places) (ten_pow places) e) (subst (λ n. n % 2 ≡ 0) h z))

pub rounded_half : (twice places halves : ℕ) → twice % 2 ≡ 0 → halves ≡ twice / 10 ^ places → halves % 2 ≢ 0 → true ≡ (twice % 10 ^ places == 0)
    → halves / 2 + halves / 2 % 2 ≡ rounded (twice / 2) places
rounded_half twice places halves e h z t =
    rw h (round_half _ _ _ _ _ (halves_of twice (10 ^ places) (ten_pow places) e) (subst (λ n. n % 2 ≢ 0) h z) (true_zero (twice % 10 ^ places) t))

pub rounded_up : (twice places halves : ℕ) → twice % 2 ≡ 0 → halves ≡ twice / 10 ^ places → halves % 2 ≢ 0 → false ≡ (twice % 10 ^ places == 0)
    → halves / 2 + 1 ≡ rounded (twice / 2) places
rounded_up twice places halves e h z t =
    rw h (round_up _ _ _ _ _ (halves_of twice (10 ^ places) (ten_pow places) e) (subst (λ n. n % 2 ≢ 0) h z) (false_zero (twice % 10 ^ places) t))

-- a multiple of a step beside another number
pub times_less : (number other step : ℕ) → 0 < step → number < other / step → number * step < other
times_less number other step some h =
    omega (arith, div-add-mod' other step, mul-le (number + 1) step (other / step) step (omega arith) (omega arith))

pub times_more : (number other step : ℕ) → 0 < step → other / step < number → other < number * step
times_more number other step some h =
    omega (arith, div-add-mod' other step, mod_below other step some, mul-le (other / step + 1) step number step (omega arith) (omega arith))

pub above_other : (equal : Bool) (low number step least : ℕ) → 0 < step → least ≡ low / step → number ≢ least
    → nat_lt least number ≡ is_from equal low (number * step)
above_other equal low number step least some e ne = elim (cases_lt least number) [
  | inl less ↦ lt-ltb least number less ∙ sym (from_less equal low (number * step) (times_more number low step some (omega arith)))
  | inr more ↦ le-ltb least number more ∙ sym (from_more equal low (number * step) (times_less number low step some (omega arith)))
]

pub below_other : (equal : Bool) (high number step most : ℕ) → 0 < step → most ≡ high / step → number ≢ most
    → nat_lt number most ≡ is_from equal (number * step) high
below_other equal high number step most some e ne = elim (cases_lt number most) [
  | inl less ↦ lt-ltb number most less ∙ sym (from_less equal (number * step) high (times_less number high step some (omega arith)))
  | inr more ↦ le-ltb number most more ∙ sym (from_more equal (number * step) high (times_more number high step some (omega arith)))
]

pub above_same_odd : (equal : Bool) (low number step : ℕ) → equal ≡ false → number ≡ low / step → false ≡ is_from equal low (number * step)
above_same_odd equal low number step o e =
    let whole : number * step ≤ low = rw e (omega (arith, div-add-mod' low step)) in
    rw o (sym (le-ltb low (number * step) whole))

pub below_same_even : (equal : Bool) (high number step : ℕ) → equal ≡ true → number ≡ high / step → true ≡ is_from equal (number * step) high
below_same_even equal high number step o e =
    let whole : number * step ≤ high = rw e (omega (arith, div-add-mod' high step)) in
    rw o (sym (le-leb (number * step) high whole))

pub above_same_even : (equal : Bool) (low number step : ℕ) → equal ≡ true → number ≡ low / step → (low % step == 0) ≡ is_from equal low (number * step)
above_same_even equal low number step o e =
    let whole : number * step + low % step ≡ low = rw e (div-add-mod' low step) in
    rw o (elim (cases_lt 0 (low % step)) [
      | inl some ↦ sym (not_zero (low % step) some) ∙ sym (lt-leb low (number * step) (omega arith))
      | inr none ↦ sym (is_zero (low % step) (omega arith)) ∙ sym (le-leb low (number * step) (omega arith))
    ])

pub below_same_odd : (equal : Bool) (high number step : ℕ) → equal ≡ false → number ≡ high / step → not (high % step == 0) ≡ is_from equal (number * step) high
below_same_odd equal high number step o e =
    let whole : number * step + high % step ≡ high = rw e (div-add-mod' high step) in
    rw o (elim (cases_lt 0 (high % step)) [
      | inl some ↦ ap not (sym (not_zero (high % step) some)) ∙ sym (lt-ltb (number * step) high (omega arith))
      | inr none ↦ ap not (sym (is_zero (high % step) (omega arith))) ∙ sym (le-ltb (number * step) high (omega arith))
    ])

-- the nearest number is the one below or the one above
pub nearest_near : (below rest step : ℕ)
    → ((nearest below rest step ≡ below) × (2 * rest ≤ step)) ⊎ ((nearest below rest step ≡ below + 1) × (step ≤ 2 * rest))
nearest_near below rest step = elim (cases_order (2 * rest) step) [
  | inl same ↦ elim (cases_lt (below % 2) 1) [
    | inl even ↦ inl (nearest_half below rest step (sym same) ∙ omega arith, omega arith)
    | inr odd ↦ inr (nearest_half below rest step (sym same) ∙ omega arith, omega arith)
  ]
  | inr other ↦ elim other [
    | inl less ↦ inl (nearest_less below rest step less, omega arith)
    | inr more ↦ inr (nearest_more below rest step more, omega arith)
  ]
]

abbrev the_span : ℕ → ℕ → ℕ → Bool → Span
the_span number low high even = record { number = number; low = low; high = high; even = even }

true-ne-false : true ≡ false → ⊥
true-ne-false e = cc

clash : (b : Bool) → b ≡ true → b ≡ false → ⊥
clash true p q = true-ne-false q
clash false p q = true-ne-false (sym p)

neither : (a b : Bool) → b ≡ false → (a && b) ≡ false
neither true b e = e
neither false b e = refl

both : (a b : Bool) → a ≡ true → b ≡ true → (a && b) ≡ true
both a b p q = rw (p, q) refl

-- a step that is no longer than the unit always reads back
pub wide_reads : (span : Span) (w : IsWide span) (number step : ℕ) → 0 < step → step ≤ w.unit
    → number ≡ nearest (span.number / step) (span.number % step) step → is_read span (number * step) ≡ true
wide_reads span w number step some small e =
    let whole : span.number / step * step + span.number % step ≡ span.number = div-add-mod' span.number step in
    let near : span.number % step < step = mod_below span.number step some in
    elim (nearest_near (span.number / step) (span.number % step) step) [
      | inl down ↦
          let same : number ≡ span.number / step = e ∙ down.0 in
          let is : number * step ≡ span.number / step * step = ap (λ n. n * step) same in
          both _ _ (from_less span.even span.low (number * step) (omega (arith, w.below)))
          (from_less span.even (number * step) span.high (omega (arith, w.above, w.some)))
      | inr up ↦
          let same : number ≡ span.number / step + 1 = e ∙ up.0 in
          let is : number * step ≡ span.number / step * step + step = ap (λ n. n * step) same ∙ omega arith in
          both _ _ (from_less span.even span.low (number * step) (omega (arith, w.below, w.some)))
          (from_less span.even (number * step) span.high (omega (arith, w.above, up.1)))
    ]

wide_back : (span : Span) (w : IsWide span) (places : ℕ) → 10 ^ places ≤ w.unit → reads_back span places ≡ true
unfolding reads_back
wide_back span w places small = wide_reads span w (rounded span.number places) (10 ^ places) (ten_pow places) small refl

-- a step above all reads as 0 or as itself
too_many : (span : Span) (w : IsWide span) (number step : ℕ) → 0 < step → span.high < step
    → number ≡ nearest (span.number / step) (span.number % step) step → is_read span (number * step) ≡ false
too_many span w number step some far e =
    let none : span.number / step ≡ 0 = div-eq_of_lt (omega (arith, w.above)) in
    elim (nearest_near (span.number / step) (span.number % step) step) [
      | inl down ↦
          let same : number ≡ 0 = e ∙ down.0 ∙ none in
          let is : number * step ≡ 0 = ap (λ n. n * step) same ∙ omega arith in
          rw (from_more span.even span.low (number * step) (omega (arith, w.positive))) refl
      | inr up ↦
          let same : number ≡ 1 = e ∙ up.0 ∙ ap (λ n. n + 1) none in
          let is : number * step ≡ step = ap (λ n. n * step) same ∙ omega arith in
          neither _ _ (from_more span.even (number * step) span.high (omega arith))
    ]

too_many_back : (span : Span) (w : IsWide span) (places : ℕ) → span.high < 10 ^ places → reads_back span places ≡ false
unfolding reads_back
too_many_back span w places far = too_many span w (rounded span.number places) (10 ^ places) (ten_pow places) far refl

pow_grows : (span : Span) (a k : ℕ) → span.high < 10 ^ a → span.high < 10 ^ (k + a)
pow_grows span a zero h = let e : 0 + a ≡ a = omega arith in rw e h
pow_grows span a (suc k) h =
    let e : suc k + a ≡ suc (k + a) = omega arith in
    rw (e, pow-suc 10 (k + a)) (omega (arith, pow_grows span a k h))

settled : (span : Span) (w : IsWide span) (a k : ℕ) → span.high < 10 ^ a → places_up_to span (k + a) ≡ places_up_to span a
settled span w a zero h = let e : 0 + a ≡ a = omega arith in rw e refl
settled span w a (suc k) h =
    let e : suc k + a ≡ suc (k + a) = omega arith in
    rw (e, too_many_back span w (suc (k + a)) (subst (λ n. span.high < 10 ^ n) e (pow_grows span a (suc k) h))) (settled span w a k h)

below_power : (n : ℕ) → n < 10 ^ n
below_power zero = omega arith
below_power (suc n) = rw (pow-suc 10 n) (omega (arith, below_power n))

pub places_start : (span : Span) (w : IsWide span) (a : ℕ) → span.high < 10 ^ a → places_of span ≡ places_up_to span a
places_start span w a h = elim (cases_lt a span.high) [
  | inl less ↦
      let e : span.high ≡ (span.high - a) + a = omega arith in
      ap (places_up_to span) e ∙ settled span w a (span.high - a) h
  | inr more ↦
      let e : (a - span.high) + span.high ≡ a = omega arith in
      sym (settled span w span.high (a - span.high) (below_power span.high)) ∙ ap (places_up_to span) e
]

pub places_next : (span : Span) (w : IsWide span) (places next total : ℕ) → places ≡ suc next → total ≡ places_up_to span places
    → false ≡ reads_back span places → (total ≡ places_up_to span next) × (span.high < 2 ^ 62 * 10 ^ next)
places_next span w places next total e h r =
    let failed : reads_back span (suc next) ≡ false = sym (subst (λ n. false ≡ reads_back span n) e r) in
    let up : total ≡ places_up_to span (suc next) = subst (λ n. total ≡ places_up_to span n) e h in (
      up ∙ rw failed refl,
      elim (cases_lt w.unit (10 ^ suc next)) [
        | inl less ↦ omega (arith, w.few, pow-suc 10 next)
        | inr more ↦ absurd (clash (reads_back span (suc next)) (wide_back span w (suc next) more) failed)
      ],
    )

pub reads_both : (span : Span) (places number : ℕ) (below : Bool) → number ≡ rounded span.number places
    → true ≡ is_from span.even span.low (number * 10 ^ places) → below ≡ is_from span.even (number * 10 ^ places) span.high
    → below ≡ reads_back span places
unfolding reads_back
reads_both span places number below e a h =
    h ∙ ap (λ b. b && is_from span.even (number * 10 ^ places) span.high) a
    ∙ ap (λ n. is_from span.even span.low (n * 10 ^ places) && is_from span.even (n * 10 ^ places) span.high) e

pub reads_not : (span : Span) (places number : ℕ) → number ≡ rounded span.number places
    → false ≡ is_from span.even span.low (number * 10 ^ places) → false ≡ reads_back span places
unfolding reads_back
reads_not span places number e a =
    ap (λ b. b && is_from span.even (number * 10 ^ places) span.high) a
    ∙ ap (λ n. is_from span.even span.low (n * 10 ^ places) && is_from span.even (n * 10 ^ places) span.high) e

same_span : (a b c d e f : ℕ) (even : Bool) → a ≡ d → b ≡ e → c ≡ f
    → the_span a b c even ≡ the_span d e f even
same_span a b c d e f even p q r = rw (p, q, r) refl

pub span_is : (twice low high : List ℕ) (significand unit gap : ℕ) (narrow : Bool) → gap ≡ (if narrow then 1 else 2)
    → number_of twice ≡ unit * (8 * significand) → number_of low ≡ unit * (4 * significand - gap) → number_of high ≡ unit * (4 * significand + 2)
    → held twice low high (significand % 2 == 0) ≡ span_of significand narrow unit
span_is twice low high significand unit gap narrow g t l h =
    same_span (number_of twice / 2) (number_of low) (number_of high) (4 * significand * unit)
    ((4 * significand - (if narrow then 1 else 2)) * unit) ((4 * significand + 2) * unit) (significand % 2 == 0)
    (let e : number_of twice ≡ 2 * (4 * significand * unit) = t ∙ omega arith in omega arith)
    (l ∙ ap (λ n. unit * (4 * significand - n)) g ∙ mul_comm unit (4 * significand - (if narrow then 1 else 2)))
    (h ∙ mul_comm unit (4 * significand + 2))

pub span_wide : (twice low high : List ℕ) (significand unit gap : ℕ) (even : Bool) → 0 < unit → 0 < significand → significand < 2 ^ 53 → 1 ≤ gap → gap ≤ 2
    → number_of twice ≡ unit * (8 * significand) → number_of low ≡ unit * (4 * significand - gap) → number_of high ≡ unit * (4 * significand + 2)
    → IsWide (held twice low high even)
span_wide twice low high significand unit gap even u s b g g2 t l h =
    let half : number_of twice / 2 ≡ 4 * significand * unit = let e : number_of twice ≡ 2 * (4 * significand * unit) = t ∙ omega arith in omega arith in
    record {
      unit = unit;
      some = u;
      positive = omega (arith, mul-le unit 1 unit (4 * significand - gap) (omega arith) (omega arith));
      below = omega (arith, mul-le unit ((4 * significand - gap) + 1) unit (4 * significand) (omega arith) (omega arith));
      above = omega arith;
      few = omega (arith, mul-le unit (4 * significand + 2) unit (2 ^ 56) (omega arith) (omega arith));
    }
