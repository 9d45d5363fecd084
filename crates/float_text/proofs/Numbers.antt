-- Numbers as lists of digits.
use Rattle.std.proofs.Common.{◌≡◌, ℕ, zero, suc, ◌+◌, ◌*◌, ◌/◌, ◌%◌, ◌^◌, ◌<◌, ◌≤◌, ◌-◌, ◌⊎◌, inl, inr, min, true, false, ◌==◌, List, [], ◌∷◌, ◌++◌, length, get_or, take, drop, refl, sym, ap, subst, ◌∙◌, arith, length-append, add-one}
use Rattle.std.proofs.Math.Nat.{pow-suc, one-le-pow, pow-le-pow_left, pow-le-pow_right}
use Rattle.std.proofs.lemmas.Nat.{div-mul-add, mod-mul-add, pow-add, div_below, mul-le}
use Rattle.std.proofs.lemmas.Bool.{eq-eqb, ne_eqb, eqb-true, eqb-false}
use Rattle.float_text.specs.Digits.{number_of, AreDigits}

pub ten_pow : (n : ℕ) → 0 < 10 ^ n
ten_pow n = omega (arith, one-le-pow n 10 (omega arith))

pub number_push : (digits : List ℕ) (digit : ℕ) → number_of (digits ++ digit ∷ []) ≡ number_of digits + 10 ^ length digits * digit
number_push [] digit = omega arith
number_push (d ∷ digits) digit = rw (number_push digits digit, pow-suc 10 (length digits)) (omega arith)

pub digits_push : (digits : List ℕ) (digit : ℕ) → AreDigits digits → digit < 10 → AreDigits (digits ++ digit ∷ [])
digits_push [] digit h d = (d, tt)
digits_push (x ∷ xs) digit h d = (h.0, digits_push xs digit h.1 d)

-- one more digit, and what is carried
pub number_step : (digits : List ℕ) (low high : ℕ)
    → number_of (digits ++ low ∷ []) + 10 ^ length (digits ++ low ∷ []) * high ≡ number_of digits + 10 ^ length digits * (low + 10 * high)
number_step digits low high = rw (number_push digits low, length-append digits (low ∷ []), add-one, pow-suc 10 (length digits)) (omega arith)

pub times_step : (product : List ℕ) (digit rest factor carry total low high : ℕ)
    → number_of product + 10 ^ length product * (carry + factor * (digit + 10 * rest)) ≡ total
    → digit * factor + carry ≡ low + 10 * high
    → number_of (product ++ low ∷ []) + 10 ^ length (product ++ low ∷ []) * (high + factor * rest) ≡ total
times_step product digit rest factor carry total low high h e =
    let inner : low + 10 * (high + factor * rest) ≡ carry + factor * (digit + 10 * rest) = omega arith in
    rw (number_step product low (high + factor * rest), inner) h

pub digit_at : (digits : List ℕ) (place : ℕ) → AreDigits digits → get_or digits place 0 < 10
digit_at [] place h = omega arith
digit_at (d ∷ ds) zero h = h.0
digit_at (d ∷ ds) (suc place) h = digit_at ds place h.1

pub split : (digits : List ℕ) (places : ℕ) → number_of digits ≡ number_of (drop places digits) * 10 ^ places + number_of (take places digits)
split digits zero = omega arith
split [] (suc places) = omega arith
split (d ∷ ds) (suc places) = rw (pow-suc 10 places) (omega (arith, split ds places))

pub take_below : (digits : List ℕ) (places : ℕ) → AreDigits digits → number_of (take places digits) < 10 ^ places
take_below digits zero h = omega arith
take_below [] (suc places) h = ten_pow (suc places)
take_below (d ∷ ds) (suc places) h = rw (pow-suc 10 places) (omega (arith, take_below ds places h.1, h.0))

pub without_is : (digits : List ℕ) (places : ℕ) → AreDigits digits → number_of (drop places digits) ≡ number_of digits / 10 ^ places
without_is digits places h = rw (split digits places) (sym (div-mul-add (number_of (drop places digits)) (10 ^ places) (number_of (take places digits)) (take_below digits places h)))

pub last_is : (digits : List ℕ) (places : ℕ) → AreDigits digits → number_of (take places digits) ≡ number_of digits % 10 ^ places
last_is digits places h = rw (split digits places) (sym (mod-mul-add (number_of (drop places digits)) (10 ^ places) (number_of (take places digits)) (take_below digits places h)))

pub drop_step : (digits : List ℕ) (place : ℕ) → number_of (drop place digits) ≡ get_or digits place 0 + 10 * number_of (drop (suc place) digits)
drop_step [] zero = omega arith
drop_step [] (suc place) = omega arith
drop_step (d ∷ ds) zero = refl
drop_step (d ∷ ds) (suc place) = drop_step ds place

pub drop_less : (digits : List ℕ) (place more : ℕ) → number_of (drop (more + place) digits) ≤ number_of (drop place digits)
drop_less digits place zero = let e : 0 + place ≡ place = omega arith in rw e (omega arith)
drop_less digits place (suc more) =
    let e : suc more + place ≡ suc (more + place) = omega arith in
    rw e (omega (arith, drop_less digits place more, drop_step digits (more + place)))

pub number_below : (digits : List ℕ) → AreDigits digits → number_of digits < 10 ^ length digits
number_below [] h = omega arith
number_below (d ∷ ds) h = rw (pow-suc 10 (length ds)) (omega (arith, number_below ds h.1, h.0))

pub drop_all : (digits : List ℕ) (place : ℕ) → length digits ≤ place → number_of (drop place digits) ≡ 0
drop_all [] zero h = refl
drop_all [] (suc place) h = refl
drop_all (d ∷ ds) zero h = absurd (omega arith)
drop_all (d ∷ ds) (suc place) h = drop_all ds place (omega arith)

pub zeros_more : (digits : List ℕ) (place : ℕ) → number_of (take place digits) ≡ 0 → get_or digits place 0 ≡ 0 → number_of (take (suc place) digits) ≡ 0
zeros_more [] place h z = refl
zeros_more (d ∷ ds) zero h z = omega arith
zeros_more (d ∷ ds) (suc place) h z = omega (arith, zeros_more ds place (omega arith) z)

pub zeros_end : (digits : List ℕ) (place places : ℕ) → place ≡ min places (length digits) → number_of (take place digits) ≡ number_of (take places digits)
zeros_end [] zero zero e = refl
zeros_end [] zero (suc places) e = refl
zeros_end [] (suc place) zero e = refl
zeros_end [] (suc place) (suc places) e = refl
zeros_end (d ∷ ds) zero zero e = refl
zeros_end (d ∷ ds) zero (suc places) e = absurd (omega arith)
zeros_end (d ∷ ds) (suc place) zero e = absurd (omega arith)
zeros_end (d ∷ ds) (suc place) (suc places) e = ap (λ n. d + 10 * n) (zeros_end ds place places (omega arith))

pub not_zeros : (digits : List ℕ) (place places : ℕ) → place < places → 0 < get_or digits place 0 → 0 < number_of (take places digits)
not_zeros [] place places p d = absurd (omega arith)
not_zeros (x ∷ xs) place zero p d = absurd (omega arith)
not_zeros (x ∷ xs) zero (suc places) p d = omega arith
not_zeros (x ∷ xs) (suc place) (suc places) p d = omega (arith, not_zeros xs place places (omega arith) d)

-- digits so far, and what is carried to those that follow
pub record Carried (product : List ℕ) (carry total : ℕ) : Type 0 where
  pub number : number_of product + 10 ^ length product * carry ≡ total
  pub digits : AreDigits product

pub carry_next : (product pushed : List ℕ) (carry total : ℕ) → Carried product carry total → pushed ≡ product ++ carry % 10 ∷ []
    → Carried pushed (carry / 10) total
carry_next product pushed carry total h e =
    let whole : carry % 10 + 10 * (carry / 10) ≡ carry = omega arith in
    let number : number_of (product ++ carry % 10 ∷ []) + 10 ^ length (product ++ carry % 10 ∷ []) * (carry / 10) ≡ total =
    number_step product (carry % 10) (carry / 10) ∙ ap (λ n. number_of product + 10 ^ length product * n) whole ∙ h.number in
    subst (λ items. Carried items (carry / 10) total) (sym e)
    (record { number = number; digits = digits_push product (carry % 10) h.digits (omega arith) })

pub times_next : (digits product pushed : List ℕ) (index digit factor carry total : ℕ)
    → digit ≡ get_or digits index 0
    → Carried product (carry + factor * number_of (drop index digits)) total
    → pushed ≡ product ++ (digit * factor + carry) % 10 ∷ []
    → Carried pushed ((digit * factor + carry) / 10 + factor * number_of (drop (index + 1) digits)) total
times_next digits product pushed index digit factor carry total d h e =
    let rest : number_of (drop index digits) ≡ digit + 10 * number_of (drop (index + 1) digits) = rw (d, add-one) (drop_step digits index) in
    let before : number_of product + 10 ^ length product * (carry + factor * (digit + 10 * number_of (drop (index + 1) digits))) ≡ total =
    subst (λ n. number_of product + 10 ^ length product * (carry + factor * n) ≡ total) rest h.number in
    subst (λ items. Carried items ((digit * factor + carry) / 10 + factor * number_of (drop (index + 1) digits)) total) (sym e)
    (record {
      number = times_step product digit (number_of (drop (index + 1) digits)) factor carry total ((digit * factor + carry) % 10) ((digit * factor + carry) / 10) before (omega arith);
      digits = digits_push product ((digit * factor + carry) % 10) h.digits (omega arith);
    })

pub power_next : (number next base left step total : ℕ) → step ≤ left → next ≡ number * base ^ step → number * base ^ left ≡ total
    → next * base ^ (left - step) ≡ total
power_next number next base left step total s e h =
    let apart : base ^ left ≡ base ^ (left - step) * base ^ step = ap (λ n. base ^ n) (omega arith) ∙ pow-add base (left - step) step in
    let h2 : number * (base ^ (left - step) * base ^ step) ≡ total = subst (λ n. number * n ≡ total) apart h in
    rw e (omega arith)

pub record Above (digits : List ℕ) (places place number : ℕ) : Type 0 where
  pub is : number ≡ number_of (drop place digits)
  pub within : place ≤ length digits
  pub far : (places ≤ place) ⊎ (place ≡ length digits)

pub above_next : (digits : List ℕ) (places place next number digit : ℕ) → place ≡ next + 1 → places ≤ next → digit ≡ get_or digits next 0
    → Above digits places place number → Above digits places next (number * 10 + digit)
above_next digits places place next number digit p far d h = record {
  is = subst (λ n. n * 10 + digit ≡ number_of (drop next digits)) (sym h.is)
      (rw (p, add-one, d) (omega (arith, drop_step digits next)));
  within = omega (arith, h.within);
  far = inl far;
}

pub above_small : (digits : List ℕ) (places place number : ℕ) → AreDigits digits → places ≤ place → number_of digits < 2 ^ 63 * 10 ^ places
    → number ≡ number_of (drop place digits) → number < 2 ^ 63
above_small digits places place number h far small e =
    let less : number_of (drop ((place - places) + places) digits) ≤ number_of (drop places digits) = drop_less digits places (place - places) in
    let same : (place - places) + places ≡ place = omega arith in
    let most : number_of digits / 10 ^ places < 2 ^ 63 = div_below (number_of digits) (10 ^ places) (2 ^ 63) (ten_pow places) small in
    let less2 : number_of (drop place digits) ≤ number_of (drop places digits) = subst (λ n. number_of (drop n digits) ≤ number_of (drop places digits)) same less in
    omega (arith, without_is digits places h)

pub above_fits : (digits : List ℕ) (places place next number : ℕ) → AreDigits digits → place ≡ next + 1 → places ≤ next
    → Above digits places place number → number_of digits < 2 ^ 63 * 10 ^ places → number * 10 + get_or digits next 0 < 2 ^ 63
above_fits digits places place next number d p far h small =
    above_small digits places next (number * 10 + get_or digits next 0) d far small
    (above_next digits places place next number (get_or digits next 0) p far refl h).is

pub above_end : (digits : List ℕ) (places place number : ℕ) → AreDigits digits → place ≤ places → Above digits places place number
    → number ≡ number_of digits / 10 ^ places
above_end digits places place number d p h = elim h.far [
  | inl far ↦ h.is ∙ ap (λ n. number_of (drop n digits)) (omega arith) ∙ without_is digits places d
  | inr all ↦ h.is ∙ drop_all digits place (omega arith) ∙ sym (drop_all digits places (omega arith)) ∙ without_is digits places d
]

pub is_zero : (n : ℕ) → n ≡ 0 → true ≡ (n == 0)
is_zero n e = sym (eq-eqb n 0 e)

pub not_zero : (n : ℕ) → 0 < n → false ≡ (n == 0)
not_zero n h = sym (ne_eqb n 0 (λ e. omega arith))

pub true_zero : (n : ℕ) → true ≡ (n == 0) → n ≡ 0
true_zero n e = eqb-true n 0 (sym e)

pub false_zero : (n : ℕ) → false ≡ (n == 0) → 0 < n
false_zero n e = let apart : n ≡ 0 → ⊥ = eqb-false n 0 (sym e) in omega arith

pub zeros_so_far : (digits : List ℕ) (place : ℕ) → number_of (take place digits) ≡ 0 → get_or digits place 0 ≡ 0 → number_of (take (place + 1) digits) ≡ 0
zeros_so_far digits place h z = rw add-one (zeros_more digits place h z)

pub all_zeros : (digits : List ℕ) (place places : ℕ) → AreDigits digits → place ≡ min places (length digits) → number_of (take place digits) ≡ 0
    → true ≡ (number_of digits % 10 ^ places == 0)
all_zeros digits place places d e h = is_zero (number_of digits % 10 ^ places) (sym (last_is digits places d) ∙ sym (zeros_end digits place places e) ∙ h)

pub some_digit : (digits : List ℕ) (place places : ℕ) → AreDigits digits → place < places → 0 < get_or digits place 0
    → false ≡ (number_of digits % 10 ^ places == 0)
some_digit digits place places d p h = not_zero (number_of digits % 10 ^ places) (subst (λ n. 0 < n) (last_is digits places d) (not_zeros digits place places p h))

-- a power of a small base fits
pub small_power : (base step : ℕ) → base ≤ 5 → step ≤ 23 → base ^ step ≤ 11920928955078125
small_power base step b s = omega (arith, pow-le-pow_left b step, pow-le-pow_right {n = 5} (omega arith) s)

pub unit_some : (one power unit twos fives : ℕ) → one ≡ 1 → power ≡ one * 2 ^ twos → unit ≡ power * 5 ^ fives → 0 < unit
unit_some one power unit twos fives o p u =
    let two : 1 ≤ 2 ^ twos = one-le-pow twos 2 (omega arith) in
    let five : 1 ≤ 5 ^ fives = one-le-pow fives 5 (omega arith) in
    let e : unit ≡ 2 ^ twos * 5 ^ fives = u ∙ ap (λ n. n * 5 ^ fives) (p ∙ ap (λ n. n * 2 ^ twos) o ∙ omega arith) in
    omega (arith, mul-le 1 1 (2 ^ twos) (5 ^ fives) two five)
