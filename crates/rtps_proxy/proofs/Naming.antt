-- The missing numbers that an answer names.
use Rattle.std.proofs.Common.{◌≡◌, ℕ, suc, ◌+◌, ◌-◌, ◌%◌, ◌^◌, Bool, false, not, List, refl, sym, ◌∙◌, ap, arith, leb, ltb, eqb, inl, inr, max, min, replicate}
use Rattle.std.proofs.lemmas.Bool.Decides.{nat_tests, leb_tells}
use Rattle.rtps_types.specs.Named.{bits_of, with_bits}
use Rattle.rtps_types.specs.NumberSet.{NumberSet}
use Rattle.rtps_types.specs.Numbers.{lacks, failing_from}
use Rattle.rtps_types.specs.Sets.{frag_view, sn_view}
use Rattle.rtps_types.specs.declared.locator.Locator.{Locator}
use Rattle.rtps_types.specs.declared.set.SnSet.{SnSet}
use Rattle.rtps_types.specs.declared.number.Number.{Number}
use Rattle.rtps_types.specs.declared.set.FragSet.{FragSet}
use Rattle.rtps_types.specs.Number.{value_of}
use Rattle.rtps_wire.specs.AckNack.{acknack_octets}
use Rattle.rtps_wire.specs.NackFrag.{nack_frag_octets}
use Rattle.rtps_proxy.specs.Answer.{Acknack}
use Rattle.rtps_proxy.specs.Kept.{Pairing}
use Rattle.rtps_proxy.specs.NackFrag.{Nack, nack_by}
use Rattle.rtps_proxy.specs.Replies.{nack_of, reply_of, set_of}
use Rattle.rtps_proxy.specs.Runs.{AreApart, Run, marks}
use Rattle.rtps_proxy.proofs.Standing.{lacks_is, marks_at}

-- flag F is set exactly where no bit reaches a number
no_bits : (p : ℕ → Bool) (base announced : ℕ) → p base ≡ false → eqb (bits_of base (failing_from p base (min 256 (announced + 1 - base)))) 0 ≡ ltb announced base
no_bits p base announced fails =
    elim (leb_tells (suc announced) base) [
      | inl w ↦ (
          let none : min 256 (announced + 1 - base) ≡ 0 = omega arith in
          rw (none, w.0) refl
          )
      | inr w ↦ (
          let some : min 256 (announced + 1 - base) ≡ suc (min 256 (announced + 1 - base) - 1) = omega arith in
          rw (some, w.0, fails) (reached (bits_of base (failing_from p (suc base) (min 256 (announced + 1 - base) - 1))))
          )
    ]
  where
    reached : (n : ℕ) → eqb (max (base + 1 - base) n) 0 ≡ false
    reached n = grind (arith, nat_tests)

-- the set has no bit exactly if nothing is missing
pub final_is : (f : ℕ) (rs : List Run) → AreApart f rs → (announced : ℕ) → eqb (bits_of f (failing_from (marks f rs) f (min 256 (announced + 1 - f)))) 0 ≡ not (lacks (marks f rs) announced)
final_is f rs apart announced =
    let tests : ltb announced f ≡ not (leb f announced) = grind (arith, nat_tests) in
    no_bits (marks f rs) f announced (marks_at f rs apart) ∙ tests ∙ ap not (sym (lacks_is f rs apart announced))

-- the octets that are written say the answer
pub octets_are : (w : Pairing) (a : Acknack) (missing : SnSet) → sn_view missing ≡ set_of a → eqb a.bits 0 ≡ a.final → acknack_octets (record { reader = record { prefix = w.own; entity = w.reader }; writer = w.writer; missing = missing; count = a.count }) ≡ (reply_of w a).octets
unfolding acknack_octets reply_of
octets_are w a missing is final =
    let base : missing.base ≡ a.base = ap (λ (s : NumberSet). s.base) is in
    let bits : missing.bits ≡ a.bits = ap (λ (s : NumberSet). s.bits) is in
    let words : missing.words ≡ with_bits a.base (replicate 8 0) a.members = ap (λ (s : NumberSet). s.words) is in
    rw (base, bits, words, final) refl

pub sent_is : (w : Pairing) (a : Acknack) (to : List Locator) (octets : List ℕ) → to ≡ w.locators → octets ≡ (reply_of w a).octets → record { to = to; octets = octets } ≡ reply_of w a
unfolding reply_of
sent_is w a to octets where_to what = rw (where_to, what) refl

pub nack_octets_are : (w : Pairing) (number : Number) (earlier count : ℕ) (missing : FragSet) → count ≡ (earlier + 1) % 2 ^ 32
    → nack_frag_octets (record { reader = record { prefix = w.own; entity = w.reader }; writer = w.writer; number = number; missing = missing; count = count }) ≡ (nack_of w (nack_by (value_of number) earlier (frag_view missing))).octets
unfolding nack_frag_octets nack_of
nack_octets_are w number earlier count missing is = rw is refl

pub nack_is : (w : Pairing) (a : Nack) (to : List Locator) (octets : List ℕ) → to ≡ w.locators → octets ≡ (nack_of w a).octets → record { to = to; octets = octets } ≡ nack_of w a
unfolding nack_of
nack_is w a to octets where_to what = rw (where_to, what) refl
