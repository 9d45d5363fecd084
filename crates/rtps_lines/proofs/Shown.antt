-- What a line has of a guid is what is displayed of it, and an address and its port are joined from
-- the left or from the right.
use Rattle.std.proofs.Common.{◌≡◌, ℕ, ◌<◌, ◌/◌, ◌%◌, List, [], ◌∷◌, ◌++◌, length, slice_index, append_assoc, refl, sym, ap, ◌∙◌, arith}
use Rattle.hex.specs.Hex.{encode_lower, encode_with, lower_digits}
use Rattle.rtps_types.specs.declared.identity.Guid.{Guid}
use Rattle.rtps_types.specs.Order.{guid_octets}
use Rattle.rtps_ascii.specs.Hex.{hex_text}
use Rattle.rtps_lines.specs.Guid.{guid_text}

-- the digits of two lists, one after the other
encoded_both : (xs ys : List ℕ) → encode_lower (xs ++ ys) ≡ encode_lower xs ++ encode_lower ys
unfolding encode_with
encoded_both [] ys = refl
encoded_both (x ∷ xs) ys = ap (λ l. slice_index lower_digits (x / 16) ∷ slice_index lower_digits (x % 16) ∷ l) (encoded_both xs ys)

-- some octets are no dash
some_octets : (xs : List ℕ) → 0 < length xs → hex_text xs ≡ encode_lower xs
some_octets [] h = absurd (omega arith)
some_octets (x ∷ xs) h = refl

pub guid_shown : (g : Guid) → length g.prefix.0 ≡ 12 → length g.entity.0 ≡ 4 → guid_text g ≡ encode_lower (guid_octets g)
guid_shown g twelve four =
    rw (some_octets g.prefix.0 (omega (arith, twelve)), some_octets g.entity.0 (omega (arith, four)))
    (sym (encoded_both g.prefix.0 g.entity.0))

-- the texts of an address and a port are joined from the left or from the right
pub joined : (x y a b c d e : List ℕ)
    → a ++ (x ++ (b ++ (x ++ (c ++ (x ++ (d ++ (y ++ e))))))) ≡ (((((((a ++ x) ++ b) ++ x) ++ c) ++ x) ++ d) ++ y) ++ e
joined x y a b c d e =
    sym (append_assoc a x (b ++ (x ++ (c ++ (x ++ (d ++ (y ++ e)))))))
    ∙ sym (append_assoc (a ++ x) b (x ++ (c ++ (x ++ (d ++ (y ++ e))))))
    ∙ sym (append_assoc ((a ++ x) ++ b) x (c ++ (x ++ (d ++ (y ++ e)))))
    ∙ sym (append_assoc (((a ++ x) ++ b) ++ x) c (x ++ (d ++ (y ++ e))))
    ∙ sym (append_assoc ((((a ++ x) ++ b) ++ x) ++ c) x (d ++ (y ++ e)))
    ∙ sym (append_assoc (((((a ++ x) ++ b) ++ x) ++ c) ++ x) d (y ++ e))
    ∙ sym (append_assoc ((((((a ++ x) ++ b) ++ x) ++ c) ++ x) ++ d) y e)

-- a port after an address, from the right
pub after_address : (x y a b c d e : List ℕ)
    → (a ++ (x ++ (b ++ (x ++ (c ++ (x ++ d)))))) ++ (y ++ e) ≡ a ++ (x ++ (b ++ (x ++ (c ++ (x ++ (d ++ (y ++ e)))))))
after_address x y a b c d e =
    append_assoc a (x ++ (b ++ (x ++ (c ++ (x ++ d))))) (y ++ e)
    ∙ ap (λ l. a ++ l) (append_assoc x (b ++ (x ++ (c ++ (x ++ d)))) (y ++ e)
    ∙ ap (λ l. x ++ l) (append_assoc b (x ++ (c ++ (x ++ d))) (y ++ e)
    ∙ ap (λ l. b ++ l) (append_assoc x (c ++ (x ++ d)) (y ++ e)
    ∙ ap (λ l. x ++ l) (append_assoc c (x ++ d) (y ++ e)
    ∙ ap (λ l. c ++ l) (append_assoc x d (y ++ e))))))
