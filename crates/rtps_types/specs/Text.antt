-- Identities as text: the octets of DDSI-RTPS 9.3.1 and 9.6.4.8, as two hex digits each, in either
-- case.
use Rattle.std.specs.Prelude.{◌≡◌, ℕ, ◌*◌, ◌==◌, nat_lt, Bool, List, take, drop, length, Result, Ok, Err, if◌then◌else◌}
use Rattle.std.specs.List.{after_first, before_first, position_or_len}
use Rattle.hex.specs.declared.error.FromHexError.{FromHexError}
use Rattle.hex.specs.Hex.{IsBytes, decode_of, encode_lower}
use Rattle.rtps_types.specs.declared.identity.EntityId.{EntityId}
use Rattle.rtps_types.specs.declared.identity.Guid.{Guid}
use Rattle.rtps_types.specs.declared.identity.GuidPrefix.{GuidPrefix}
use Rattle.rtps_types.specs.declared.identity.KeyHash.{KeyHash}
use Rattle.rtps_types.specs.Order.{guid_octets}
use Rattle.rtps_types.specs.declared.text.TextFault.{TextFault}
use Rattle.rtps_types.specs.declared.text.TextFault.TheVariants.{Length, Digit}

-- the octets of hex digits, if all characters are such
abbrev pub all_digits : Result (List ℕ) FromHexError → Result (List ℕ) TextFault
all_digits (Ok octets) = Ok octets
all_digits (Err e) = Err Digit

-- n octets from a text: it has two characters for each, and all of them are hex digits
abbrev pub octets_in : ℕ → List ℕ → Result (List ℕ) TextFault
octets_in n text = if length text == 2 * n then all_digits (decode_of text) else Err Length

-- a value made from the result of parsing
abbrev pub made_of : {S T : Type 0} → (S → T) → Result S TextFault → Result T TextFault
made_of make (Ok part) = Ok (make part)
made_of make (Err e) = Err e

-- parsing of a prefix, an entity id, a guid and a key hash (DDSI-RTPS 9.3.1, 9.6.4.8)
abbrev pub prefix_in : List ℕ → Result GuidPrefix TextFault
prefix_in text = made_of (λ octets. record { 0 = octets }) (octets_in 12 text)

abbrev pub entity_in : List ℕ → Result EntityId TextFault
entity_in text = made_of (λ octets. record { 0 = octets }) (octets_in 4 text)

-- the endpoint of twelve octets of prefix and four of entity id
abbrev pub guid_of : List ℕ → Guid
guid_of octets =
    record { prefix = record { 0 = take 12 octets }; entity = record { 0 = drop 12 octets } }

-- the endpoint that a text stands for
abbrev pub guid_in : List ℕ → Result Guid TextFault
guid_in text = made_of guid_of (octets_in 16 text)

-- the key hash that a text stands for
abbrev pub hash_in : List ℕ → Result KeyHash TextFault
hash_in text = made_of (λ octets. record { 0 = octets }) (octets_in 16 text)

-- whether a character is in a text, and the parts before and after its first occurrence
abbrev pub has : ℕ → List ℕ → Bool
has c text = nat_lt (position_or_len (λ b. b == c) text) (length text)

abbrev pub before : ℕ → List ℕ → List ℕ
before c text = before_first (λ b. b == c) text

abbrev pub behind : ℕ → List ℕ → List ℕ
behind c text = after_first (λ b. b == c) text

-- the text of an identity is parsed as the same identity
pub record ShownIdentitiesAreRead : Type 0 where
  pub prefix : (p : GuidPrefix) → length p.0 ≡ 12 → IsBytes p.0
      → prefix_in (encode_lower p.0) ≡ Ok p
  pub entity : (e : EntityId) → length e.0 ≡ 4 → IsBytes e.0 → entity_in (encode_lower e.0) ≡ Ok e
  pub guid : (g : Guid) → length g.prefix.0 ≡ 12 → length g.entity.0 ≡ 4 → IsBytes (guid_octets g)
      → guid_in (encode_lower (guid_octets g)) ≡ Ok g
  pub hash : (h : KeyHash) → length h.0 ≡ 16 → IsBytes h.0 → hash_in (encode_lower h.0) ≡ Ok h
