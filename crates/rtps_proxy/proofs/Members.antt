-- The set of an answer names exactly its members.
use Rattle.std.proofs.Common.{◌≡◌, ℕ, ◌+◌, ◌-◌, Bool, not, ◌&&◌, List, ◌∙◌, ap, arith, ltb, leb, eqb, min}
use Rattle.std.specs.List.{list_any}
use Rattle.std.proofs.lemmas.Bool.Decides.{nat_tests}
use Rattle.rtps_types.specs.NumberSet.{members}
use Rattle.rtps_types.proofs.Naming.{members_are as set_members_are, named}
use Rattle.rtps_proxy.specs.Answer.{acknack_by}
use Rattle.rtps_proxy.specs.Replies.{NamesWhatIsMissing, set_of}

pub members_are : (settled : ℕ → Bool) (base announced earlier : ℕ) → members (set_of (acknack_by settled base announced earlier)) ≡ (acknack_by settled base announced earlier).members
members_are settled base announced earlier = set_members_are settled base (min 256 (announced + 1 - base)) (omega arith)

-- the 256 numbers from base on, up to the announced one
window : (base announced n : ℕ) → (leb base n && ltb n (base + min 256 (announced + 1 - base))) ≡ (leb base n && (ltb n (base + 256) && leb n announced))
window base announced n = grind (arith, nat_tests)

pub missing_are : NamesWhatIsMissing
missing_are settled base announced earlier n =
    ap (λ (ms : List ℕ). list_any (λ m. eqb m n) ms) (members_are settled base announced earlier)
    ∙ named settled n base (min 256 (announced + 1 - base))
    ∙ ap (λ b. b && not (settled n)) (window base announced n)
