-- Two policies of one number are the same policy.
use Rattle.std.proofs.Common.{◌≡◌, ◌≢◌, ℕ, ◌==◌, true, false, Option, Some, None, if◌then◌else◌, refl, sym, ap, ◌∙◌, arith, true≢false}
use Rattle.std.proofs.lemmas.Grind.{common_steps}
use Rattle.rtps_types.specs.Policy.{policy_id, same_policy}
use Rattle.rtps_types.specs.declared.policy.PolicyId.{PolicyId}
use Rattle.rtps_types.specs.declared.policy.PolicyId.TheVariants as policy

-- the policy of a number
policy_of : ℕ → Option PolicyId
policy_of n =
    if n == 2 then Some policy.Durability
    else if n == 3 then Some policy.Presentation
    else if n == 4 then Some policy.Deadline
    else if n == 5 then Some policy.LatencyBudget
    else if n == 6 then Some policy.Ownership
    else if n == 8 then Some policy.Liveliness
    else if n == 11 then Some policy.Reliability
    else if n == 12 then Some policy.DestinationOrder
    else None

numbered : (p : PolicyId) → policy_of (policy_id p) ≡ Some p
unfolding policy_of
numbered policy.Durability = refl
numbered policy.Presentation = refl
numbered policy.Deadline = refl
numbered policy.LatencyBudget = refl
numbered policy.Ownership = refl
numbered policy.Liveliness = refl
numbered policy.Reliability = refl
numbered policy.DestinationOrder = refl

pub policy_is : (p q : PolicyId) → same_policy p q ≡ true → p ≡ q
policy_is p q same =
    let ids : policy_id p ≡ policy_id q = grind (arith, common_steps) in
    let both : Some p ≡ Some q = sym (numbered p) ∙ ap policy_of ids ∙ numbered q in
    cc

pub policy_isnt : (p q : PolicyId) → same_policy p q ≡ false → p ≢ q
policy_isnt p q unlike same =
    let ids : policy_id p ≡ policy_id q = ap policy_id same in
    let is : same_policy p q ≡ true = grind (arith, common_steps) in
    true≢false (sym is ∙ unlike)
