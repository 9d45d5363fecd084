-- A change of the match between a reader and a writer (DDSI-RTPS 8.4.10.2 to 8.4.10.4; DDS 1.4,
-- 2.2.4.1).
use Rattle.std.specs.Prelude.{List}
use Rattle.rtps_types.specs.declared.identity.Guid.{Guid}
use Rattle.rtps_types.specs.declared.locator.Locator.{Locator}
use Rattle.rtps_types.specs.declared.match_change.MatchChangeKind.{MatchChangeKind}
use Rattle.rtps_types.specs.declared.match_change.MatchChangeKind.TheVariants as kind
use Rattle.rtps_types.specs.declared.policy.PolicyId.{PolicyId}

-- a match with a writer begins, with these locators for answers; the match with a writer ends; or a
-- writer is refused for a policy
pub data MatchChange : Type 0 where
  Matches : Guid → List Locator → MatchChange
  Unmatches : Guid → MatchChange
  Refuses : Guid → PolicyId → MatchChange

-- what contracts see of a change of a match
abbrev pub match_change_view : {A : Type 0} → MatchChangeKind A → MatchChange
match_change_view (kind.Match facts) = Matches facts.writer facts.locators
match_change_view (kind.Unmatch writer) = Unmatches writer
match_change_view (kind.Refuse writer policy) = Refuses writer policy
