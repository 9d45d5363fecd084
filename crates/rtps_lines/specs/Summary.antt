-- The lines of matches and statuses (DDS 1.4, 2.2.4.1).
use Rattle.std.specs.Prelude.{ℕ, List, ◌++◌, Option, Some, None, codes}
use Rattle.std.specs.Fmt.{decimal}
use Rattle.rtps_types.specs.declared.identity.Guid.{Guid}
use Rattle.rtps_types.specs.declared.policy.PolicyId.{PolicyId}
use Rattle.rtps_reader.specs.declared.status.Status.{Status}
use Rattle.rtps_types.specs.Policy.{policy_id}
use Rattle.rtps_events.specs.Line.{◌then◌}
use Rattle.rtps_lines.specs.Guid.{guid_text}

-- a match between the reader of a rank and a writer
abbrev pub match_line : ℕ → Guid → List ℕ
match_line rank w = codes "match" then decimal rank then (guid_text w ++ codes "\n")

-- a policy by its id; a dash for none
abbrev pub policy_text : Option PolicyId → List ℕ
policy_text None = codes "-"
policy_text (Some policy) = decimal (policy_id policy)

-- the counts of matches so far, of present matches and of refused writers, and the policy that was
-- reported last
abbrev pub matches_text : Status → List ℕ
matches_text s =
    decimal s.matched_total then decimal s.matched_now then decimal s.incompatible_total
    then policy_text s.last_policy

-- the status of the reader of a rank (DDS 1.4, 2.2.4.1)
abbrev pub status_line : ℕ → Status → List ℕ
status_line rank s =
    codes "status" then decimal rank then matches_text s then decimal s.lost_total
    then (decimal s.samples ++ codes "\n")
