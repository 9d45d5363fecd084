-- The status of a reader: its matches, and the totals of its notices (DDS 1.4, 2.2.4.1).
use Rattle.std.specs.Prelude.{ℕ, ◌+◌, Bool, true, false, List, [], ◌∷◌, ◌++◌, length, map, filter, sum, min, Option, Some, None}
use Rattle.rtps_types.specs.declared.policy.PolicyId.{PolicyId}
use Rattle.rtps_reader.specs.declared.notice.Notice.{Notice}
use Rattle.rtps_reader.specs.declared.notice.NoticeKind.{NoticeKind}
use Rattle.rtps_reader.specs.declared.notice.NoticeKind.TheVariants.{Sample, Matched, Incompatible, Lost}
use Rattle.rtps_reader.specs.declared.status.Status.{Status}
use Rattle.rtps_reader.specs.Reader.{Reader}

-- a total stops at 2,147,483,647
abbrev pub capped : ℕ → ℕ
capped n = min n 2147483647

-- a notice presents a sample
abbrev pub is_sample : {M : Type 0} → NoticeKind M → Bool
is_sample (Sample number time body) = true
is_sample kind = false

-- a notice says that a match began
abbrev pub is_beginning : {M : Type 0} → NoticeKind M → Bool
is_beginning Matched = true
is_beginning kind = false

-- the number of lost numbers that a notice reports
abbrev pub lost_in : {M : Type 0} → NoticeKind M → ℕ
lost_in (Lost count) = count
lost_in kind = 0

-- the policy for which a notice reports a writer as incompatible
abbrev pub refused_in : {M : Type 0} → NoticeKind M → List PolicyId
refused_in (Incompatible policy) = policy ∷ []
refused_in kind = []

-- the number of notices of a kind
abbrev pub count_of : {M : Type 0} → (NoticeKind M → Bool) → List (Notice M) → ℕ
count_of test given = length (filter (λ n. test n.what) given)

-- the number of lost numbers that these notices report
abbrev pub lost_by : {M : Type 0} → List (Notice M) → ℕ
lost_by given = sum (map (λ n. lost_in n.what) given)

-- the policies that these notices report, in order
abbrev pub refused_by : {M : Type 0} → List (Notice M) → List PolicyId
refused_by [] = []
refused_by (n ∷ given) = refused_in n.what ++ refused_by given

-- the last of some policies
abbrev pub last_of : List PolicyId → Option PolicyId
last_of [] = None
last_of (p ∷ []) = Some p
last_of (p ∷ q ∷ ps) = last_of (q ∷ ps)

-- the status of a reader that has given these notices; the fixed matches are counted too
abbrev pub status_of : {M : Type 0} → Reader → List (Notice M) → Status
status_of r given = record {
  matched_total = capped (r.fixed + count_of is_beginning given);
  matched_now = length r.matches;
  incompatible_total = capped (length (refused_by given));
  last_policy = last_of (refused_by given);
  lost_total = capped (lost_by given);
  samples = capped (count_of is_sample given);
}
