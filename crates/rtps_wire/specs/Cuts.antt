-- How a message that was cut short is read (DDSI-RTPS 8.3.4.1, 9.4.5.1).
use Rattle.std.specs.Prelude.{◌≡◌, ℕ, ◌+◌, ◌-◌, ◌≤◌, List, [], ◌∷◌, ◌++◌, length, take, drop, Option, Err, true, nat_lt, MatchBool}
use Rattle.rtps_types.specs.Field.{number}
use Rattle.rtps_wire.specs.declared.message_header.Header.{Header}
use Rattle.rtps_wire.specs.declared.message_header.HeaderFault.TheVariants.{Short}
use Rattle.rtps_wire.specs.declared.submessage.SubmessageFault.{SubmessageFault}
use Rattle.rtps_wire.specs.Fields.{endian_of}
use Rattle.rtps_wire.specs.MessageHeader.{header_of}
use Rattle.rtps_wire.specs.Message.{IsBefore, IsMessage}
use Rattle.rtps_wire.specs.OneReading.{IsOnly}
use Rattle.rtps_wire.specs.Reading.{runs_to_end}
use Rattle.rtps_wire.specs.Submessage.{Item}

-- octets begin with these submessages, in order, and then comes a rest
abbrev pub BeginWith : List ℕ → List Item → List ℕ → Type 0
BeginWith octets [] rest = octets ≡ rest
BeginWith octets (i ∷ is) rest =
    (after : List ℕ) × IsBefore i octets after × BeginWith after is rest

-- a cut at place n keeps the submessages that end at or before n, in front of any others
abbrev pub KeepsWhatEnds : List ℕ → ℕ → List Item → Type 0
KeepsWhatEnds octets n cut =
    (first : List Item) (rest : List ℕ) → BeginWith octets first rest
    → length octets ≤ n + length rest → (others : List Item) × (cut ≡ first ++ others)

-- a submessage is the last one in octets, with a stated length of 0 that makes it run to the end
pub record RunsToEnd (i : Item) (octets : List ℕ) : Type 0 where
  pub before : List ℕ
  pub third : ℕ
  pub fourth : ℕ
  pub body : List ℕ
  pub text : octets ≡ before ++ (i.id ∷ i.flags ∷ third ∷ fourth ∷ body)
  pub unbounded : runs_to_end i.id (number (endian_of i.flags) 2 (third ∷ fourth ∷ [])) ≡ true

-- at most one such submessage, and nothing else
abbrev pub IsLast : List Item → List ℕ → Type 0
IsLast [] octets = Unit {0}
IsLast (i ∷ []) octets = RunsToEnd i octets
IsLast (i ∷ j ∷ is) octets = ⊥

-- the submessages of a cut are the first ones of the message, and possibly one that runs to the end
-- of the cut
pub record AreFirst (cut whole : List Item) (octets : List ℕ) : Type 0 where
  pub first : List Item
  pub others : List Item
  pub last : List Item
  pub of_whole : whole ≡ first ++ others
  pub of_cut : cut ≡ first ++ last
  pub ran : IsLast last octets

-- the first n octets of a message have the same header, and the submessages that end within them;
-- at most one other is read, which runs to the end
pub record ReadsFirst (octets : List ℕ) (n : ℕ) (header : Header) (whole : List Item) : Type 0 where
  pub cut : List Item
  pub cause : Option SubmessageFault
  pub message : IsOnly (take n octets) header cut cause
  pub ended : KeepsWhatEnds (drop 20 octets) (n - 20) cut
  pub first : AreFirst cut whole (drop 20 (take n octets))

-- any cut of a message: fewer octets than its header are too short, and otherwise its first
-- submessages are read
abbrev pub CutsReadFirst : Type 0
CutsReadFirst =
    (octets : List ℕ) (n : ℕ) (header : Header) (whole : List Item) (fault : Option SubmessageFault)
    → IsMessage octets header whole fault
    → MatchBool (nat_lt n 20) (header_of (take n octets) ≡ Err Short)
    (ReadsFirst octets n header whole)
