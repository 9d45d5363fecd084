-- Presentation in one match (DDSI-RTPS 8.4.12.3, 8.3.7): the samples that a reliable reader
-- presents, compared with the writer's submessages.
use Rattle.std.specs.Prelude.{◌≡◌, ℕ, ◌+◌, ◌<◌, ◌≤◌, ◌⊎◌, ◌==◌, Option, IsTrue, false, List, [], ◌∷◌, ◌++◌, length}
use Rattle.std.specs.List.{list_any, AllByRecursion}
use Rattle.rtps_types.specs.declared.time.Timestamp.{Timestamp}
use Rattle.rtps_receiver.specs.EventBody.{EventBodyView, Whole, Fragment, Heartbeat, Gap, HeartbeatFrag}
use Rattle.rtps_frags.specs.declared.sizes.Sizes.{Sizes}
use Rattle.rtps_frags.specs.Fragments.{fragment_in, is_empty, last_of}
use Rattle.rtps_proxy.specs.Fragments.{is_faulty, sizes_of}
use Rattle.rtps_proxy.specs.Change.{ChangeView, change_of}
use Rattle.rtps_proxy.specs.Gap.{names}
use Rattle.rtps_proxy.specs.Heartbeat.{is_new}
use Rattle.rtps_proxy.specs.History.{MatchEvent}
use Rattle.rtps_proxy.specs.Received.{ready}

-- all samples presented so far, in order
abbrev pub presented : List MatchEvent → List ChangeView
presented [] = []
presented (e ∷ past) = presented past ++ ready past e

-- sequence numbers rise strictly
abbrev pub RisesStrictly : List ℕ → Type 0
RisesStrictly [] = Unit {0}
RisesStrictly (n ∷ ns) = AllByRecursion (λ m. n < m) ns × RisesStrictly ns

-- the sample is that of a DATA: its number, its time and its contents
abbrev pub IsSample : Option Timestamp → EventBodyView → ChangeView → Type 0
IsSample time (Whole c) s = change_of time c ≡ s
IsSample time (Fragment f) s = ⊥
IsSample time (Heartbeat h) s = ⊥
IsSample time (Gap g) s = ⊥
IsSample time (HeartbeatFrag h) s = ⊥

-- a DATA of the match brought the sample
abbrev pub CameWhole : List MatchEvent → ChangeView → Type 0
CameWhole [] s = ⊥
CameWhole (e ∷ past) s = IsSample e.time e.body s ⊎ CameWhole past s

-- a DATA_FRAG of a number, with these sizes and without a fault, has these octets as fragment k
abbrev pub IsFragment : ℕ → Sizes → ℕ → List ℕ → EventBodyView → Type 0
IsFragment n z k octets (Whole c) = ⊥
IsFragment n z k octets (Fragment f) =
    (f.number ≡ n)
    × (sizes_of f ≡ z)
    × (f.start ≤ k)
    × (k < f.start + f.count)
    × (fragment_in z f.start f.payload k ≡ octets)
    × (is_faulty f ≡ false)
IsFragment n z k octets (Heartbeat h) = ⊥
IsFragment n z k octets (Gap g) = ⊥
IsFragment n z k octets (HeartbeatFrag h) = ⊥

-- a DATA_FRAG of the match brought that fragment
abbrev pub BringsFragment : List MatchEvent → ℕ → Sizes → ℕ → List ℕ → Type 0
BringsFragment [] n z k octets = ⊥
BringsFragment (e ∷ past) n z k octets =
    IsFragment n z k octets e.body ⊎ BringsFragment past n z k octets

-- a DATA_FRAG, with these sizes and without a fault, has all of the sample but its payload
abbrev pub IsToldBy : Sizes → ChangeView → Option Timestamp → EventBodyView → Type 0
IsToldBy z s time (Whole c) = ⊥
IsToldBy z s time (Fragment f) =
    (f.number ≡ s.number)
    × (sizes_of f ≡ z)
    × (time ≡ s.time)
    × (f.info ≡ s.info)
    × (is_faulty f ≡ false)
IsToldBy z s time (Heartbeat h) = ⊥
IsToldBy z s time (Gap g) = ⊥
IsToldBy z s time (HeartbeatFrag h) = ⊥

-- a DATA_FRAG of the match has them
abbrev pub IsTold : List MatchEvent → Sizes → ChangeView → Type 0
IsTold [] z s = ⊥
IsTold (e ∷ past) z s = IsToldBy z s e.time e.body ⊎ IsTold past z s

-- DATA_FRAGs of the match, all with the same sizes, none of them 0, brought the sample: one has all
-- of it but the payload, and each fragment of the payload came in one, octet for octet
pub record IsPutTogether (past : List MatchEvent) (s : ChangeView) : Type 0 where
  pub sizes : Sizes
  pub cut : is_empty sizes ≡ false
  pub whole : length s.payload ≡ sizes.sample
  pub told : IsTold past sizes s
  pub each : (k : ℕ) → 1 ≤ k → k ≤ last_of sizes
      → BringsFragment past s.number sizes k (fragment_in sizes 1 s.payload k)

-- a DATA of the match brought the sample, or its DATA_FRAGs did
abbrev pub Brings : List MatchEvent → ChangeView → Type 0
Brings past s = CameWhole past s ⊎ IsPutTogether past s

-- a GAP names the sequence number, or an accepted HEARTBEAT says that the first available number is
-- above it
abbrev pub GivesUp : List MatchEvent → EventBodyView → ℕ → Type 0
GivesUp past (Whole c) k = ⊥
GivesUp past (Fragment f) k = ⊥
GivesUp past (Heartbeat h) k = IsTrue (is_new past h.count) × (k < h.first)
GivesUp past (Gap g) k = IsTrue (names (Gap g) k)
GivesUp past (HeartbeatFrag h) k = ⊥

-- a GAP or an accepted HEARTBEAT of the match gave the sequence number up
abbrev pub IsGivenUp : List MatchEvent → ℕ → Type 0
IsGivenUp [] k = ⊥
IsGivenUp (e ∷ past) k = GivesUp past e.body k ⊎ IsGivenUp past k

-- the sample of a sequence number was presented
abbrev pub IsPresented : List MatchEvent → ℕ → Type 0
IsPresented past k = IsTrue (list_any (λ s. s.number == k) (presented past))

-- each sequence number below the sample's was given up or presented by then
abbrev pub PassesOverOnly : List MatchEvent → ChangeView → Type 0
PassesOverOnly past s = (k : ℕ) → 1 ≤ k → k < s.number → IsGivenUp past k ⊎ IsPresented past k
