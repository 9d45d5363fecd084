-- Worked rows, computed from the definitions.
use Rattle.std.proofs.Common.{◌≡◌, ℕ, List, [], ◌∷◌, refl, map, true, false, None}
use Rattle.rtps_types.specs.declared.identity.Guid.{Guid}
use Rattle.rtps_types.specs.declared.identity.KeyHash.{KeyHash}
use Rattle.rtps_reader.specs.declared.body.Body.TheVariants as body
use Rattle.rtps_types.specs.Nearest.{nearest}
use Rattle.rtps_reader.specs.declared.notice.NoticeKind.{NoticeKind}
use Rattle.rtps_reader.specs.declared.notice.NoticeKind.TheVariants as kind
use Rattle.dds_cache.specs.declared.entry.Sample.{Sample}
use Rattle.rtps_types.specs.Number.{value_of}
use Rattle.dds_cache.specs.declared.condition.Condition.{Condition}
use Rattle.dds_cache.specs.declared.history.History.TheVariants.{KeepLast, KeepAll}
use Rattle.dds_cache.specs.declared.state.InstanceState.{InstanceState}
use Rattle.dds_cache.specs.declared.state.InstanceState.TheVariants.{Alive, Disposed, NoWriters}
use Rattle.dds_cache.specs.declared.state.SampleState.{SampleState}
use Rattle.dds_cache.specs.declared.state.SampleState.TheVariants.{Read, NotRead}
use Rattle.dds_cache.specs.declared.state.ViewState.{ViewState}
use Rattle.dds_cache.specs.declared.state.ViewState.TheVariants.{New, NotNew}
use Rattle.dds_cache.specs.Calls.{Done, Accepted, WasRead, WasTaken}
use Rattle.dds_cache.specs.Answered.{answered}

abbrev pub blue : KeyHash
blue = record { 0 = 1 ∷ [] }

abbrev pub red : KeyHash
red = record { 0 = 2 ∷ [] }

abbrev pub writer : ℕ → Guid
writer w = record { prefix = record { 0 = w ∷ [] }; entity = record { 0 = 0 ∷ [] } }

abbrev pub told : ℕ → NoticeKind ℕ → Done ℕ
told w t = Accepted (record { place = record { datagram = 0; submessage = 1 }; writer = writer w; what = t })

abbrev pub value : ℕ → ℕ → KeyHash → Done ℕ
value w n k = told w (kind.Sample (nearest n) None (body.Value k n))

abbrev pub disposed : ℕ → ℕ → KeyHash → Done ℕ
disposed w n k = told w (kind.Sample (nearest n) None (body.Disposed k))

abbrev pub unregistered : ℕ → ℕ → KeyHash → Done ℕ
unregistered w n k = told w (kind.Sample (nearest n) None (body.Unregistered k))

abbrev pub all : Condition
all = record { not_read = false; new = false; alive = false }

abbrev pub fresh : Condition
fresh = record { not_read = true; new = false; alive = false }

abbrev pub Seen : Type 0
Seen = ℕ × (SampleState × (ViewState × InstanceState))

abbrev pub seen : Sample ℕ → Seen
seen s = (value_of s.number, (s.sample, (s.view, s.instance)))

-- the row of KeepLast(1): BLUE 1, BLUE 2, RED 3
abbrev pub keep_one : List (Done ℕ)
keep_one = value 1 3 red ∷ value 1 2 blue ∷ value 1 1 blue ∷ []

pub read_first : map seen (answered (KeepLast 1) keep_one 10 all) ≡ (2, (NotRead, (New, Alive))) ∷ (3, (NotRead, (New, Alive))) ∷ []
read_first = refl

pub next_is_none : map seen (answered (KeepLast 1) (WasRead 10 all ∷ keep_one) 1 fresh) ≡ []
next_is_none = refl

pub taken_then : map seen (answered (KeepLast 1) (WasTaken 1 fresh ∷ WasRead 10 all ∷ keep_one) 10 all) ≡ (2, (Read, (NotNew, Alive))) ∷ (3, (Read, (NotNew, Alive))) ∷ []
taken_then = refl

pub empty_then : map seen (answered (KeepLast 1) (WasTaken 10 all ∷ WasTaken 1 fresh ∷ WasRead 10 all ∷ keep_one) 10 all) ≡ []
empty_then = refl

-- the row of KeepAll with a disposal between
abbrev pub disposal : List (Done ℕ)
disposal = disposed 1 2 blue ∷ WasRead 10 all ∷ WasRead 10 all ∷ value 1 1 blue ∷ []

pub behind_disposal : map seen (answered KeepAll disposal 10 all) ≡ (1, (Read, (NotNew, Disposed))) ∷ (2, (NotRead, (NotNew, Disposed))) ∷ []
behind_disposal = refl

pub alive_again : map seen (answered KeepAll (value 1 3 blue ∷ WasRead 10 all ∷ disposal) 10 all) ≡ (1, (Read, (New, Alive))) ∷ (2, (Read, (New, Alive))) ∷ (3, (NotRead, (New, Alive))) ∷ []
alive_again = refl

pub no_writers : map seen (answered KeepAll (unregistered 1 2 blue ∷ value 1 1 blue ∷ []) 10 all) ≡ (1, (NotRead, (New, NoWriters))) ∷ []
no_writers = refl

-- two writers, and the end of a match
pub one_is_left : map seen (answered KeepAll (told 1 kind.Unmatched ∷ value 2 2 blue ∷ value 1 1 blue ∷ value 1 3 red ∷ []) 10 all) ≡ (3, (NotRead, (New, NoWriters))) ∷ (1, (NotRead, (New, Alive))) ∷ (2, (NotRead, (New, Alive))) ∷ []
one_is_left = refl

-- a disposed instance stays so when its writer goes, and a value makes it alive and new
pub stays_disposed : map seen (answered KeepAll (told 1 kind.Unmatched ∷ WasRead 10 all ∷ disposed 1 2 blue ∷ value 1 1 blue ∷ []) 10 all) ≡ (1, (Read, (NotNew, Disposed))) ∷ (2, (Read, (NotNew, Disposed))) ∷ []
stays_disposed = refl
