-- What a run wrote, where its text is given in another form.
use Rattle.std.proofs.Common.{◌≡◌, ℕ, List, Option, None, Some, inl, inr, subst}
use Rattle.std.specs.Io.KnownBytes.{Appends}
use Rattle.rtps_records.specs.RecordFile.{Record}
use Rattle.rtps_records.specs.Runs.{Stops, WroteAll, WroteFront, WroteRead, WroteReadFront}
use Rattle.rtps_records.specs.Text.{IsFront}
use Rattle.rtps_records.specs.declared.fault.RunFault.{RunFault}
use Rattle.rtps_records.specs.declared.fault.RunFault.TheVariants.{CannotRead, NotRecordFile, CutRecord, RecordTooLong, TooManyRecords, CannotWrite, CannotReadNorWrite, NoMemory}

-- the two texts are the same for all records
abbrev pub AreSame : (List Record → List ℕ) → (List Record → List ℕ) → Type 0
AreSame one other = (records : List Record) → one records ≡ other records

pub all_as : (one other : List Record → List ℕ) (before old new : Option (List ℕ)) (fault : Option RunFault) → AreSame one other → WroteAll one before old new fault → WroteAll other before old new fault
unfolding WroteAll
all_as one other None old new fault same h = h
all_as one other (Some input) old new fault same h = (h.0, h.1, subst (Appends old new) (same h.0) h.2)

read_as : (one other : List Record → List ℕ) (before after old new : Option (List ℕ)) → AreSame one other → WroteRead one before after old new → WroteRead other before after old new
unfolding WroteRead
read_as one other before after old new same h = (
  h.0,
  h.1,
  elim h.2 [ inl few ↦ inl few | inr k ↦ inr (k.0, k.1, k.2, k.3, k.4, subst (Appends old new) (same k.1) k.5) ],
)

front_as : (one other : List Record → List ℕ) (before old new : Option (List ℕ)) → AreSame one other → WroteFront one before old new → WroteFront other before old new
unfolding WroteFront
front_as one other None old new same h = h
front_as one other (Some input) old new same h = (
  h.0,
  h.1,
  record { front = λ records fault reads. subst (IsFront h.0) (same records) (h.2.front records fault reads); other = h.2.other },
)

read_front_as : (one other : List Record → List ℕ) (before after old new : Option (List ℕ)) → AreSame one other → WroteReadFront one before after old new → WroteReadFront other before after old new
unfolding WroteReadFront
read_front_as one other before after old new same h =
    (h.0, h.1, (h.2.0, h.2.1, h.2.2, h.2.3, h.2.4, h.2.5, subst (IsFront h.2.3) (same h.2.1) h.2.6, h.2.7))

pub stops_as : (one other : List Record → List ℕ) (fault : RunFault) (before after old new : Option (List ℕ)) → AreSame one other → Stops one fault before after old new → Stops other fault before after old new
unfolding Stops
stops_as one other NotRecordFile before after old new same h = h
stops_as one other CannotRead before after old new same h = read_as one other before after old new same h
stops_as one other CannotWrite before after old new same h = front_as one other before old new same h
stops_as one other CannotReadNorWrite before after old new same h = read_front_as one other before after old new same h
stops_as one other NoMemory before after old new same h = front_as one other before old new same h
stops_as one other (CutRecord n) before after old new same h = all_as one other before old new (Some (CutRecord n)) same h
stops_as one other (RecordTooLong n) before after old new same h = all_as one other before old new (Some (RecordTooLong n)) same h
stops_as one other TooManyRecords before after old new same h = all_as one other before old new (Some TooManyRecords) same h
