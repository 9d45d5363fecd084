-- How a reader comes or goes in both parts: the participant by its own contract, and neither counts as failed before.
use Rattle.std.proofs.Common.{◌≡◌, Bool, true, false, Option, Result, Ok, Err, refl, sym, ap, subst, ◌∙◌}
use Rattle.rtps_discovery.specs.declared.reader_faults.ReaderFault.{ReaderFault}
use Rattle.rtps_run.specs.declared.errors.EngineError.{EngineError}
use Rattle.rtps_run.specs.declared.errors.EngineError.TheVariants.{BadReader, Failed, Full, NoMemory, NoReader, Spent}
use Rattle.rtps_run.specs.Moving.{Moves}
use Rattle.rtps_run.specs.Standing.{EngineView}
use Rattle.dds_participant.specs.Kept.{ParticipantView, TakesReader}
use Rattle.dds_announced.specs.Announced.{AnnouncedView}
use Rattle.dds_announced.specs.Readers as both
use Rattle.dds_announced.specs.Readers.{IsUnasked, has_failed}
use Rattle.dds_announced.specs.declared.readers.ReaderError.{ReaderError}
use Rattle.dds_announced.specs.declared.readers.ReaderError.TheVariants.{Engine, TooLong, Unannounced}
use Rattle.dds_announced.proofs.Taking.{counting}

-- an engine that counts as failed, or not
abbrev as_failed : {C : Type 0} → Bool → EngineView C → EngineView C
as_failed failed e = record e { failed = failed }

moves_err : {C : Type 0} (X Y : Type 0) (reason : Option ReaderFault) (e : EngineError) (old new : EngineView C)
    → Moves {X = X} reason (Err e) old new → old.failed ≡ false
    → Moves {X = Y} reason (Err e) (as_failed false old) (as_failed (has_failed e) new)
unfolding Moves
moves_err X Y reason NoMemory old new m sound = (refl, m.1, refl)
moves_err X Y reason Failed old new m sound = let failed : old.failed ≡ true = m.0 in absurd cc
moves_err X Y reason Spent old new m sound = absurd m
moves_err X Y reason Full old new m sound = (refl, m.1, ap (as_failed false) m.2)
moves_err X Y reason BadReader old new m sound = (refl, m.1, ap (as_failed false) m.2)
moves_err X Y reason NoReader old new m sound = (refl, m.1, ap (as_failed false) m.2)

-- the participant refuses a reader that comes or goes
refused : {C V X : Type 0} (Y : Type 0) (reason : Option ReaderFault) (e : EngineError) (old new : ParticipantView C V)
    → TakesReader {X = X} reason (Err e) old new → old.engine.failed ≡ false
    → TakesReader {X = Y} reason (Err e) (counting false old) (counting (has_failed e) new)
refused {C} {V} {X} Y reason e old new t sound = record {
  moves = moves_err X Y reason e old.engine new.engine t.moves sound;
  counts = record {};
  still = t.still;
}

moves_ok : {C X Y : Type 0} (reason : Option ReaderFault) (x : X) (y : Y) (old new : EngineView C)
    → Moves reason (Ok x) old new → Moves reason (Ok y) (as_failed false old) (as_failed false new)
unfolding Moves
moves_ok reason x y old new m = (refl, m.1, refl, m.3)

-- a reader comes or goes
taken : {C V X Y : Type 0} (reason : Option ReaderFault) (x : X) (y : Y) (old new : ParticipantView C V)
    → TakesReader reason (Ok x) old new → TakesReader reason (Ok y) (counting false old) (counting false new)
taken reason x y old new t = record {
  moves = moves_ok reason x y old.engine new.engine t.moves;
  counts = t.counts;
  still = record {};
}

sound_moved : {C X : Type 0} (reason : Option ReaderFault) (x : X) (old new : EngineView C) → Moves reason (Ok x) old new
    → (new.failed ≡ false) × (new.index ≡ old.index)
unfolding Moves
sound_moved reason x old new m = (m.2, m.3)

-- then it hasn't failed, and has taken no datagram
pub sound_after : {C V X : Type 0} (reason : Option ReaderFault) (x : X) (old new : ParticipantView C V) → TakesReader reason (Ok x) old new
    → (new.engine.failed ≡ false) × (new.engine.index ≡ old.engine.index)
sound_after reason x old new t = sound_moved reason x old.engine new.engine t.moves

stays_sound : {C : Type 0} (X : Type 0) (reason : Option ReaderFault) (e : EngineError) (old new : EngineView C) → Moves {X = X} reason (Err e) old new
    → old.failed ≡ false → has_failed e ≡ false → (new.failed ≡ false) × (new.index ≡ old.index)
unfolding Moves
stays_sound X reason NoMemory old new m sound none = let no : true ≡ false = none in absurd cc
stays_sound X reason Failed old new m sound none = let no : true ≡ false = none in absurd cc
stays_sound X reason Spent old new m sound none = absurd m
stays_sound X reason Full old new m sound none = (ap (λ (e : EngineView _). e.failed) m.2 ∙ sound, ap (λ (e : EngineView _). e.index) m.2)
stays_sound X reason BadReader old new m sound none = (ap (λ (e : EngineView _). e.failed) m.2 ∙ sound, ap (λ (e : EngineView _). e.index) m.2)
stays_sound X reason NoReader old new m sound none = (ap (λ (e : EngineView _). e.failed) m.2 ∙ sound, ap (λ (e : EngineView _). e.index) m.2)

-- nor has it after a refusal that isn't for memory
pub sound_refused : {C V X : Type 0} (reason : Option ReaderFault) (e : EngineError) (old new : ParticipantView C V)
    → TakesReader {X = X} reason (Err e) old new → old.engine.failed ≡ false → has_failed e ≡ false
    → (new.engine.failed ≡ false) × (new.engine.index ≡ old.engine.index)
sound_refused {C} {V} {X} reason e old new t sound none = stays_sound X reason e old.engine new.engine t.moves sound none

-- both parts refuse a reader that the participant refuses
pub refuses : {C V X : Type 0} (Y : Type 0) (reason : Option ReaderFault) (e : EngineError) (old new : AnnouncedView C V)
    → old.failed ≡ false → new.failed ≡ has_failed e → old.run.engine.failed ≡ false
    → TakesReader {X = X} reason (Err e) old.run new.run → both.TakesReader {X = Y} reason (Err (Engine e)) old new
unfolding both.TakesReader
refuses Y reason e old new sound failed engine t =
    subst (λ b. TakesReader {X = Y} reason (Err e) (counting b old.run) (counting new.failed new.run)) (sym sound)
    (subst (λ b. TakesReader {X = Y} reason (Err e) (counting false old.run) (counting b new.run)) (sym failed) (refused Y reason e old.run new.run t engine))

-- both take one that it takes
pub takes : {C V X Y : Type 0} (reason : Option ReaderFault) (x : X) (y : Y) (old new : AnnouncedView C V)
    → old.failed ≡ false → new.failed ≡ false
    → TakesReader reason (Ok x) old.run new.run → both.TakesReader reason (Ok y) old new
unfolding both.TakesReader
takes reason x y old new sound still t =
    subst (λ b. TakesReader reason (Ok y) (counting b old.run) (counting new.failed new.run)) (sym sound)
    (subst (λ b. TakesReader reason (Ok y) (counting false old.run) (counting b new.run)) (sym still) (taken reason x y old.run new.run t))

-- it isn't asked
pub unasked : {C V : Type 0} (Y : Type 0) (reason : Option ReaderFault) (fault : ReaderError) (old new : AnnouncedView C V)
    → IsUnasked fault → old.failed ≡ false → new.failed ≡ false → new.run ≡ old.run
    → both.TakesReader {X = Y} reason (Err fault) old new
unfolding both.TakesReader
unasked Y reason TooLong old new not sound still same = (sound, still, same)
unasked Y reason Unannounced old new not sound still same = (sound, still, same)
unasked Y reason (Engine e) old new not sound still same = absurd not
