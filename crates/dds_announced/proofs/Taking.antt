-- How both parts take a batch: the participant by its own contract, and neither counts as failed before.
use Rattle.std.proofs.Common.{◌≡◌, ◌+◌, ◌≤◌, ℕ, Bool, true, false, List, Result, Ok, Err, IsErrAnd, OnErr, refl, sym, subst, ◌∙◌, arith}
use Rattle.rtps_run.specs.declared.errors.EngineError.{EngineError}
use Rattle.rtps_run.specs.declared.errors.EngineError.TheVariants.{BadReader, Failed, Full, NoMemory, NoReader, Spent}
use Rattle.rtps_run.specs.Standing.{datagram_limit}
use Rattle.dds_participant.specs.Kept.{ParticipantView, TakesBatch}

-- a participant that counts as failed, or not
abbrev pub counting : {C V : Type 0} → Bool → ParticipantView C V → ParticipantView C V
counting failed p = record p { engine = record p.engine { failed = failed } }

by_error : {C V : Type 0} (T : Type 0) (e : EngineError) (count : ℕ) (old new : ParticipantView C V) → TakesBatch {X = Unit {0}} count (Err e) old new
    → old.engine.failed ≡ false → old.engine.index + count ≤ datagram_limit
    → TakesBatch {X = T} count (Err e) (counting false old) (counting true new)
unfolding TakesBatch
by_error T Failed count old new t sound fits = let failed : old.engine.failed ≡ true = t.0 in absurd cc
by_error T Spent count old new t sound fits = let above = t.1 in absurd (omega (arith, above, fits))
by_error T NoMemory count old new t sound fits = (refl, fits, refl, t.3)
by_error T Full count old new t sound fits = absurd t
by_error T BadReader count old new t sound fits = absurd t
by_error T NoReader count old new t sound fits = absurd t

-- a batch that the participant refuses once it is looked at
pub refused : {C V T : Type 0} (r : Result T EngineError) (e : EngineError) (was : Bool) (count : ℕ) (old new : ParticipantView C V)
    → IsErrAnd r (λ x. x ≡ e) → was ≡ false → TakesBatch {X = Unit {0}} count (Err e) old new
    → old.engine.failed ≡ false → old.engine.index + count ≤ datagram_limit
    → TakesBatch count r (counting was old) (counting true new)
refused (Ok x) e was count old new is off t sound fits = absurd is
refused {C} {V} {T} (Err x) e was count old new is off t sound fits =
    subst (λ b. TakesBatch {X = T} count (Err x) (counting b old) (counting true new)) (sym off)
    (subst (λ y. TakesBatch {X = T} count (Err y) (counting false old) (counting true new)) (sym is) (by_error T e count old new t sound fits))

-- what holds, holds where something is refused
pub on_err : {T E P : Type 0} (r : Result T E) → P → OnErr r P
on_err (Ok x) p = record {}
on_err (Err e) p = p

-- a batch that is taken
pub taken : {C V X : Type 0} (x : X) (count : ℕ) (old new : ParticipantView C V) → TakesBatch count (Ok x) old new
    → (new.engine.failed ≡ false) × (new.engine.index ≡ old.engine.index + count)
unfolding TakesBatch
taken x count old new t = (t.2, t.3)
