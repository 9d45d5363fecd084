-- What is read ahead after a batch, by how that batch ended; and faults of memory.
use Rattle.std.proofs.Common.{◌≡◌, ℕ, ◌≤◌, List, [], ◌∷◌, ◌⊎◌, inr, true, false, IfErr, Option, Result, Ok, Err, arith, refl, subst, sym, ◌∙◌, length, add-zero, append-nil}
use Rattle.std.proofs.KnownBytes.{Consumes-nil}
use Rattle.std.specs.Io.KnownBytes.{Consumes}
use Rattle.rtps_records.specs.Batches.{EndsBatch, ReadsBatch}
use Rattle.rtps_records.specs.RecordFile.{Record, Tick, frame}
use Rattle.rtps_records.specs.declared.batch_end.BatchEnd.{BatchEnd}
use Rattle.rtps_records.specs.declared.batch_end.BatchEnd.TheVariants.{End, Fault, More, Tick as ATick}
use Rattle.rtps_records.specs.declared.fault.RunFault.{RunFault}
use Rattle.rtps_records.specs.declared.fault.RunFault.TheVariants.{CannotWrite, NoMemory}
use Rattle.rtps_records.specs.declared.format.Format.{Format}
use Rattle.rtps_text.specs.Ahead.{Ended, ReadsAhead, goes_on}

-- after the last batch, nothing is read
none_read : (format : Format) (last : BatchEnd) (n count : ℕ) (here now : Option (List ℕ)) → goes_on last ≡ false → Ended format last count now n here → ReadsAhead format last here now n count [] last
none_read format More n count here now not e = absurd (let bad : true ≡ false = not in cc)
none_read format (ATick moment) n count here now not e = absurd (let bad : true ≡ false = not in cc)
none_read format End n count here now not e =
    let same : count ≡ n = e.count ∙ add-zero n in
    record {
      reads = record {
        each = tt;
        count = omega (arith, same);
        few = λ few. rw same few;
        here = here;
        read = Consumes-nil here;
        ends = subst (λ k. EndsBatch format End k [] here now) (sym (add-zero n)) e.ends;
      };
      few = omega arith;
      next = λ is. absurd (let bad : 0 ≡ 1 = is in omega (arith, bad));
    }
none_read format (Fault fault) n count here now not e =
    let same : count ≡ n = e.count ∙ add-zero n in
    record {
      reads = record {
        each = tt;
        count = omega (arith, same);
        few = λ few. rw same few;
        here = here;
        read = Consumes-nil here;
        ends = subst (λ k. EndsBatch format (Fault fault) k [] here now) (sym (add-zero n)) e.ends;
      };
      few = omega arith;
      next = λ is. absurd (let bad : 0 ≡ 1 = is in omega (arith, bad));
    }

pub none_ahead : (format : Format) (last : BatchEnd) (n count : ℕ) (batch : List Record) (here now : Option (List ℕ)) → goes_on last ≡ false → Ended format last count now n here → batch ≡ []
    → ReadsAhead format last here now n count batch last
none_ahead format last n count batch here now not e none =
    subst (λ b. ReadsAhead format last here now n count b last) (sym none) (none_read format last n count here now not e)

-- where more may follow, it is read
more_read : (format : Format) (n count m : ℕ) (batch : List Record) (here now after : Option (List ℕ)) (end : BatchEnd) → Ended format More count now n here → ReadsBatch format now after count m batch end
    → length batch ≤ 4096 → ReadsAhead format More here after n m batch end
more_read format n count m batch here now after end e r fits = record {
  reads = subst (λ k. ReadsBatch format here after k m batch end) (e.count ∙ add-zero n) (subst (λ h. ReadsBatch format h after count m batch end) e.ends.1 r);
  few = fits;
  next = λ is. absurd (let bad : 0 ≡ 1 = is in omega (arith, bad));
}

pub more_ahead : (format : Format) (last : BatchEnd) (n count m : ℕ) (batch : List Record) (here now after : Option (List ℕ)) (end : BatchEnd) → last ≡ More → Ended format last count now n here
    → ReadsBatch format now after count m batch end → length batch ≤ 4096 → ReadsAhead format last here after n m batch end
more_ahead format last n count m batch here now after end is e r fits =
    subst (λ l. ReadsAhead format l here after n m batch end) (sym is)
    (more_read format n count m batch here now after end (subst (λ l. Ended format l count now n here) is e) r fits)

-- the tick that ended the batch before is a batch
tick_read : (format : Format) (moment n count : ℕ) (here now : Option (List ℕ)) → Ended format (ATick moment) count now n here → ReadsAhead format (ATick moment) here now n count (Tick moment ∷ []) More
tick_read format moment n count here now e =
    let below = e.ends.0 in
    record {
      reads = record {
        each = (e.ends.1, tt);
        count = omega (arith, e.count);
        few = λ few. omega (arith, e.count, below);
        here = now;
        read = subst (Consumes here now) (sym (append-nil (frame format (Tick moment)))) e.ends.2;
        ends = (omega arith, refl);
      };
      few = omega arith;
      next = λ is. refl;
    }

pub tick_ahead : (format : Format) (last : BatchEnd) (moment n count : ℕ) (batch : List Record) (here now : Option (List ℕ)) → last ≡ ATick moment → Ended format last count now n here
    → batch ≡ Tick moment ∷ [] → ReadsAhead format last here now n count batch More
tick_ahead format last moment n count batch here now is e are =
    subst (λ l. ReadsAhead format l here now n count batch More) (sym is)
    (subst (λ b. ReadsAhead format (ATick moment) here now n count b More) (sym are)
    (tick_read format moment n count here now (subst (λ l. Ended format l count now n here) is e)))

-- a fault that is always NoMemory is CannotWrite or NoMemory
pub of_memory : {X : Type 0} (r : Result X RunFault) → IfErr r (λ fault. fault ≡ NoMemory) → IfErr r (λ fault. (fault ≡ CannotWrite) ⊎ (fault ≡ NoMemory))
of_memory (Ok x) h = tt
of_memory (Err fault) h = inr h
