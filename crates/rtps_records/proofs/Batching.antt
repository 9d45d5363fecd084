-- The reading of a batch, one record after the other.
use Rattle.std.proofs.Common.{◌≡◌, ℕ, ◌+◌, ◌<◌, List, [], ◌∷◌, Option, None, arith, refl, length, subst, sym, ap, ◌∙◌, length-append, add-zero}
use Rattle.std.specs.List.{AllByRecursion, flat_map}
use Rattle.std.specs.Io.KnownBytes.{Consumes}
use Rattle.std.proofs.KnownBytes.{Consumes-nil, Consumes-trans}
use Rattle.rtps_records.specs.Batches.{EndsBatch, HasRead, ReadsBatch, records_in, ticks_in}
use Rattle.rtps_records.specs.RecordFile.{IsRecord, Record, frame}
use Rattle.rtps_records.specs.Steps.{ReadsOne}
use Rattle.rtps_records.specs.declared.batch.Batch.{Batch}
use Rattle.rtps_records.specs.declared.batch_end.BatchEnd.{BatchEnd}
use Rattle.rtps_records.specs.declared.batch_end.BatchEnd.TheVariants.{End, Fault, More, Tick}
use Rattle.rtps_records.specs.declared.format.Format.{Format}
use Rattle.rtps_records.specs.declared.piece.Piece.{Piece}
use Rattle.rtps_records.proofs.Cuts.{covered, length-held}
use Rattle.rtps_records.proofs.Progress.{all_more, frames_more}

-- nothing was read yet
pub fresh : {A : Type 0} (format : Format) (now : Option (List ℕ)) (n : ℕ) (b : Batch A) → records_in b ≡ [] → HasRead format now now n n (records_in b)
fresh format now n b none =
    record {
      few = λ few. few;
      count = sym (add-zero n) ∙ ap (λ l. n + length l) (sym none);
      each = subst (AllByRecursion (IsRecord format)) (sym none) tt;
      read = subst (λ l. Consumes now now (flat_map (frame format) l)) (sym none) (Consumes-nil now);
    }

-- the format of the file stays
pub in_format : (format now_format : Format) (end : BatchEnd) (n : ℕ) (before after : Option (List ℕ)) (old new : List Record) → now_format ≡ format → ReadsOne now_format end n before after old new
    → ReadsOne format end n before after old new
in_format format now_format end n before after old new same r = subst (λ f. ReadsOne f end n before after old new) same r

-- one record more
pub more : (format : Format) (before now after : Option (List ℕ)) (n m : ℕ) (records new : List Record) (end : BatchEnd) → HasRead format before now n m records
    → end ≡ More → ReadsOne format end m now after records new → (m < 4294967295) × (length new ≡ length records + 1) × HasRead format before after n (m + 1) new
unfolding ReadsOne
more format before now after n m records new End s is r = absurd (let bad : End ≡ More = is in cc)
more format before now after n m records new (Fault fault) s is r = absurd (let bad : Fault fault ≡ More = is in cc)
more format before now after n m records new (Tick moment) s is r = absurd (let bad : Tick moment ≡ More = is in cc)
more format before now after n m records new More s is (below, (one, short, read, e)) =
    let longer : length new ≡ length records + 1 = ap length e ∙ length-append records (one ∷ []) in (
      below,
      longer,
      record {
        few = λ few. omega (arith, below);
        count = omega (arith, s.count, longer);
        each = subst (AllByRecursion (IsRecord format)) (sym e) (all_more (IsRecord format) records one s.each short);
        read = subst (Consumes before after) (frames_more format records one ∙ ap (flat_map (frame format)) (sym e)) (Consumes-trans _ _ _ _ _ s.read read);
      },
    )

ends_as : (format : Format) (before now after : Option (List ℕ)) (n m : ℕ) (records new : List Record) (end : BatchEnd) → HasRead format before now n m records
    → new ≡ records → ticks_in end ≡ 0 → EndsBatch format end m new now after → ReadsBatch format before after n m new end
ends_as format before now after n m records new end s e none ends =
    let count : m ≡ n + length new = s.count ∙ ap (λ l. n + length l) (sym e) in
    record {
      each = subst (AllByRecursion (IsRecord format)) (sym e) s.each;
      count = count ∙ sym (add-zero (n + length new)) ∙ ap (λ k. (n + length new) + k) (sym none);
      few = s.few;
      here = now;
      read = subst (λ l. Consumes before now (flat_map (frame format) l)) (sym e) s.read;
      ends = subst (λ k. EndsBatch format end k new now after) count ends;
    }

-- a tick ends the batch, and counts as a record
pub ticked : (format : Format) (before now after : Option (List ℕ)) (n m moment : ℕ) (records new : List Record) (end : BatchEnd) → HasRead format before now n m records
    → end ≡ Tick moment → ReadsOne format end m now after records new → (m < 4294967295) × (new ≡ records) × ReadsBatch format before after n (m + 1) new (Tick moment)
unfolding ReadsOne
ticked format before now after n m moment records new end s is r = by_tick (subst (λ e. ReadsOne format e m now after records new) is r)
  where
    by_tick : ReadsOne format (Tick moment) m now after records new → (m < 4294967295) × (new ≡ records) × ReadsBatch format before after n (m + 1) new (Tick moment)
    by_tick (below, tick, read, e) =
        let count : m ≡ n + length new = s.count ∙ ap (λ l. n + length l) (sym e) in (
          below,
          e,
          record {
            each = subst (AllByRecursion (IsRecord format)) (sym e) s.each;
            count = ap (λ k. k + 1) count;
            few = λ few. omega (arith, below);
            here = now;
            read = subst (λ l. Consumes before now (flat_map (frame format) l)) (sym e) s.read;
            ends = (omega (arith, below, count), tick, read);
          },
        )

-- the file ends, or has a fault
pub ends_here : (format : Format) (before now after : Option (List ℕ)) (n m : ℕ) (records new : List Record) (end : BatchEnd) → HasRead format before now n m records
    → ReadsOne format end m now after records new → ¬ (end ≡ More) → ((moment : ℕ) → ¬ (end ≡ Tick moment)) → ReadsBatch format before after n m new end
unfolding ReadsOne
ends_here format before now after n m records new More s r other no_tick = absurd (other refl)
ends_here format before now after n m records new (Tick moment) s r other no_tick = absurd (no_tick moment refl)
ends_here format before now after n m records new End s r other no_tick = ends_as format before now after n m records new End s r.1 refl r.0
ends_here format before now after n m records new (Fault fault) s r other no_tick = ends_as format before now after n m records new (Fault fault) s r.1 refl r.0

-- the batch is full
pub full : (format : Format) (before now : Option (List ℕ)) (n m : ℕ) (records : List Record) → HasRead format before now n m records
    → 0 < length records → ReadsBatch format before now n m records More
full format before now n m records s some = ends_as format before now now n m records records More s refl refl (some, refl)

-- octets were used, so there is a record
pub some_used : {A : Type 0} (b : Batch A) → b.tick ≡ None → 0 < b.used → 0 < length (records_in b)
some_used b none used =
    subst (λ k. 0 < k) (sym (length-held b.tick b.pieces.items b.octets.items none)) (some_of b.pieces.items (subst (λ k. 0 < k) b.counted used))
  where
    some_of : (ps : List Piece) → 0 < covered ps → 0 < length ps
    some_of [] h = absurd (omega (arith, h))
    some_of (p ∷ ps) h = omega arith
