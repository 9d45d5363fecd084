-- The records of a batch: a tick is no datagram, and prints nothing.
use Rattle.std.proofs.Common.{◌≡◌, ℕ, suc, ◌+◌, ◌<◌, ◌≤◌, List, [], ◌∷◌, ◌++◌, Option, None, Some, Result, Ok, Err, IfOk, arith, refl, sym, ap, subst, ◌∙◌, length, map, option_map, option_to_list}
use Rattle.rtps_types.specs.declared.datagram.Datagram.{Datagram}
use Rattle.rtps_records.specs.Batches.{datagrams_in, record_of, records_in}
use Rattle.rtps_records.specs.RecordFile.{Record, Tick}
use Rattle.rtps_records.specs.Text.{datagrams_of, text_from}
use Rattle.rtps_records.specs.declared.batch.Batch.{Batch}
use Rattle.rtps_records.proofs.Batching.{some_used}

-- a tick before other records prints nothing
tick_text : (line : ℕ → List ℕ → List ℕ) (n : ℕ) (tick : Option ℕ) (records : List Record) → text_from line n (option_to_list (option_map Tick tick) ++ records) ≡ text_from line n records
tick_text line n None records = refl
tick_text line n (Some moment) records = refl

tick_datagrams : (tick : Option ℕ) (records : List Record) → datagrams_of (option_to_list (option_map Tick tick) ++ records) ≡ datagrams_of records
tick_datagrams None records = refl
tick_datagrams (Some moment) records = refl

tick_longer : (tick : Option ℕ) (records : List Record) → length records ≤ length (option_to_list (option_map Tick tick) ++ records)
tick_longer None records = omega arith
tick_longer (Some moment) records = omega arith

count_of : (ds : List Datagram) → length (datagrams_of (map record_of ds)) ≡ length ds
count_of [] = refl
count_of (d ∷ ds) = ap suc (count_of ds)

length_of : (ds : List Datagram) → length (map record_of ds) ≡ length ds
length_of [] = refl
length_of (d ∷ ds) = ap suc (length_of ds)

-- the text of a batch is that of its datagrams
pub batch_text : {A : Type 0} (line : ℕ → List ℕ → List ℕ) (n : ℕ) (b : Batch A) (ds : List Datagram) → map record_of ds ≡ datagrams_in b → text_from line n (map record_of ds) ≡ text_from line n (records_in b)
batch_text line n b ds are = ap (text_from line n) are ∙ sym (tick_text line n b.tick (datagrams_in b))

pub batch_fewer : {A : Type 0} (n : ℕ) (b : Batch A) (ds : List Datagram) → map record_of ds ≡ datagrams_in b → n + length (records_in b) ≤ 4294967295 → n + length ds ≤ 4294967295
batch_fewer n b ds are few = omega (arith, sym (length_of ds), ap length are, tick_longer b.tick (datagrams_in b), few)

-- the number after a batch counts its datagrams
pub next_after : {A E : Type 0} (r : Result ℕ E) (n : ℕ) (b : Batch A) (ds : List Datagram) → map record_of ds ≡ datagrams_in b → IfOk r (λ next. next ≡ n + length ds) → IfOk r (λ next. next ≡ n + length (datagrams_of (records_in b)))
next_after (Ok next) n b ds are is = is ∙ ap (λ k. n + k) (sym (count_of ds) ∙ ap (λ l. length (datagrams_of l)) are ∙ ap length (sym (tick_datagrams b.tick (datagrams_in b))))
next_after (Err e) n b ds are is = tt

-- a batch with octets has a record
pub any_used : {A : Type 0} (b : Batch A) → 0 < b.used → 0 < length (records_in b)
any_used b used = by_tick b.tick refl
  where
    by_tick : (tick : Option ℕ) → b.tick ≡ tick → 0 < length (option_to_list (option_map Tick tick) ++ datagrams_in b)
    by_tick None is = subst (λ t. 0 < length (option_to_list (option_map Tick t) ++ datagrams_in b)) is (some_used b is used)
    by_tick (Some moment) is = omega arith
