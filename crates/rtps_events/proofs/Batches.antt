-- The records of a batch, their text and their datagrams: a tick is no datagram, and prints nothing.
use Rattle.std.proofs.Common.{◌≡◌, ℕ, suc, ◌+◌, ◌-◌, ◌<◌, ◌≤◌, true, false, List, [], ◌∷◌, ◌++◌, Option, None, Some, arith, refl, sym, ap, ◌∙◌, length, map, drop, get_or, option_map, option_to_list}
use Rattle.std.proofs.lemmas.List.{drop_more}
use Rattle.rtps_types.specs.declared.datagram.Datagram.{Datagram}
use Rattle.rtps_records.specs.Batches.{ReadsBatch, datagrams_in, record_of, records_in}
use Rattle.rtps_records.specs.RecordFile.{Record, Tick}
use Rattle.rtps_records.specs.RecordFile as file
use Rattle.rtps_records.specs.Text.{datagrams_of, text_from}
use Rattle.rtps_records.specs.declared.batch.Batch.{Batch}
use Rattle.rtps_records.specs.declared.batch_end.BatchEnd.{BatchEnd}
use Rattle.rtps_records.specs.declared.batch_end.BatchEnd.TheVariants.{End, Fault, More}
use Rattle.rtps_records.specs.declared.batch_end.BatchEnd.TheVariants as code
use Rattle.rtps_records.specs.declared.format.Format.{Format}
use Rattle.rtps_events.specs.Printed.{goes_on}

-- a tick before other records prints nothing
tick_text : (line : ℕ → List ℕ → List ℕ) (n : ℕ) (tick : Option ℕ) (records : List Record) → text_from line n (option_to_list (option_map Tick tick) ++ records) ≡ text_from line n records
tick_text line n None records = refl
tick_text line n (Some moment) records = refl

tick_datagrams : (tick : Option ℕ) (records : List Record) → datagrams_of (option_to_list (option_map Tick tick) ++ records) ≡ datagrams_of records
tick_datagrams None records = refl
tick_datagrams (Some moment) records = refl

tick_longer : (tick : Option ℕ) (records : List Record) → length records ≤ length (option_to_list (option_map Tick tick) ++ records)
tick_longer None records = omega arith
tick_longer (Some moment) records = omega arith

count_of : (ds : List Datagram) → length (datagrams_of (map record_of ds)) ≡ length ds
count_of [] = refl
count_of (d ∷ ds) = ap suc (count_of ds)

length_of : (ds : List Datagram) → length (map record_of ds) ≡ length ds
length_of [] = refl
length_of (d ∷ ds) = ap suc (length_of ds)

-- the text of a batch is that of its datagrams
pub batch_text : {A : Type 0} (line : ℕ → List ℕ → List ℕ) (n : ℕ) (b : Batch A) (ds : List Datagram) → map record_of ds ≡ datagrams_in b → text_from line n (map record_of ds) ≡ text_from line n (records_in b)
batch_text line n b ds are = ap (text_from line n) are ∙ sym (tick_text line n b.tick (datagrams_in b))

-- its datagrams are those that were listed
pub batch_datagrams : {A : Type 0} (b : Batch A) (ds : List Datagram) → map record_of ds ≡ datagrams_in b → datagrams_of (map record_of ds) ≡ datagrams_of (records_in b)
batch_datagrams b ds are = ap datagrams_of are ∙ sym (tick_datagrams b.tick (datagrams_in b))

pub batch_count : {A : Type 0} (b : Batch A) (ds : List Datagram) → map record_of ds ≡ datagrams_in b → length ds ≡ length (datagrams_of (records_in b))
batch_count b ds are = sym (count_of ds) ∙ ap (λ l. length l) (batch_datagrams b ds are)

pub batch_fewer : {A : Type 0} (n : ℕ) (b : Batch A) (ds : List Datagram) → map record_of ds ≡ datagrams_in b → n + length (records_in b) ≤ 4294967295 → n + length ds ≤ 4294967295
batch_fewer n b ds are few = omega (arith, sym (length_of ds), ap length are, tick_longer b.tick (datagrams_in b), few)

-- one datagram more
pub record_more : (line : ℕ → List ℕ → List ℕ) (n : ℕ) (xs : List Datagram) (i : ℕ) (d : Datagram) → i < length xs
    → text_from line n (map record_of (drop i xs)) ≡ line n (get_or xs i d).bytes.now ++ text_from line (n + 1) (map record_of (drop (i + 1) xs))
record_more line n xs i d below = ap (λ l. text_from line n (map record_of l)) (drop_more xs i d below)

pub datagrams_more : (xs : List Datagram) (i : ℕ) (d : Datagram) → i < length xs
    → datagrams_of (map record_of (drop i xs)) ≡ (get_or xs i d).bytes.now ∷ datagrams_of (map record_of (drop (i + 1) xs))
datagrams_more xs i d below = ap (λ l. datagrams_of (map record_of l)) (drop_more xs i d below)

-- the datagrams of records and others
pub datagrams_both : (xs ys : List Record) → datagrams_of (xs ++ ys) ≡ datagrams_of xs ++ datagrams_of ys
datagrams_both [] ys = refl
datagrams_both (file.Datagram moment octets ∷ xs) ys = ap (λ l. octets ∷ l) (datagrams_both xs ys)
datagrams_both (Tick moment ∷ xs) ys = datagrams_both xs ys

pub datagrams_fewer : (xs : List Record) → length (datagrams_of xs) ≤ length xs
datagrams_fewer [] = omega arith
datagrams_fewer (file.Datagram moment octets ∷ xs) = let rest = datagrams_fewer xs in omega (arith, rest)
datagrams_fewer (Tick moment ∷ xs) = let rest = datagrams_fewer xs in omega (arith, rest)

-- a number that decreases with each batch: the number of records that may follow, and one
abbrev pub left_of : BatchEnd → ℕ → ℕ
left_of More count = 4294967296 - count
left_of (code.Tick moment) count = 4294967296 - count
left_of End count = 0
left_of (Fault fault) count = 0

fewer_here : (format : Format) (before after : Option (List ℕ)) (end : BatchEnd) (n m : ℕ) (records : List Record) → n ≤ 4294967295
    → ReadsBatch format before after n m records end → left_of end m < 4294967296 - n
fewer_here format before after More n m records few r = let more = r.few few in omega (arith, r.count, r.ends.0, more, few)
fewer_here format before after (code.Tick moment) n m records few r = let more = r.few few in omega (arith, r.count, more, few)
fewer_here format before after End n m records few r = omega (arith, few)
fewer_here format before after (Fault fault) n m records few r = omega (arith, few)

pub fewer_left : (format : Format) (before after : Option (List ℕ)) (last end : BatchEnd) (n m : ℕ) (records : List Record) → goes_on last ≡ true → n ≤ 4294967295
    → ReadsBatch format before after n m records end → left_of end m < left_of last n
fewer_left format before after More end n m records on few r = fewer_here format before after end n m records few r
fewer_left format before after (code.Tick moment) end n m records on few r = fewer_here format before after end n m records few r
fewer_left format before after End end n m records on few r = absurd (let bad : false ≡ true = on in cc)
fewer_left format before after (Fault fault) end n m records on few r = absurd (let bad : false ≡ true = on in cc)
