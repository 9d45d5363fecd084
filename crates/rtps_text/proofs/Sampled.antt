-- A run whose notices are kept in caches: one more batch, and how it ends.
use Rattle.std.proofs.Common.{◌≡◌, ℕ, ◌<◌, inl, List, [], ◌∷◌, ◌++◌, Bool, if◌then◌else◌, All, Option, Result, Ok, Err, OnErr, Global, arith, refl, subst, sym, ap, ◌∙◌, map, length, get_or, append-nil, zero, suc}
use Rattle.std.specs.Io.KnownBytes.{Appends}
use Rattle.std.proofs.KnownBytes.{Appends-nil, Appends-trans}
use Rattle.std.proofs.lemmas.List.{map-append}
use Rattle.std.proofs.lemmas.List.Elements.{All-get_or}
use Rattle.rtps_records.specs.Runs.{Moves, PutsFront, Stops}
use Rattle.rtps_records.specs.declared.fault.RunFault.{RunFault}
use Rattle.rtps_records.specs.declared.fault.RunFault.TheVariants.{CannotRead, NotRecordFile, CutRecord, RecordTooLong, TooManyRecords, CannotWrite, CannotReadNorWrite, NoMemory}
use Rattle.dds_topic.specs.Decoding.{Decoding}
use Rattle.dds_cache.specs.Standing as shelf
use Rattle.dds_cache.specs.Standing.{CacheView}
use Rattle.dds_cache.specs.Calls.{Done, accepted_after}
use Rattle.dds_cache.specs.declared.history.History.{History}
use Rattle.rtps_discovery.specs.declared.config.Config.{Config}
use Rattle.rtps_reader.specs.Notice.{notice_view}
use Rattle.rtps_reader.specs.declared.notice.Notice.{Notice}
use Rattle.rtps_reader.specs.declared.notice.Output.{Output}
use Rattle.rtps_text.specs.Inputs.{run}
use Rattle.rtps_run.specs.Seen.{notices_by}
use Rattle.rtps_run.specs.Standing.{EngineView}
use Rattle.rtps_text.specs.Inputs.{StandsAt, run_by}
use Rattle.rtps_run.specs.World.{World}
use Rattle.dds_participant.proofs.Giving.{told_at}
use Rattle.rtps_text.proofs.Inputs.{run_count, shown_count}
use Rattle.rtps_run.specs.BatchOutput.{IsGiven, told_in}
use Rattle.rtps_run.specs.declared.batch_output.BatchOutput.{BatchOutput}
use Rattle.rtps_text.specs.Batched.{TakesRecords}
use Rattle.rtps_text.specs.Caches.{AllAccept, AreKept, HasHeard, IsEmpty, StopsLate}
use Rattle.rtps_text.specs.Entries.{entry_lines, samples_by, samples_text}
use Rattle.rtps_text.specs.Replayed.{summary_text}
use Rattle.rtps_text.proofs.Caching.{moves_printed}
use Rattle.rtps_text.proofs.Run.{Printed, printed_front, printed_more}
use Rattle.rtps_records.specs.RecordFile.{Record}

-- ---- the caches

-- before the first record, nothing was reported and nothing was accepted
pub kept_first : {C V M : Type 0} (f : V → M) (decoding : C → Decoding M) (history : History)
    (engine : EngineView C) (caches : List (CacheView V)) (readers : ℕ)
    → StandsAt decoding [] engine → readers ≡ length engine.statuses → length caches ≡ readers
    → All (IsEmpty history) caches → AreKept f decoding history [] engine caches
kept_first f decoding history engine caches readers stands counted count empty = record {
  stands = stands;
  count = count ∙ counted ∙ shown_count decoding [] engine stands;
  heard = λ rank other below.
      let e = All-get_or (IsEmpty history) caches rank other below empty in
      record { keep = e.keep; heard = []; means = refl; stands = e.stands };
}

element : {X : Type 0} (xs : List X) (i : ℕ) → i < length xs → (x : X) × (x ≡ get_or xs i x)
element [] i below = absurd (omega (arith, below))
element (x ∷ xs) zero below = (x, refl)
element (x ∷ xs) (suc i) below = element xs i (omega (arith, below))

accepted_both : {X : Type 0} (past : List (Done X)) (ns ms : List (Notice X))
    → accepted_after past (ns ++ ms) ≡ accepted_after (accepted_after past ns) ms
accepted_both past [] ms = refl
accepted_both past (n ∷ ns) ms = accepted_both _ ns ms

-- engines with the same catalog and configuration have the same run
same_run : {C M : Type 0} (decoding : C → Decoding M) (a b : EngineView C) → (b.catalog ≡ a.catalog)
    × (b.config ≡ a.config) → (records : List Record) → run_by decoding a records
    ≡ run_by decoding b records
same_run {C} decoding a b same records =
    ap (λ (k : C). run (decoding k) a.config records) (sym same.0)
    ∙ ap (λ (config : Config). run (decoding b.catalog) config records) (sym same.1)

-- there is a cache for each reader's output
pub outputs_many : {C V M : Type 0} (f : V → M) (decoding : C → Decoding M) (history : History)
    (records batch : List Record) (engine : EngineView C) (caches : List (CacheView V))
    (given : BatchOutput V)
    → AreKept f decoding history records engine caches
    → IsGiven f (run_by decoding engine records) (run_by decoding engine (records ++ batch))
    given
    → length given.outputs.items ≡ length caches
outputs_many f decoding history records batch engine caches given k is =
    is.readers ∙ run_count (decoding engine.catalog) engine.config (records ++ batch) ∙ sym k.count

-- the caches accepted the notices of a batch
pub kept_more : {C V M : Type 0} (f : V → M) (decoding : C → Decoding M) (history : History)
    (records batch : List Record) (before after : EngineView C) (given : BatchOutput V)
    (caches next : List (CacheView V))
    → (after.catalog ≡ before.catalog) × (after.config ≡ before.config)
    → AreKept f decoding history records before caches
    → StandsAt decoding (records ++ batch) after
    → IsGiven f (run_by decoding before records) (run_by decoding before (records ++ batch)) given
    → AllAccept given.outputs.items caches next
    → AreKept f decoding history (records ++ batch) after next
kept_more {C} {V} {M} f decoding history records batch before after given caches next same k stands
    is a = record {
      stands = stands;
      count = a.count ∙ k.count ∙ ap (λ (config : Config). length config.readers.items) (sym same.1);
      heard = λ rank other below. heard rank other (subst (λ n. rank < n) a.count below);
    }
  where
    heard : (rank : ℕ) (other : CacheView V) → rank < length caches
        → HasHeard f history (notices_by rank (run_by decoding after (records ++ batch)).put)
        (get_or next rank other)
    heard rank other below =
        let within : rank < length given.outputs.items = subst (λ n. rank < n)
        (sym (outputs_many f decoding history records batch before caches given k is)) below in
        let o = element given.outputs.items rank within in
        let h = k.heard rank other below in
        let goes = a.each rank o.0 other below in
        let out : Output V Global = get_or given.outputs.items rank o.0 in
        let gave : told_in f given.outputs.items rank ≡ map (notice_view f) out.notices.items =
        told_at f given.outputs.items rank o.0 within in
        record {
          keep = goes.keep ∙ h.keep;
          heard = h.heard ++ out.notices.items;
          means = map-append (notice_view f) h.heard out.notices.items
              ∙ ap (λ l. l ++ map (notice_view f) out.notices.items) h.means
              ∙ ap (λ l. notices_by rank (run_by decoding before records).put ++ l) (sym gave)
              ∙ sym (is.told rank within)
              ∙ ap (λ (w : World M). notices_by rank w.put)
              (same_run decoding before after same (records ++ batch));
          stands = subst (λ p. shelf.StandsAt p (get_or next rank other))
              (sym (accepted_both [] h.heard out.notices.items))
              (goes.stands (accepted_after [] h.heard) h.stands);
        }

-- one more batch was processed, and its notices were accepted
pub batch_kept : {C V M : Type 0} (f : V → M) (decoding : C → Decoding M) (history again : History)
    (records batch : List Record) (before next final : EngineView C) (given : BatchOutput V)
    (caches later : List (CacheView V))
    → (next.catalog ≡ before.catalog) × (next.config ≡ before.config) → final ≡ next
    → again ≡ history → TakesRecords f decoding batch before next given
    → AllAccept given.outputs.items caches later
    → AreKept f decoding history records before caches
    → AreKept f decoding again (records ++ batch) final later
batch_kept {C} f decoding history again records batch before next final given caches later same is
    keep takes a k =
    subst (λ h. AreKept f decoding h (records ++ batch) final later) (sym keep)
    (subst (λ (e : EngineView C). AreKept f decoding history (records ++ batch) e later) (sym is)
    (kept_more f decoding history records batch before next given caches later same k
    (takes.stands records k.stands) (takes.gives records k.stands) a))

-- runs with the same catalog, configuration, summary setting and history have the same text
pub same_samples : {C M : Type 0} (text : C → M → List ℕ) (decoding : C → Decoding M)
    (a b : EngineView C) (s t : Bool) (j k : History) → a.catalog ≡ b.catalog → a.config ≡ b.config
    → s ≡ t → j ≡ k
    → (records : List Record) → samples_by text decoding a s j records
    ≡ samples_by text decoding b t k records
same_samples {C} text decoding a b s t j k same e f g records =
    ap (λ (catalog : C). samples_text (text catalog) (decoding catalog) a.config s j records) same
    ∙ ap (λ (config : Config). samples_text (text b.catalog) (decoding b.catalog) config s j
    records) e
    ∙ ap (λ u. samples_text (text b.catalog) (decoding b.catalog) b.config u j records) f
    ∙ ap (λ u. samples_text (text b.catalog) (decoding b.catalog) b.config t u records) g

-- ---- how a run stops

pub late : (text : List Record → List ℕ) (fault : RunFault) (before after old new : Option (List ℕ))
    → Stops text fault before after old new → StopsLate text fault before after old new
unfolding Stops StopsLate
late text NotRecordFile before after old new h = h
late text CannotRead before after old new h = h
late text CannotWrite before after old new h = h
late text CannotReadNorWrite before after old new h = h
late text NoMemory before after old new h = inl h
late text (CutRecord n) before after old new h = h
late text (RecordTooLong n) before after old new h = h
late text TooManyRecords before after old new h = h

-- ---- the last text

-- the text is the lines of the entries, followed by the summary
pub all_text : {C V M : Type 0} (text : C → M → List ℕ) (f : V → M) (decoding : C → Decoding M)
    (engine : EngineView C) (summary : Bool) (history : History) (records : List Record)
    (caches : List (CacheView V)) (catalog : C) (rest : List ℕ)
    → AreKept f decoding history records engine caches → catalog ≡ engine.catalog → rest
    ≡ (if summary then summary_text (run_by decoding engine records) else [])
    → samples_by text decoding engine summary history records
    ≡ entry_lines (text catalog) history (run_by decoding engine records).put (length caches)
    ++ rest
all_text {C} text f decoding engine summary history records caches catalog rest k same e =
    ap (λ n. entry_lines (text engine.catalog) history (run_by decoding engine records).put n
    ++ (if summary then summary_text (run_by decoding engine records) else []))
    (run_count (decoding engine.catalog) engine.config records ∙ sym k.count)
    ∙ ap (λ l. entry_lines (text engine.catalog) history (run_by decoding engine records).put
    (length caches) ++ l) (sym e)
    ∙ ap (λ (c : C). entry_lines (text c) history (run_by decoding engine records).put
    (length caches) ++ rest) (sym same)

-- the lines of the entries were added, and nothing was kept back before
pub entries_printed : (old mid : Option (List ℕ)) (kept entries left whole rest : List ℕ) → kept
    ≡ [] → Moves old mid (kept ++ entries) left → whole ≡ entries ++ rest
    → Printed old mid whole left rest
entries_printed old mid kept entries left whole rest none m e = moves_printed old mid
    (kept ++ entries) left whole rest m (e ∙ ap (λ k. (k ++ entries) ++ rest) (sym none))

-- the whole text was written
pub all_written : (old mid new : Option (List ℕ)) (whole left rest out : List ℕ)
    → Printed old mid whole left rest → out ≡ left ++ rest → Appends mid new out
    → Appends old new whole
all_written old mid new whole left rest out p e put =
    subst (Appends old new) (ap (λ l. p.written ++ l) e ∙ sym p.whole_is)
    (Appends-trans _ _ _ _ _ p.wrote put)

-- a prefix of the text was written
pub front_written : (old mid new : Option (List ℕ)) (whole left rest out : List ℕ)
    → Printed old mid whole left rest → out ≡ left ++ rest → PutsFront mid new out
    → PutsFront old new whole
front_written old mid new whole left rest out p e put =
    let done : Printed old mid whole out [] = printed_more old mid whole left rest [] out
    (subst (Printed old mid whole left) (sym (append-nil rest)) p) e in
    printed_front old mid new whole out [] done put

pub entries_front : (old new : Option (List ℕ)) (kept entries whole rest : List ℕ) → kept ≡ []
    → PutsFront old new (kept ++ entries) → whole ≡ entries ++ rest → PutsFront old new whole
entries_front old new kept entries whole rest none put e =
    let p : Printed old old whole (kept ++ entries) rest =
    record {
      written = [];
      wrote = Appends-nil old;
      whole_is = e
          ∙ ap (λ k. (k ++ entries) ++ rest) (sym none);
    } in
    printed_front old old new whole (kept ++ entries) rest p put

pub on_err_then : {T E P Q : Type 0} (r : Result T E) → (P → Q) → OnErr r P → OnErr r Q
on_err_then (Ok x) f h = tt
on_err_then (Err e) f h = f h
