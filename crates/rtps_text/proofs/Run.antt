-- A run and its text, after one more record.
use Rattle.std.proofs.Common.{◌≡◌, ℕ, suc, ◌+◌, arith, Option, Result, Ok, Err, OnErr, OnOk, IfErr, subst, List, [], ◌∷◌, ◌++◌, Bool, true, false, if◌then◌else◌, sym, ap, ◌∙◌, append-nil, append_assoc, inl, inr, length, refl, take, drop, take-append-drop}
use Rattle.std.specs.List.{flat_map}
use Rattle.std.proofs.lemmas.Grind.{flat_map-append}
use Rattle.std.specs.Io.{StartsWith}
use Rattle.std.proofs.lemmas.List.{append_cancel_left}
use Rattle.rtps_discovery.specs.declared.config.Config.{Config}
use Rattle.dds_topic.specs.Decoding.{Decoding}
use Rattle.std.specs.Io.KnownBytes.{Appends}
use Rattle.std.proofs.KnownBytes.{Appends-kept, Appends-nil, Appends-trans}
use Rattle.std.proofs.Math.Seq.{take-append_seam}
use Rattle.rtps_records.specs.Runs.{Moves, PutsFront, Spills, Stops}
use Rattle.rtps_records.specs.Text.{Ends, IsFront}
use Rattle.rtps_records.specs.declared.fault.RunFault.{RunFault}
use Rattle.rtps_records.specs.declared.fault.RunFault.TheVariants.{NoMemory}
use Rattle.rtps_reader.specs.declared.status.Status.{Status}
use Rattle.rtps_run.specs.Seen.{status_seen}
use Rattle.rtps_types.specs.declared.identity.GuidPrefix.{GuidPrefix}
use Rattle.rtps_run.specs.Occurrence.{Occurrence}
use Rattle.rtps_run.specs.World.{ReportView, World, count_after, discovery_puts, puts_below, world_after}
use Rattle.rtps_run.specs.Input.{index_after, occurrences_from, occurrences_of}
use Rattle.rtps_run.specs.Run.{first_world, world_run}
use Rattle.rtps_run.specs.Standing.{EngineView}
use Rattle.rtps_text.specs.Inputs.{StandsAt, input_of, inputs_of, run_by}
use Rattle.rtps_text.specs.Replayed.{HasSaid, put_line, replay_text, status_lines, status_text, summary_text, text_by}
use Rattle.rtps_records.specs.RecordFile.{Record}

-- a prefix of a text is a prefix of a longer text
pub front_more : (a b c x : List ℕ) → IsFront a b → c ≡ b ++ x → IsFront a c
front_more a b c x f e = (f.0 ++ x, e ∙ ap (λ l. l ++ x) f.1 ∙ append_assoc a f.0 x)

-- a text is its prefix, followed by the rest
grown : (whole front : List ℕ) → StartsWith whole front → whole ≡ front ++ drop (length front) whole
grown whole front e = sym (take-append-drop (length front) whole) ∙ ap (λ l. l ++ drop (length front) whole) e

-- without a summary, nothing is left to say
pub ends_plain : {C M : Type 0} (text : C → M → List ℕ) (decoding : C → Decoding M) (engine : EngineView C) (summary : Bool) (old : List ℕ) → summary ≡ false
    → Ends (λ records said. HasSaid text decoding records said engine) (text_by text decoding engine summary) old old
unfolding Ends
ends_plain text decoding engine true old e = absurd (let bad : true ≡ false = e in cc)
ends_plain text decoding engine false old e = ([], sym (append-nil old), λ records said h. ap (λ l. l ++ []) (sym h.lines))

-- with a summary, it is all that is left to say
pub ends_summed : {C M : Type 0} (text : C → M → List ℕ) (decoding : C → Decoding M) (engine : EngineView C) (summary : Bool) (old new : List ℕ) → summary ≡ true
    → StartsWith new old → ((records : List Record) → StandsAt decoding records engine → new ≡ old ++ summary_text (run_by decoding engine records))
    → Ends (λ records said. HasSaid text decoding records said engine) (text_by text decoding engine summary) old new
unfolding Ends
ends_summed text decoding engine false old new e keeps sums = absurd (let bad : false ≡ true = e in cc)
ends_summed text decoding engine true old new e keeps sums =
    let more = drop (length old) new in
    let front = grown new old keeps in (
      more,
      front,
      λ records said h. ap (λ l. l ++ summary_text (run_by decoding engine records)) (sym h.lines)
          ∙ ap (λ l. said ++ l) (append_cancel_left old (summary_text (run_by decoding engine records)) more (sym (sums records h.stands) ∙ front)),
    )

-- the run over these occurrences puts out what the run over those puts out, and then more
abbrev GoesOn : {M : Type 0} → Decoding M → World M → List Occurrence → List Occurrence → Type 0
GoesOn {M} decoding w those these = (extra : List (ReportView M)) × ((world_run decoding w these).put ≡ (world_run decoding w those).put ++ extra)

-- what was put out before is put out first
put_stays : {M : Type 0} (decoding : Decoding M) (w : World M) (os : List Occurrence) → GoesOn decoding w [] os
put_stays decoding w [] = ([], sym (append-nil w.put))
put_stays decoding w (o ∷ os) =
    let here = discovery_puts w.known o ++ puts_below decoding w.known o w.readers (count_after w o) in
    let rest = put_stays decoding (world_after decoding w o) os in
    (here ++ rest.0, rest.1 ∙ append_assoc w.put here rest.0)

goes_on_behind : {M : Type 0} (decoding : Decoding M) (those these : List Occurrence) → ((w : World M) → GoesOn decoding w those these) → (w : World M) (os : List Occurrence)
    → GoesOn decoding w (os ++ those) (os ++ these)
goes_on_behind decoding those these on w [] = on w
goes_on_behind decoding those these on w (o ∷ os) = goes_on_behind decoding those these on (world_after decoding w o) os

goes_on : {M : Type 0} (decoding : Decoding M) (own : GuidPrefix) (index : ℕ) (records more : List Record) (w : World M)
    → GoesOn decoding w (occurrences_from own index (inputs_of records)) (occurrences_from own index (inputs_of (records ++ more)))
goes_on decoding own index [] more w = put_stays decoding w (occurrences_from own index (inputs_of more))
goes_on decoding own index (r ∷ records) more w =
    let next = index_after index (input_of r) in
    goes_on_behind decoding (occurrences_from own next (inputs_of records)) (occurrences_from own next (inputs_of (records ++ more))) (goes_on decoding own next records more) w (occurrences_of own index (input_of r))

-- what a run puts out over more records begins with what it puts out over the first ones
pub put_on : {C M : Type 0} (decoding : C → Decoding M) (engine : EngineView C)
    (records more : List Record) → (extra : List (ReportView M))
    × ((run_by decoding engine (records ++ more)).put
    ≡ (run_by decoding engine records).put ++ extra)
put_on decoding engine records more =
    goes_on (decoding engine.catalog) engine.config.own 0 records more (first_world engine.config)

-- what was said for the first records is a prefix of the whole text of all records
pub fronts : {C M : Type 0} (text : C → M → List ℕ) (decoding : C → Decoding M) (summary : Bool) (engine : EngineView C) (records more : List Record) (said : List ℕ)
    → HasSaid text decoding records said engine → IsFront said (text_by text decoding engine summary (records ++ more))
fronts text decoding summary engine records more said h =
    let line = put_line (text engine.catalog) in
    let on = goes_on (decoding engine.catalog) engine.config.own 0 records more (first_world engine.config) in
    let rest = if summary then summary_text (run_by decoding engine (records ++ more)) else [] in (
      flat_map line on.0 ++ rest,
      ap (λ l. flat_map line l ++ rest) on.1
          ∙ ap (λ l. l ++ rest) (flat_map-append line (run_by decoding engine records).put on.0 ∙ ap (λ l. l ++ flat_map line on.0) (sym h.lines))
          ∙ append_assoc said (flat_map line on.0) rest,
    )

-- engines with the same catalog and configuration have the same text
pub same_text : {C M : Type 0} (text : C → M → List ℕ) (decoding : C → Decoding M) (a b : EngineView C) (s t : Bool) → a.catalog ≡ b.catalog → a.config ≡ b.config → s ≡ t
    → (records : List Record) → text_by text decoding a s records ≡ text_by text decoding b t records
same_text text decoding a b s t same e f records =
    ap (λ catalog. replay_text (text catalog) (decoding catalog) a.config s records) same
    ∙ ap (λ (config : Config). replay_text (text b.catalog) (decoding b.catalog) config s records) e
    ∙ ap (λ u. replay_text (text b.catalog) (decoding b.catalog) b.config u records) f

-- the outcome of a run that stops, with the catalog, the configuration and the summary setting that
-- it had at first
pub same_stop : {C M U : Type 0} (text : C → M → List ℕ) (decoding : C → Decoding M) (a b : C) (k l : Config) (s t : Bool) (r : Result U RunFault) (before after old new : Option (List ℕ)) → a ≡ b → k ≡ l → s ≡ t
    → IfErr r (λ fault. Stops (replay_text (text a) (decoding a) k s) fault before after old new) → IfErr r (λ fault. Stops (replay_text (text b) (decoding b) l t) fault before after old new)
same_stop text decoding a b k l s t r before after old new e f g h =
    subst (λ u. IfErr r (λ fault. Stops (replay_text (text b) (decoding b) l u) fault before after old new)) g
    (subst (λ (c : Config). IfErr r (λ fault. Stops (replay_text (text b) (decoding b) c s) fault before after old new)) f
    (subst (λ c. IfErr r (λ fault. Stops (replay_text (text c) (decoding c) k s) fault before after old new)) e h))

-- if a result is Ok, what follows from a fact about all lists of records holds
pub on_ok_all : {X E : Type 0} {Q : Type 0} {S F : List Record → Type 0} (r : Result X E) → ((records : List Record) → S records → OnOk r (F records)) → (((records : List Record) → S records → F records) → Q) → OnOk r Q
on_ok_all (Ok x) f h = h f
on_ok_all (Err e) f h = tt

-- the status lines, with that of one more rank
pub statuses_more : {M : Type 0} (w : World M) (n : ℕ) (status : Option Status) → status ≡ status_seen w n → status_lines w n ++ status_text n status ≡ status_lines w (n + 1)
statuses_more w n status seen =
    let next : n + 1 ≡ suc n = omega arith in
    ap (λ s. status_lines w n ++ status_text n s) seen ∙ sym (ap (status_lines w) next)

-- A part of a text was written and a part is kept back; the rest is still to be added.
pub record Printed (old new : Option (List ℕ)) (whole kept rest : List ℕ) : Type 0 where
  pub written : List ℕ
  pub wrote : Appends old new written
  pub whole_is : whole ≡ written ++ (kept ++ rest)

-- nothing was added yet
pub printed_none : (old : Option (List ℕ)) (kept rest : List ℕ) → Printed old old (kept ++ rest) kept rest
printed_none old kept rest = record { written = []; wrote = Appends-nil old; whole_is = refl }

-- some lines were added
pub printed_more : (old now : Option (List ℕ)) (whole kept added rest out : List ℕ) → Printed old now whole kept (added ++ rest) → out ≡ kept ++ added → Printed old now whole out rest
printed_more old now whole kept added rest out p e = record {
  written = p.written;
  wrote = p.wrote;
  whole_is = p.whole_is ∙ ap (λ l. p.written ++ l) (sym (append_assoc kept added rest) ∙ ap (λ l. l ++ rest) (sym e));
}

-- what is kept back was written if it is long
pub printed_spilled : (old now new : Option (List ℕ)) (whole kept left rest : List ℕ) → Printed old now whole kept rest → Spills now new kept left → Printed old new whole left rest
printed_spilled old now new whole kept left rest p s = elim s [
  | inl out ↦ rw out.2 (record {
    written = p.written ++ kept;
    wrote = Appends-trans _ _ _ _ _ p.wrote out.1;
    whole_is = p.whole_is ∙ sym (append_assoc p.written kept rest);
  })
  | inr same ↦ record {
    written = p.written;
    wrote = Appends-kept _ _ _ _ p.wrote same.1;
    whole_is = rw same.2 p.whole_is;
  }
]

-- nothing is left to be added
pub printed_all : (old new : Option (List ℕ)) (whole kept : List ℕ) → Printed old new whole kept [] → Moves old new whole kept
printed_all old new whole kept p = (p.written, p.wrote, p.whole_is ∙ ap (λ l. p.written ++ l) (append-nil kept))

-- what was written is a prefix of the whole text
pub printed_front : (old now new : Option (List ℕ)) (whole kept rest : List ℕ) → Printed old now whole kept rest → PutsFront now new kept → PutsFront old new whole
printed_front old now new whole kept rest p f =
    let front = take f.0 kept in
    let back = drop f.0 kept in
    let all : whole ≡ (p.written ++ front) ++ (back ++ rest) =
    p.whole_is ∙ ap (λ l. p.written ++ (l ++ rest)) (sym (take-append-drop f.0 kept)) ∙ ap (λ l. p.written ++ l) (append_assoc front back rest) ∙ sym (append_assoc p.written front (back ++ rest)) in (
      length (p.written ++ front),
      subst (Appends old new) (sym (ap (take (length (p.written ++ front))) all ∙ take-append_seam (p.written ++ front) (back ++ rest))) (Appends-trans _ _ _ _ _ p.wrote f.1),
    )

-- the same, if nothing more is written
pub printed_stop : (old now : Option (List ℕ)) (whole kept rest : List ℕ) → Printed old now whole kept rest → PutsFront old now whole
printed_stop old now whole kept rest p = printed_front old now now whole kept rest p (0, Appends-nil now)

pub on_err : {T E P : Type 0} (r : Result T E) → P → OnErr r P
on_err (Ok x) p = tt
on_err (Err e) p = p

pub on_ok_both : {T E P Q R : Type 0} (r : Result T E) → (P → Q → R) → OnOk r P → OnOk r Q → OnOk r R
on_ok_both (Ok x) f p q = f p q
on_ok_both (Err e) f p q = tt

pub if_err_then : {T E : Type 0} {P Q : E → Type 0} (r : Result T E) → ((e : E) → P e → Q e) → IfErr r P → IfErr r Q
if_err_then (Ok x) f h = tt
if_err_then (Err e) f h = f e h

-- a run that stops without memory stops at any fault that equals NoMemory
pub of_cause : (whole : List Record → List ℕ) (fault : RunFault) (before after old new : Option (List ℕ)) → fault ≡ NoMemory → Stops whole NoMemory before after old new → Stops whole fault before after old new
of_cause whole fault before after old new e stops = subst (λ f. Stops whole f before after old new) (sym e) stops
