-- What is printed of a file by `dump` and `explain`, as the program passes it on.
use Rattle.std.proofs.Common.{◌≡◌, ℕ, List, inl, inr, false, true, Option, Result, Ok, Err, IfErr, refl}
use Rattle.std.specs.Prelude.{IsErr}
use Rattle.std.specs.Io.KnownBytes.{Keeps}
use Rattle.rtps_records.specs.RecordFile.{Record}
use Rattle.rtps_records.specs.Text.{text_of}
use Rattle.rtps_events.specs.EventLines.{lines_of}
use Rattle.rtps_explain.specs.Explained.{explained_text}
use Rattle.rtps_files.specs.Prefixes as files
use Rattle.rtps_files.specs.Printed as printed
use Rattle.rtps_files.specs.declared.fault.FileFault.{FileFault}
use Rattle.rtps_files.specs.declared.fault.FileFault.TheVariants.{BadPrefix, Run}
use Rattle.rtps_text.specs.Taken.{StopsBy}
use Rattle.rtps_listen.specs.Printed.{EndsBy, IsFirst, Prints, Writes}
use Rattle.rtps_listen.specs.Request.{RefusesFirst}
use Rattle.rtps_listen.specs.Status.{passed}
use Rattle.rtps_listen.specs.declared.options.Options.{Options}
use Rattle.rtps_listen.specs.declared.request.Request.TheVariants.{Dump, Explain}
use Rattle.rtps_listen.proofs.Printing.{unopened_first}

-- a prefix that is none is refused
pub dump_refuses : (o : Options) (r : Result (Unit {0}) FileFault) → files.RefusesFirst o.own.now r → RefusesFirst (Dump o) (passed r)
unfolding RefusesFirst files.RefusesFirst
dump_refuses o (Ok u) h = (λ bad. absurd (let is : Ok u ≡ Err BadPrefix = h.0 bad in cc), tt)
dump_refuses o (Err BadPrefix) h = (λ bad. refl, h.1)
dump_refuses o (Err (Run fault)) h = (λ bad. absurd (let is : Err (Run fault) ≡ Err BadPrefix = h.0 bad in cc), tt)

pub explain_refuses : (o : Options) (r : Result (Unit {0}) FileFault) → files.RefusesFirst o.own.now r → RefusesFirst (Explain o) (passed r)
unfolding RefusesFirst files.RefusesFirst
explain_refuses o (Ok u) h = (λ bad. absurd (let is : Ok u ≡ Err BadPrefix = h.0 bad in cc), tt)
explain_refuses o (Err BadPrefix) h = (λ bad. refl, h.1)
explain_refuses o (Err (Run fault)) h = (λ bad. absurd (let is : Err (Run fault) ≡ Err BadPrefix = h.0 bad in cc), tt)

-- what comes before a file is read
first : (old new : Option (List ℕ)) (r : Result (Unit {0}) FileFault) → IsErr r → IfErr r printed.IsFirst → Keeps old new → EndsBy IsFirst old new (passed r)
first old new (Ok u) none h k = absurd (let bad : false ≡ true = none in cc)
first old new (Err BadPrefix) bad h k = (refl, tt, k)
first old new (Err (Run fault)) bad h k = (refl, unopened_first fault h, k)

-- and what a run has written
wrote : (text : List Record → List ℕ) (file old new : Option (List ℕ)) (r : Result (Unit {0}) FileFault) → printed.Writes text file old new r → Writes false text file old new (passed r)
unfolding Writes StopsBy printed.Writes
wrote text file old new (Ok u) h = h
wrote text file old new (Err BadPrefix) h = absurd h
wrote text file old new (Err (Run fault)) h = h

pub dump_prints : (o : Options) (holds : List ℕ → Option (List ℕ)) (old new : Option (List ℕ)) (r : Result (Unit {0}) FileFault)
    → printed.Prints (λ prefix. text_of (lines_of prefix)) o.own.now (holds o.file.now) old new r → Prints (Dump o) holds old new (passed r)
unfolding Prints printed.Prints
dump_prints o holds old new r h = elim h [
  | inl none ↦ inl (first old new r none.0 none.1 none.2)
  | inr ran ↦ inr (ran.0, ran.1, wrote (text_of (lines_of ran.0)) (holds o.file.now) old new r ran.2)
]

pub explain_prints : (o : Options) (holds : List ℕ → Option (List ℕ)) (old new : Option (List ℕ)) (r : Result (Unit {0}) FileFault)
    → printed.Prints explained_text o.own.now (holds o.file.now) old new r → Prints (Explain o) holds old new (passed r)
unfolding Prints printed.Prints
explain_prints o holds old new r h = elim h [
  | inl none ↦ inl (first old new r none.0 none.1 none.2)
  | inr ran ↦ inr (ran.0, ran.1, wrote (explained_text ran.0) (holds o.file.now) old new r ran.2)
]
