-- What is printed of a file, and what is refused before.
use Rattle.std.proofs.Common.{◌≡◌, List, ℕ, inl, inr, subst, Option, None, Result, Ok, Err, IfErr, refl}
use Rattle.std.specs.Prelude.{IsErrAnd}
use Rattle.std.proofs.KnownBytes.{Keeps-refl}
use Rattle.rtps_types.specs.declared.identity.GuidPrefix.{GuidPrefix}
use Rattle.rtps_records.specs.RecordFile.{Record}
use Rattle.rtps_records.specs.Runs.{Stops, WroteAll}
use Rattle.rtps_records.specs.declared.fault.RunFault.{RunFault}
use Rattle.rtps_files.specs.Prefixes.{IsCause, IsPrefixText, RefusesFirst, WritesPrefix}
use Rattle.rtps_files.specs.Printed.{IsFirst, Prints, Writes}
use Rattle.rtps_files.specs.declared.fault.FileFault.{FileFault}
use Rattle.rtps_files.specs.declared.fault.FileFault.TheVariants.{BadPrefix, Run}

-- a prefix that is none
pub refuses : (own : List ℕ) → ¬ IsPrefixText own → RefusesFirst own (Err BadPrefix)
unfolding RefusesFirst
refuses own bad = (λ _. refl, bad)

ran : (own : List ℕ) (s : Result (Unit {0}) FileFault) (fault : RunFault) → IsErrAnd s (λ e. e ≡ Run fault) → IfErr s (IsCause own)
ran own (Ok u) fault is = tt
ran own (Err e) fault is = rw is tt

-- where it isn't refused, the run alone can fail
pub fails : (own : List ℕ) (s : Result (Unit {0}) FileFault) (fault : RunFault) → IsPrefixText own → IsErrAnd s (λ e. e ≡ Run fault) → RefusesFirst own s
unfolding RefusesFirst
fails own s fault good is = (λ bad. absurd (bad good), ran own s fault is)

pub ends_well : (own : List ℕ) → IsPrefixText own → RefusesFirst own (Ok tt)
unfolding RefusesFirst
ends_well own good = (λ bad. absurd (bad good), tt)

-- what is refused before leaves nothing written
pub prints_none : (text : GuidPrefix → List Record → List ℕ) (own : List ℕ) (file old : Option (List ℕ)) (s : Result (Unit {0}) FileFault) (fault : FileFault)
    → IsErrAnd s (λ e. e ≡ fault) → IsFirst fault → Prints text own file old old s
unfolding Prints
prints_none text own file old (Ok u) fault is first = absurd is
prints_none text own file old (Err other) fault is first = inl (refl, rw is first, Keeps-refl old)

-- all of the text was written, or what a fault leaves
pub prints_all : (text : GuidPrefix → List Record → List ℕ) (own : List ℕ) (prefix : GuidPrefix) (file all old new : Option (List ℕ)) → WritesPrefix own prefix → file ≡ all
    → WroteAll (text prefix) file old new None → Prints text own all old new (Ok tt)
unfolding Prints Writes
prints_all text own prefix file all old new is e h = inr (prefix, is, subst (λ f. WroteAll (text prefix) f old new None) e h)

pub prints_front : (text : GuidPrefix → List Record → List ℕ) (own : List ℕ) (prefix : GuidPrefix) (file all after old new : Option (List ℕ)) (s : Result (Unit {0}) FileFault) (fault : RunFault)
    → WritesPrefix own prefix → file ≡ all → IsErrAnd s (λ e. e ≡ Run fault) → Stops (text prefix) fault file after old new → Prints text own all old new s
unfolding Prints Writes
prints_front text own prefix file all after old new (Ok u) fault writes e is h = absurd is
prints_front text own prefix file all after old new (Err other) fault writes e is h =
    inr (prefix, writes, rw is (after, subst (λ f. Stops (text prefix) fault f after old new) e h))
