use Rattle.std.proofs.Common.{◌≡◌, List, Bool, true, false, Option, Some, None, if◌then◌else◌, sym, subst}
use Rattle.rtps_discovery.specs.Kept.{DiscoveryView, IsKnown}
use Rattle.rtps_discovery.specs.Known.{Wish}
use Rattle.rtps_discovery.specs.ReaderFaults.{is_bad, is_full}
use Rattle.rtps_discovery.specs.ReaderFaults.{adding_fault}
use Rattle.rtps_discovery.specs.Start.{wish_of}
use Rattle.rtps_discovery.specs.declared.reader_faults.ReaderFault.{ReaderFault}
use Rattle.rtps_discovery.specs.declared.reader_faults.ReaderFault.TheVariants.{Full, BadReader, NoMemory}
use Rattle.rtps_discovery.proofs.discovery.Discovery.add_reader.Goals as goal

not_memory : (readers : List (Option Wish)) (r : Wish) (fault : ReaderFault) → Some fault ≡ adding_fault readers r → fault ≡ NoMemory → ⊥
unfolding adding_fault
not_memory readers r fault is memory = by_tests (is_full readers) (is_bad readers r) is
  where
    by_tests : (a b : Bool) → Some fault ≡ (if a then Some Full else if b then Some BadReader else None) → ⊥
    by_tests true b h = cc
    by_tests false true h = cc
    by_tests false false h = cc

pub returns-in-Some-clause-err : goal.returns-in-Some-clause-err
returns-in-Some-clause-err g c = λ e.
    let memory : c.in-Some.fault ≡ NoMemory = cc in
    absurd (not_memory c.deref.result.now (wish_of c.args.reader) c.in-Some.fault c.in-Some.ensures.fault memory)

pub returns-clause-known : goal.returns-clause-known
returns-clause-known g c = λ k is. c.in_ok-added.ensures.known k (subst (λ (d : DiscoveryView). IsKnown k d.kept) (sym c.self.view_is) is)

pub returns-clause-changes : goal.returns-clause-changes
returns-clause-changes g c = λ k is. c.in_ok-added.ensures.told k (subst (λ (d : DiscoveryView). IsKnown k d.kept) (sym c.self.view_is) is)
