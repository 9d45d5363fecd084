use Rattle.std.proofs.Common.{◌≡◌, length}
use Rattle.dds_qos.specs.Settings.{locators_of}
use Rattle.dds_qos.proofs.listed_locators.ListedLocatorsIterator.next.Given as goal

abbrev pub invariant-loop-param : goal.invariant-loop-param
invariant-loop-param l = locators_of l.self-inside.id l.self-inside.endian l.self-inside.params ≡ l.fn.self

abbrev pub decreases-loop-param : goal.decreases-loop-param
decreases-loop-param l = length l.self-inside.params
