use Rattle.std.proofs.Common.{◌≡◌, ◌++◌, drop}
use Rattle.std.specs.Io.{StartsWith}
use Rattle.rtps_lines.specs.Locators.{more_locators}
use Rattle.rtps_lines.proofs.locators.push_more.Given as goal

abbrev pub invariant-loop-locator : goal.invariant-loop-locator
invariant-loop-locator g l = record {
  lines : l.out.items ++ more_locators (drop l.locator-index l.locators) ≡ l.fn.out.items ++ more_locators l.locators;
  keeps : StartsWith l.out.items l.fn.out.items;
}
