use Rattle.std.proofs.Common.{refl, ℕ, List, ◌∙◌, slice_index, codes}
use Rattle.std.specs.Fmt.{decimal}
use Rattle.rtps_lines.proofs.Shown.{after_address, guid_shown, joined}
use Rattle.rtps_lines.proofs.laws.lines_show_as_displayed.Goals as goal

pub returns : goal.returns
returns c = record {
  guid = guid_shown;
  time = λ t. refl;
  locator = λ l.
      let at : ℕ → List ℕ = λ n. decimal (slice_index l.address n) in
      after_address (codes ".") (codes ":") (at 0) (at 1) (at 2) (at 3) (decimal l.port)
      ∙ joined (codes ".") (codes ":") (at 0) (at 1) (at 2) (at 3) (decimal l.port);
}
