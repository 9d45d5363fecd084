use Rattle.std.proofs.Common.{◌≡◌, ◌++◌, drop, length, chars}
use Rattle.std.specs.Io.{StartsWith}
use Rattle.std.specs.List.{flat_map}
use Rattle.dds_described.specs.JsonText.{escaped}
use Rattle.dds_described.proofs.json_text.push_chars.Given as goal

abbrev pub invariant-chars : goal.invariant-chars
invariant-chars g l = record {
  put : l.out.items ++ flat_map escaped (drop (length l.yielded) (chars l.text))
      ≡ l.fn.out.items ++ flat_map escaped (chars l.text);
  keeps : StartsWith l.out.items l.fn.out.items;
}
