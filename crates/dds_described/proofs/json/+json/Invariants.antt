use Rattle.std.proofs.Common.{ℕ, ◌+◌, ◌*◌, length}
use Rattle.std.specs.Io.{StartsWith}
use Rattle.dds_xcdr.specs.Product.{product}
use Rattle.dds_xcdr.specs.Types.{type_in, types_of}
use Rattle.dds_described.specs.Json.{array_text, json_of}
use Rattle.dds_described.specs.Reading.{items_found, value_found}
use Rattle.dds_described.proofs.JsonSteps.{ItemsLeft, MembersLeft}
use Rattle.dds_described.proofs.json.+json.Given as goal

-- more than any array has dimensions
abbrev step : ℕ
step = 18446744073709551616

abbrev pub decreases-push_value : goal.decreases-push_value
decreases-push_value g l = step * l.of.0 + 1

abbrev pub decreases-push_rows : goal.decreases-push_rows
decreases-push_rows g l = step * l.item.0 + 2 + length l.sizes.now

abbrev pub decreases-push_array : goal.decreases-push_array
decreases-push_array g l = step * l.item.0 + 3 + length l.sizes.now

abbrev pub decreases-push_items : goal.decreases-push_items
decreases-push_items g l = step * l.item.0 + 2

abbrev pub decreases-push_sequence : goal.decreases-push_sequence
decreases-push_sequence g l = step * l.item.0 + 3

abbrev pub decreases-push_struct : goal.decreases-push_struct
decreases-push_struct g l = step * l.of.0

abbrev pub invariant-push_items-items : goal.invariant-push_items-items
invariant-push_items-items g l = let t = type_in (types_of l.encoding.types.now) l.item in record {
  left : ItemsLeft (λ c. value_found l.encoding.version t c) (λ x. json_of t x) l.count l.i
      l.initial.source l.source l.initial.out.items l.out.items;
  keeps : StartsWith l.out.items l.initial.out.items;
}

abbrev pub invariant-push_rows-rows : goal.invariant-push_rows-rows
invariant-push_rows-rows g l = let t = type_in (types_of l.encoding.types.now) l.item in record {
  left : ItemsLeft
      (λ c. items_found (λ d. value_found l.encoding.version t d) (product l.rest) c)
      (λ row. array_text (λ x. json_of t x) l.rest row) l.i-end l.i l.initial.source l.source
      l.initial.out.items l.out.items;
  keeps : StartsWith l.out.items l.initial.out.items;
}

abbrev pub invariant-push_struct-members : goal.invariant-push_struct-members
invariant-push_struct-members g l = record {
  left : MembersLeft l.encoding.version (types_of l.encoding.types.now) l.members l.i
      l.initial.source l.source l.initial.out.items l.out.items;
  keeps : StartsWith l.out.items l.initial.out.items;
}
