use Rattle.dds_xcdr.specs.Types.{type_in, types_of}
use Rattle.dds_described.specs.Hash.{end_of_all, short_end}
use Rattle.dds_described.proofs.Shorts.{item_ends, item_has_none, items_end}
use Rattle.dds_described.proofs.hash.+short.Goals as goal

-- ---- items

pub short_items-returns-in-None-clause-value : goal.short_items-returns-in-None-clause-value
short_items-returns-in-None-clause-value t c =
    item_has_none (λ p. short_end (type_in (types_of c.args.types.now) c.args.item) p) c.args.count
    c.items._i c.items.end
    (end_of_all (λ p. short_end (type_in (types_of c.args.types.now) c.args.item) p) c.args.count
    c.args.at) c.items-test.true c.in-None.ensures.value c.items.invariant.0

pub short_items-items-preserved : goal.short_items-items-preserved
short_items-items-preserved t c = (
  item_ends (λ p. short_end (type_in (types_of c.args.types.now) c.args.item) p) c.args.count
      c.items._i c.items.end c.in-Some.next
      (end_of_all (λ p. short_end (type_in (types_of c.args.types.now) c.args.item) p)
      c.args.count c.args.at) c.items-test.true c.in-Some.ensures.value c.items.invariant.0,
  c.in-Some.ensures.bounded,
)

pub short_items-returns-clause-value : goal.short_items-returns-clause-value
short_items-returns-clause-value t c =
    items_end (λ p. short_end (type_in (types_of c.args.types.now) c.args.item) p) c.args.count
    c.items._i c.items.end
    (end_of_all (λ p. short_end (type_in (types_of c.args.types.now) c.args.item) p) c.args.count
    c.args.at) c.items-test.false c.items.invariant.0
