use Rattle.dds_xcdr.specs.Types.{type_in, types_of}
use Rattle.dds_described.proofs.Leasts.{item_written}
use Rattle.dds_described.proofs.least.+least.Goals as goal

pub write_items-items-preserved : goal.write_items-items-preserved
write_items-items-preserved t c =
    item_written (type_in (types_of c.args.types.now) c.args.item) c.args.count c.items._i
    c.items.writer c.write_least.new.writer c.args.writer.now c.items-test.true c.in-Ok.ensures
    c.items.invariant
