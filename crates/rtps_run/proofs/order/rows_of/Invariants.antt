use Rattle.std.proofs.Common.{map}
use Rattle.rtps_reader.specs.Notice.{answer_view}
use Rattle.rtps_run.specs.BatchOutput.{AreByPlace, parts_given}
use Rattle.rtps_run.specs.Order.{AreLeft, row_seen}
use Rattle.rtps_run.proofs.order.rows_of.Given as goal

abbrev pub invariant-loop-index : goal.invariant-loop-index
invariant-loop-index g l =
    AreByPlace l.given.places.items (parts_given g.C.Catalog.view l.given)
    → AreLeft (parts_given g.C.Catalog.view l.given) l.index l.given.places.items
    (map answer_view l.given.answers.items) (map (row_seen g.C.Catalog.view) l.rows.items)
