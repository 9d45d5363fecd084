use Rattle.std.proofs.Common.{map}
use Rattle.rtps_reader.specs.Notice.{answer_view}
use Rattle.rtps_run.specs.BatchOutput.{AreAnswersInOrder, answers_given}
use Rattle.rtps_run.specs.Order.{AreLeft}
use Rattle.rtps_run.proofs.order.answering_rows.Given as goal

abbrev pub invariant-loop-index : goal.invariant-loop-index
invariant-loop-index g l =
    AreAnswersInOrder l.given → AreLeft (answers_given l.given) l.index l.given.places.items
    (map answer_view l.given.answers.items) l.rows.items
