use Rattle.std.proofs.Common.{sym}
use Rattle.dds_xcdr.specs.Types.{plain}
use Rattle.dds_xcdr.proofs.Alike.{truth_passes, value_alike}
use Rattle.dds_xcdr.proofs.walk.skip_primitive.Goals as goal

pub returns-in-Some : goal.returns-in-Some
returns-in-Some c = value_alike c.args.version (plain c.args.of) c.in-Some.size c.args.reader.now
    c.skip_numbers.new.reader c.skip_numbers.result (sym c.in-Some.ensures.size)
    c.skip_numbers.ensures

pub returns-in-None : goal.returns-in-None
returns-in-None c = truth_passes c.args.version c.args.of c.args.reader.now c.skip_truth.new.reader
    c.skip_truth.result c.in-None.ensures.size c.skip_truth.ensures
