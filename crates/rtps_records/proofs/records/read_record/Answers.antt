use Rattle.std.proofs.Common.{rules}
use Rattle.rtps_records.proofs.Faults.{at_fault}
use Rattle.rtps_records.proofs.RecordRead.{moment_inside, octets_inside, tick_inside}
use Rattle.rtps_records.proofs.records.read_record.Goals as goal

pub returns-in_err-moment-clause-fault : goal.returns-in_err-moment-clause-fault
returns-in_err-moment-clause-fault g c =
    at_fault _ _ _ c.from_residual-in_err-moment.ensures.1
    (tick_inside c.args.format c.in_err-moment.field-0.0 (g.R.Read.remaining c.args.reader.now) (g.R.Read.remaining c.read_length.new.reader) _ c.args.number c.in-Some.stated c.in_err-moment.ensures.format (search rules) (search rules) (search rules) c.in_err-moment.ensures.fault)

pub returns-in_err-moment-2-clause-fault : goal.returns-in_err-moment-2-clause-fault
returns-in_err-moment-2-clause-fault g c =
    at_fault _ _ _ c.from_residual-in_err-moment-2.ensures.1
    (moment_inside c.args.format c.in_err-moment-2.field-0.0 (g.R.Read.remaining c.args.reader.now) (g.R.Read.remaining c.read_length.new.reader) _ c.args.number c.in-Some.stated c.in_err-moment-2.ensures.format (search rules) (search rules) (search rules) c.in_err-moment-2.ensures.fault)

pub returns-in_err-read_octets-clause-fault : goal.returns-in_err-read_octets-clause-fault
returns-in_err-read_octets-clause-fault g c =
    at_fault _ _ _ c.from_residual-in_err-read_octets.ensures.1
    (octets_inside c.args.format c.in_err-read_octets.field-0.0 (g.R.Read.remaining c.args.reader.now) (g.R.Read.remaining c.read_length.new.reader) (g.R.Read.remaining c.read_moment-2.new.reader) _ c.args.number c.in-Some.stated c.in_ok-moment-2.moment _ (search rules) (search rules) (search rules) (search rules) c.in_err-read_octets.ensures.fault (search rules))
