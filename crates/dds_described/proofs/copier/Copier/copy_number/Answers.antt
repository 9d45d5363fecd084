use Rattle.dds_described.proofs.Copies.{number_copied, number_fails}
use Rattle.dds_described.proofs.copier.Copier.copy_number.Goals as goal

pub returns-in_ok-write_number-in-Ok : goal.returns-in_ok-write_number-in-Ok
returns-in_ok-write_number-in-Ok c = λ t same.
    number_copied c.args.version t c.args.size c.in-Ok.n c.self.inside.source
    c.read_number.new.self c.self.inside.writer c.write_number.new.writer c.args.self.now
    c.self.view_is same c.in-Ok.ensures.fits c.in-Ok.ensures.value c.in-Ok.ensures.moves
    c.in_ok-write_number-in-Ok.ensures

pub returns-in-Err : goal.returns-in-Err
returns-in-Err c = λ t same.
    number_fails c.args.version t c.args.size c.in-Err.error c.self.inside.source
    c.self.inside.writer c.args.self.now c.self.view_is same c.in-Err.ensures.value
