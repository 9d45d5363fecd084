use Rattle.std.proofs.Common.{arith, append_assoc, ◌≡◌, ◌++◌, replicate, length}
use Rattle.std.proofs.lemmas.Grind.{common_steps}
use Rattle.rtps_cdr.specs.Cdr.{padding}
use Rattle.rtps_cdr.proofs.Written.{zeros}
use Rattle.rtps_cdr.proofs.writer.CdrWriter.append.Goals as goal

pub returns : goal.returns
returns g c =
    let gap : c.split_at.result.0.now ≡ replicate (padding c.args.size (length c.self.inside.octets.items)) 0 = grind (arith, common_steps, zeros) in
    let new : c.extend_from_slice-2.new.self.items ≡ c.self.inside.octets.items ++ (replicate (padding c.args.size (length c.self.inside.octets.items)) 0 ++ c.args.field.now) = grind (arith, common_steps, append_assoc) in
    grind (arith, common_steps)
