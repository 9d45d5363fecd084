use Rattle.std.proofs.Common.{ℕ, ◌+◌, ◌-◌, ◌*◌, ◌%◌, subst}
use Rattle.dds_xcdr.specs.Xcdr.{alignment}
use Rattle.dds_xcdr.specs.Spans.{Skips}
use Rattle.dds_xcdr.proofs.Numbers.{numbers_pass}
use Rattle.dds_xcdr.proofs.walk.skip_numbers.Goals as goal

pub returns : goal.returns
returns c =
    let a : ℕ = alignment c.args.version c.args.size in
    let all : ℕ = c.args.size * c.args.count in
    let P : ℕ → Type 0 = λ k. Skips ((k - c.position.result % k) % k + all) c.args.reader.now
    c.skip_octets.new.reader c.skip_octets.result in
    let Q : ℕ → Type 0 = λ at. Skips ((a - at % a) % a + all) c.args.reader.now
    c.skip_octets.new.reader c.skip_octets.result in
    numbers_pass c.args.version c.args.size c.args.count c.args.reader.now c.skip_octets.new.reader
    c.skip_octets.result c.requires c.if-count-eq0.false
    (subst Q c.position.ensures (subst P c.alignment-alignment.ensures c.skip_octets.ensures))
