use Rattle.std.proofs.Common.{◌<◌, ap, arith}
use Rattle.dds_xcdr.specs.declared.primitive.Primitive.{Primitive}
use Rattle.dds_xcdr.specs.Types.{plain}
use Rattle.dds_xcdr.specs.Xtype.{number_size}
use Rattle.dds_described.proofs.json.push_bits.Goals as goal

pub overflow_cast-bits : goal.overflow_cast-bits
overflow_cast-bits g c =
    let f : c.args.bits < 256 =
    c.requires 1 (ap (λ (p : Primitive). number_size (plain p)) c.in-Char.is) in
    omega (arith, f)

pub overflow_cast-bits-in-Int8 : goal.overflow_cast-bits-in-Int8
overflow_cast-bits-in-Int8 g c =
    let f : c.args.bits < 256 =
    c.requires 1 (ap (λ (p : Primitive). number_size (plain p)) c.in-Int8.is) in
    omega (arith, f)

pub overflow_cast-bits-in-Int16 : goal.overflow_cast-bits-in-Int16
overflow_cast-bits-in-Int16 g c =
    let f : c.args.bits < 65536 =
    c.requires 2 (ap (λ (p : Primitive). number_size (plain p)) c.in-Int16.is) in
    omega (arith, f)

pub overflow_cast-bits-in-Int32 : goal.overflow_cast-bits-in-Int32
overflow_cast-bits-in-Int32 g c =
    let f : c.args.bits < 4294967296 =
    c.requires 4 (ap (λ (p : Primitive). number_size (plain p)) c.in-Int32.is) in
    omega (arith, f)

pub overflow_cast-bits-in-Float : goal.overflow_cast-bits-in-Float
overflow_cast-bits-in-Float g c =
    let f : c.args.bits < 4294967296 =
    c.requires 4 (ap (λ (p : Primitive). number_size (plain p)) c.in-Float.is) in
    omega (arith, f)
