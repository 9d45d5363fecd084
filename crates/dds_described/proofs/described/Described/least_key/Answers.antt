use Rattle.std.proofs.Common.{◌∙◌, ap, List, ℕ}
use Rattle.rtps_types.specs.declared.field.Endian.TheVariants.{Little}
use Rattle.dds_xcdr.specs.declared.version.Version.TheVariants.{One}
use Rattle.dds_xcdr.specs.TopicType.{topic_type}
use Rattle.dds_xcdr.specs.Xtype.{Xtype}
use Rattle.dds_described.specs.Decoded.{value_key}
use Rattle.dds_described.proofs.KeyLaw.{least_key_is}
use Rattle.dds_described.proofs.described.Described.least_key.Goals as goal

pub returns-in-Ok : goal.returns-in-Ok
returns-in-Ok c =
    let t : Xtype = topic_type c.args.self.now.topic in
    let octets = rw (c.types.ensures, c.id.ensures.is) at (c.in_ok-octets.ensures) in
    let whole = ap (λ (os : List ℕ). value_key t c.args.order (record {
      form = record { version = One; endian = Little };
      octets = os;
    })) (c.as_slice.ensures.value ∙ octets) in
    cc (c.in-Ok.ensures, whole, least_key_is t c.args.order)
