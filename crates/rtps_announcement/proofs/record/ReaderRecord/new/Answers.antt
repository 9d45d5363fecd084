use Rattle.std.proofs.Common.{ap, length, ◌≡◌, arith}
use Rattle.std.proofs.lemmas.Grind.{common_steps}
use Rattle.rtps_discovery.specs.Start.{wish_of}
use Rattle.rtps_announcement.specs.Reader.{reader_record}
use Rattle.rtps_announcement.proofs.Records.{partitions_length, record_built, topic_length, type_length}
use Rattle.rtps_announcement.proofs.record.ReaderRecord.new.Goals as goal

pub returns-in_err-topic-clause-too_long : goal.returns-in_err-topic-clause-too_long
returns-in_err-topic-clause-too_long g c =
    let le = topic_length c.args.own (wish_of c.args.reader.now) in grind (arith, common_steps)

pub returns-in_err-type_name-clause-too_long : goal.returns-in_err-type_name-clause-too_long
returns-in_err-type_name-clause-too_long g c =
    let le = type_length c.args.own (wish_of c.args.reader.now) in grind (arith, common_steps)

pub returns-in_err-push_partitions-clause-too_long :
    goal.returns-in_err-push_partitions-clause-too_long
returns-in_err-push_partitions-clause-too_long g c =
    let le = partitions_length c.args.own (wish_of c.args.reader.now) in grind (arith, common_steps)

pub returns-then-len-gt-LONGEST-clause-too_long : goal.returns-then-len-gt-LONGEST-clause-too_long
returns-then-len-gt-LONGEST-clause-too_long g c =
    let octets_are : c.extend_from_slice-2.new.self.items ≡ reader_record c.args.own (wish_of c.args.reader.now) =
    rw (c.in_ok-extend_from_slice-2.ensures.items, c.in_ok-push_partitions.ensures.octets, c.in_ok-push_policies.ensures.octets, c.in_ok-push_parameter-4.ensures, c.in_ok-push_parameter-3.ensures, c.in_ok-push_parameter-2.ensures, c.in_ok-push_parameter.ensures, c.in_ok-extend_from_slice.ensures.items, c.new-octets.ensures.items, c.as_slice.ensures.value, c.as_slice-2.ensures.value, c.in_ok-topic.ensures.value, c.in_ok-type_name.ensures.value, c.as_str.ensures.value, c.as_str-2.ensures.value, c.guid_value.ensures.value, c.guid_value-2.ensures.value, c.names.ensures)
    (record_built c.args.own (wish_of c.args.reader.now)) in
    rw (← octets_are) (omega arith)

pub returns-clause-octets : goal.returns-clause-octets
returns-clause-octets g c =
    rw (c.in_ok-extend_from_slice-2.ensures.items, c.in_ok-push_partitions.ensures.octets, c.in_ok-push_policies.ensures.octets, c.in_ok-push_parameter-4.ensures, c.in_ok-push_parameter-3.ensures, c.in_ok-push_parameter-2.ensures, c.in_ok-push_parameter.ensures, c.in_ok-extend_from_slice.ensures.items, c.new-octets.ensures.items, c.as_slice.ensures.value, c.as_slice-2.ensures.value, c.in_ok-topic.ensures.value, c.in_ok-type_name.ensures.value, c.as_str.ensures.value, c.as_str-2.ensures.value, c.guid_value.ensures.value, c.guid_value-2.ensures.value, c.names.ensures)
    (record_built c.args.own (wish_of c.args.reader.now))

pub returns-clause-announced : goal.returns-clause-announced
returns-clause-announced g c = λ kind. record {
  entity = c.guid_value.ensures.entity;
  is_reader = kind;
  topic = rw c.as_str.ensures.value at c.in_ok-topic.ensures.fits;
  type_name = rw c.as_str-2.ensures.value at c.in_ok-type_name.ensures.fits;
  policies = c.in_ok-push_policies.ensures.fits;
  partitions = rw c.names.ensures at c.in_ok-push_partitions.ensures.fits;
  short = omega (arith, ap length (returns-clause-octets g c));
}
