use Rattle.std.proofs.Common.{◌≡◌, ◌<◌, ◌-◌, length, take, true, Ok, arith}
use Rattle.std.proofs.lemmas.Grind.{common_steps}
use Rattle.std.specs.Str.{is_utf8}
use Rattle.rtps_cdr.specs.Reading.{value_of, moved, number_in, octets_in, seen}
use Rattle.dds_topic.proofs.Texts.{text_of_octets}
use Rattle.dds_topic.proofs.shapes.read_text.Goals as goal

pub returns : goal.returns
returns c utf8 =
    let number : value_of (number_in 4 c.args.reader.now) ≡ Ok c.in_ok-count.count = grind (c.read_u32.ensures.value, c.ok.ensures.value, c.in_ok-count.ensures.value, c.in_ok-count.is, c.in_ok-count.was, arith, common_steps) in
    let octets : value_of (octets_in c.in_ok-count.count (moved c.args.reader.now (number_in 4 c.args.reader.now))) ≡ Ok c.in_ok-octets.octets.now = grind (c.read_octets.ensures.value, c.read_u32.ensures.moves, c.in_ok-octets.is, c.in_ok-octets.was, c.in_ok-octets.ensures.value, arith, common_steps) in
    let place : c.read_octets.new.self ≡ moved (moved c.args.reader.now (number_in 4 c.args.reader.now)) (octets_in c.in_ok-count.count (moved c.args.reader.now (number_in 4 c.args.reader.now))) = cc (c.read_octets.ensures.moves, c.read_u32.ensures.moves) in
    rw place (text_of_octets c.args.reader.now c.in_ok-count.count c.in_ok-octets.octets.now number octets (grind (c.is_empty.ensures, c.if-is_empty.false, arith, common_steps)) c.if-octets-ne0.false utf8)
