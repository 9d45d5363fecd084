use Rattle.std.proofs.Common.{rules, ◌≡◌, ◌+◌, ◌*◌, ◌^◌, ◌∙◌, ap, arith, drop, length}
use Rattle.std.proofs.lemmas.List.{length-drop, take_all}
use Rattle.byteorder.specs.Endian.{big_number}
use Rattle.rtps_types.proofs.order.last_eight.Goals as goal

pub returns : goal.returns
returns c =
    let octets = c.args.octets.now in
    let long : length octets ≡ 12 = search rules in
    let behind = take_all 4 (drop 8 octets) (omega (arith, length-drop 8 octets)) in
    let high : c.from.result ≡ big_number 4 (drop 8 octets) = c.from.ensures ∙ c.read_u32-high.ensures ∙ ap (big_number 4) behind in
    let low : c.from-2.result ≡ big_number 4 c.args.end.now = c.from-2.ensures ∙ c.read_u32-low.ensures in
    λ i. high i * 2 ^ 32 + low i
