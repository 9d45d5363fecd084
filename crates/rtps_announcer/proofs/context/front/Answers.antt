use Rattle.std.proofs.Common.{◌≡◌, Some, None, Ok, Err, sym, ap, ◌∙◌, rules}
use Rattle.std.specs.Option.{option_map}
use Rattle.rtps_wire.specs.Reading.{raw_front, raw_view}
use Rattle.rtps_wire.specs.Submessage.{parts_of, parts_view}
use Rattle.rtps_announcer.proofs.Opened.{front_end, front_fault, front_invalid, front_is}
use Rattle.rtps_announcer.proofs.context.front.Goals as goal

pub returns-in-Some-clause-opened : goal.returns-in-Some-clause-opened
returns-in-Some-clause-opened c =
    let raw = c.in-Ok-Some.raw in
    let first : raw_front c.args.octets.now ≡ Ok (Some (raw_view raw)) = search rules in
    let valid : parts_of raw.id raw.flags raw.body.now ≡ Some (parts_view c.in-Some.parts) = sym c.parts.ensures ∙ ap (option_map parts_view) c.in-Some.is in
    front_is c.args.octets.now raw c.in-Some.parts first valid

pub returns-in-None-clause-opened : goal.returns-in-None-clause-opened
returns-in-None-clause-opened c =
    let raw = c.in-Ok-Some.raw in
    let first : raw_front c.args.octets.now ≡ Ok (Some (raw_view raw)) = search rules in
    let invalid : parts_of raw.id raw.flags raw.body.now ≡ None = sym c.parts.ensures ∙ ap (option_map parts_view) c.in-None.is in
    front_invalid c.args.octets.now raw first invalid

pub returns-in-Ok-None-clause-opened : goal.returns-in-Ok-None-clause-opened
returns-in-Ok-None-clause-opened c =
    let first : raw_front c.args.octets.now ≡ Ok None = search rules in
    front_end c.args.octets.now first

pub returns-in-Err-clause-opened : goal.returns-in-Err-clause-opened
returns-in-Err-clause-opened c =
    let first : raw_front c.args.octets.now ≡ Err c.in-Err.field-0 = search rules in
    front_fault c.args.octets.now c.in-Err.field-0 first
