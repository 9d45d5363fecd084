use Rattle.std.proofs.Common.{◌≡◌, ◌<◌, ◌≤◌, Some, None, ap, get_or, length, rules, sym}
use Rattle.rtps_run.specs.Addressed.{is_named}
use Rattle.rtps_run.proofs.Naming.{reader_got, reader_past}
use Rattle.rtps_run.proofs.addressed.is_named.Goals as goal

pub returns-in-Some-Some : goal.returns-in-Some-Some
returns-in-Some-Some g c =
    let below : c.args.rank < length c.args.readers.now = search rules in
    let read : get_or c.args.readers.now c.args.rank (Some c.in-Some-Some.wish) ≡ Some c.in-Some-Some.wish = search rules in
    search (rules, reader_got c.args.readers.now c.args.rank (Some c.in-Some-Some.wish) below read)

pub returns-in-Some-None : goal.returns-in-Some-None
returns-in-Some-None g c =
    let below : c.args.rank < length c.args.readers.now = search rules in
    let read : get_or c.args.readers.now c.args.rank None ≡ None = search rules in
    sym (ap (is_named c.args.reader) (reader_got c.args.readers.now c.args.rank None below read))

pub returns-in-None : goal.returns-in-None
returns-in-None g c =
    let past : length c.args.readers.now ≤ c.args.rank = search rules in
    sym (ap (is_named c.args.reader) (reader_past c.args.readers.now c.args.rank past))
