use Rattle.std.proofs.Common.{◌≡◌, ◌<◌, ◌∙◌, ap, get_or, length, rules, subst}
use Rattle.rtps_run.specs.Seen.{matches_below, notices_by}
use Rattle.rtps_run.specs.Standing.{StandsFor}
use Rattle.rtps_run.proofs.Ranks.{matches_more}
use Rattle.rtps_run.proofs.readers.all_matches.Goals as goal

pub loop-reader-preserved : goal.loop-reader-preserved
loop-reader-preserved g c w all =
    let i = c.loop-reader.reader-index in
    let below : i < length c.args.readers.now = search rules in
    let read : get_or c.args.readers.now i c.reader-item.result ≡ c.reader-item.result = search rules in
    c.in_ok-add_matches.ensures ∙ matches_more w.readers (notices_by i w.put) i c.reader-item.result c.loop-reader.matches.keys (c.loop-reader.invariant w all) (subst (StandsFor (w.readers i) (notices_by i w.put) i) read (all i c.reader-item.result below))

pub returns : goal.returns
returns g c w all =
    let ended : c.loop-reader.reader-index ≡ length c.args.readers.now = search rules in
    c.loop-reader.invariant w all ∙ ap (matches_below w.readers) ended
