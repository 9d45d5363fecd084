use Rattle.std.proofs.Common.{◌≡◌, ◌≤◌, false, length, rules}
use Rattle.rtps_records.specs.Batches.{records_in}
use Rattle.rtps_text.specs.Ahead.{goes_on}
use Rattle.rtps_text.proofs.Turns.{more_ahead, none_ahead, tick_ahead}
use Rattle.rtps_text.proofs.pipeline.ReadAhead.read.Goals as goal

pub returns-in_ok-self-in-More-clause-reads : goal.returns-in_ok-self-in-More-clause-reads
returns-in_ok-self-in-More-clause-reads g c here n ended =
    let fits : length (records_in c.next_batch.new.batch) ≤ 4096 = search rules in
    more_ahead _ _ _ _ _ _ _ _ _ _ c.in-More.is ended c.in_ok-self-in-More.ensures.reads fits

pub returns-in-Tick-clause-reads : goal.returns-in-Tick-clause-reads
returns-in-Tick-clause-reads g c here n ended =
    tick_ahead _ _ _ _ _ _ _ _ c.in-Tick.is ended c.hold_tick.ensures

pub returns-in-End-clause-reads : goal.returns-in-End-clause-reads
returns-in-End-clause-reads g c here n ended =
    let not : goes_on c.args.self.now.end ≡ false = search rules in
    none_ahead _ c.args.self.now.end _ _ _ _ _ not ended c.clear.ensures
