use Rattle.std.proofs.Common.{◌≡◌, ◌++◌, drop}
use Rattle.rtps_announcer.specs.Announcing.{sends_run, state_run}
use Rattle.rtps_announcer.proofs.state.AnnouncerState.run.Given as goal

-- what was sent so far, with what the rest sends, is all; and the rest ends as all does
abbrev pub invariant-loop-hearing : goal.invariant-loop-hearing
invariant-loop-hearing g l = record {
  sent :
      l.sends.items ++ sends_run l.rules l.self (drop l.hearing-index l.hearings)
      ≡ l.fn.sends.items ++ sends_run l.rules l.fn.self l.hearings;
  after :
      state_run l.rules l.self (drop l.hearing-index l.hearings)
      ≡ state_run l.rules l.fn.self l.hearings;
}
