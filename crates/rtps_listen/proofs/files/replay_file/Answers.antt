use Rattle.std.proofs.Common.{false, rules, true, Ok}
use Rattle.rtps_listen.proofs.Printing.{cause_first, replays, replays_none, run_fault, unopened_first, writes_all, writes_front}
use Rattle.rtps_listen.proofs.Refused.{replay_refused, replay_runs}
use Rattle.rtps_listen.proofs.files.replay_file.Goals as goal

pub returns-in_err-config-clause-refused : goal.returns-in_err-config-clause-refused
returns-in_err-config-clause-refused g c =
    replay_refused c.args.options.now c.config_of.result _ _ c.in_err-config.was c.from_residual.ensures.1 c.config_of.ensures.refused
    c.in_err-config.ensures.cause

pub returns-in_err-config-clause-prints : goal.returns-in_err-config-clause-prints
returns-in_err-config-clause-prints g c =
    replays_none _ _ _ _ _ c.from_residual.ensures.1 (cause_first c.args.options.now _ c.in_err-config.ensures.cause)

pub returns-in_err-file-clause-refused : goal.returns-in_err-file-clause-refused
returns-in_err-file-clause-refused g c =
    replay_runs c.args.options.now c.in_ok-config.config _ c.in_ok-config.ensures.refused
    (run_fault _ _ c.from_residual-in_err-file.ensures.1)

pub returns-in_err-file-clause-prints : goal.returns-in_err-file-clause-prints
returns-in_err-file-clause-prints g c =
    replays_none _ _ _ _ _ c.from_residual-in_err-file.ensures.1 (unopened_first _ c.in_err-file.ensures.fault)

pub returns-in_err-replay-clause-refused : goal.returns-in_err-replay-clause-refused
returns-in_err-replay-clause-refused g c =
    replay_runs c.args.options.now c.in_ok-config.config _ c.in_ok-config.ensures.refused
    (run_fault _ _ c.from_residual-in_err-replay.ensures.1)

pub returns-in_err-replay-clause-prints : goal.returns-in_err-replay-clause-prints
returns-in_err-replay-clause-prints g c =
    replays c.args.options.now c.in_ok-config.config _ c.setup_of-setup.result true _ _ _ _ c.in_ok-config.ensures.config (search rules) c.setup_of-setup.ensures
    (writes_front _ _ _ _ _ _ _ _ c.in_ok-file.ensures.holds c.from_residual-in_err-replay.ensures.1 c.in_err-replay.ensures.fault)

pub returns-then-options-clause-refused : goal.returns-then-options-clause-refused
returns-then-options-clause-refused g c =
    replay_runs c.args.options.now c.in_ok-config.config (Ok tt) c.in_ok-config.ensures.refused tt

pub returns-then-options-clause-prints : goal.returns-then-options-clause-prints
returns-then-options-clause-prints g c =
    replays c.args.options.now c.in_ok-config.config _ c.setup_of-setup.result true _ _ _ (Ok tt) c.in_ok-config.ensures.config (search rules) c.setup_of-setup.ensures
    (writes_all false _ _ _ _ _ c.in_ok-file.ensures.holds c.in_ok-replay.ensures.ok)

pub returns-in_err-replay-2-clause-refused : goal.returns-in_err-replay-2-clause-refused
returns-in_err-replay-2-clause-refused g c =
    replay_runs c.args.options.now c.in_ok-config.config _ c.in_ok-config.ensures.refused
    (run_fault _ _ c.from_residual-in_err-replay-2.ensures.1)

pub returns-in_err-replay-2-clause-prints : goal.returns-in_err-replay-2-clause-prints
returns-in_err-replay-2-clause-prints g c =
    replays c.args.options.now c.in_ok-config.config _ c.setup_of-setup-2.result false _ _ _ _ c.in_ok-config.ensures.config (search rules) c.setup_of-setup-2.ensures
    (writes_front _ _ _ _ _ _ _ _ c.in_ok-file.ensures.holds c.from_residual-in_err-replay-2.ensures.1 c.in_err-replay-2.ensures.fault)

pub returns-clause-refused : goal.returns-clause-refused
returns-clause-refused g c =
    replay_runs c.args.options.now c.in_ok-config.config (Ok tt) c.in_ok-config.ensures.refused tt

pub returns-clause-prints : goal.returns-clause-prints
returns-clause-prints g c =
    replays c.args.options.now c.in_ok-config.config _ c.setup_of-setup-2.result false _ _ _ (Ok tt) c.in_ok-config.ensures.config (search rules) c.setup_of-setup-2.ensures
    (writes_all false _ _ _ _ _ c.in_ok-file.ensures.holds c.in_ok-replay-2.ensures.ok)
