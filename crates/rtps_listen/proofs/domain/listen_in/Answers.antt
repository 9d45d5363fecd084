use Rattle.std.proofs.Common.{ap, refl}
use Rattle.rtps_listen.proofs.Printing.{cause_before, hears, hears_none, join_before}
use Rattle.rtps_listen.proofs.Refused.{listen_joins, listen_refused, listen_runs}
use Rattle.rtps_listen.proofs.domain.listen_in.Goals as goal

pub returns-in_err-config-clause-refused : goal.returns-in_err-config-clause-refused
returns-in_err-config-clause-refused g c =
    listen_refused c.args.options.now c.config_of.result _ _ c.in_err-config.was c.from_residual.ensures.1 c.config_of.ensures.refused
    c.in_err-config.ensures.cause

pub returns-in_err-config-clause-hears : goal.returns-in_err-config-clause-hears
returns-in_err-config-clause-hears g c =
    hears_none _ _ _ _ _ _ _ _ c.from_residual.ensures.1 (cause_before c.args.options.now _ c.in_err-config.ensures.cause) refl

pub returns-in_err-network-clause-refused : goal.returns-in_err-network-clause-refused
returns-in_err-network-clause-refused g c =
    listen_joins c.args.options.now c.in_ok-config.config c.from_residual-in_err-network.result _ c.in_ok-config.ensures.refused
    c.from_residual-in_err-network.ensures.1 c.in_err-network.ensures.fault

pub returns-in_err-network-clause-hears : goal.returns-in_err-network-clause-hears
returns-in_err-network-clause-hears g c =
    hears_none _ _ _ _ _ _ _ _ c.from_residual-in_err-network.ensures.1 (join_before c.args.options.now _ c.in_err-network.ensures.fault)
    (ap (λ h. record c.args.station.now { host = h }) c.in_err-network.ensures.same)

pub returns-clause-refused : goal.returns-clause-refused
returns-clause-refused g c =
    listen_runs c.args.options.now c.in_ok-config.config _ c.in_ok-config.ensures.refused c.in_ok-network.ensures.address c.run_over.ensures.fault

pub returns-clause-hears : goal.returns-clause-hears
returns-clause-hears g c =
    hears c.args.options.now c.in_ok-config.config _ _ _ _ c.in_ok-network.network _ _ _ _ _ c.in_ok-config.ensures.config c.in_ok-network.ensures.joins
    c.in_ok-network.ensures.quiet refl c.insert-network.ensures.value refl c.run_over.ensures.listens
