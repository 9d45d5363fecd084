use Rattle.std.proofs.Common.{map, refl, subst}
use Rattle.rtps_receiver.specs.Events.{view}
use Rattle.dds_participant.specs.Readers.{IsAsked}
use Rattle.dds_participant.proofs.Pairing.{idle_done}
use Rattle.dds_participant.proofs.readers.do_job.Goals as goal

pub returns-clause-stands : goal.returns-clause-stands
returns-clause-stands g c same s asked stands = c.run_job.ensures.stands same s (subst (λ o. IsAsked (map view c.args.batch.now.events.now) o s.job) c.in-Some.is asked) stands

pub returns-clause-output : goal.returns-clause-output
returns-clause-output g c same s asked stands = c.run_job.ensures.output same s (subst (λ o. IsAsked (map view c.args.batch.now.events.now) o s.job) c.in-Some.is asked) stands

pub returns-in_default-clause-stands : goal.returns-in_default-clause-stands
returns-in_default-clause-stands g c same s asked stands =
    let none = subst (λ o. IsAsked (map view c.args.batch.now.events.now) o s.job) c.in_default.is asked in
    (idle_done g.C.Catalog.view (g.C.Catalog.decoding c.args.batch.now.catalog.now) s c.args.state.now.rank c.args.state.now c.empty_lists.new.output none (record { stands = stands; ranked = refl }) c.empty_lists.ensures.0
    c.empty_lists.ensures.1).0.stands

pub returns-in_default-clause-output : goal.returns-in_default-clause-output
returns-in_default-clause-output g c same s asked stands =
    let none = subst (λ o. IsAsked (map view c.args.batch.now.events.now) o s.job) c.in_default.is asked in
    (idle_done g.C.Catalog.view (g.C.Catalog.decoding c.args.batch.now.catalog.now) s c.args.state.now.rank c.args.state.now c.empty_lists.new.output none (record { stands = stands; ranked = refl }) c.empty_lists.ensures.0
    c.empty_lists.ensures.1).1
