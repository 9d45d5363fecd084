use Rattle.std.proofs.Common.{◌≡◌, ◌+◌, ◌∙◌, refl, ap}
use Rattle.rtps_reader.specs.declared.status.Counts.{Counts}
use Rattle.rtps_reader.specs.Status.{capped}
use Rattle.rtps_reader.proofs.Stepping.{stands_begun, stands_ended, stands_refused}
use Rattle.rtps_reader.proofs.Telling.{on_ok}
use Rattle.rtps_reader.proofs.stateful.StatefulReader.change.Goals as goal

pub returns-in_ok-begin-in-Match-clause-stands : goal.returns-in_ok-begin-in-Match-clause-stands
returns-in_ok-begin-in-Match-clause-stands g c decoding r given stands =
    let did = c.in_ok-begin-in-Match.ensures in
    let counts : c.with_match-self.result ≡ record c.args.self.now.counts { matched_total = capped (c.args.self.now.counts.matched_total + 1) }
    = c.with_match-self.ensures ∙ ap (λ (k : Counts). record k { matched_total = capped (k.matched_total + 1) }) did.counts in
    rw c.in-Match.is (on_ok c.tell.result (stands_begun decoding r given c.args.place c.in-Match.facts.writer c.in-Match.facts.locators c.args.self.now _ stands
    (record { rank = did.reader.rank; own = did.reader.own; entity = did.reader.entity; reliable = did.reader.reliable }) (rw c.as_slice.ensures at (did.stands r.matches stands.matches)) counts))

pub returns-in-Unmatch-clause-stands : goal.returns-in-Unmatch-clause-stands
returns-in-Unmatch-clause-stands g c decoding r given stands =
    rw c.in-Unmatch.is (on_ok c.tell-in-Unmatch.result (stands_ended decoding r given c.args.place c.in-Unmatch.writer c.args.self.now _ stands
    (record { rank = refl; own = refl; entity = refl; reliable = refl }) (c.end.ensures r.matches stands.matches) refl))

pub returns-in-Refuse-clause-stands : goal.returns-in-Refuse-clause-stands
returns-in-Refuse-clause-stands g c decoding r given stands =
    rw c.in-Refuse.is (on_ok c.tell-in-Refuse.result (stands_refused decoding r given c.args.place c.in-Refuse.writer c.in-Refuse.policy c.args.self.now _ stands
    (record { rank = refl; own = refl; entity = refl; reliable = refl }) refl c.with_refusal-self.ensures))
