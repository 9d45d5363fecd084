use Rattle.std.proofs.Common.{◌∙◌, ap, arith, inl, inr, rules}
use Rattle.std.specs.Prelude.{option_map}
use Rattle.rtps_listen.specs.Reaching.{parts_with}
use Rattle.rtps_listen.proofs.Places.{adds_all, adds_last, causes_more, none_first, some_part}
use Rattle.rtps_listen.proofs.reaching.+add_peers.Goals as goal

pub returns-then-most-eq0-clause-fault : goal.returns-then-most-eq0-clause-fault
returns-then-most-eq0-clause-fault t c = inr (omega (arith, c.if-most-eq0.true, some_part c.args.text.now))

pub returns-in_default-clause-fault : goal.returns-in_default-clause-fault
returns-in_default-clause-fault t c = inl (none_first c.args.text.now _ _ c.first_part.ensures (c.in_default.ensures.none (search rules)))

pub returns-in-Some-rest-clause-added : goal.returns-in-Some-rest-clause-added
returns-in-Some-rest-clause-added t c =
    adds_all c.args.text.now c.first_part.result.0.now c.in-Some-rest.rest.now c.args.most c.args.peers.now.items c.push.new.self.items c.add_peers.new.peers.items
    c.in-Some.address c.add_peers.result
    (c.first_part.ensures ∙ ap (λ o. parts_with c.first_part.result.0.now (option_map (λ rest. rest.now) o)) c.in-Some-rest.is)
    c.in-Some.ensures.value c.in-Ok.ensures.items (omega (arith, c.if-most-eq0.false)) c.add_peers.ensures.added

pub returns-in-Some-rest-clause-fault : goal.returns-in-Some-rest-clause-fault
returns-in-Some-rest-clause-fault t c =
    causes_more c.args.text.now c.first_part.result.0.now c.in-Some-rest.rest.now c.args.most c.add_peers.result
    (c.first_part.ensures ∙ ap (λ o. parts_with c.first_part.result.0.now (option_map (λ rest. rest.now) o)) c.in-Some-rest.is)
    (omega (arith, c.if-most-eq0.false)) c.add_peers.ensures.fault

pub returns-in-None-clause-added : goal.returns-in-None-clause-added
returns-in-None-clause-added t c =
    adds_last c.args.text.now c.first_part.result.0.now c.args.most c.args.peers.now.items c.push.new.self.items c.in-Some.address
    (c.first_part.ensures ∙ ap (λ o. parts_with c.first_part.result.0.now (option_map (λ rest. rest.now) o)) c.in-None.is)
    c.in-Some.ensures.value c.in-Ok.ensures.items (omega (arith, c.if-most-eq0.false))
