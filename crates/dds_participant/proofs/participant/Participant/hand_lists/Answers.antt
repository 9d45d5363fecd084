use Rattle.std.proofs.Common.{◌≡◌, ◌∙◌, length, option_map, rules, sym}
use Rattle.std.proofs.lemmas.List.{length-map}
use Rattle.dds_participant.specs.Handing.{listed}
use Rattle.dds_participant.specs.Ports.{NoneAttached, port_view}
use Rattle.dds_participant.proofs.Unattached.{alone_on}
use Rattle.dds_participant.proofs.participant.Participant.hand_lists.Goals as goal

pub returns-then-none_attached-clause-on : goal.returns-then-none_attached-clause-on
returns-then-none_attached-clause-on g c =
    let none : NoneAttached c.args.self.now.ports = search rules in
    let readers : length c.args.self.now.ports ≡ length c.args.self.now.engine.statuses = rw (← c.self.view_is) (length-map c.self.inside.ports.items (option_map port_view) ∙ c.self.invariant.1) in
    alone_on c.args.self.now.ports (listed c.args.lists.now.items) (length-map c.args.lists.now.items (λ l. l.items) ∙ c.requires ∙ sym readers) none
