use Rattle.rtps_lines.proofs.notice.push_kind.Goals as goal

pub returns-in-Incompatible-clause-ok : goal.returns-in-Incompatible-clause-ok
returns-in-Incompatible-clause-ok g c = rw c.in-Incompatible.is (rw c.id.ensures at (rw c.from.ensures at c.push_counted.ensures.ok))
