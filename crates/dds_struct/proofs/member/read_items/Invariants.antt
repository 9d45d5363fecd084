use Rattle.std.proofs.Common.{◌≡◌, ◌+◌, ◌*◌, ◌≤◌, map, ◌-◌, vec_capacity, vec_len}
use Rattle.dds_struct.proofs.Items.{after}
use Rattle.dds_struct.specs.Value.{value, behind, items, behind_items}
use Rattle.dds_struct.proofs.member.read_items.Given as goal

abbrev pub invariant-items : goal.invariant-items
invariant-items g l =
    (items (λ c. value g.T.Member.cdr c) (λ c. behind g.T.Member.cdr c) l.count l.initial.reader ≡ after (map g.T.Member.view l.found.items) (items (λ c. value g.T.Member.cdr c) (λ c. behind g.T.Member.cdr c) (l.count - l._i) l.reader))
    × (behind_items (λ c. behind g.T.Member.cdr c) l.count l.initial.reader ≡ behind_items (λ c. behind g.T.Member.cdr c) (l.count - l._i) l.reader)
    × (vec_capacity l.found ≤ 2 * vec_len l.found + 4)
