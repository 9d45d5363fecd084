use Rattle.std.proofs.Common.{rules, ◌≡◌, ◌+◌, ◌*◌, ◌≤◌, map, ◌∷◌, [], ◌++◌, ◌∙◌, ◌<◌, vec_capacity, vec_len}
use Rattle.std.proofs.lemmas.List.{map-append}
use Rattle.dds_struct.specs.Value.{value, behind}
use Rattle.dds_struct.proofs.Items.{items_step, behind_step}
use Rattle.dds_struct.proofs.member.read_items.Goals as goal

pub items-preserved : goal.items-preserved
items-preserved g c =
    let more : c.items._i < c.args.count = search rules in
    let step = items_step (λ d. value g.T.Member.cdr d) (λ d. behind g.T.Member.cdr d) c.args.count c.items._i c.items.reader (g.T.Member.view c.in_ok-read.field-0) (map g.T.Member.view c.items.found.items) more (c.in_ok-read.ensures.value) in
    let past = behind_step (λ d. behind g.T.Member.cdr d) c.args.count c.items._i c.items.reader more in
    let grown : c.add.new.found.items ≡ c.items.found.items ++ c.in_ok-read.field-0 ∷ [] = search rules in
    let room : vec_capacity c.add.new.found ≤ 2 * vec_len c.add.new.found + 4 = search rules in
    let seen = map-append g.T.Member.view c.items.found.items (c.in_ok-read.field-0 ∷ []) in
    let moved : c.read.new.reader ≡ behind g.T.Member.cdr c.items.reader = c.in_ok-read.ensures.moves in
    rw (grown, seen, moved) (c.items.invariant.0 ∙ step, c.items.invariant.1 ∙ past, room)
