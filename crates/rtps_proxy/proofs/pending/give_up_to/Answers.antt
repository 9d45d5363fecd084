use Rattle.std.proofs.Common.{◌≡◌, ◌∙◌, ap, rules, ltb}
use Rattle.std.specs.List.{filter}
use Rattle.std.proofs.lemmas.Fn.{filter_same}
use Rattle.rtps_types.specs.Number.{value_of}
use Rattle.rtps_proxy.specs.declared.pending.Pending.{Pending}
use Rattle.rtps_proxy.specs.Pending.{are_sound, pending_views}
use Rattle.rtps_proxy.proofs.Places.{sound_filtered, views_filtered}
use Rattle.rtps_proxy.proofs.pending.give_up_to.Goals as goal

pub returns-clause-left : goal.returns-clause-left
returns-clause-left g c =
    let n = c.args.number in
    let is : c.retain.new.self.items ≡ filter (λ (p : Pending g.row.A.Denot). ltb n (value_of p.number)) c.args.pending.now.items =
    filter_same _ (λ (p : Pending g.row.A.Denot). ltb n (value_of p.number)) _ (λ x b q r. (search rules, search rules)) _ _ c.retain.ensures.filtered
    in
    ap pending_views is ∙ views_filtered (λ k. ltb n k) c.args.pending.now.items

pub returns-clause-sound : goal.returns-clause-sound
returns-clause-sound g c = λ h.
    let n = c.args.number in
    let is : c.retain.new.self.items ≡ filter (λ (p : Pending g.row.A.Denot). ltb n (value_of p.number)) c.args.pending.now.items =
    filter_same _ (λ (p : Pending g.row.A.Denot). ltb n (value_of p.number)) _ (λ x b q r. (search rules, search rules)) _ _ c.retain.ensures.filtered
    in
    ap are_sound is ∙ sound_filtered (λ (p : Pending g.row.A.Denot). ltb n (value_of p.number)) c.args.pending.now.items h
