use Rattle.std.proofs.Common.{◌≡◌, ℕ, ◌++◌, ◌∷◌, Bool, true, false, List, length, take, drop, set, get_or, sym, ◌∙◌, ap, arith, rules, Ok, Err, Result}
use Rattle.std.specs.Prelude.{is_some, OnOk}
use Rattle.std.specs.Vec.{vec_len}
use Rattle.rtps_types.specs.Number.{value_of}
use Rattle.rtps_receiver.specs.Views.{fragment_view}
use Rattle.rtps_proxy.specs.declared.pending.Pending.{Pending}
use Rattle.rtps_proxy.specs.Fragments.{Begun, grown, opened}
use Rattle.rtps_proxy.specs.Pending.{are_sound, found_at, pending_view, pending_views, place_in}
use Rattle.rtps_proxy.proofs.Places.{found_within, place_bound, put_new, put_there, sound_insert, sound_set}
use Rattle.rtps_proxy.proofs.pending.put.Goals as goal

on_ok : {T E P Q : Type 0} (r : Result T E) → (P → Q) → OnOk r P → OnOk r Q
on_ok (Ok x) f h = f h
on_ok (Err e) f h = h

there_is : {A : Type 0} (n m : ℕ) (ps qs : List (Pending A)) (b c : Bool) → n ≡ m → qs ≡ ps → c ≡ is_some (found_at n (pending_views qs)) → c ≡ b → is_some (found_at m (pending_views ps)) ≡ b
there_is n m ps qs b c e f is h = ap (λ k. is_some (found_at k (pending_views ps))) (sym e) ∙ ap (λ (xs : List (Pending _)). is_some (found_at n (pending_views xs))) (sym f) ∙ sym is ∙ h

pub index_mut-requires : goal.index_mut-requires
index_mut-requires g c =
    let ps = c.args.pending.now.items in
    let n = value_of c.args.fragment.now.number in
    let there = there_is c.get.result n ps c.as_slice.result.now true c.is_there.result c.get.ensures.value c.as_slice.ensures.value c.is_there.ensures c.if-is_there.true in
    let l = found_within n ps there in
    let len : vec_len c.args.pending.now ≡ length ps = search rules in
    omega (arith, l, c.requires, len)

pub returns-then-is_there-clause-put : goal.returns-then-is_there-clause-put
returns-then-is_there-clause-put g c =
    let ps = c.args.pending.now.items in
    let f = fragment_view c.args.fragment.now in
    let there = there_is c.get.result f.number ps c.as_slice.result.now true c.is_there.result c.get.ensures.value c.as_slice.ensures.value c.is_there.ensures c.if-is_there.true in
    let p = c.index_mut.result.now in
    let at : p ≡ get_or ps (place_in f.number (pending_views ps)) p = c.index_mut.ensures.value ∙ ap (λ i. get_or ps i p) c.requires in
    on_ok c.grow.result
    (λ h. ap (λ i. pending_views (set ps i c.grow.new.self)) c.requires ∙ put_there c.args.time f c.grow.new.self ps p there (h ∙ ap (λ (q : Pending g.row.A.Denot). grown (pending_view q) f) at))
    c.grow.ensures.view

pub returns-then-is_there-clause-sound : goal.returns-then-is_there-clause-sound
returns-then-is_there-clause-sound g c = λ sound. on_ok c.grow.result (λ h. sound_set c.args.pending.now.items c.args.at c.grow.new.self sound h) c.grow.ensures.sound

pub insert-requires : goal.insert-requires
insert-requires g c =
    let ps = c.args.pending.now.items in
    let l = place_bound (value_of c.args.fragment.now.number) ps in
    let len : vec_len c.args.pending.now ≡ length ps = search rules in
    omega (arith, l, c.requires, len)

pub returns-clause-put : goal.returns-clause-put
returns-clause-put g c =
    let ps = c.args.pending.now.items in
    let f = fragment_view c.args.fragment.now in
    let none = there_is c.get.result f.number ps c.as_slice.result.now false c.is_there.result c.get.ensures.value c.as_slice.ensures.value c.is_there.ensures c.if-is_there.false in
    let view : pending_view c.grow-2.new.self ≡ grown (opened c.args.time f) f = c.in_ok-grow.ensures.view ∙ ap (λ (b : Begun). grown b f) c.new-sample.ensures.view in
    ap pending_views c.in_ok-insert.ensures.items
    ∙ ap (λ i. pending_views (take i ps ++ c.grow-2.new.self ∷ drop i ps)) c.requires
    ∙ put_new c.args.time f c.grow-2.new.self ps none view

pub returns-clause-sound : goal.returns-clause-sound
returns-clause-sound g c = λ sound. ap are_sound c.in_ok-insert.ensures.items ∙ sound_insert c.args.pending.now.items c.args.at c.grow-2.new.self sound c.in_ok-grow.ensures.sound
