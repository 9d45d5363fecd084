use Rattle.std.proofs.Common.{◌≡◌, ℕ, ◌<◌, Bool, true, false, sym, ◌∙◌, ap, ltb, arith, Some, None}
use Rattle.std.specs.Prelude.{is_some}
use Rattle.std.proofs.lemmas.Bool.Decides.{nat_tests}
use Rattle.rtps_receiver.specs.EventBody.{FragmentView}
use Rattle.rtps_receiver.specs.Views.{fragment_view}
use Rattle.rtps_proxy.specs.BestEffort.{above, standing, taken, takes_fragments}
use Rattle.rtps_proxy.specs.Change.{change_view}
use Rattle.rtps_proxy.specs.Fragments.{with_fragments_of}
use Rattle.rtps_proxy.specs.History.{MatchEvent}
use Rattle.rtps_proxy.specs.Kept.{BestEffortView, best_effort_view, takes_above}
use Rattle.rtps_proxy.specs.Pending.{found_at, last_64, pending_views, place_in, whole_found}
use Rattle.rtps_proxy.proofs.Newest.{brings, left_begun, left_none, receives, receives_none, taken_above, taken_last, taken_ready, takes_then}
use Rattle.rtps_proxy.proofs.Places.{and_both, found_then, place_stays}
use Rattle.rtps_proxy.proofs.Seats.{listed}
use Rattle.rtps_proxy.proofs.Wholes.{frags_at}
use Rattle.rtps_proxy.proofs.best_effort.BestEffort.on_fragment.Goals as goal

pub take_whole-requires-clause-place : goal.take_whole-requires-clause-place
take_whole-requires-clause-place g c =
    let f = fragment_view c.args.fragment.now in
    let bs = pending_views c.args.self.now.pending.items in
    let number : c.get-number.result ≡ f.number = c.get-number.ensures.value in
    c.place_of-at.ensures
    ∙ ap (λ ps. place_in c.get-number.result (pending_views ps)) c.as_slice.ensures.value
    ∙ ap (λ n. place_in n bs) number
    ∙ sym (place_stays c.args.time f bs)
    ∙ ap (λ n. place_in n (with_fragments_of c.args.time f bs)) (sym number)
    ∙ ap (place_in c.get-number.result) (sym c.in_ok-put.ensures.put)

pub take_whole-requires-clause-there : goal.take_whole-requires-clause-there
take_whole-requires-clause-there g c =
    let f = fragment_view c.args.fragment.now in
    let bs = pending_views c.args.self.now.pending.items in
    ap (λ n. is_some (found_at n (pending_views c.put.new.pending.items))) c.get-number.ensures.value
    ∙ ap (λ xs. is_some (found_at f.number xs)) c.in_ok-put.ensures.put
    ∙ found_then c.args.time f bs

above_top : (r : BestEffortView) (f : FragmentView) (t : Bool) → t ≡ takes_above r f → t ≡ true → r.top < f.number
above_top r f t is h = let over : ltb r.top f.number ≡ true = (and_both (ltb r.top f.number) _ (sym is ∙ h)).0 in grind (arith, nat_tests)

pub receive-requires-clause-above : goal.receive-requires-clause-above
receive-requires-clause-above g c =
    let over = above_top (best_effort_view c.args.self.now) (fragment_view c.args.fragment.now) c.takes.result c.takes.ensures c.if-not-takes.false in
    rw (c.in-Some.ensures.number ∙ c.get-number.ensures.value) over

pub returns-then-not-takes : goal.returns-then-not-takes
returns-then-not-takes g c = λ past at.
    let f = fragment_view c.args.fragment.now in
    let left : takes_fragments (taken past) f ≡ false = sym (takes_then past f (best_effort_view c.args.self.now) at) ∙ sym c.takes.ensures ∙ c.if-not-takes.true in
    receives_none past (frags_at c.args.time f) (left_none past c.args.time f left) _ _ at.top (at.pending ∙ sym (left_begun past c.args.time f left)) at.sound c.requires.lost c.requires.ready c.requires.answer

pub returns-in-None : goal.returns-in-None
returns-in-None g c = λ past at.
    let f = fragment_view c.args.fragment.now in
    let grown = with_fragments_of c.args.time f (standing past) in
    let takes_it : takes_fragments (taken past) f ≡ true = sym (takes_then past f (best_effort_view c.args.self.now) at) ∙ sym c.takes.ensures ∙ c.if-not-takes.false in
    let put_is : pending_views c.put.new.pending.items ≡ grown = c.in_ok-put.ensures.put ∙ ap (with_fragments_of c.args.time f) at.pending in
    let sound = c.in_ok-put.ensures.sound at.sound in
    let whole : None ≡ whole_found (found_at f.number grown) =
    c.in-None.ensures.whole sound ∙ ap (λ n. whole_found (found_at n (pending_views c.put.new.pending.items))) c.get-number.ensures.value ∙ ap (λ xs. whole_found (found_at f.number xs)) put_is
    in
    receives_none past (frags_at c.args.time f) (taken_ready past c.args.time f takes_it ∙ ap listed (sym whole)) _ _ at.top
    (c.displace.ensures.left ∙ ap last_64 (c.in-None.ensures.none ∙ put_is) ∙ sym (taken_last past c.args.time f takes_it))
    (c.displace.ensures.sound (c.take_whole.ensures.sound sound)) c.requires.lost c.requires.ready c.requires.answer

pub returns-in-Some : goal.returns-in-Some
returns-in-Some g c = λ past at.
    let f = fragment_view c.args.fragment.now in
    let event : MatchEvent = frags_at c.args.time f in
    let grown = with_fragments_of c.args.time f (standing past) in
    let s = change_view c.in-Some.change in
    let takes_it : takes_fragments (taken past) f ≡ true = sym (takes_then past f (best_effort_view c.args.self.now) at) ∙ sym c.takes.ensures ∙ c.if-not-takes.false in
    let put_is : pending_views c.put.new.pending.items ≡ grown = c.in_ok-put.ensures.put ∙ ap (with_fragments_of c.args.time f) at.pending in
    let sound = c.in_ok-put.ensures.sound at.sound in
    let whole : Some s ≡ whole_found (found_at f.number grown) =
    c.in-Some.ensures.whole sound ∙ ap (λ n. whole_found (found_at n (pending_views c.put.new.pending.items))) c.get-number.ensures.value ∙ ap (λ xs. whole_found (found_at f.number xs)) put_is
    in
    let number : s.number ≡ f.number = c.in-Some.ensures.number ∙ c.get-number.ensures.value in
    let itself : ltb s.number c.get-number.result ≡ false = not_itself s.number c.get-number.result (sym c.in-Some.ensures.number) in
    let left : above s.number (pending_views c.take_whole.new.pending.items) ≡ above s.number (brings past event) =
    c.in-Some.ensures.left (λ n. ltb s.number n) itself
    ∙ ap (above s.number) put_is
    ∙ ap (λ n. above n grown) number
    ∙ sym (taken_above past c.args.time f takes_it)
    ∙ ap (λ n. above n (brings past event)) (sym number)
    in
    receives past event s (taken_ready past c.args.time f takes_it ∙ ap listed (sym whole)) c.args.self.now.top (pending_views c.take_whole.new.pending.items) at.top left
    (best_effort_view c.receive.new.self) c.receive.new.effects c.receive.result c.receive.ensures.top c.receive.ensures.pending (c.receive.ensures.sound (c.take_whole.ensures.sound sound))
    c.receive.ensures.lost c.receive.ensures.ready c.receive.ensures.answer
  where
    not_itself : (m n : ℕ) → n ≡ m → ltb m n ≡ false
    not_itself m n same = grind (arith, nat_tests)
