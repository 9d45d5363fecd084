use Rattle.std.proofs.Common.{◌≡◌, ℕ, ◌+◌, ◌++◌, ◌&&◌, ◌||◌, ◌<◌, ◌≤◌, leb, ltb, not, ap, map, refl, sym, ◌∙◌, [], ◌∷◌, false, length, rules, List, true}
use Rattle.std.specs.List.{filter}
use Rattle.std.proofs.lemmas.List.{length-map}
use Rattle.rtps_receiver.specs.EventBody.{WholeView}
use Rattle.rtps_receiver.specs.Views.{whole_view}
use Rattle.rtps_proxy.specs.Change.{change_view, ChangeView, change_of}
use Rattle.rtps_proxy.specs.Held.{IsRising, front_below}
use Rattle.rtps_proxy.specs.History.{MatchEvent}
use Rattle.rtps_proxy.specs.Received.{held, in_order, put}
use Rattle.rtps_proxy.proofs.Apart.{apart_from}
use Rattle.rtps_proxy.proofs.Ordering.{in_order_rises}
use Rattle.rtps_proxy.proofs.Seats.{standing_same, standing_then}
use Rattle.rtps_proxy.specs.Runs.{marks}
use Rattle.rtps_proxy.proofs.Standing.{or_true, Shows, lost_nothing, none_ready, same_held}
use Rattle.rtps_proxy.proofs.Taking.{Takes, change_at, held_at_once, held_then, left_received, left_settled, none_yet, not_and, ready_at_once, taken_received, taken_shows, takes, takes_is}
use Rattle.rtps_proxy.proofs.reliable.Reliable.on_whole.Goals as goal

pub returns-in_default : goal.returns-in_default
returns-in_default g c = λ pairing past at.
    let w = c.args.whole.now in
    let change : WholeView = whole_view w in
    let event : MatchEvent = change_at c.args.time change in
    let old = c.args.self.now.settled in
    let waiting = map change_view c.args.self.now.held.items in
    let before : Shows past old.frontier old.runs = record { settled = at.settled; apart = apart_from old.frontier old.runs old.apart } in
    let counted : length c.args.self.now.held.items ≡ length waiting = rw (length-map c.args.self.now.held.items change_view) (search rules) in
    let left : takes past change.number ≡ false = takes_is past change.number old.frontier old.runs (length c.args.self.now.held.items) waiting before at.held counted ∙ rw c.get-number.ensures.value at (sym c.in_default.ensures.taken) in
    let same = left_settled past c.args.time change left in
    record {
      stands = record {
        counts = at.counts;
        begun = at.begun;
        announced = at.announced;
        settled = λ m. same m ∙ at.settled m;
        held = at.held ∙ ap in_order (sym (same_held past event same (left_received past c.args.time change left)));
        pending = at.pending ∙ sym (standing_same past event refl same);
        sound = at.sound;
        answers = at.answers;
        frag_counts = at.frag_counts;
        nacks = at.nacks;
      };
      lost = c.requires.lost ∙ sym (lost_nothing past event refl);
      ready = ap (map change_view) c.requires.ready ∙ sym (none_ready past event same);
      answer = rw c.requires.answer refl;
    }

pub returns-then-number-self : goal.returns-then-number-self
returns-then-number-self g c = λ pairing past at.
    let w = c.args.whole.now in
    let change : WholeView = whole_view w in
    let event : MatchEvent = change_at c.args.time change in
    let old = c.args.self.now.settled in
    let new = c.add_at.new.self in
    let waiting = map change_view c.args.self.now.held.items in
    let before : Shows past old.frontier old.runs = record { settled = at.settled; apart = apart_from old.frontier old.runs old.apart } in
    let counted : length c.args.self.now.held.items ≡ length waiting = rw (length-map c.args.self.now.held.items change_view) (search rules) in
    let taken : takes past change.number ≡ true = takes_is past change.number old.frontier old.runs (length c.args.self.now.held.items) waiting before at.held counted ∙ rw c.get-number.ensures.value at (sym c.in-Some.ensures.taken) in
    let takes_it : Takes past event (change_of c.args.time change) old.frontier new.frontier old.runs new.runs waiting = record {
      before = before;
      got = taken_received past c.args.time change taken;
      first = refl;
      named = λ m. refl;
      new = not_and _ _ taken;
      adds = rw c.get-number.ensures.value at c.in_ok-add_at.ensures.ok;
      apart = apart_from new.frontier new.runs new.apart;
      waits = at.held;
    } in
    let keeps : (n : ℕ) → marks old.frontier old.runs n ≡ true → marks new.frontier new.runs n ≡ true = (λ n m. takes_it.adds n ∙ ap (λ d. (leb change.number n && ltb n (change.number + 1)) || d) m ∙ or_true (leb change.number n && ltb n (change.number + 1))) in
    let behind : new.frontier ≤ change.number = rw c.get-number.ensures.value at c.if-number-self.true in
    let rising : IsRising waiting = rw at.held (in_order_rises (held past)) in
    let put_in : map change_view c.hold.new.held.items ≡ put (change_of c.args.time change) waiting = c.in_ok-hold.ensures rising ∙ ap (λ (s : ChangeView). put s waiting) c.in_ok-kept.ensures in
    record {
      stands = record {
        counts = at.counts;
        begun = at.begun;
        announced = at.announced;
        settled = (taken_shows past event (change_of c.args.time change) old.frontier new.frontier old.runs new.runs waiting takes_it).settled;
        held = put_in ∙ held_then past event (change_of c.args.time change) old.frontier new.frontier old.runs new.runs waiting takes_it behind;
        pending = c.give_up.ensures.left ∙ ap (filter (λ b. not (marks new.frontier new.runs b.number))) at.pending ∙ standing_then past event old.frontier new.frontier old.runs new.runs before (taken_shows past event (change_of c.args.time change) old.frontier new.frontier old.runs new.runs waiting takes_it) refl keeps;
        sound = c.give_up.ensures.sound at.sound;
        answers = at.answers;
        frag_counts = at.frag_counts;
        nacks = at.nacks;
      };
      lost = c.requires.lost ∙ sym (lost_nothing past event refl);
      ready = ap (map change_view) c.requires.ready ∙ sym (none_yet past event (change_of c.args.time change) old.frontier new.frontier old.runs new.runs waiting takes_it behind);
      answer = rw c.requires.answer refl;
    }

pub returns : goal.returns
returns g c = λ pairing past at.
    let w = c.args.whole.now in
    let change : WholeView = whole_view w in
    let event : MatchEvent = change_at c.args.time change in
    let old = c.args.self.now.settled in
    let new = c.add_at.new.self in
    let waiting = map change_view c.args.self.now.held.items in
    let before : Shows past old.frontier old.runs = record { settled = at.settled; apart = apart_from old.frontier old.runs old.apart } in
    let counted : length c.args.self.now.held.items ≡ length waiting = rw (length-map c.args.self.now.held.items change_view) (search rules) in
    let taken : takes past change.number ≡ true = takes_is past change.number old.frontier old.runs (length c.args.self.now.held.items) waiting before at.held counted ∙ rw c.get-number.ensures.value at (sym c.in-Some.ensures.taken) in
    let takes_it : Takes past event (change_of c.args.time change) old.frontier new.frontier old.runs new.runs waiting = record {
      before = before;
      got = taken_received past c.args.time change taken;
      first = refl;
      named = λ m. refl;
      new = not_and _ _ taken;
      adds = rw c.get-number.ensures.value at c.in_ok-add_at.ensures.ok;
      apart = apart_from new.frontier new.runs new.apart;
      waits = at.held;
    } in
    let keeps : (n : ℕ) → marks old.frontier old.runs n ≡ true → marks new.frontier new.runs n ≡ true = (λ n m. takes_it.adds n ∙ ap (λ d. (leb change.number n && ltb n (change.number + 1)) || d) m ∙ or_true (leb change.number n && ltb n (change.number + 1))) in
    let below : change.number < new.frontier = rw c.get-number.ensures.value at c.if-number-self.false in
    let first : map change_view c.push.new.self.items ≡ change_of c.args.time change ∷ [] = rw (c.in_ok-push.ensures.items, c.requires.ready, c.lent.ensures) refl in
    record {
      stands = record {
        counts = at.counts;
        begun = at.begun;
        announced = at.announced;
        settled = (taken_shows past event (change_of c.args.time change) old.frontier new.frontier old.runs new.runs waiting takes_it).settled;
        held = c.in_ok-release.ensures.left ∙ held_at_once past event (change_of c.args.time change) old.frontier new.frontier old.runs new.runs waiting takes_it below;
        pending = c.give_up.ensures.left ∙ ap (filter (λ b. not (marks new.frontier new.runs b.number))) at.pending ∙ standing_then past event old.frontier new.frontier old.runs new.runs before (taken_shows past event (change_of c.args.time change) old.frontier new.frontier old.runs new.runs waiting takes_it) refl keeps;
        sound = c.give_up.ensures.sound at.sound;
        answers = at.answers;
        frag_counts = at.frag_counts;
        nacks = at.nacks;
      };
      lost = c.requires.lost ∙ sym (lost_nothing past event refl);
      ready = c.in_ok-release.ensures.taken ∙ ap (λ (ss : List ChangeView). ss ++ front_below new.frontier waiting) first ∙ ready_at_once past event (change_of c.args.time change) old.frontier new.frontier old.runs new.runs waiting takes_it below;
      answer = rw c.requires.answer refl;
    }
