use Rattle.std.proofs.Common.{◌≡◌, ℕ, ◌+◌, ◌++◌, Bool, true, false, not, ◌&&◌, ◌||◌, leb, ltb, ap, map, refl, sym, ◌∙◌, [], ◌∷◌, arith, List, Some, None}
use Rattle.std.specs.Prelude.{is_some}
use Rattle.std.specs.List.{filter}
use Rattle.std.proofs.lemmas.Bool.Decides.{nat_tests}
use Rattle.rtps_receiver.specs.EventBody.{FragmentView}
use Rattle.rtps_receiver.specs.Views.{fragment_view}
use Rattle.rtps_proxy.specs.Change.{change_view}
use Rattle.rtps_proxy.specs.Fragments.{fits, whole_at, with_fragments_of}
use Rattle.rtps_proxy.specs.Held.{IsRising, behind_front, front_below}
use Rattle.rtps_proxy.specs.History.{MatchEvent}
use Rattle.rtps_proxy.specs.Pending.{found_at, pending_views, place_in, whole_found}
use Rattle.rtps_proxy.specs.Received.{held, in_order, is_covered, is_settled, put, received, standing, taken, takes_fragments}
use Rattle.rtps_proxy.specs.Runs.{marks}
use Rattle.rtps_proxy.proofs.Apart.{apart_from}
use Rattle.rtps_proxy.proofs.Ordering.{behind_is, front_is, in_order_rises}
use Rattle.rtps_proxy.proofs.Places.{found_then, place_stays}
use Rattle.rtps_proxy.proofs.Seats.{begun_then, fragments_taken_is, left_same, listed, same_received, same_settled, standing_from, standing_more, standing_put, standing_same, whole_then}
use Rattle.rtps_proxy.proofs.Standing.{Shows, lost_nothing, none_ready, or_true, same_held, settle_held, settle_ready}
use Rattle.rtps_proxy.proofs.Taking.{Takes, not_and, rises, taken_shows, waiting_with}
use Rattle.rtps_proxy.proofs.Wholes.{frags_at, frags_left, frags_received, whole_number}
use Rattle.rtps_proxy.proofs.reliable.Reliable.on_fragment.Goals as goal

and_parts : (a b : Bool) → (a && b) ≡ true → (a ≡ true) × (b ≡ true)
and_parts true b h = (refl, h)
and_parts false b h = absurd cc

-- what is taken isn't settled
unsettled_by : (fits room seat : Bool) (m : Bool) → true ≡ (fits && ((not m && room) && seat)) → m ≡ false
unsettled_by fits room seat m h = not_and m room (and_parts (not m && room) seat (and_parts fits ((not m && room) && seat) (sym h)).1).0

unsettled_then : (past : List MatchEvent) (f : FragmentView) → takes_fragments (taken past) past f ≡ true → is_settled past f.number ≡ false
unsettled_then past f h = not_and (is_settled past f.number) _ (and_parts (fits (taken past).begun f) _ h).1

itself : (m n : ℕ) → n ≡ m → (leb m n && ltb n (m + 1)) ≡ true
itself m n same = grind (arith, nat_tests)

pub returns-in_default : goal.returns-in_default
returns-in_default g c = λ pairing past at.
    let f = fragment_view c.args.fragment.now in
    let event : MatchEvent = frags_at c.args.time f in
    let old = c.args.self.now.settled in
    let waiting = map change_view c.args.self.now.held.items in
    let bs = pending_views c.args.self.now.pending.items in
    let before : Shows past old.frontier old.runs = record { settled = at.settled; apart = apart_from old.frontier old.runs old.apart } in
    let left : takes_fragments (taken past) past f ≡ false = sym (fragments_taken_is past f old.frontier old.runs waiting bs before at.held at.pending) ∙ sym c.in_default.ensures.taken in
    let same = left_same past c.args.time f left in
    let got : received (event ∷ past) ≡ received past = ap (λ t. t.changes) (frags_left past c.args.time f left) in
    record {
      stands = record {
        counts = at.counts;
        begun = at.begun;
        announced = at.announced;
        settled = λ m. same m ∙ at.settled m;
        held = at.held ∙ ap in_order (sym (same_held past event same got));
        pending = at.pending ∙ sym (standing_same past event (ap (λ t. t.begun) (frags_left past c.args.time f left)) same);
        sound = at.sound;
        answers = at.answers;
        frag_counts = at.frag_counts;
        nacks = at.nacks;
      };
      lost = c.requires.lost ∙ sym (lost_nothing past event refl);
      ready = ap (map change_view) c.requires.ready ∙ sym (none_ready past event same);
      answer = rw c.requires.answer refl;
    }

pub take_whole-requires-clause-place : goal.take_whole-requires-clause-place
take_whole-requires-clause-place g c =
    let f = fragment_view c.args.fragment.now in
    let bs = pending_views c.args.self.now.pending.items in
    let number : c.get-number.result ≡ f.number = c.get-number.ensures.value in
    c.place_of-at.ensures
    ∙ ap (λ ps. place_in c.get-number.result (pending_views ps)) c.as_slice.ensures.value
    ∙ ap (λ n. place_in n bs) number
    ∙ sym (place_stays c.args.time f bs)
    ∙ ap (λ n. place_in n (with_fragments_of c.args.time f bs)) (sym number)
    ∙ ap (place_in c.get-number.result) (sym c.in_ok-put.ensures.put)

pub take_whole-requires-clause-there : goal.take_whole-requires-clause-there
take_whole-requires-clause-there g c =
    let f = fragment_view c.args.fragment.now in
    let bs = pending_views c.args.self.now.pending.items in
    ap (λ n. is_some (found_at n (pending_views c.put.new.pending.items))) c.get-number.ensures.value
    ∙ ap (λ xs. is_some (found_at f.number xs)) c.in_ok-put.ensures.put
    ∙ found_then c.args.time f bs

pub add_at-requires-clause-above : goal.add_at-requires-clause-above
add_at-requires-clause-above g c =
    let f = fragment_view c.args.fragment.now in
    let old = c.args.self.now.settled in
    let out : marks old.frontier old.runs f.number ≡ false = unsettled_by _ _ _ (marks old.frontier old.runs f.number) c.in-Some.ensures.taken in
    let not_below : ltb f.number old.frontier ≡ false = not_or (ltb f.number old.frontier) _ out in
    grind (arith, nat_tests, c.get-number.ensures.value)
  where
    not_or : (a b : Bool) → (a || b) ≡ false → a ≡ false
    not_or true b h = absurd cc
    not_or false b h = refl

pub returns-in_default-take_whole : goal.returns-in_default-take_whole
returns-in_default-take_whole g c = λ pairing past at.
    let f = fragment_view c.args.fragment.now in
    let event : MatchEvent = frags_at c.args.time f in
    let old = c.args.self.now.settled in
    let waiting = map change_view c.args.self.now.held.items in
    let bs = pending_views c.args.self.now.pending.items in
    let before : Shows past old.frontier old.runs = record { settled = at.settled; apart = apart_from old.frontier old.runs old.apart } in
    let takes_it : takes_fragments (taken past) past f ≡ true = sym (fragments_taken_is past f old.frontier old.runs waiting bs before at.held at.pending) ∙ sym c.in-Some.ensures.taken in
    let unsettled = unsettled_then past f takes_it in
    let put_is : pending_views c.put.new.pending.items ≡ with_fragments_of c.args.time f (standing past) = c.in_ok-put.ensures.put ∙ ap (with_fragments_of c.args.time f) at.pending in
    let sound = c.in_ok-put.ensures.sound at.sound in
    let whole : None ≡ whole_found (found_at f.number (with_fragments_of c.args.time f (standing past))) =
    c.in_default-take_whole.ensures.whole sound ∙ ap (λ n. whole_found (found_at n (pending_views c.put.new.pending.items))) c.get-number.ensures.value ∙ ap (λ xs. whole_found (found_at f.number xs)) put_is
    in
    let none : whole_at f.number (with_fragments_of c.args.time f (taken past).begun) ≡ [] = whole_then past c.args.time f unsettled ∙ ap listed (sym whole) in
    let same = same_settled past c.args.time f unsettled takes_it none in
    let got = same_received past c.args.time f unsettled takes_it none in
    record {
      stands = record {
        counts = at.counts;
        begun = at.begun;
        announced = at.announced;
        settled = λ m. same m ∙ at.settled m;
        held = at.held ∙ ap in_order (sym (same_held past event same got));
        pending = c.in_default-take_whole.ensures.none ∙ put_is ∙ standing_more past c.args.time f unsettled takes_it none;
        sound = c.take_whole.ensures.sound sound;
        answers = at.answers;
        frag_counts = at.frag_counts;
        nacks = at.nacks;
      };
      lost = c.requires.lost ∙ sym (lost_nothing past event refl);
      ready = ap (map change_view) c.requires.ready ∙ sym (none_ready past event same);
      answer = rw c.requires.answer refl;
    }

pub returns : goal.returns
returns g c = λ pairing past at.
    let f = fragment_view c.args.fragment.now in
    let event : MatchEvent = frags_at c.args.time f in
    let old = c.args.self.now.settled in
    let new = c.add_at.new.self in
    let waiting = map change_view c.args.self.now.held.items in
    let bs = pending_views c.args.self.now.pending.items in
    let s = change_view c.in-Some-take_whole.change in
    let before : Shows past old.frontier old.runs = record { settled = at.settled; apart = apart_from old.frontier old.runs old.apart } in
    let takes_it : takes_fragments (taken past) past f ≡ true = sym (fragments_taken_is past f old.frontier old.runs waiting bs before at.held at.pending) ∙ sym c.in-Some.ensures.taken in
    let unsettled = unsettled_then past f takes_it in
    let put_is : pending_views c.put.new.pending.items ≡ with_fragments_of c.args.time f (standing past) = c.in_ok-put.ensures.put ∙ ap (with_fragments_of c.args.time f) at.pending in
    let sound = c.in_ok-put.ensures.sound at.sound in
    let whole : Some s ≡ whole_found (found_at f.number (with_fragments_of c.args.time f (standing past))) =
    c.in-Some-take_whole.ensures.whole sound ∙ ap (λ n. whole_found (found_at n (pending_views c.put.new.pending.items))) c.get-number.ensures.value ∙ ap (λ xs. whole_found (found_at f.number xs)) put_is
    in
    let one : whole_at f.number (with_fragments_of c.args.time f (taken past).begun) ≡ s ∷ [] = whole_then past c.args.time f unsettled ∙ ap listed (sym whole) in
    let number : s.number ≡ f.number = whole_number f.number (with_fragments_of c.args.time f (taken past).begun) s [] one in
    let here : c.get-number.result ≡ s.number = c.get-number.ensures.value ∙ sym number in
    let adds : (m : ℕ) → marks new.frontier new.runs m ≡ ((leb s.number m && ltb m (s.number + 1)) || marks old.frontier old.runs m) = rw here at c.in_ok-add_at.ensures.ok in
    let t : Takes past event s old.frontier new.frontier old.runs new.runs waiting = record {
      before = before;
      got = frags_received past c.args.time f takes_it (s ∷ []) one;
      first = refl;
      named = λ m. refl;
      new = ap (is_settled past) number ∙ unsettled;
      adds = adds;
      apart = apart_from new.frontier new.runs new.apart;
      waits = at.held;
    } in
    let after = taken_shows past event s old.frontier new.frontier old.runs new.runs waiting t in
    let rising : IsRising waiting = rw at.held (in_order_rises (held past)) in
    let with_it : put s waiting ≡ in_order (filter (λ r. not (is_covered past r.number)) (received (event ∷ past))) = waiting_with past event s old.frontier new.frontier old.runs new.runs waiting t in
    let held_now : map change_view c.hold.new.held.items ≡ put s waiting = c.in_ok-hold.ensures rising in
    let rises_now : IsRising (put s waiting) = rw with_it (in_order_rises (filter (λ r. not (is_covered past r.number)) (received (event ∷ past)))) in
    let keeps : (n : ℕ) → marks old.frontier old.runs n ≡ true → marks new.frontier new.runs n ≡ true = (λ n m. adds n ∙ ap (λ d. (leb s.number n && ltb n (s.number + 1)) || d) m ∙ or_true (leb s.number n && ltb n (s.number + 1))) in
    let marked : marks new.frontier new.runs c.get-number.result ≡ true = adds c.get-number.result ∙ ap (λ b. b || marks old.frontier old.runs c.get-number.result) (itself s.number c.get-number.result here) in
    record {
      stands = record {
        counts = at.counts;
        begun = at.begun;
        announced = at.announced;
        settled = after.settled;
        held = c.in_ok-release.ensures.left ∙ ap (behind_front new.frontier) held_now ∙ behind_is new.frontier (put s waiting) rises_now
            ∙ settle_held past event old.frontier new.frontier old.runs new.runs (put s waiting) before after (rises past event s old.frontier new.frontier old.runs new.runs waiting t) with_it;
        pending = c.give_up.ensures.left
            ∙ c.in-Some-take_whole.ensures.left (λ n. not (marks new.frontier new.runs n)) (ap not marked)
            ∙ ap (filter (λ b. not (marks new.frontier new.runs b.number))) (put_is ∙ standing_put past c.args.time f unsettled)
            ∙ standing_from past event old.frontier new.frontier old.runs new.runs (with_fragments_of c.args.time f (taken past).begun) before after (begun_then past c.args.time f unsettled takes_it) keeps;
        sound = c.give_up.ensures.sound (c.take_whole.ensures.sound sound);
        answers = at.answers;
        frag_counts = at.frag_counts;
        nacks = at.nacks;
      };
      lost = c.requires.lost ∙ sym (lost_nothing past event refl);
      ready = c.in_ok-release.ensures.taken
          ∙ ap (λ xs. map change_view xs ++ front_below new.frontier (map change_view c.hold.new.held.items)) c.requires.ready
          ∙ ap (front_below new.frontier) held_now ∙ front_is new.frontier (put s waiting) rises_now
          ∙ settle_ready past event new.frontier new.runs (put s waiting) after with_it;
      answer = rw c.requires.answer refl;
    }
