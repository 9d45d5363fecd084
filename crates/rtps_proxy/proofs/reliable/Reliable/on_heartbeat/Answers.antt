use Rattle.std.proofs.Common.{◌≡◌, ◌++◌, ◌&&◌, ◌||◌, not, Bool, ℕ, leb, ltb, subst, refl, sym, ap, ◌∙◌, ◌∷◌, true, false, max, map, is_some, rules}
use Rattle.std.specs.Prelude.{int_lt}
use Rattle.std.specs.List.{filter}
use Rattle.std.proofs.lemmas.Int.{to_z-of_z}
use mir.Syntax.{w32}
use mir.Val.{to_z, of_z}
use Rattle.rtps_types.specs.Number.{value_of}
use Rattle.rtps_receiver.specs.EventBody.{HeartbeatView}
use Rattle.rtps_proxy.specs.Change.{change_view}
use Rattle.rtps_proxy.specs.Answer.{is_answered}
use Rattle.rtps_proxy.specs.Effects.{ReliableStandsAt, exceeds}
use Rattle.rtps_proxy.specs.Held.{front_below}
use Rattle.rtps_proxy.specs.Heartbeat.{announced_of, has_heartbeat, is_new}
use Rattle.rtps_proxy.specs.History.{MatchEvent}
use Rattle.rtps_proxy.specs.Kept.{ReliableView, pairing}
use Rattle.rtps_types.specs.Numbers.{lacks}
use Rattle.rtps_proxy.specs.Received.{in_order, lost}
use Rattle.rtps_proxy.specs.Runs.{marks}
use Rattle.rtps_proxy.proofs.Apart.{apart_from}
use Rattle.rtps_proxy.proofs.Seats.{standing_same, standing_then}
use Rattle.rtps_proxy.proofs.Standing.{or_true, Shows, lost_nothing, none_ready, same_held, split_held, split_ready}
use Rattle.rtps_proxy.proofs.Beats.{announced_is, answered_is, beat_at, beat_lost, beat_shows, count_is, newer, refused_announced, refused_answer, refused_answers, refused_counts, has_greatest, refused_first, refused_settled, reply_is}
use Rattle.rtps_proxy.proofs.reliable.Reliable.on_heartbeat.Goals as goal

pub returns-then-not-is_accepted : goal.returns-then-not-is_accepted
returns-then-not-is_accepted g c = λ time past at.
    let b = c.args.heartbeat.now in
    let h : HeartbeatView = record { first = value_of b.first; last = b.last; count = b.count; final_flag = b.final_flag; liveliness = b.liveliness } in
    let event : MatchEvent = beat_at time h in
    let e : to_z w32 (of_z w32 b.count) ≡ b.count = to_z-of_z w32 b.count (search rules) in
    let exceeded : exceeds c.args.self.now.accepted b.count ≡ false = rw e at (sym c.is_accepted.ensures ∙ c.if-not-is_accepted.true) in
    let refused : is_new past b.count ≡ false = at.counts b.count ∙ exceeded in
    let same = refused_settled past time h refused in
    record {
      stands = record {
        counts = λ next. ap (λ d. int_lt b.count next && d) (at.counts next) ∙ refused_counts c.args.self.now.accepted b.count next exceeded;
        begun = has_greatest c.args.self.now.accepted b.count exceeded;
        announced = at.announced ∙ sym (refused_announced past time h refused);
        settled = λ n. same n ∙ at.settled n;
        held = at.held ∙ ap in_order (sym (same_held past event same refl));
        pending = at.pending ∙ sym (standing_same past event refl same);
        sound = at.sound;
        answers = rw (refused_answers past time h refused) at.answers;
        frag_counts = at.frag_counts;
        nacks = at.nacks;
      };
      lost = c.requires.lost ∙ sym (lost_nothing past event (refused_first past time h refused));
      ready = ap (map change_view) c.requires.ready ∙ sym (none_ready past event same);
      answer = rw (c.requires.answer, refused_answer past time h refused) refl;
    }

pub returns : goal.returns
returns g c = λ time past at.
    let b = c.args.heartbeat.now in
    let h : HeartbeatView = record { first = value_of b.first; last = b.last; count = b.count; final_flag = b.final_flag; liveliness = b.liveliness } in
    let event : MatchEvent = beat_at time h in
    let old = c.args.self.now.settled in
    let new = c.add.new.self in
    let waiting = map change_view c.args.self.now.held.items in
    let e : to_z w32 (of_z w32 b.count) ≡ b.count = to_z-of_z w32 b.count (search rules) in
    let exceeded : exceeds c.args.self.now.accepted b.count ≡ true = rw e at (sym c.is_accepted.ensures ∙ c.if-not-is_accepted.false) in
    let accepted : is_new past b.count ≡ true = at.counts b.count ∙ exceeded in
    let before : Shows past old.frontier old.runs = record { settled = at.settled; apart = apart_from old.frontier old.runs old.apart } in
    let adds = rw c.get-first.ensures.value at c.in_ok-add.ensures.ok in
    let after = beat_shows past time h accepted old.frontier new.frontier old.runs new.runs before adds (apart_from new.frontier new.runs new.apart) in
    let keeps : (n : ℕ) → marks old.frontier old.runs n ≡ true → marks new.frontier new.runs n ≡ true = (λ n m. adds n ∙ ap (λ d. (leb 0 n && ltb n (value_of b.first)) || d) m ∙ or_true (leb 0 n && ltb n (value_of b.first))) in
    let announced : c.max-self.result ≡ announced_of (event ∷ past) = c.max-self.ensures ∙ ap (λ n. max n b.last) at.announced ∙ sym (announced_is past time h accepted) in
    let asks : Bool = not b.final_flag || (not b.liveliness && lacks (marks new.frontier new.runs) c.max-self.result) in
    let due : is_answered past event ≡ asks = answered_is past time h accepted new.frontier c.max-self.result new.runs after.0 announced in
    let begun : has_heartbeat past ≡ is_some c.args.self.now.accepted = at.begun in
    let none_first : map change_view c.args.effects.now.ready.items ++ front_below new.frontier waiting ≡ front_below new.frontier waiting = rw c.requires.ready refl in
    let lost_is : c.lost_below-lost.result ≡ lost past event = c.lost_below-lost.ensures ∙ rw (sym begun, c.get-first.ensures.value, beat_lost past time h accepted old.frontier old.runs before) refl in
    record {
      stands = subst (λ (k : ReliableView). ReliableStandsAt (event ∷ past) k) (sym c.in_ok-answer.ensures.kept) (record {
        counts = λ next. rw e (ap (λ d. int_lt b.count next && d) (at.counts next) ∙ newer c.args.self.now.accepted b.count next exceeded);
        begun = refl;
        announced = announced;
        settled = after.0.settled;
        held = c.in_ok-release.ensures.left ∙ split_held past event old.frontier new.frontier old.runs new.runs waiting before after.0 after.1 refl at.held;
        pending = c.give_up.ensures.left ∙ ap (filter (λ b. not (marks new.frontier new.runs b.number))) at.pending ∙ standing_then past event old.frontier new.frontier old.runs new.runs before after.0 refl keeps;
        sound = c.give_up.ensures.sound at.sound;
        answers = count_is past event asks c.args.self.now.answers due at.answers;
        frag_counts = at.frag_counts;
        nacks = at.nacks;
      });
      lost = lost_is;
      ready = c.in_ok-release.ensures.taken ∙ none_first ∙ split_ready past event new.frontier new.runs waiting after.0 refl at.held;
      answer = c.in_ok-answer.ensures.answer ∙ reply_is (pairing c.args.config.now) past event asks new.frontier c.max-self.result c.args.self.now.answers new.runs after.0 due announced at.answers;
    }
