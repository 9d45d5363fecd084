use Rattle.std.proofs.Common.{◌≡◌, ℕ, ◌+◌, ◌%◌, ◌^◌, ◌&&◌, Bool, true, false, cond, List, map, refl, sym, ap, ◌∙◌, rules, Some, None}
use Rattle.std.specs.Prelude.{int_lt, is_some}
use Rattle.std.specs.Option.{option_map}
use Rattle.std.proofs.lemmas.Int.{to_z-of_z}
use mir.Syntax.{w32}
use mir.Val.{to_z, of_z}
use Rattle.rtps_types.specs.NumberSet.{NumberSet}
use Rattle.rtps_types.specs.Sets.{frag_view}
use Rattle.rtps_receiver.specs.EventBody.{HeartbeatFragView, HeartbeatFrag}
use Rattle.rtps_receiver.specs.Views.{heartbeat_frag_view}
use Rattle.rtps_proxy.specs.Change.{change_view}
use Rattle.rtps_proxy.specs.Effects.{ReliableStandsAt, exceeds}
use Rattle.rtps_proxy.specs.HeartbeatFrag.{is_new_frag}
use Rattle.rtps_proxy.specs.History.{MatchEvent}
use Rattle.rtps_proxy.specs.Kept.{ReliableView, Pairing, reliable_view, lacks_frags, pairing}
use Rattle.rtps_proxy.specs.NackFrag.{asked_frags, nack, nack_by, nacks}
use Rattle.rtps_proxy.specs.Received.{in_order, is_settled, taken}
use Rattle.rtps_proxy.specs.Fragments.{begun_at}
use Rattle.rtps_proxy.specs.Pending.{found_at}
use Rattle.rtps_proxy.specs.Replies.{ReplyView, nack_of}
use Rattle.rtps_proxy.proofs.Beats.{newer, one_more, refused_counts}
use Rattle.rtps_proxy.proofs.Seats.{found_standing, standing_same}
use Rattle.rtps_proxy.proofs.Standing.{lost_nothing, none_ready, same_held}
use Rattle.rtps_proxy.proofs.reliable.Reliable.on_heartbeat_frag.Goals as goal

-- what is asked for, by what the proxy keeps
asked_is : (past : List MatchEvent) (r : ReliableView) (h : HeartbeatFragView) → ReliableStandsAt past r → is_new_frag past h.count ≡ true → asked_frags past h ≡ lacks_frags r h
asked_is past r h at accepted = by_settled (is_settled past h.number) refl
  where
    by_settled : (b : Bool) → is_settled past h.number ≡ b → asked_frags past h ≡ lacks_frags r h
    by_settled true e = rw (accepted, e, sym (at.settled h.number) ∙ e) refl
    by_settled false e =
        let found : found_at h.number r.begun ≡ begun_at h.number (taken past).begun = ap (found_at h.number) at.pending ∙ found_standing past h.number e in
        rw (accepted, e, sym (at.settled h.number) ∙ e, found) refl

nacks_counted : (past : List MatchEvent) (b : Bool) (earlier now : ℕ) → earlier ≡ nacks past % 2 ^ 32 → now ≡ cond b ((earlier + 1) % 2 ^ 32) earlier → now ≡ cond b (nacks past + 1) (nacks past) % 2 ^ 32
nacks_counted past true earlier now is e = e ∙ rw is (one_more (nacks past) (2 ^ 32))
nacks_counted past false earlier now is e = e ∙ is

nack_sent : (w : Pairing) (past : List MatchEvent) (h : HeartbeatFragView) (earlier : ℕ) (s : NumberSet) (r : ReplyView) → asked_frags past h ≡ Some s → earlier ≡ nacks past % 2 ^ 32 → r ≡ nack_of w (nack_by h.number earlier s) → Some r ≡ option_map (nack_of w) (nack past h)
nack_sent w past h earlier s r asked counted is =
    let counts : (earlier + 1) % 2 ^ 32 ≡ (nacks past + 1) % 2 ^ 32 = rw counted (one_more (nacks past) (2 ^ 32)) in
    ap (λ x. Some x) is
    ∙ ap (λ (n : ℕ). Some (nack_of w (record { number = h.number; missing = s; count = n }))) counts
    ∙ ap (λ o. option_map (nack_of w) (option_map (nack_by h.number (nacks past)) o)) (sym asked)

pub returns-then-not-is_frag_accepted : goal.returns-then-not-is_frag_accepted
returns-then-not-is_frag_accepted g c = λ time past at.
    let b = c.args.heartbeat.now in
    let h = heartbeat_frag_view b in
    let event : MatchEvent = record { time = time; body = HeartbeatFrag h } in
    let e : to_z w32 (of_z w32 b.count) ≡ b.count = to_z-of_z w32 b.count (search rules) in
    let exceeded : exceeds c.args.self.now.frag_accepted b.count ≡ false = rw e at (sym c.is_frag_accepted.ensures ∙ c.if-not-is_frag_accepted.true) in
    let refused : is_new_frag past b.count ≡ false = at.frag_counts b.count ∙ exceeded in
    let asked : asked_frags past h ≡ None = rw refused refl in
    record {
      stands = record {
        counts = at.counts;
        begun = at.begun;
        announced = at.announced;
        settled = at.settled;
        held = at.held ∙ ap in_order (sym (same_held past event (λ n. refl) refl));
        pending = at.pending ∙ sym (standing_same past event refl (λ n. refl));
        sound = at.sound;
        answers = at.answers;
        frag_counts = λ next. ap (λ d. int_lt b.count next && d) (at.frag_counts next) ∙ refused_counts c.args.self.now.frag_accepted b.count next exceeded;
        nacks = nacks_counted past (is_some (asked_frags past h)) c.args.self.now.nacks c.args.self.now.nacks at.nacks (rw asked refl);
      };
      lost = c.requires.lost ∙ sym (lost_nothing past event refl);
      ready = ap (map change_view) c.requires.ready ∙ sym (none_ready past event (λ n. refl));
      answer = rw (c.requires.answer, asked) refl;
    }

pub returns-in_default : goal.returns-in_default
returns-in_default g c = λ time past at.
    let b = c.args.heartbeat.now in
    let h = heartbeat_frag_view b in
    let event : MatchEvent = record { time = time; body = HeartbeatFrag h } in
    let e : to_z w32 (of_z w32 b.count) ≡ b.count = to_z-of_z w32 b.count (search rules) in
    let exceeded : exceeds c.args.self.now.frag_accepted b.count ≡ true = rw e at (sym c.is_frag_accepted.ensures ∙ c.if-not-is_frag_accepted.false) in
    let accepted : is_new_frag past b.count ≡ true = at.frag_counts b.count ∙ exceeded in
    let asked : asked_frags past h ≡ None = asked_is past (reliable_view c.args.self.now) h at accepted ∙ sym c.in_default.ensures in
    record {
      stands = record {
        counts = at.counts;
        begun = at.begun;
        announced = at.announced;
        settled = at.settled;
        held = at.held ∙ ap in_order (sym (same_held past event (λ n. refl) refl));
        pending = at.pending ∙ sym (standing_same past event refl (λ n. refl));
        sound = at.sound;
        answers = at.answers;
        frag_counts = λ next. rw e (ap (λ d. int_lt b.count next && d) (at.frag_counts next) ∙ newer c.args.self.now.frag_accepted b.count next exceeded);
        nacks = nacks_counted past (is_some (asked_frags past h)) c.args.self.now.nacks c.args.self.now.nacks at.nacks (rw asked refl);
      };
      lost = c.requires.lost ∙ sym (lost_nothing past event refl);
      ready = ap (map change_view) c.requires.ready ∙ sym (none_ready past event (λ n. refl));
      answer = rw (c.requires.answer, asked) refl;
    }

pub returns : goal.returns
returns g c = λ time past at.
    let b = c.args.heartbeat.now in
    let h = heartbeat_frag_view b in
    let event : MatchEvent = record { time = time; body = HeartbeatFrag h } in
    let e : to_z w32 (of_z w32 b.count) ≡ b.count = to_z-of_z w32 b.count (search rules) in
    let exceeded : exceeds c.args.self.now.frag_accepted b.count ≡ true = rw e at (sym c.is_frag_accepted.ensures ∙ c.if-not-is_frag_accepted.false) in
    let accepted : is_new_frag past b.count ≡ true = at.frag_counts b.count ∙ exceeded in
    let asked : asked_frags past h ≡ Some (frag_view c.in-Some.missing) = asked_is past (reliable_view c.args.self.now) h at accepted ∙ sym c.in-Some.ensures in
    record {
      stands = record {
        counts = at.counts;
        begun = at.begun;
        announced = at.announced;
        settled = at.settled;
        held = at.held ∙ ap in_order (sym (same_held past event (λ n. refl) refl));
        pending = at.pending ∙ sym (standing_same past event refl (λ n. refl));
        sound = at.sound;
        answers = at.answers;
        frag_counts = λ next. rw e (ap (λ d. int_lt b.count next && d) (at.frag_counts next) ∙ newer c.args.self.now.frag_accepted b.count next exceeded);
        nacks = nacks_counted past (is_some (asked_frags past h)) c.args.self.now.nacks ((c.args.self.now.nacks + 1) % 2 ^ 32) at.nacks (rw asked refl);
      };
      lost = c.requires.lost ∙ sym (lost_nothing past event refl);
      ready = ap (map change_view) c.requires.ready ∙ sym (none_ready past event (λ n. refl));
      answer = nack_sent (pairing c.args.config.now) past h c.args.self.now.nacks (frag_view c.in-Some.missing) _ asked at.nacks c.in_ok-reply.ensures;
    }
