use Rattle.std.proofs.Common.{◌≡◌, ◌++◌, ◌||◌, ℕ, not, true, ap, map, refl, sym, ◌∙◌}
use Rattle.std.specs.List.{filter}
use Rattle.rtps_receiver.specs.declared.event_body.EventBody.TheVariants as body
use Rattle.rtps_proxy.specs.Change.{change_view}
use Rattle.rtps_proxy.specs.Effects.{match_event}
use Rattle.rtps_proxy.specs.Held.{front_below}
use Rattle.rtps_proxy.specs.History.{MatchEvent}
use Rattle.rtps_proxy.proofs.Apart.{apart_from}
use Rattle.rtps_proxy.proofs.Seats.{standing_then}
use Rattle.rtps_proxy.specs.Gap.{names}
use Rattle.rtps_proxy.specs.Runs.{marks}
use Rattle.rtps_proxy.proofs.Standing.{or_true, Shows, lost_nothing, names_shows, split_held, split_ready}
use Rattle.rtps_proxy.proofs.reliable.Reliable.on_gap.Goals as goal

pub returns : goal.returns
returns g c = λ pairing time past at.
    let event : MatchEvent = match_event time (body.Gap c.args.gap.now) in
    let old = c.args.self.now.settled in
    let new = c.add_named.new.self in
    let before : Shows past old.frontier old.runs = record { settled = at.settled; apart = apart_from old.frontier old.runs old.apart } in
    let after = names_shows past event old.frontier new.frontier old.runs new.runs before refl refl c.in_ok-add_named.ensures (apart_from new.frontier new.runs new.apart) in
    let keeps : (n : ℕ) → marks old.frontier old.runs n ≡ true → marks new.frontier new.runs n ≡ true = (λ n h. c.in_ok-add_named.ensures n ∙ ap (λ b. names event.body n || b) h ∙ or_true (names event.body n)) in
    let none_first : map change_view c.args.effects.now.ready.items ++ front_below new.frontier (map change_view c.args.self.now.held.items) ≡ front_below new.frontier (map change_view c.args.self.now.held.items) = rw c.requires.ready refl in
    record {
      stands = record {
        counts = at.counts;
        begun = at.begun;
        announced = at.announced;
        settled = after.0.settled;
        held = c.in_ok-release.ensures.left ∙ split_held past event old.frontier new.frontier old.runs new.runs (map change_view c.args.self.now.held.items) before after.0 after.1 refl at.held;
        pending = c.give_up.ensures.left ∙ ap (filter (λ b. not (marks new.frontier new.runs b.number))) at.pending ∙ standing_then past event old.frontier new.frontier old.runs new.runs before after.0 refl keeps;
        sound = c.give_up.ensures.sound at.sound;
        answers = at.answers;
        frag_counts = at.frag_counts;
        nacks = at.nacks;
      };
      lost = c.requires.lost ∙ sym (lost_nothing past event refl);
      ready = c.in_ok-release.ensures.taken ∙ none_first ∙ split_ready past event new.frontier new.runs (map change_view c.args.self.now.held.items) after.0 refl at.held;
      answer = rw c.requires.answer refl;
    }
