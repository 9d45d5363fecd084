-- The result of an event in discovery (DDSI-RTPS 8.5).
use Rattle.std.specs.Prelude.{◌≡◌, List, Option, map}
use Rattle.std.specs.Option.{option_map}
use Rattle.rtps_receiver.specs.Events.{EventView}
use Rattle.rtps_proxy.specs.Matches.{Match, extended, match_with}
use Rattle.rtps_proxy.specs.Replies.{ReplyView, reply_view}
use Rattle.rtps_discovery.specs.Addressed.{writer_of}
use Rattle.rtps_discovery.specs.Changes.{ChangeAt}
use Rattle.rtps_discovery.specs.Known.{Known}
use Rattle.rtps_proxy.specs.History.{match_event_of}
use Rattle.rtps_discovery.specs.Seen.{change_seen}
use Rattle.rtps_discovery.specs.declared.effects.DiscoveryEffects.{DiscoveryEffects}

-- our match with the announcer that an event comes from, whatever reader id the event has
abbrev pub match_of : Known → EventView → Option Match
match_of k e = match_with (writer_of e) k.announcers

-- the state after the event is added to that match
abbrev pub extends : Known → EventView → Known
extends k e = record k { announcers = extended (writer_of e) (match_event_of e) k.announcers }

-- the result has these changes and this answer
pub record AreHeard {A : Type 0} (changes : List ChangeAt) (answer : Option ReplyView)
    (effects : DiscoveryEffects A) : Type 0 where
  pub heard : map change_seen effects.changes.items ≡ changes
  pub said : option_map reply_view effects.answer ≡ answer
