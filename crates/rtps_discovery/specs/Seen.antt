-- The code's types as contracts see them, with texts as lists of octets.
use Rattle.std.specs.Prelude.{[], ◌∷◌, Option}
use Rattle.std.specs.Borrow.{Bor}
use Rattle.std.specs.Option.{option_map}
use Rattle.dds_qos.specs.Seen.{names_seen, settings_seen}
use Rattle.rtps_types.specs.MatchChange.{match_change_view}
use Rattle.rtps_discovery.specs.declared.announcement.Announcement.{Announcement}
use Rattle.rtps_discovery.specs.declared.announcement.Announcement.TheVariants as announced
use Rattle.rtps_discovery.specs.declared.announcement.Facts.{Facts}
use Rattle.rtps_discovery.specs.declared.announcement.Offer.{Offer}
use Rattle.rtps_discovery.specs.Announcement as announcement
use Rattle.rtps_discovery.specs.Changes as changes
use Rattle.rtps_discovery.specs.Known as known
use Rattle.rtps_discovery.specs.declared.changes.MatchChange.{MatchChange}
use Rattle.rtps_discovery.specs.declared.pair_state.PairState.{PairState}
use Rattle.rtps_discovery.specs.declared.pair_state.PairState.TheVariants as stands
use Rattle.rtps_discovery.specs.declared.announced_data.AnnouncedData.{AnnouncedData}
use Rattle.rtps_discovery.specs.declared.announced_data.AnnouncedData.TheVariants as code
use Rattle.rtps_discovery.specs.AnnouncedData as said

-- the view of the data of a change
abbrev pub said_seen : AnnouncedData → said.AnnouncedData
said_seen (code.Announces s) = said.Announces (settings_seen s)
said_seen (code.Ends named) = said.Ends named

-- the view of what a participant announces of itself
abbrev pub facts_seen : Facts → announcement.Facts
facts_seen f = record {
  metatraffic = f.metatraffic;
  locators = f.locators;
  lease = f.lease;
  announces_writers = f.announces_writers;
  announces_readers = f.announces_readers;
}

-- the view of what a writer offers, or a reader requests
abbrev pub offer_seen : Offer → announcement.Offer
offer_seen o = record {
  topic = o.topic.now;
  type_name = o.type_name.now;
  policies = o.policies;
  partitions = names_seen o.partitions;
  locators = o.locators;
}

-- the view of an announcement
abbrev pub announcement_seen : Announcement → announcement.Announcement
announcement_seen (announced.Comes p f) = announcement.Comes p (facts_seen f)
announcement_seen (announced.Leaves p) = announcement.Leave (p ∷ [])
announcement_seen (announced.Offers g o) = announcement.Offers g (offer_seen o)
announcement_seen (announced.Withdraws g) = announcement.Withdraws g
announcement_seen (announced.Asks g) = announcement.Asks g
announcement_seen (announced.AsksNoMore g) = announcement.AsksNoMore g

-- the view of the state of a reader and a writer
abbrev pub standing_seen : PairState → known.PairState
standing_seen stands.Unmatched = known.Unmatched
standing_seen stands.Joined = known.Joined
standing_seen (stands.Refused policy) = known.Refused policy

-- the view of a change of a match
abbrev pub change_seen : {A : Type 0} → MatchChange A → changes.ChangeAt
change_seen c = record { rank = c.rank; what = match_change_view c.what }

-- the value of an optional borrow
abbrev pub lent : {X : Type 0} → Option (Bor X) → Option X
lent o = option_map (λ b. b.now) o
