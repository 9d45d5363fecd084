-- The receivers of an event: discovery alone, or the readers that are matched with its writer
-- (DDSI-RTPS 8.3.4, 8.5).
use Rattle.std.specs.Prelude.{List, [], ◌∷◌, Bool, not, ◌&&◌, ◌||◌, ◌↔◌, IsTrue, IsFalse}
use Rattle.std.specs.List.{list_any}
use Rattle.std.specs.Str.{bytes_eq}
use Rattle.rtps_types.specs.declared.identity.EntityId.{EntityId}
use Rattle.rtps_types.specs.declared.identity.Guid.{Guid}
use Rattle.rtps_receiver.specs.Events.{EventView}

-- ENTITYID_UNKNOWN (DDSI-RTPS 9.3.1.2)
abbrev pub unknown_entity : EntityId
unknown_entity = record { 0 = 0x00 ∷ 0x00 ∷ 0x00 ∷ 0x00 ∷ [] }

-- ENTITYID_SPDP_BUILTIN_PARTICIPANT_ANNOUNCER, and the SEDP announcers of PUBLICATIONS and
-- SUBSCRIPTIONS (DDSI-RTPS 9.3.1.3)
abbrev pub announcers : List EntityId
announcers =
    record { 0 = 0x00 ∷ 0x01 ∷ 0x00 ∷ 0xc2 ∷ [] }
    ∷ record { 0 = 0x00 ∷ 0x00 ∷ 0x03 ∷ 0xc2 ∷ [] }
    ∷ record { 0 = 0x00 ∷ 0x00 ∷ 0x04 ∷ 0xc2 ∷ [] }
    ∷ []

-- the events of the announcers are for discovery alone
abbrev pub is_discovery : EntityId → Bool
is_discovery writer = list_any (λ a. bytes_eq writer.0 a.0) announcers

-- a reader id is the entity of one reader, or stands for every reader
abbrev pub is_for : EntityId → EntityId → Bool
is_for reader entity = bytes_eq reader.0 unknown_entity.0 || bytes_eq reader.0 entity.0

-- the writer that an event comes from
abbrev pub writer_of : EventView → Guid
writer_of e = record { prefix = e.source; entity = e.writer }

-- An event goes to a reader if it isn't for discovery alone, the reader is matched with its writer
-- at that moment, and its reader id is for the reader.
pub record IsAddressed (is_matched : Guid → Bool) (entity : EntityId) (e : EventView) : Type 0 where
  pub others : IsFalse (is_discovery e.writer)
  pub matched : IsTrue (is_matched (writer_of e))
  pub meant : IsTrue (is_for e.reader entity)

-- the test for that
abbrev pub is_addressed : (Guid → Bool) → EntityId → EventView → Bool
is_addressed is_matched entity e =
    not (is_discovery e.writer) && (is_matched (writer_of e) && is_for e.reader entity)

-- the test holds exactly if the event goes to the reader
abbrev pub AddressedIsTested : Type 0
AddressedIsTested =
    (is_matched : Guid → Bool) (entity : EntityId) (e : EventView)
    → IsTrue (is_addressed is_matched entity e) ↔ IsAddressed is_matched entity e
