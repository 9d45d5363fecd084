-- The event body of a submessage, by its kind (DDSI-RTPS 8.3.7).
use Rattle.std.specs.Prelude.{ℕ, List, [], ◌∷◌, Option, Some, None, ◌&&◌, nat_le, if◌then◌else◌}
use Rattle.std.specs.List.{list_all}
use Rattle.std.specs.Option.{option_map}
use Rattle.rtps_types.specs.declared.identity.EntityId.{EntityId}
use Rattle.rtps_types.specs.NumberSet.{members}
use Rattle.rtps_wire.specs.Submessage.{PartsView}
use Rattle.rtps_wire.specs.Submessage as wire
use Rattle.rtps_receiver.specs.EventBody.{EventBodyView, Whole, Fragment, Heartbeat, Gap, HeartbeatFrag, is_taken}

-- the writer, the reader and the event body of a submessage
pub record AddressedBody : Type 0 where
  pub writer : EntityId
  pub reader : EntityId
  pub body : EventBodyView

-- the five kinds that readers handle
abbrev pub addressed : PartsView → Option AddressedBody
addressed (wire.Data d) = Some (record {
  writer = d.writer;
  reader = d.reader;
  body = Whole (record { number = d.number; info = d.info; payload = d.payload });
})
addressed (wire.DataFrag d) = Some (record {
  writer = d.writer;
  reader = d.reader;
  body = Fragment (record {
    number = d.number;
    start = d.start;
    count = d.count;
    size = d.size;
    sample = d.sample;
    info = d.info;
    payload = d.payload;
  });
})
addressed (wire.Heartbeat h) = Some (record {
  writer = h.writer;
  reader = h.reader;
  body = Heartbeat (record {
    first = h.first;
    last = h.last;
    count = h.count;
    final_flag = h.final_flag;
    liveliness = h.liveliness;
  });
})
addressed (wire.Gap g) = Some (record {
  writer = g.writer;
  reader = g.reader;
  body = Gap (record { start = g.start; list = g.list });
})
addressed (wire.HeartbeatFrag h) = Some (record {
  writer = h.writer;
  reader = h.reader;
  body = HeartbeatFrag (record { number = h.number; last = h.last; count = h.count });
})
addressed wire.Pad = None
addressed (wire.InfoTimestamp t) = None
addressed (wire.InfoSource s) = None
addressed (wire.InfoDestination p) = None
addressed wire.Skipped = None

-- the sequence numbers in it, with those of a set's base and members
abbrev pub numbers_of : EventBodyView → List ℕ
numbers_of (Whole c) = c.number ∷ []
numbers_of (Fragment f) = f.number ∷ []
numbers_of (Heartbeat h) = h.first ∷ h.last ∷ []
numbers_of (Gap g) = g.start ∷ g.list.base ∷ members g.list
numbers_of (HeartbeatFrag h) = h.number ∷ []

-- the number of its change, or its first sequence number; at least 1 in a valid submessage
abbrev pub first_of : EventBodyView → ℕ
first_of (Whole c) = c.number
first_of (Fragment f) = f.number
first_of (Heartbeat h) = h.first
first_of (Gap g) = g.start
first_of (HeartbeatFrag h) = h.number

-- a body is used if no number in it is above 2^62
abbrev pub taken : AddressedBody → Option AddressedBody
taken a =
    if nat_le 1 (first_of a.body) && list_all is_taken (numbers_of a.body) then Some a else None

-- the body, if there is one and it is used
abbrev pub taken_of : Option AddressedBody → Option AddressedBody
taken_of None = None
taken_of (Some a) = taken a

-- the event body of a submessage, if it has one that is used
abbrev pub brought_by : PartsView → Option EventBodyView
brought_by c = option_map (λ a. a.body) (taken_of (addressed c))
