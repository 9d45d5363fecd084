-- What contracts see of the bodies of events (DDSI-RTPS 8.3.7).
use Rattle.rtps_types.specs.Number.{value_of}
use Rattle.rtps_types.specs.Sets.{sn_view}
use Rattle.rtps_receiver.specs.declared.event_body.EventBody.{EventBody}
use Rattle.rtps_receiver.specs.declared.event_body.EventBody.TheVariants as code
use Rattle.rtps_receiver.specs.declared.event_body.Fragment as fragment
use Rattle.rtps_receiver.specs.declared.event_body.Gap as gap
use Rattle.rtps_receiver.specs.declared.event_body.Heartbeat as heartbeat
use Rattle.rtps_receiver.specs.declared.event_body.HeartbeatFrag as heartbeat_frag
use Rattle.rtps_receiver.specs.declared.event_body.Whole as whole
use Rattle.rtps_receiver.specs.EventBody.{HeartbeatView, HeartbeatFragView, EventBodyView, WholeView, FragmentView, GapView, Whole, Fragment, Heartbeat, Gap, HeartbeatFrag}

-- what contracts see of a change in one piece
abbrev pub whole_view : whole.Whole → WholeView
whole_view w = record { number = value_of w.number; info = w.info; payload = w.payload.now }

-- what contracts see of fragments
abbrev pub fragment_view : fragment.Fragment → FragmentView
fragment_view f = record {
  number = value_of f.number;
  start = f.start;
  count = f.count;
  size = f.size;
  sample = f.sample;
  info = f.info;
  payload = f.payload.now;
}

-- what contracts see of a heartbeat
abbrev pub heartbeat_view : heartbeat.Heartbeat → HeartbeatView
heartbeat_view h = record {
  first = value_of h.first;
  last = h.last;
  count = h.count;
  final_flag = h.final_flag;
  liveliness = h.liveliness;
}

-- what contracts see of a gap
abbrev pub gap_view : gap.Gap → GapView
gap_view g = record { start = value_of g.start; list = sn_view g.list }

-- what contracts see of a heartbeat of fragments
abbrev pub heartbeat_frag_view : heartbeat_frag.HeartbeatFrag → HeartbeatFragView
heartbeat_frag_view h = record { number = value_of h.number; last = h.last; count = h.count }

-- what contracts see of the body of an event
abbrev pub body_view : EventBody → EventBodyView
body_view (code.Whole w) = Whole (whole_view w)
body_view (code.Fragment f) = Fragment (fragment_view f)
body_view (code.Heartbeat h) = Heartbeat (heartbeat_view h)
body_view (code.Gap g) = Gap (gap_view g)
body_view (code.HeartbeatFrag h) = HeartbeatFrag (heartbeat_frag_view h)
