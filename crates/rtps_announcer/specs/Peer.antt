-- A participant that was found: what is known of it, and when it is reminded (DDSI-RTPS 8.4.7,
-- 8.4.9, 8.5.3.2).
use Rattle.std.specs.Prelude.{ℕ, ◌+◌, ◌-◌, min, ℤ, int_lt, nat_le, nat_lt, Bool, true, false, ◌&&◌, ◌||◌, Option, Some, None, is_none, ◌==◌, if◌then◌else◌}
use Rattle.rtps_announcer.specs.Ack.{AckView}
use Rattle.rtps_announcer.specs.declared.hearing.Facts.{Facts}
use Rattle.rtps_announcer.specs.declared.now.Now.{Now}
use Rattle.rtps_announcer.specs.declared.peer.Peer.{Peer}
use Rattle.rtps_announcer.specs.declared.rules.Rules.{Rules}

-- it has acknowledged nothing, and all numbers up to the last one were there when it was found
abbrev pub newcomer : Rules → Now → Facts → Peer
newcomer r now f = record {
  to = f.to;
  lease = f.lease;
  heard = now.moment;
  since = now.last;
  base = 1;
  counted = None;
  told = now.moment;
  left = r.reminders;
}

-- a moment comes more than a lease after another one
abbrev pub is_past : ℕ → ℕ → Option ℕ → Bool
is_past moment heard None = false
is_past moment heard (Some lease) = nat_lt lease (moment - heard)

-- it kept silent for longer than its lease
abbrev pub has_lapsed : ℕ → Peer → Bool
has_lapsed moment p = is_past moment p.heard p.lease

-- It has to be reminded: it hasn't acknowledged all, it has reminders left, and the last
-- change or reminder was sent to it long enough ago.
abbrev pub is_late : Rules → Now → Peer → Bool
is_late r now p =
    nat_le p.base now.last && (nat_lt 0 p.left && nat_le r.reminder (now.moment - p.told))

-- once it was reminded, if it had to be
abbrev pub reminded : Rules → Now → Peer → Peer
reminded r now p =
    if is_late r now p then record p { told = now.moment; left = p.left - 1 } else p

-- once one more change was sent to it
abbrev pub told_more : Rules → Now → Peer → Peer
told_more r now p = record p { told = now.moment; left = r.reminders }

-- once it announced itself again: also its locators are the new ones
abbrev pub renewed : Rules → Now → Facts → Peer → Peer
renewed r now f p =
    record p { to = f.to; lease = f.lease; heard = now.moment; left = r.reminders }

-- a count is above that of the last ACKNACK that was taken
abbrev pub is_above : Option ℤ → ℤ → Bool
is_above None count = true
is_above (Some last) count = int_lt last count

-- An ACKNACK is taken if its count is new, or if its base is below what was acknowledged: then the
-- peer has forgotten us, and begins anew.
abbrev pub is_new : Peer → AckView → Bool
is_new p a = is_above p.counted a.count || nat_lt a.base p.base

-- once an ACKNACK is taken: a base beyond the next number counts as that one
abbrev pub acknowledged : Rules → Now → AckView → Peer → Peer
acknowledged r now a p = record p {
  base = min a.base (now.last + 1);
  counted = Some a.count;
  told = now.moment;
  left = r.reminders;
}

-- it never acknowledged anything, and has no reminders left
abbrev pub is_mute : Peer → Bool
is_mute p = is_none p.counted && p.left == 0
