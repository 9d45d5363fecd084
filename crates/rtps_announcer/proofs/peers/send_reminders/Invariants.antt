use Rattle.std.proofs.Common.{◌≡◌, ◌++◌, length}
use Rattle.std.specs.Prelude.{◌||◌}
use Rattle.std.specs.List.{flat_map, list_any}
use Rattle.rtps_announcer.specs.Announcing.{is_reminded, reminder_to}
use Rattle.rtps_announcer.proofs.peers.send_reminders.Given as goal

-- what was said so far, with what is said to the peers that are left, is all; and one was
-- reminded, or is among those that are left, if one is among all
abbrev pub invariant-entries : goal.invariant-entries
invariant-entries g l = record {
  sent :
      l.sends.items ++ flat_map (reminder_to l.rules l.now) l.entries
      ≡ l.fn.sends.items ++ flat_map (reminder_to l.rules l.now) l.peers.entries;
  any :
      (l.any || list_any (is_reminded l.rules l.now) l.entries)
      ≡ list_any (is_reminded l.rules l.now) l.peers.entries;
}

abbrev pub decreases-entries : goal.decreases-entries
decreases-entries g l = length l.entries
