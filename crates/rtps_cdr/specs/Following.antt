-- What a caller does with values that it reads one after another.
use Rattle.std.specs.Prelude.{Result, Ok, Err}
use Rattle.rtps_cdr.specs.declared.fault.CdrFault.{CdrFault}

-- the next step, if there is a value
abbrev pub and_then : {A B F : Type 0} → Result A F → (A → Result B F) → Result B F
and_then (Ok v) f = f v
and_then (Err e) f = Err e

-- the next step after a read; any fault of the read becomes the caller's own fault
abbrev pub after_read : {A B F : Type 0} → F → Result A CdrFault → (A → Result B F) → Result B F
after_read fault (Ok v) f = f v
after_read fault (Err e) f = Err fault
