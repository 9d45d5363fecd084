-- A walk from the first octet on.
use Rattle.std.proofs.Common.{◌≡◌, ℕ, List, ap, arith, Ok, Err}
use Rattle.rtps_cdr.specs.Reading.{Cursor, placed, start}
use Rattle.dds_xcdr.specs.declared.form.Form.{Form}
use Rattle.dds_xcdr.specs.declared.fault.XcdrFault.{XcdrFault}
use Rattle.dds_xcdr.specs.Xtype.{Xtype}
use Rattle.dds_xcdr.specs.Spans.{IsValue, Passes, Spans}
use Rattle.dds_xcdr.specs.Topic.{BeginsWith}

-- what was passed is a value at the front
pub begins : (t : Xtype) (f : Form) (octets : List ℕ) (after : Cursor) (u : Unit {0})
    → Passes (IsValue f.version t f.endian) (start f.endian octets) after (Ok u)
    → BeginsWith t f octets after.position
begins t f octets after u passes =
    let s : Spans (IsValue f.version t f.endian) (start f.endian octets) after = passes.found in
    record {
      value = s.stands.0;
      front = s.front;
      rest = s.rest;
      parts = s.parts;
      encoded = s.stands.1;
      long = omega (arith, ap (λ (c : Cursor). c.position) s.behind);
    }

spanned : (t : Xtype) (f : Form) (octets : List ℕ) (n : ℕ) → BeginsWith t f octets n
    → Spans (IsValue f.version t f.endian) (start f.endian octets)
    (placed (start f.endian octets) n)
spanned t f octets n b = record {
  front = b.front;
  rest = b.rest;
  parts = b.parts;
  stands = (b.value, b.encoded);
  behind = ap (placed (start f.endian octets)) (omega (arith, b.long));
}

-- a value at the front ends where the walk does
pub same_end : (t : Xtype) (f : Form) (octets : List ℕ) (after : Cursor) (u : Unit {0})
    → Passes (IsValue f.version t f.endian) (start f.endian octets) after (Ok u) → (n : ℕ)
    → BeginsWith t f octets n → after.position ≡ n
same_end t f octets after u passes n b =
    ap (λ (c : Cursor). c.position) (passes.only (placed (start f.endian octets) n)
    (spanned t f octets n b)).1

-- after a fault there is none
pub begins_not : (t : Xtype) (f : Form) (octets : List ℕ) (after : Cursor) (e : XcdrFault)
    → Passes (IsValue f.version t f.endian) (start f.endian octets) after (Err e) → (n : ℕ)
    → BeginsWith t f octets n → ⊥
begins_not t f octets after e passes n b =
    cc ((passes.only (placed (start f.endian octets) n) (spanned t f octets n b)).0)
