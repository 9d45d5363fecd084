-- What a walk passes is the value that is found there.
use Rattle.std.proofs.Common.{◌≡◌, ℕ, ◌+◌, length, subst, Some, None, Result, Ok, Err, refl, sym, ◌∙◌, ap}
use Rattle.rtps_types.specs.declared.field.Endian.{Endian}
use Rattle.rtps_cdr.specs.declared.fault.CdrFault.{CdrFault}
use Rattle.rtps_cdr.specs.Cdr.{CdrType, ValueOf as CdrValueOf}
use Rattle.rtps_cdr.specs.Reading.{Cursor, Reads, Takes, placed}
use Rattle.rtps_cdr.proofs.Counted.{taken_within}
use Rattle.dds_topic.specs.declared.unread.Unread.TheVariants as unread
use Rattle.dds_xcdr.specs.declared.version.Version.{Version}
use Rattle.dds_xcdr.specs.declared.fault.XcdrFault.{XcdrFault}
use Rattle.dds_xcdr.specs.Spans.{IsValue, Passes, Spans}
use Rattle.dds_xcdr.specs.Xtype.{Xtype, ValueOf}
use Rattle.dds_described.specs.Copying.{passed}
use Rattle.dds_described.specs.Laws.{Encodes, Finds, Front}
use Rattle.dds_described.specs.Reading.{Found, IsWithin, value_found}
use Rattle.dds_described.proofs.Finds.{Within, still_within}
use Rattle.dds_described.proofs.Values.{lawful}

spanned : (v : Version) (t : Xtype) (c : Cursor) (x : ValueOf t) (end : ℕ)
    → Front (ValueOf t) (Encodes v t c) c x end → Spans (IsValue v t c.endian) c (placed c end)
spanned v t c x end f = record {
  front = f.front;
  rest = f.rest;
  parts = f.parts;
  stands = (x, f.stands);
  behind = ap (placed c) f.ends;
}

fronted : (v : Version) (t : Xtype) (c after : Cursor) (s : Spans (IsValue v t c.endian) c after)
    → Front (ValueOf t) (Encodes v t c) c s.stands.0 after.position
fronted v t c after s = record {
  front = s.front;
  rest = s.rest;
  parts = s.parts;
  stands = s.stands.1;
  ends = ap (λ (d : Cursor). d.position) s.behind;
}

pub passed_there : (v : Version) (t : Xtype) (c after : Cursor) (u : Unit {0}) → Within c
    → Passes (IsValue v t c.endian) c after (Ok u) → passed c (value_found v t c) ≡ Ok after
passed_there v t c after u within p =
    let s : Spans (IsValue v t c.endian) c after = p.found in
    let place : after.position ≡ c.position + length s.front =
    ap (λ (d : Cursor). d.position) s.behind in
    ap (passed c) ((lawful v t c within).only s.stands.0 after.position (fronted v t c after s))
    ∙ ap Ok (ap (placed c) place ∙ sym s.behind)

pub same_order : (v : Version) (t : Xtype) (c after : Cursor) (u : Unit {0})
    → Passes (IsValue v t c.endian) c after (Ok u) → after.endian ≡ c.endian
same_order v t c after u p =
    let s : Spans (IsValue v t c.endian) c after = p.found in
    ap (λ (d : Cursor). d.endian) s.behind

pub not_passed : (v : Version) (t : Xtype) (c after : Cursor) (e : XcdrFault) → Within c
    → Passes (IsValue v t c.endian) c after (Err e)
    → passed c (value_found v t c) ≡ Err unread.Malformed
not_passed v t c after e within p = by_found (value_found v t c) (lawful v t c within) where
  by_found : (r : Found (ValueOf t)) → Finds (ValueOf t) (Encodes v t c) c r
      → passed c r ≡ Err unread.Malformed
  by_found None law = refl
  by_found (Some (x, end)) law =
      absurd (cc ((p.only (placed c end) (spanned v t c x end (law.found x end refl))).0))

-- a reader stays within its octets
pub still_read : (e : Endian) (t : CdrType) (c after : Cursor) (r : Result (CdrValueOf t) CdrFault)
    → Reads t c after r → IsWithin e c → IsWithin e after
still_read e t c after (Err f) reads is =
    subst (λ (d : Cursor). IsWithin e d) (sym reads.found) is
still_read e t c after (Ok x) reads is =
    let taken : Takes t c after x = reads.found in
    record {
      order = is.order ∙ ap (λ (d : Cursor). d.endian) (sym taken.behind);
      within = rw (ap (λ (d : Cursor). d.octets) taken.behind)
          (taken_within t c after x taken is.within);
    }

pub still_passed : (e : Endian) (v : Version) (t : Xtype) (c after : Cursor) (u : Unit {0})
    → IsWithin e c → Passes (IsValue v t c.endian) c after (Ok u) → IsWithin e after
still_passed e v t c after u is p =
    let s : Spans (IsValue v t c.endian) c after = p.found in
    record {
      order = is.order ∙ ap (λ (d : Cursor). d.endian) (sym s.behind);
      within = rw (s.behind)
          (still_within (ValueOf t) (Encodes v t c) c s.stands.0 (c.position + length s.front)
          (record { front = s.front; rest = s.rest; parts = s.parts; stands = s.stands.1; ends = refl })
          is.within);
    }
