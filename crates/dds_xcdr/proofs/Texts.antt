-- Strings with a bound.
use Rattle.std.proofs.Common.{◌≡◌, ℕ, List, length, refl, Ok, Err}
use Rattle.rtps_cdr.specs.declared.fault.CdrFault.{CdrFault}
use Rattle.rtps_cdr.specs.Cdr.{Text}
use Rattle.rtps_cdr.specs.Reading.{Cursor, Reads}
use Rattle.dds_xcdr.specs.declared.fault.XcdrFault.TheVariants.{Cdr, TooLong}
use Rattle.dds_xcdr.specs.Xcdr.{IsWithin}
use Rattle.dds_xcdr.specs.Spans.{IsBoundedText, Passes}

pub text_passes : (c after : Cursor) (text : List ℕ) (bound : ℕ) → Reads Text c after (Ok text)
    → IsWithin bound (length text) → Passes (IsBoundedText bound c.endian) c after (Ok tt)
text_passes c after text bound reads within =
    let t = reads.found in
    record {
      found = record {
        front = t.front;
        rest = t.rest;
        parts = t.parts;
        stands =
            (text, (t.stands, within));
        behind = t.behind;
      };
      only = λ end s. (
        refl,
        (reads.only s.stands.0 end
            (record {
              front = s.front;
              rest = s.rest;
              parts = s.parts;
              stands = s.stands.1.0;
              behind =
                  s.behind;
            })).1,
      );
      known = λ e. cc e;
    }

pub text_too_long : (c after : Cursor) (text : List ℕ) (bound : ℕ) → Reads Text c after (Ok text)
    → (IsWithin bound (length text) → ⊥)
    → Passes (IsBoundedText bound c.endian) c after (Err TooLong)
text_too_long c after text bound reads long = record {
  found = tt;
  only = λ end s.
      let k = reads.only s.stands.0 end
      (record {
        front = s.front;
        rest = s.rest;
        parts = s.parts;
        stands = s.stands.1.0;
        behind =
            s.behind;
      }) in
      let same : s.stands.0 ≡ text = cc (k.0) in
      absurd (long (rw same at (s.stands.1.1)));
  known = λ e. cc e;
}

pub text_fails : (c after : Cursor) (bound : ℕ) (e : CdrFault) → Reads Text c after (Err e)
    → Passes (IsBoundedText bound c.endian) c after (Err (Cdr e))
text_fails c after bound e reads = record {
  found = tt;
  only = λ end s.
      let k = reads.only s.stands.0 end
      (record {
        front = s.front;
        rest = s.rest;
        parts = s.parts;
        stands = s.stands.1.0;
        behind =
            s.behind;
      }) in
      absurd (cc (k.0));
  known = λ q. cc q;
}
