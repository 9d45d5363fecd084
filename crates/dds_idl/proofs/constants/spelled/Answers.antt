use Rattle.std.proofs.Common.{◌≡◌, ℕ, ◌+◌, ◌<◌, List, length, get_or, IsUtf8, arith, ap, subst, sym}
use Rattle.std.specs.Str.{IsCharBoundary}
use Rattle.std.proofs.iter.FirstChar.{beside_ascii}
use Rattle.dds_idl.proofs.constants.spelled.Goals as goal
use Rattle.dds_idl.proofs.constants.spelled.Goals.{then-octets-eq120-via-then-octets-eq120, then-octets-eq120-via-else-octets-eq120+then-octets-eq88}

-- a text may be cut after an octet of ASCII
cut_behind : (word octets : List ℕ) (i n octet : ℕ) → IsUtf8 word → octets ≡ word
    → i < length word → n ≡ i + 1 → get_or octets i 0 ≡ octet → octet < 128
    → IsCharBoundary word n
cut_behind word octets i n octet utf8 same there next is ascii =
    let e : get_or octets i 0 ≡ get_or word i 0 = ap (λ (t : List ℕ). get_or t i 0) same in
    subst (λ (k : ℕ). IsCharBoundary word k) (sym next)
    (beside_ascii word i utf8 there (omega (arith, e, is))).1

pub split_at-requires : goal.split_at-requires
split_at-requires c =
    let there : 1 < length c.args.word.now =
    omega (arith, ap length c.as_bytes-octets.ensures.value, c.if-octets-lt2.false) in
    elim c.then-octets-eq120.branch [
      | then-octets-eq120-via-then-octets-eq120 w ↦ cut_behind c.args.word.now c.as_bytes-octets.result.now
          1 2 120 c.utf8.word c.as_bytes-octets.ensures.value there (omega arith)
          w.if-octets-eq120.true (omega arith)
      | then-octets-eq120-via-else-octets-eq120+then-octets-eq88 w ↦ cut_behind c.args.word.now
          c.as_bytes-octets.result.now 1 2 88 c.utf8.word c.as_bytes-octets.ensures.value there
          (omega arith) w.if-octets-eq88.true (omega arith)
    ]

pub split_at-requires-2 : goal.split_at-requires-2
split_at-requires-2 c =
    let there : 0 < length c.args.word.now =
    omega (arith, ap length c.as_bytes-octets.ensures.value, c.if-octets-lt2.false) in
    cut_behind c.args.word.now c.as_bytes-octets.result.now 0 1 48 c.utf8.word
    c.as_bytes-octets.ensures.value there (omega arith) c.if-octets-ne48.false (omega arith)
