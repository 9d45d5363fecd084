-- Octets cut into datagrams: a cut depends on the octets that it covers alone, and goes on after
-- them.
use Rattle.std.proofs.Common.{◌≡◌, ℕ, suc, ◌≤◌, List, [], ◌∷◌, ◌++◌, arith, refl, length, take, drop, map, sum, Option, None, Some, sym, ap, subst, ◌∙◌, take-append-drop}
use Rattle.std.specs.Prelude.{option_map, option_to_list}
use Rattle.std.proofs.lemmas.List.{drop-append-le, take-append-le, drop-drop, length-drop, length-take, take_all}
use Rattle.std.proofs.lemmas.List.Sums.{sum_by-cons}
use Rattle.std.proofs.Math.Seq.{take-append_seam}
use Rattle.rtps_records.specs.Cuts.{cut}
use Rattle.rtps_records.specs.Heads.{ReadsHead}
use Rattle.rtps_records.specs.RecordFile.{Datagram, FaultHere, Record, Tick}
use Rattle.rtps_records.specs.Steps.{ReadsOne}
use Rattle.rtps_records.specs.declared.batch.Batch.{Batch}
use Rattle.rtps_records.specs.declared.batch_end.BatchEnd.TheVariants.{End, Fault, More, Tick as ATick}
use Rattle.rtps_records.specs.declared.fault.RunFault.{RunFault}
use Rattle.rtps_records.specs.declared.format.Format.{Format}
use Rattle.rtps_records.specs.declared.head.Head.TheVariants.{Datagram as AHead, Tick as ATickHead}
use Rattle.rtps_records.specs.declared.piece.Piece.{Piece}

-- the number of octets of datagrams
abbrev pub covered : List Piece → ℕ
covered pieces = sum (map (λ p. p.length) pieces)

-- the records of a batch with this tick, these datagrams and these octets
abbrev pub held : Option ℕ → List Piece → List ℕ → List Record
held tick pieces octets = option_to_list (option_map Tick tick) ++ cut pieces octets

pub length-cut : (ps : List Piece) (xs : List ℕ) → length (cut ps xs) ≡ length ps
length-cut [] xs = refl
length-cut (p ∷ ps) xs = ap (λ k. suc k) (length-cut ps (drop p.length xs))

-- a batch without a tick has its datagrams alone
pub length-held : (tick : Option ℕ) (ps : List Piece) (xs : List ℕ) → tick ≡ None → length (held tick ps xs) ≡ length ps
length-held tick ps xs none = rw none (length-cut ps xs)

-- a batch without records has no datagrams
pub none_held : (tick : Option ℕ) (ps : List Piece) (xs : List ℕ) → held tick ps xs ≡ [] → ps ≡ []
none_held tick [] xs none = refl
none_held None (p ∷ ps) xs none = absurd (cc)
none_held (Some moment) (p ∷ ps) xs none = absurd (cc)

pub cut_front : (ps : List Piece) (xs ys : List ℕ) → covered ps ≤ length xs → cut ps (xs ++ ys) ≡ cut ps xs
cut_front [] xs ys within = refl
cut_front (p ∷ ps) xs ys within =
    let both = sum_by-cons (λ x. x) p.length (map (λ q. q.length) ps) in
    let here : p.length ≤ length xs = omega (arith, within, both) in
    let left = length-drop p.length xs in
    let rest : covered ps ≤ length (drop p.length xs) = omega (arith, within, both, left) in
    ap (λ l. Datagram p.moment l ∷ cut ps (drop p.length (xs ++ ys))) (take-append-le p.length xs ys here)
    ∙ ap (λ l. Datagram p.moment (take p.length xs) ∷ cut ps l) (drop-append-le p.length xs ys here)
    ∙ ap (λ l. Datagram p.moment (take p.length xs) ∷ l) (cut_front ps (drop p.length xs) ys rest)

pub cut_more : (ps : List Piece) (p : Piece) (xs : List ℕ)
    → cut (ps ++ p ∷ []) xs ≡ cut ps xs ++ Datagram p.moment (take p.length (drop (covered ps) xs)) ∷ []
cut_more [] p xs = refl
cut_more (q ∷ ps) p xs =
    ap (λ l. Datagram q.moment (take q.length xs) ∷ l) (cut_more ps p (drop q.length xs)
    ∙ ap (λ l. cut ps (drop q.length xs) ++ Datagram p.moment (take p.length l) ∷ []) (drop-drop (covered ps) q.length xs
    ∙ ap (λ k. drop k xs) (sym (sum_by-cons (λ x. x) q.length (map (λ r. r.length) ps)))))

-- the octets of a batch were lengthened
pub lengthened : {A : Type 0} (b : Batch A) (n : ℕ) (zeros new : List ℕ) → new ≡ take n b.octets.items ++ zeros → b.octets.len ≤ n → b.octets.len ≡ length b.octets.items
    → held b.tick b.pieces.items new ≡ held b.tick b.pieces.items b.octets.items
lengthened b n zeros new is more len =
    let all : take n b.octets.items ≡ b.octets.items = take_all n b.octets.items (omega (arith, len)) in
    let front : cut b.pieces.items (b.octets.items ++ zeros) ≡ cut b.pieces.items b.octets.items = cut_front b.pieces.items b.octets.items zeros (omega (arith, b.counted, b.within, len)) in
    ap (λ l. option_to_list (option_map Tick b.tick) ++ l)
    (ap (cut b.pieces.items) (is ∙ ap (λ l. l ++ zeros) all) ∙ front)

-- octets after the datagrams are written anew
pub cut_anew : (ps : List Piece) (xs ys : List ℕ) (used : ℕ) → used ≡ covered ps → used ≤ length xs → used ≤ length ys
    → take used ys ≡ take used xs → cut ps ys ≡ cut ps xs
cut_anew ps xs ys used e here there same =
    let one : covered ps ≤ length (take used xs) = grind (arith, e, length-take) in
    let two : covered ps ≤ length (take used ys) = grind (arith, e, length-take) in
    ap (cut ps) (sym (take-append-drop used ys)) ∙ cut_front ps (take used ys) (drop used ys) two
    ∙ ap (cut ps) same
    ∙ sym (cut_front ps (take used xs) (drop used xs) one) ∙ ap (cut ps) (take-append-drop used xs)

-- and the next datagram is their front
pub cut_next : (ps : List Piece) (p : Piece) (xs ys : List ℕ) (used : ℕ) → used ≡ covered ps → used ≤ length xs → used ≤ length ys
    → take used ys ≡ take used xs → cut (ps ++ p ∷ []) ys ≡ cut ps xs ++ Datagram p.moment (take p.length (drop used ys)) ∷ []
cut_next ps p xs ys used e here there same =
    cut_more ps p ys ∙ ap (λ k. cut ps ys ++ Datagram p.moment (take p.length (drop k ys)) ∷ []) (sym e)
    ∙ ap (λ l. l ++ Datagram p.moment (take p.length (drop used ys)) ∷ []) (cut_anew ps xs ys used e here there same)

-- octets that were all written anew
pub whole_new : (old new : List ℕ) (len : ℕ) → len ≡ length old → length new ≡ length old
    → take len (new ++ drop (length new) old) ≡ new
whole_new old new len e same =
    ap (λ k. take k (new ++ drop (length new) old)) (e ∙ sym same) ∙ take-append_seam new (drop (length new) old)

-- A buffer was the octets of a batch, and was written anew after the first ones.
pub record IsAnew {A : Type 0} (b : Batch A) (buffer new : List ℕ) : Type 0 where
  pub was : buffer ≡ b.octets.items
  pub length : length new ≡ length buffer
  pub same : take b.used new ≡ take b.used buffer

-- the octets of a batch once a buffer was written back
abbrev pub back : {A : Type 0} → Batch A → List ℕ → List ℕ
back b new = take b.octets.len (new ++ drop (length new) b.octets.items)

-- one datagram more
pub grown : {A : Type 0} (b : Batch A) (buffer new : List ℕ) (pieces : List Piece) (p : Piece) → IsAnew b buffer new → b.octets.len ≡ length b.octets.items
    → b.tick ≡ None → pieces ≡ b.pieces.items ++ p ∷ []
    → held b.tick pieces (back b new) ≡ held b.tick b.pieces.items b.octets.items ++ Datagram p.moment (take p.length (drop b.used new)) ∷ []
grown b buffer new pieces p anew len none more =
    let same : length new ≡ length b.octets.items = anew.length ∙ ap length anew.was in
    let front : take b.used new ≡ take b.used b.octets.items = anew.same ∙ ap (take b.used) anew.was in
    let cuts : cut pieces (back b new) ≡ cut b.pieces.items b.octets.items ++ Datagram p.moment (take p.length (drop b.used new)) ∷ [] =
    ap (λ l. cut l (back b new)) more
    ∙ ap (cut (b.pieces.items ++ p ∷ [])) (whole_new b.octets.items new b.octets.len len same)
    ∙ cut_next b.pieces.items p b.octets.items new b.used b.counted (omega (arith, b.within, b.room, len)) (omega (arith, b.within, b.room, len, same)) front in
    subst (λ t. held t pieces (back b new) ≡ held t b.pieces.items b.octets.items ++ Datagram p.moment (take p.length (drop b.used new)) ∷ []) (sym none) cuts

-- no datagram more
pub still : {A : Type 0} (b : Batch A) (buffer new : List ℕ) → IsAnew b buffer new → b.octets.len ≡ length b.octets.items
    → held b.tick b.pieces.items (back b new) ≡ held b.tick b.pieces.items b.octets.items
still b buffer new anew len =
    let same : length new ≡ length b.octets.items = anew.length ∙ ap length anew.was in
    let front : take b.used new ≡ take b.used b.octets.items = anew.same ∙ ap (take b.used) anew.was in
    ap (held b.tick b.pieces.items) (whole_new b.octets.items new b.octets.len len same)
    ∙ ap (λ l. option_to_list (option_map Tick b.tick) ++ l) (cut_anew b.pieces.items b.octets.items new b.used b.counted (omega (arith, b.within, b.room, len)) (omega (arith, b.within, b.room, len, same)) front)

-- a datagram was read after the octets of a batch
pub read_datagram : {A : Type 0} (format : Format) (before after : Option (List ℕ)) (b : Batch A) (buffer new : List ℕ) (pieces : List Piece) (p : Piece) (number : ℕ)
    → ReadsHead format (Some (AHead p)) number before after (drop b.used new) → IsAnew b buffer new → b.octets.len ≡ length b.octets.items
    → b.tick ≡ None → pieces ≡ b.pieces.items ++ p ∷ []
    → ReadsOne format More number before after (held b.tick b.pieces.items b.octets.items) (held b.tick pieces (back b new))
unfolding ReadsHead ReadsOne
read_datagram format before after b buffer new pieces p number read anew len none more =
    (read.0, (Datagram p.moment (take p.length (drop b.used new)), read.1, read.2, grown b buffer new pieces p anew len none more))

-- a tick was read
pub read_tick : {A : Type 0} (format : Format) (before after : Option (List ℕ)) (b : Batch A) (buffer new : List ℕ) (moment number : ℕ)
    → ReadsHead format (Some (ATickHead moment)) number before after (drop b.used new) → IsAnew b buffer new → b.octets.len ≡ length b.octets.items
    → ReadsOne format (ATick moment) number before after (held b.tick b.pieces.items b.octets.items) (held b.tick b.pieces.items (back b new))
unfolding ReadsHead ReadsOne
read_tick format before after b buffer new moment number read anew len = (read.0, read.1, read.2, still b buffer new anew len)

-- the file ended
pub read_end : {A : Type 0} (format : Format) (before after : Option (List ℕ)) (b : Batch A) (buffer new : List ℕ) (number : ℕ)
    → ReadsHead format None number before after (drop b.used new) → IsAnew b buffer new → b.octets.len ≡ length b.octets.items
    → ReadsOne format End number before after (held b.tick b.pieces.items b.octets.items) (held b.tick b.pieces.items (back b new))
unfolding ReadsHead ReadsOne
read_end format before after b buffer new number end anew len = (end, still b buffer new anew len)

-- the file had a fault
pub read_fault : {A : Type 0} (format : Format) (before after : Option (List ℕ)) (b : Batch A) (buffer new : List ℕ) (fault : RunFault) (number : ℕ)
    → FaultHere format fault number before after → IsAnew b buffer new → b.octets.len ≡ length b.octets.items
    → ReadsOne format (Fault fault) number before after (held b.tick b.pieces.items b.octets.items) (held b.tick b.pieces.items (back b new))
unfolding ReadsOne
read_fault format before after b buffer new fault number here anew len = (here, still b buffer new anew len)
