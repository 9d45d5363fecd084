-- The steps at the door keep the rule of a history, and whoever has the pen of its last entry knows
-- that no other was added.
use Rattle.std.proofs.Common.{◌≡◌, ◌≢◌, ℕ, zero, suc, ◌+◌, ◌<◌, ◌==◌, Bool, true, false, List, [], ◌∷◌, ◌++◌, length, set, refl, ap, sym, subst, arith, inl, length-append, length-set, append-nil, get_or-set_same, get_or-set_other, None, Some, Option, ◌∙◌}
use Rattle.std.proofs.lemmas.Bool.Decides.{nat_tests}
use Rattle.std.specs.List.{last_or}
use mathlib.Core.List.{IsPrefix}
use prog.Atomic.{either}
use Rattle.logbook.specs.Pages.{Cell, Nib, cell, gives, adds, may_write, no_nib, step, Moves}
use Rattle.dds_outlet.specs.declared.history.Entry.{Entry}
use Rattle.dds_outlet.specs.History.{AllHome, Appends, IsHome, IsKept, Reserves, entry, keys_of, rows_of}

-- what clients see of a history, which is nothing, and how that may change
abbrev pub shown : List Entry → List Entry
shown log = []

abbrev pub moved : List Entry → List Entry → ℕ → Type 0
moved before after answer = Unit {0}

-- what the door becomes: 1, if it was 0
abbrev pub opened : ℕ → ℕ
opened n = either (n == 0) 1 n

never_zero_by : (n : ℕ) (is_zero : Bool) → (n == 0) ≡ is_zero → either is_zero 1 n ≢ 0
never_zero_by n true is e = let bad : 1 ≡ 0 = e in absurd (omega (arith, bad))
never_zero_by n false is e = let here : n ≡ 0 = e in absurd (grind (arith, nat_tests))

never_zero : (n : ℕ) → opened n ≢ 0
never_zero n = never_zero_by n (n == 0) refl

-- a word that is at home stays so, whatever word is written
stays_home : (cells : List Cell) (at key n : ℕ) → IsHome cells key
    → IsHome (set cells at (n, true)) key
stays_home [] at key n home = home
stays_home (c ∷ cells) zero zero n home = refl
stays_home (c ∷ cells) zero (suc key) n home = home
stays_home (c ∷ cells) (suc at) zero n home = home
stays_home (c ∷ cells) (suc at) (suc key) n home = stays_home cells at key n home

-- and when a word is added
stays_home_added : (cells : List Cell) (key : ℕ) (c : Cell) → IsHome cells key
    → IsHome (cells ++ c ∷ []) key
stays_home_added [] key c home = let e : false ≡ true = home in absurd cc
stays_home_added (b ∷ cells) zero c home = home
stays_home_added (b ∷ cells) (suc key) c home = stays_home_added cells key c home

-- the value of a word stays when another is added
stays_there : (cells : List Cell) (key : ℕ) (c : Cell) → key < length cells
    → cell (cells ++ c ∷ []) key ≡ cell cells key
stays_there [] key c there = absurd (omega (arith, there))
stays_there (b ∷ cells) zero c there = refl
stays_there (b ∷ cells) (suc key) c there = stays_there cells key c (omega (arith, there))

all_stay : (cells others : List Cell) (log : List Entry)
    → ((key : ℕ) → IsHome cells key → IsHome others key) → AllHome cells log → AllHome others log
all_stay cells others [] stay homes = tt
all_stay cells others (e ∷ []) stay homes = tt
all_stay cells others (e ∷ f ∷ log) stay homes =
    (stay e.next homes.0, all_stay cells others (f ∷ log) stay homes.1)

-- the word of an entry that another follows is at home
home_before : (cells : List Cell) (log rest : List Entry) (e : Entry) (key : ℕ)
    → AllHome cells (log ++ e ∷ rest) → last_or None (keys_of log) ≡ Some key → IsHome cells key
home_before cells [] rest e key homes last =
    absurd (let bad : None ≡ Some key = last in cc)
home_before cells (d ∷ []) rest e key homes last =
    let same : d.next ≡ key = cc (last) in subst (IsHome cells) same homes.0
home_before cells (d ∷ f ∷ log) rest e key homes last =
    home_before cells (f ∷ log) rest e key homes.1 last

-- an entry more, once the word of the last one is at home
home_more : (cells : List Cell) (log : List Entry) (e : Entry) (key : ℕ) → AllHome cells log
    → last_or None (keys_of log) ≡ Some key → IsHome cells key → AllHome cells (log ++ e ∷ [])
home_more cells [] e key homes last home = tt
home_more cells (d ∷ []) e key homes last home =
    let same : d.next ≡ key = cc (last) in (subst (IsHome cells) (sym same) home, tt)
home_more cells (d ∷ f ∷ log) e key homes last home =
    (homes.0, home_more cells (f ∷ log) e key homes.1 last home)

-- where the word of the last entry that was seen isn't at home, no entry was added since
nobody_else : (cells : List Cell) (seen log : List Entry) (key : ℕ) → AllHome cells log
    → IsPrefix seen log → last_or None (keys_of seen) ≡ Some key → (cell cells key).1 ≡ false
    → log ≡ seen
nobody_else cells seen log key homes ([], same) last away = sym same ∙ append-nil seen
nobody_else cells seen log key homes (e ∷ rest, same) last away =
    let home : IsHome cells key =
    home_before cells seen rest e key (subst (AllHome cells) (sym same) homes) last
    in
    absurd (let bad : false ≡ true = sym away ∙ home in cc)

-- the key that the last entry names, after one more
pub last_key : (log : List Entry) (e : Entry) (o : Option ℕ)
    → last_or o (keys_of (log ++ e ∷ [])) ≡ Some e.next
last_key [] e o = refl
last_key (d ∷ log) e o = last_key log e (Some d.next)

-- the rows, after one more entry
pub rows_more : (log : List Entry) (e : Entry) → rows_of (log ++ e ∷ []) ≡ rows_of log ++ e.row ∷ []
rows_more [] e = refl
rows_more (d ∷ log) e = ap (λ rows. d.row ∷ rows) (rows_more log e)

-- the door, after it was written
door_is : (cells : List Cell) (n : ℕ) → 0 < length cells
    → cell (set cells 0 (n, true)) 0 ≡ (n, true)
door_is cells n some = get_or-set_same cells 0 (n, true) (0, false) some

-- once it was written it isn't 0
open_now : (cells : List Cell) (before : ℕ) → cell cells 0 ≡ (opened before, true)
    → (cell cells 0).0 ≡ 0 → length cells ≡ 1
open_now cells before now is_zero =
    absurd (never_zero before (sym (ap (λ (c : Cell). c.0) now) ∙ is_zero))

-- whatever the history is, a word is added
pub reserve_moves : (seen : List Entry) (ask : Entry)
    → Moves IsKept shown moved 0 (seen, (no_nib, None)) opened
    (Reserves (step 0 0 1 ask) (seen, (no_nib, None)))
reserve_moves seen ask cells log kept begins away =
    let n : ℕ = opened (cell cells 0).0 in
    let written : List Cell = set cells 0 (n, true) in
    let long : 0 < length written = omega (arith, kept.some, length-set cells 0 (n, true)) in
    let now : cell (written ++ (0, false) ∷ []) 0 ≡ (n, true) =
    stays_there written 0 (0, false) long ∙ door_is cells n kept.some
    in (
      kept.some,
      kept.door,
      (
        adds,
        [],
        None,
        tt,
        record {
          some = omega (arith, long, length-append written ((0, false) ∷ []));
          door = ap (λ (c : Cell). c.1) now;
          alone = open_now _ (cell cells 0).0 now;
          homes = subst (AllHome (written ++ (0, false) ∷ [])) (sym (append-nil log))
              (all_stay cells (written ++ (0, false) ∷ []) log
              (λ key home. stays_home_added written key (0, false) (stays_home cells 0 key n home))
              kept.homes);
        },
        inl (refl, refl),
        (refl, kept.alone),
      ),
    )

-- whoever has the pen of the last entry that was seen adds the entry of the step to those that were
-- seen, whatever the history is
pub append_moves : (seen : List Entry) (ask : Entry) (pen : Nib) → pen.right ≡ may_write
    → last_or None (keys_of seen) ≡ Some pen.key
    → Moves IsKept shown moved 0 (seen, (pen, None)) opened
    (Appends (step 0 0 1 ask) (seen, (pen, None)))
append_moves seen ask pen right last cells log kept begins away =
    let there : (pen.key < length cells) × ((cell cells pen.key).1 ≡ false) = away right in
    let same : log ≡ seen = nobody_else cells seen log pen.key kept.homes begins last there.1 in
    let n : ℕ = opened (cell cells 0).0 in
    let written : List Cell = set cells 0 (n, true) in
    let home : List Cell = set written pen.key (pen.value, true) in
    let other : 0 ≢ pen.key =
    λ (e : 0 ≡ pen.key).
    let bad : true ≡ false = sym kept.door ∙ (ap (λ k. (cell cells k).1) e ∙ there.1) in
    absurd cc
    in
    let long : 0 < length written = omega (arith, kept.some, length-set cells 0 (n, true)) in
    let longer : pen.key < length written = omega (arith, there.0, length-set cells 0 (n, true)) in
    let now : cell home 0 ≡ (n, true) =
    get_or-set_other written pen.key 0 (pen.value, true) (0, false) other
    ∙ door_is cells n kept.some
    in
    let stay : (key : ℕ) → IsHome cells key → IsHome home key =
    λ key at_home. stays_home written pen.key key pen.value (stays_home cells 0 key n at_home)
    in
    let mine : IsHome home pen.key =
    ap (λ (c : Cell). c.1)
    (get_or-set_same written pen.key (pen.value, true) (0, false) longer)
    in (
      kept.some,
      kept.door,
      (
        gives,
        ask ∷ [],
        None,
        right,
        record {
          some = omega (arith, long, length-set written pen.key (pen.value, true));
          door = ap (λ (c : Cell). c.1) now;
          alone = open_now _ (cell cells 0).0 now;
          homes = home_more home log ask pen.key (all_stay cells home log stay kept.homes)
              (subst (λ l. last_or None (keys_of l) ≡ Some pen.key) (sym same) last) mine;
        },
        inl (refl, refl),
        ap (λ l. l ++ ask ∷ []) same,
      ),
    )
