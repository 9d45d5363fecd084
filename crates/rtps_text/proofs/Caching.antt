-- Caches that accept notices, and the lines of the entries that are taken from them.
use Rattle.std.proofs.Common.{◌≡◌, ◌∙◌, ℕ, zero, suc, ◌+◌, ◌-◌, ◌<◌, ◌≤◌, List, [], ◌∷◌, ◌++◌, Option, refl, sym, ap, subst, arith, map, length, drop, get_or, set, get_or-set_same, get_or-set_other, append_assoc, append-nil, Global}
use Rattle.std.specs.List.{All, AllByRecursion, flat_map}
use Rattle.std.proofs.lemmas.List.Elements.{All-append, All-from_recursion}
use Rattle.dds_cache.specs.Calls.{Done, Accepted, accepted_after}
use Rattle.dds_cache.specs.Standing as shelf
use Rattle.dds_cache.specs.Standing.{CacheView}
use Rattle.dds_cache.specs.Cache.{cached}
use Rattle.dds_cache.specs.declared.entry.Sample.{Sample}
use Rattle.dds_cache.specs.Answered.{answered}
use Rattle.std.proofs.lemmas.List.{drop_more, get_or_default, length-map, length-set}
use Rattle.std.proofs.KnownBytes.{Appends-nil, Appends-trans}
use Rattle.rtps_records.specs.Runs.{Moves, PutsFront}
use Rattle.rtps_records.specs.Text.{IsFront}
use Rattle.rtps_reader.specs.declared.notice.Output.{Output}
use Rattle.rtps_run.specs.Seen.{notices_by}
use Rattle.rtps_run.specs.World.{ReportView}
use borrow.Author.Count.{below_more}
use Rattle.dds_cache.specs.declared.history.History.{History}
use Rattle.rtps_reader.specs.declared.notice.Notice.{Notice}
use Rattle.rtps_text.specs.Caches.{Accepts, AllAccept, AllHeard, HasHeard, IsEmpty}
use Rattle.rtps_lines.specs.Entry.{entry_line, sample_view}
use Rattle.rtps_text.specs.Entries.{all_taken, any_entry, cache_lines, entry_lines}
use Rattle.rtps_text.proofs.Run.{Printed, front_more, printed_front, printed_more}
use Rattle.rtps_text.proofs.Viewing.{taken_same}

-- a cache has the number of entries that the calls to it define
pub as_many : {V : Type 0} (c : CacheView V) (past : List _) → shelf.StandsAt past c → length c.entries ≡ length (cached c.keep past).entries
as_many c past stands = sym (length-map c.entries (λ e. e.1)) ∙ ap length stands.entries

-- the lines of all entries that are taken from a cache
pub heard_lines : {V M : Type 0} (text : M → List ℕ) (f : V → M) (keep : History) (rank : ℕ) (told : List (Notice M)) (c : CacheView V) (h : HasHeard f keep told c) (most : ℕ) (taken : List (Sample V))
    → most ≡ length c.entries → taken ≡ answered c.keep (accepted_after [] h.heard) most any_entry
    → flat_map (entry_line text rank) (map (sample_view f) taken) ≡ cache_lines text keep rank told
heard_lines text f keep rank told c h most taken all is =
    let past = accepted_after [] h.heard in
    ap (λ l. flat_map (entry_line text rank) (map (sample_view f) l)) (is ∙ ap (λ n. answered c.keep past n any_entry) (all ∙ as_many c past h.stands) ∙ ap (λ k. all_taken k past) h.keep)
    ∙ ap (flat_map (entry_line text rank)) (taken_same f keep h.heard ∙ ap (λ ns. all_taken keep (accepted_after [] ns)) h.means)

-- ---- one cache

-- some of these notices are left; the others were accepted
pub record GoesOn {V : Type 0} (whole left : List (Notice V)) (old now : CacheView V) : Type 0 where
  pub keep : now.keep ≡ old.keep
  pub goes : (past : List (Done V)) → shelf.StandsAt past old
      → (mid : List (Done V)) × shelf.StandsAt mid now × (accepted_after mid left ≡ accepted_after past whole)

pub goes_none : {V : Type 0} (whole left : List (Notice V)) (old : CacheView V) → left ≡ whole → GoesOn whole left old old
goes_none whole left old e = record { keep = refl; goes = λ past s. (past, s, ap (accepted_after past) e) }

pub goes_more : {V : Type 0} (whole left rest : List (Notice V)) (n : Notice V) (old now new : CacheView V) → GoesOn whole left old now → left ≡ n ∷ rest → new.keep ≡ now.keep
    → ((past : List (Done V)) → shelf.StandsAt past now → shelf.StandsAt (Accepted n ∷ past) new) → GoesOn whole rest old new
goes_more whole left rest n old now new g e same stands = record {
  keep = same ∙ g.keep;
  goes = λ past s.
      let m = g.goes past s in
      (Accepted n ∷ m.0, stands m.0 m.1, ap (accepted_after m.0) (sym e) ∙ m.2);
}

pub goes_all : {V : Type 0} (whole left : List (Notice V)) (old now : CacheView V) → GoesOn whole left old now → left ≡ [] → Accepts whole old now
goes_all whole left old now g e = record {
  keep = g.keep;
  stands = λ past s.
      let m = g.goes past s in
      subst (λ p. shelf.StandsAt p now) (ap (accepted_after m.0) (sym e) ∙ m.2) m.1;
}

-- ---- all caches

-- the caches of the ranks below i accepted their notices; the other caches and the output of their
-- readers are unchanged
pub record AcceptedBelow {V : Type 0} (given : List (Output V Global)) (whole : List (CacheView V)) (outputs : List (Output V Global)) (caches : List (CacheView V)) (i : ℕ) : Type 0 where
  pub count : length caches ≡ length whole
  pub others : length outputs ≡ length given
  pub front : (rank : ℕ) → rank < i → (output : Output V Global) (other : CacheView V) → Accepts (get_or given rank output).notices.items (get_or whole rank other) (get_or caches rank other)
  pub back : (rank : ℕ) (other : CacheView V) → i ≤ rank → get_or caches rank other ≡ get_or whole rank other
  pub left : (rank : ℕ) (output : Output V Global) → i ≤ rank → get_or outputs rank output ≡ get_or given rank output

pub accepted_none : {V : Type 0} (given : List (Output V Global)) (whole : List (CacheView V)) → AcceptedBelow given whole given whole 0
accepted_none given whole = record {
  count = refl;
  others = refl;
  front = λ rank below. absurd (omega (arith, below));
  back = λ rank other past. refl;
  left = λ rank output past. refl;
}

pub accepted_more : {V : Type 0} (given : List (Output V Global)) (whole : List (CacheView V)) (outputs : List (Output V Global)) (caches : List (CacheView V)) (i : ℕ) (c new : CacheView V) (o p : Output V Global)
    → AcceptedBelow given whole outputs caches i → i < length caches → i < length outputs → c ≡ get_or caches i c → o ≡ get_or outputs i o → Accepts o.notices.items c new
    → AcceptedBelow given whole (set outputs i p) (set caches i new) (i + 1)
accepted_more {V} given whole outputs caches i c new o p a below within here there accepts = record {
  count = length-set caches i new ∙ a.count;
  others = length-set outputs i p ∙ a.others;
  front = below_more P i (λ rank less. before rank less) at;
  back = λ rank other past. get_or-set_other caches i rank new other (λ e. absurd (omega (arith, e, past))) ∙ a.back rank other (omega (arith, past));
  left = λ rank output past. get_or-set_other outputs i rank p output (λ e. absurd (omega (arith, e, past))) ∙ a.left rank output (omega (arith, past));
}
  where
    P : ℕ → Type 0
    P rank = (output : Output V Global) (other : CacheView V) → Accepts (get_or given rank output).notices.items (get_or whole rank other) (get_or (set caches i new) rank other)

    before : (rank : ℕ) → rank < i → (output : Output V Global) (other : CacheView V) → Accepts (get_or given rank output).notices.items (get_or whole rank other) (get_or (set caches i new) rank other)
    before rank less output other = subst (Accepts (get_or given rank output).notices.items (get_or whole rank other)) (sym (get_or-set_other caches i rank new other (λ e. absurd (omega (arith, e, less))))) (a.front rank less output other)

    at : (output : Output V Global) (other : CacheView V) → Accepts (get_or given i output).notices.items (get_or whole i other) (get_or (set caches i new) i other)
    at output other =
        let same : c ≡ get_or whole i other = here ∙ get_or_default caches i c other below ∙ a.back i other (omega arith) in
        let gave : o ≡ get_or given i output = there ∙ get_or_default outputs i o output within ∙ a.left i output (omega arith) in
        subst (Accepts (get_or given i output).notices.items (get_or whole i other)) (sym (get_or-set_same caches i new other below))
        (subst (λ d. Accepts (get_or given i output).notices.items d new) same
        (subst (λ (g : Output V Global). Accepts g.notices.items c new) gave accepts))

pub accepted_all : {V : Type 0} (given : List (Output V Global)) (whole : List (CacheView V)) (outputs : List (Output V Global)) (caches : List (CacheView V)) (i : ℕ)
    → AcceptedBelow given whole outputs caches i → length whole ≤ i → AllAccept given whole caches
accepted_all given whole outputs caches i a past = record {
  count = a.count;
  each = λ rank output other below. a.front rank (omega (arith, below, past)) output other;
}

-- ---- printing lines

-- the lines from one entry on: that of the entry, and then those of the rest
pub entry_more : {X Y : Type 0} (g : X → Y) (line : Y → List ℕ) (xs : List X) (i : ℕ) (x : X) → i < length xs → x ≡ get_or xs i x
    → flat_map line (map g (drop i xs)) ≡ line (g x) ++ flat_map line (map g (drop (i + 1) xs))
entry_more g line xs i x below here = ap (λ l. flat_map line (map g l)) (drop_more xs i x below ∙ ap (λ y. y ∷ drop (i + 1) xs) (sym here))

pub moves_none : (old : Option (List ℕ)) (octets left : List ℕ) → octets ≡ left → Moves old old octets left
moves_none old octets left e = ([], Appends-nil old, e)

pub moves_more : (old now new : Option (List ℕ)) (octets left more rest : List ℕ) → Moves old now octets left → Moves now new (left ++ more) rest → Moves old new (octets ++ more) rest
moves_more old now new octets left more rest m n = (
  m.0 ++ n.0,
  Appends-trans _ _ _ _ _ m.1 n.1,
  ap (λ l. l ++ more) m.2 ∙ append_assoc m.0 left more ∙ ap (λ l. m.0 ++ l) n.2 ∙ sym (append_assoc m.0 n.0 rest),
)

-- the parts of a longer text that were written and are kept back
pub moves_printed : (old now : Option (List ℕ)) (octets left whole rest : List ℕ) → Moves old now octets left → whole ≡ octets ++ rest → Printed old now whole left rest
moves_printed old now octets left whole rest m e = record {
  written = m.0;
  wrote = m.1;
  whole_is = e ∙ ap (λ l. l ++ rest) m.2 ∙ append_assoc m.0 left rest;
}

-- the lines of the first ranks are a prefix of the lines of more ranks
lines_on : {M : Type 0} (text : M → List ℕ) (keep : History) (put : List (ReportView M)) (i d n : ℕ) → n ≡ d + i → IsFront (entry_lines text keep put i) (entry_lines text keep put n)
lines_on text keep put i zero n e =
    let same : n ≡ i = omega (arith, e) in
    ([], ap (entry_lines text keep put) same ∙ sym (append-nil (entry_lines text keep put i)))
lines_on text keep put i (suc d) zero e = absurd (omega (arith, e))
lines_on text keep put i (suc d) (suc n) e = front_more _ _ _ (cache_lines text keep n (notices_by n put)) (lines_on text keep put i d n (omega (arith, e))) refl

pub first_ranks : {M : Type 0} (text : M → List ℕ) (keep : History) (put : List (ReportView M)) (i n : ℕ) → i ≤ n → IsFront (entry_lines text keep put i) (entry_lines text keep put n)
first_ranks text keep put i n low = lines_on text keep put i (n - i) n (omega (arith, low))

-- the lines of the ranks below a count, with those of one more rank
pub rank_more : {M : Type 0} (text : M → List ℕ) (keep : History) (put : List (ReportView M)) (i : ℕ) (lines : List ℕ) → lines ≡ cache_lines text keep i (notices_by i put)
    → entry_lines text keep put (i + 1) ≡ entry_lines text keep put i ++ lines
rank_more text keep put i lines is =
    let next : i + 1 ≡ suc i = omega arith in
    ap (entry_lines text keep put) next ∙ ap (λ l. entry_lines text keep put i ++ l) (sym is)

-- the lines of the entries that are taken from the cache of a rank
pub taken_lines : {V M : Type 0} (text : M → List ℕ) (f : V → M) (keep : History) (put : List (ReportView M)) (whole caches : List (CacheView V)) (i : ℕ) (c : CacheView V) (most : ℕ) (taken : List (Sample V))
    → AllHeard f keep put whole → length caches ≡ length whole → i < length caches → c ≡ get_or caches i c → get_or caches i c ≡ get_or whole i c
    → most ≡ length c.entries → ((past : List (Done V)) → shelf.StandsAt past c → taken ≡ answered c.keep past most any_entry)
    → flat_map (entry_line text i) (map (sample_view f) taken) ≡ cache_lines text keep i (notices_by i put)
taken_lines text f keep put whole caches i c most taken heard count below here same all is =
    let within : i < length whole = subst (λ n. i < n) count below in
    let h : HasHeard f keep (notices_by i put) c = subst (HasHeard f keep (notices_by i put)) (sym (here ∙ same)) (heard i c within) in
    heard_lines text f keep i (notices_by i put) c h most taken all (is (accepted_after [] h.heard) h.stands)

-- of the lines of the ranks below n, those of the ranks below i were added
pub ranks_printed : {M : Type 0} (text : M → List ℕ) (keep : History) (put : List (ReportView M)) (i n : ℕ) (old now : Option (List ℕ)) (start left : List ℕ)
    → Moves old now (start ++ entry_lines text keep put i) left → i ≤ n → (rest : List ℕ) × Printed old now (start ++ entry_lines text keep put n) left rest
ranks_printed text keep put i n old now start left m low =
    let front = first_ranks text keep put i n low in (
      front.0,
      moves_printed old now (start ++ entry_lines text keep put i) left (start ++ entry_lines text keep put n) front.0 m
          (ap (λ l. start ++ l) front.1 ∙ sym (append_assoc start (entry_lines text keep put i) front.0)),
    )

-- the lines of one more rank were added
pub ranks_moved : {M : Type 0} (text : M → List ℕ) (keep : History) (put : List (ReportView M)) (i : ℕ) (old now new : Option (List ℕ)) (start left rest lines : List ℕ)
    → Moves old now (start ++ entry_lines text keep put i) left → Moves now new (left ++ lines) rest → lines ≡ cache_lines text keep i (notices_by i put)
    → Moves old new (start ++ entry_lines text keep put (i + 1)) rest
ranks_moved text keep put i old now new start left rest lines m n is =
    subst (λ l. Moves old new l rest) (append_assoc start (entry_lines text keep put i) lines ∙ ap (λ l. start ++ l) (sym (rank_more text keep put i lines is)))
    (moves_more old now new (start ++ entry_lines text keep put i) left lines rest m n)

-- a prefix of the lines of that rank was written
pub ranks_front : {M : Type 0} (text : M → List ℕ) (keep : History) (put : List (ReportView M)) (i n : ℕ) (old now new : Option (List ℕ)) (start left lines : List ℕ)
    → Moves old now (start ++ entry_lines text keep put i) left → PutsFront now new (left ++ lines) → lines ≡ cache_lines text keep i (notices_by i put) → i + 1 ≤ n
    → PutsFront old new (start ++ entry_lines text keep put n)
ranks_front text keep put i n old now new start left lines m f is low =
    let front = first_ranks text keep put (i + 1) n low in
    let here = entry_lines text keep put i in
    let p : Printed old now (start ++ entry_lines text keep put n) left (lines ++ front.0) =
    moves_printed old now (start ++ here) left (start ++ entry_lines text keep put n) (lines ++ front.0) m
    (ap (λ l. start ++ l) (front.1 ∙ ap (λ l. l ++ front.0) (rank_more text keep put i lines is) ∙ append_assoc here lines front.0)
    ∙ sym (append_assoc start here (lines ++ front.0))) in
    printed_front old now new (start ++ entry_lines text keep put n) (left ++ lines) front.0 (printed_more old now (start ++ entry_lines text keep put n) left lines front.0 (left ++ lines) p refl) f

-- one more empty cache
pub empty_more : {V : Type 0} (history : History) (caches new : List (CacheView V)) (c : CacheView V) → new ≡ caches ++ c ∷ [] → All (IsEmpty history) caches → c.keep ≡ history → shelf.StandsAt [] c
    → All (IsEmpty history) new
empty_more {V} history caches new c e all keep stands =
    let one : AllByRecursion (IsEmpty history) (c ∷ []) = (record { keep = keep; stands = stands }, tt) in
    subst (λ (l : List (CacheView V)). All (IsEmpty history) l) (sym e) (All-append (IsEmpty history) caches (c ∷ []) all (All-from_recursion (IsEmpty history) (c ∷ []) one))
