-- Participants leave: what is heard of its writers, and what is kept then.
use Rattle.std.proofs.Common.{◌≡◌, ℕ, ◌+◌, List, [], ◌∷◌, ◌++◌, map, Bool, true, false, ◌&&◌, ◌||◌, not, Option, Some, None, if◌then◌else◌, cond, refl, sym, ap, ◌∙◌, subst}
use Rattle.std.specs.Prelude.{filter}
use Rattle.std.specs.List.{AllByRecursion, flat_map, list_any}
use Rattle.std.specs.List.Sorted.{IsStrictlySortedBy}
use Rattle.std.specs.Map.{keys_of, lookup, remove_entry}
use Rattle.std.specs.declared.cmp.Ordering.TheVariants.{Less}
use Rattle.std.specs.Str.{bytes_eq}
use Rattle.std.proofs.lemmas.Map.Entries.{lookup-filter-keys}
use Rattle.std.proofs.lemmas.Map.Keys.{sorted_head, sorted_tail}
use Rattle.rtps_types.specs.declared.identity.Guid.{Guid}
use Rattle.rtps_types.specs.declared.identity.GuidPrefix.{GuidPrefix}
use Rattle.rtps_types.specs.Order.{guid_order}
use Rattle.rtps_proxy.specs.Kept as proxy
use Rattle.rtps_proxy.specs.Matches.{AllStand, Match, ended, is_at, same_guid}
use Rattle.rtps_discovery.specs.Announcement.{Leave, Offer}
use Rattle.rtps_discovery.specs.Changes.{ChangeAt, at_pair, both, changes, row, rows}
use Rattle.rtps_discovery.specs.Known.{Known, RemoteParticipant, Wish, is_fixed, is_of, known_after, locators_at, prefix_order, publications_reader, publications_writer, standing, subscriptions_reader, subscriptions_writer, writer_at}
use Rattle.rtps_discovery.specs.Kept.{Applies, IsKnown, RegistryView, is_announcer, matched_ranks, ranks_at}
use Rattle.rtps_discovery.specs.Ends.{Covers}
use Rattle.rtps_discovery.specs.Leave.{ended_by, ending, endings, endpoint, gone_by, gone_of, reranked}
use Rattle.rtps_discovery.specs.OneWriter.{has_rank, matched_from}
use Rattle.rtps_discovery.specs.declared.gone.Gone.{Gone}
use Rattle.rtps_discovery.proofs.Guids.{at_itself, found_is, flipped, tied}
use Rattle.rtps_discovery.proofs.OneWriter.{at_pair_same}
use Rattle.rtps_discovery.proofs.SameKeys.{has_both, same_keys}
use Rattle.rtps_discovery.proofs.SortedKeys.{InOrder, has, sorted_both}
use Rattle.rtps_discovery.proofs.Taking.{or_false, sorted_filter, turned}
use Rattle.rtps_discovery.proofs.Together.{any, filter_both, filter_every, of_any, same_filter, sorted_left, stay, together}

has_filter : (f : Guid × Offer → Bool) (es : List (Guid × Offer)) (q : Guid) → (has (keys_of es) q || has (keys_of (filter f es)) q) ≡ has (keys_of es) q
has_filter f [] q = refl
has_filter f (e ∷ es) q = by_tests (f e) (is_at e.0 q) refl (has (keys_of es) q) (has_filter f es q)
  where
    by_tests : (t u : Bool) → is_at e.0 q ≡ u → (b : Bool) → (b || has (keys_of (filter f es)) q) ≡ b → ((u || b) || has (keys_of (if t then e ∷ filter f es else filter f es)) q) ≡ (u || b)
    by_tests t true v b h = refl
    by_tests false false v b h = h
    by_tests true false v true h = refl
    by_tests true false v false h = rw v h

abbrev pub Found : List (Guid × Offer) → List (Guid × Offer) → Type 0
Found all es = AllByRecursion (λ (e : Guid × Offer). lookup (is_at e.0) all ≡ Some e.1) es

found_more : (x : Guid × Offer) (all es : List (Guid × Offer)) → AllByRecursion (λ y. guid_order x.0 y ≡ Less) (keys_of es) → Found all es → Found (x ∷ all) es
found_more x all [] below found = tt
found_more x all (e ∷ es) (less, below) (here, rest) = (rw (flipped e.0 x.0 Less less) here, found_more x all es below rest)

pub all_found : (es : List (Guid × Offer)) → InOrder (keys_of es) → Found es es
all_found [] sorted = tt
all_found (e ∷ es) sorted = (rw (at_itself e.0) refl, found_more e es es (sorted_head guid_order e.0 (keys_of es) sorted) (all_found es (sorted_tail guid_order e.0 (keys_of es) sorted)))

abbrev pub left_by : Known → List GuidPrefix → Known
left_by k ps = known_after k (Leave ps)

module _ (k : Known) (ps : List GuidPrefix) (sorted : InOrder (keys_of k.writers)) where
  both_is : both (keys_of k.writers) (keys_of (left_by k ps).writers) ≡ keys_of k.writers
  both_is =
      same_keys (both (keys_of k.writers) (keys_of (filter (stay ps) k.writers))) (keys_of k.writers)
      (sorted_both (keys_of k.writers) (keys_of (filter (stay ps) k.writers)) (sorted_filter (stay ps) k.writers sorted)) sorted
      (λ q. has_both (keys_of k.writers) (keys_of (filter (stay ps) k.writers)) q ∙ has_filter (stay ps) k.writers q)

  pub left : (g : Guid) → writer_at (left_by k ps) g ≡ cond (not (of_any ps g)) (writer_at k g) None
  left g = lookup-filter-keys (is_at g) (λ q. not (of_any ps q)) (not (of_any ps g)) (λ q at. ap (λ x. not (of_any ps x)) (found_is g q at)) k.writers

  abbrev told_at : ℕ → Option Wish → Guid → List ChangeAt
  told_at rank r g = at_pair k.fixed rank g (locators_at (left_by k ps) g) (standing r (writer_at k g)) (standing r (writer_at (left_by k ps) g))

  abbrev gone_at : ℕ → Option Wish → Guid × Offer → List ChangeAt
  gone_at rank r e = at_pair k.fixed rank e.0 [] (standing r (Some e.1)) (standing r None)

  quiet : (rank : ℕ) (r : Option Wish) (g : Guid) → of_any ps g ≡ false → told_at rank r g ≡ []
  quiet rank r g out =
      let stays : writer_at (left_by k ps) g ≡ writer_at k g = left g ∙ rw out refl in
      ap (λ o. at_pair k.fixed rank g (locators_at (left_by k ps) g) (standing r (writer_at k g)) (standing r o)) stays
      ∙ at_pair_same k.fixed rank g (locators_at (left_by k ps) g) (standing r (writer_at k g))

  loud : (rank : ℕ) (r : Option Wish) (e : Guid × Offer) → of_any ps e.0 ≡ true → writer_at k e.0 ≡ Some e.1 → told_at rank r e.0 ≡ gone_at rank r e
  loud rank r e own here =
      let goes : writer_at (left_by k ps) e.0 ≡ None = left e.0 ∙ rw own refl in
      rw (goes, here) refl

  row_left : (rank : ℕ) (r : Option Wish) (es : List (Guid × Offer)) → Found k.writers es → flat_map (told_at rank r) (keys_of es) ≡ flat_map (gone_at rank r) (filter (any ps) es)
  row_left rank r [] found = refl
  row_left rank r (e ∷ es) (here, rest) = by_test (of_any ps e.0) refl (row_left rank r es rest)
    where
      by_test : (t : Bool) → of_any ps e.0 ≡ t → flat_map (told_at rank r) (keys_of es) ≡ flat_map (gone_at rank r) (filter (any ps) es)
          → told_at rank r e.0 ++ flat_map (told_at rank r) (keys_of es) ≡ flat_map (gone_at rank r) (if t then e ∷ filter (any ps) es else filter (any ps) es)
      by_test true own more = ap (λ l. l ++ flat_map (told_at rank r) (keys_of es)) (loud rank r e own here) ∙ ap (λ l. gone_at rank r e ++ l) more
      by_test false own more = ap (λ l. l ++ flat_map (told_at rank r) (keys_of es)) (quiet rank r e.0 own) ∙ more

  module _ {A : Type 0} where
    -- the fixed matches of writers that are gone are kept with them
    abbrev pub AreFixed : List (Gone A) → Type 0
    AreFixed gone = AllByRecursion (λ (n : Gone A). (rank : ℕ) → has_rank n.fixed rank ≡ is_fixed k.fixed rank n.writer) gone

    row_gone : (rank : ℕ) (r : Option Wish) (gone : List (Gone A)) → AreFixed gone → flat_map (gone_at rank r) (map gone_of gone) ≡ flat_map (ending rank r) gone
    row_gone rank r [] all = refl
    row_gone rank r (n ∷ ns) (here, rest) = rw (here rank) (ap (λ l. gone_at rank r (gone_of n) ++ l) (row_gone rank r ns rest))

    rows_gone : (gone : List (Gone A)) → AreFixed gone → map gone_of gone ≡ filter (any ps) k.writers → (rank : ℕ) (rs : List (Option Wish))
        → rows k (left_by k ps) (keys_of k.writers) rank rs rs ≡ endings gone rank rs
    rows_gone gone fixed are rank [] = refl
    rows_gone gone fixed are rank (r ∷ rs) =
        let here : row k (left_by k ps) (keys_of k.writers) rank r r ≡ flat_map (ending rank r) gone =
        row_left rank r k.writers (all_found k.writers sorted) ∙ ap (flat_map (gone_at rank r)) (sym are) ∙ row_gone rank r gone fixed in
        ap (λ l. l ++ rows k (left_by k ps) (keys_of k.writers) (rank + 1) rs rs) here
        ∙ ap (λ l. flat_map (ending rank r) gone ++ l) (rows_gone gone fixed are (rank + 1) rs)

    pub heard_leaving : (gone : List (Gone A)) → AreFixed gone → map gone_of gone ≡ filter (any ps) k.writers → changes k (left_by k ps) ≡ endings gone 0 k.readers
    unfolding changes
    heard_leaving gone fixed are =
        ap (λ gs. rows k (left_by k ps) gs 0 k.readers k.readers) both_is ∙ rows_gone gone fixed are 0 k.readers

-- ---- what is kept then

-- what is gone of the participants
pub removed_all : {X : Type 0} (test : GuidPrefix → Bool) (es : List (GuidPrefix × X)) → lookup test (remove_entry test es) ≡ None → remove_entry test es ≡ filter (λ e. not (test e.0)) es
removed_all test [] none = refl
removed_all test (e ∷ es) none = by_test (test e.0) refl none (removed_all test es)
  where
    none_left : {X : Type 0} (xs : List (GuidPrefix × X)) → lookup test xs ≡ None → xs ≡ filter (λ e. not (test e.0)) xs
    none_left [] h = refl
    none_left (x ∷ xs) h = by_own (test x.0) h (none_left xs)
      where
        by_own : (t : Bool) → cond t (Some x.1) (lookup test xs) ≡ None → (lookup test xs ≡ None → xs ≡ filter (λ e. not (test e.0)) xs) → x ∷ xs ≡ (if not t then x ∷ filter (λ e. not (test e.0)) xs else filter (λ e. not (test e.0)) xs)
        by_own true bad more = absurd cc
        by_own false left more = ap (λ l. x ∷ l) (more left)

    by_test : (t : Bool) → test e.0 ≡ t → lookup test (cond t es (e ∷ remove_entry test es)) ≡ None → (lookup test (remove_entry test es) ≡ None → remove_entry test es ≡ filter (λ x. not (test x.0)) es)
        → cond t es (e ∷ remove_entry test es) ≡ (if not t then e ∷ filter (λ x. not (test x.0)) es else filter (λ x. not (test x.0)) es)
    by_test true is left more = none_left es left
    by_test false is left more = let rest : lookup test (remove_entry test es) ≡ None = rw is at left in ap (λ l. e ∷ l) (more rest)

-- what is gone of the announcers
module _ (p : GuidPrefix) where
  abbrev stays_match : Match → Bool
  stays_match m = not (is_of (p ∷ []) m.pairing.writer.prefix)

  abbrev ends_pub : Match → Bool
  ends_pub m = not (same_guid m.pairing.writer (endpoint p publications_writer))

  abbrev ends_sub : Match → Bool
  ends_sub m = not (same_guid m.pairing.writer (endpoint p subscriptions_writer))

  same_ends : (prefix pubs subs : Bool) → (pubs || subs) ≡ true → (not (prefix && pubs) && not (prefix && subs)) ≡ not prefix
  same_ends true true s h = refl
  same_ends true false true h = refl
  same_ends true false false h = absurd cc
  same_ends false a b h = refl

  named : (a b c d : Bool) → ((a && b) || (c && d)) ≡ true → (a || c) ≡ true
  named true b c d h = refl
  named false b true d h = refl
  named false b false d h = absurd cc

  ends_both : (m : Match) → is_announcer m ≡ true → (ends_pub m && ends_sub m) ≡ stays_match m
  ends_both m is =
      let own = m.pairing.writer.prefix.0 in
      let e = m.pairing.writer.entity.0 in
      same_ends (bytes_eq own p.0) (bytes_eq e publications_writer.0) (bytes_eq e subscriptions_writer.0)
      (named (bytes_eq e publications_writer.0) (bytes_eq m.pairing.reader.0 publications_reader.0) (bytes_eq e subscriptions_writer.0) (bytes_eq m.pairing.reader.0 subscriptions_reader.0) is)
      ∙ ap not (turned own p.0 ∙ sym (or_false (bytes_eq p.0 own)))

  both_end : (ms : List Match) → AllByRecursion (λ m. is_announcer m ≡ true) ms → ended (endpoint p subscriptions_writer) (ended (endpoint p publications_writer) ms) ≡ filter stays_match ms
  both_end [] all = refl
  both_end (m ∷ ms) (is, all) = by_tests (ends_pub m) (ends_sub m) refl (stays_match m) (ends_both m is) (both_end ms all)
    where
      by_tests : (a b : Bool) → ends_sub m ≡ b → (t : Bool) → (a && b) ≡ t → filter ends_sub (filter ends_pub ms) ≡ filter stays_match ms
          → filter ends_sub (if a then m ∷ filter ends_pub ms else filter ends_pub ms) ≡ (if t then m ∷ filter stays_match ms else filter stays_match ms)
      by_tests true true e true h more = rw e (ap (λ l. m ∷ l) more)
      by_tests true true e false h more = absurd cc
      by_tests true false e true h more = absurd cc
      by_tests true false e false h more = rw e more
      by_tests false b e true h more = absurd cc
      by_tests false b e false h more = more

announce_left : (f : Match → Bool) (ms : List Match) → AllByRecursion (λ m. is_announcer m ≡ true) ms → AllByRecursion (λ m. is_announcer m ≡ true) (filter f ms)
announce_left f [] all = tt
announce_left f (m ∷ ms) (is, all) = by_test (f m) (announce_left f ms all)
  where
    by_test : (t : Bool) → AllByRecursion (λ m. is_announcer m ≡ true) (filter f ms) → AllByRecursion (λ m. is_announcer m ≡ true) (if t then m ∷ filter f ms else filter f ms)
    by_test true more = (is, more)
    by_test false more = more

-- the announcers of these participants, one after the other
pub both_out : (a b : Bool) → (not (a || false) && not b) ≡ not (a || b)
both_out true b = refl
both_out false b = refl

all_end : (ps : List GuidPrefix) (ms : List Match) → AllByRecursion (λ m. is_announcer m ≡ true) ms → ended_by ps ms ≡ filter (λ m. not (is_of ps m.pairing.writer.prefix)) ms
all_end [] ms all = sym (filter_every ms)
all_end (p ∷ ps) ms all =
    ap (ended_by ps) (both_end p ms all)
    ∙ all_end ps (filter (stays_match p) ms) (announce_left (stays_match p) ms all)
    ∙ filter_both (λ m. not (is_of ps m.pairing.writer.prefix)) (stays_match p) ms
    ∙ same_filter (λ m. stays_match p m && not (is_of ps m.pairing.writer.prefix)) (λ m. not (is_of (p ∷ ps) m.pairing.writer.prefix)) (λ m. both_out (bytes_eq p.0 m.pairing.writer.prefix.0) (is_of ps m.pairing.writer.prefix)) ms

keys_left : {X : Type 0} (f : Guid → Bool) (es : List (Guid × X)) → keys_of (filter (λ e. f e.0) es) ≡ filter f (keys_of es)
keys_left f [] = refl
keys_left f (e ∷ es) = by_test (f e.0) (keys_left f es)
  where
    by_test : (t : Bool) → keys_of (filter (λ x. f x.0) es) ≡ filter f (keys_of es) → keys_of (if t then e ∷ filter (λ x. f x.0) es else filter (λ x. f x.0) es) ≡ (if t then e.0 ∷ filter f (keys_of es) else filter f (keys_of es))
    by_test true more = ap (λ l. e.0 ∷ l) more
    by_test false more = more

-- what is kept of the ranks
module _ {A : Type 0} (d : RegistryView) (those : List GuidPrefix) (q : Guid) where
  abbrev Fixed : List (Gone A) → Type 0
  Fixed gone = map (λ (n : Gone A). n.fixed) gone ≡ map (λ (n : Gone A). ranks_at n.writer d.fixed) gone

  rerank_fixed : (ns : List (Gone A)) (r : List ℕ) → Fixed ns → r ≡ ranks_at q d.fixed → reranked ns q r ≡ ranks_at q d.fixed
  rerank_fixed [] r fixed same = same
  rerank_fixed (n ∷ ns) r fixed same =
      let here : n.fixed ≡ ranks_at n.writer d.fixed = cc in
      let rest : Fixed ns = cc in
      rerank_fixed ns (if is_at n.writer q then n.fixed else r) rest (by_test (is_at n.writer q) refl here)
    where
      by_test : (t : Bool) → is_at n.writer q ≡ t → n.fixed ≡ ranks_at n.writer d.fixed → (if t then n.fixed else r) ≡ ranks_at q d.fixed
      by_test true at here = here ∙ ap (λ g. ranks_at g d.fixed) (sym (found_is n.writer q at))
      by_test false at here = same

  rerank_found : (ns : List (Gone A)) (r : List ℕ) → Fixed ns → list_any (λ (n : Gone A). is_at n.writer q) ns ≡ true → reranked ns q r ≡ ranks_at q d.fixed
  rerank_found [] r fixed found = absurd cc
  rerank_found (n ∷ ns) r fixed found =
      let here : n.fixed ≡ ranks_at n.writer d.fixed = cc in
      let rest : Fixed ns = cc in
      by_test (is_at n.writer q) refl here rest found (rerank_found ns r rest)
    where
      by_test : (t : Bool) → is_at n.writer q ≡ t → n.fixed ≡ ranks_at n.writer d.fixed → Fixed ns → (t || list_any (λ (n : Gone A). is_at n.writer q) ns) ≡ true
          → (list_any (λ (n : Gone A). is_at n.writer q) ns ≡ true → reranked ns q r ≡ ranks_at q d.fixed) → reranked ns q (if t then n.fixed else r) ≡ ranks_at q d.fixed
      by_test true at here rest found more = rerank_fixed ns n.fixed rest (here ∙ ap (λ g. ranks_at g d.fixed) (sym (found_is n.writer q at)))
      by_test false at here rest found more = more found

  -- where it is another's
  rerank_other : (ns : List (Gone A)) (r : List ℕ) → AllByRecursion (λ (e : Guid × Offer). of_any those e.0 ≡ true) (map gone_of ns) → of_any those q ≡ false → reranked ns q r ≡ r
  rerank_other [] r mine other = refl
  rerank_other (n ∷ ns) r (own, rest) other = by_test (is_at n.writer q) refl (rerank_other ns r rest other)
    where
      by_test : (t : Bool) → is_at n.writer q ≡ t → reranked ns q r ≡ r → reranked ns q (if t then n.fixed else r) ≡ r
      by_test true at more = let bad : true ≡ false = sym own ∙ ap (of_any those) (sym (found_is n.writer q at)) ∙ other in absurd cc
      by_test false at more = more

  none_at : (ns : List (Gone A)) → list_any (λ (n : Gone A). is_at n.writer q) ns ≡ false → lookup (is_at q) (map gone_of ns) ≡ None
  none_at [] none = refl
  none_at (n ∷ ns) none = by_test (is_at n.writer q) refl none (none_at ns)
    where
      by_test : (t : Bool) → is_at n.writer q ≡ t → (t || list_any (λ (n : Gone A). is_at n.writer q) ns) ≡ false → (list_any (λ (n : Gone A). is_at n.writer q) ns ≡ false → lookup (is_at q) (map gone_of ns) ≡ None)
          → cond (is_at q n.writer) (Some n.offer) (lookup (is_at q) (map gone_of ns)) ≡ None
      by_test true at bad more = absurd cc
      by_test false at left more = rw (tied q n.writer ∙ at) (more left)

all_mine : (those : List GuidPrefix) (es : List (Guid × Offer)) → AllByRecursion (λ (e : Guid × Offer). of_any those e.0 ≡ true) (filter (any those) es)
all_mine those [] = tt
all_mine those (e ∷ es) = by_test (of_any those e.0) refl (all_mine those es)
  where
    by_test : (t : Bool) → of_any those e.0 ≡ t → AllByRecursion (λ (e : Guid × Offer). of_any those e.0 ≡ true) (filter (any those) es) → AllByRecursion (λ (e : Guid × Offer). of_any those e.0 ≡ true) (if t then e ∷ filter (any those) es else filter (any those) es)
    by_test true is more = (is, more)
    by_test false is more = more

-- what the parts of what is kept are once participants left
pub record Leaves {A : Type 0} (d : RegistryView) (those : List GuidPrefix) (ps : List (GuidPrefix × RemoteParticipant)) (leases : List (ℕ × GuidPrefix)) (proxies : List (Guid × proxy.ProxyView)) (ws : List (Guid × Offer)) (rs : List (Guid × List ℕ)) (ns : List (Gone A)) : Type 0 where
  pub participants : ps ≡ filter (λ (e : GuidPrefix × RemoteParticipant). not (is_of those e.0)) d.participants
  pub covers : Covers d.leases d.participants → Covers leases ps
  pub announcers : (ms : List Match) → AllStand ms d.announcers → AllStand (ended_by those ms) proxies
  pub gone : map gone_of ns ≡ gone_by those d.writers
  pub fixed : map (λ (n : Gone A). n.fixed) ns ≡ map (λ (n : Gone A). ranks_at n.writer d.fixed) ns
  pub left : ws ≡ filter (stay those) d.writers
  pub ranks : (q : Guid) → ranks_at q rs ≡ reranked ns q (ranks_at q d.ranks)

are_fixed : {A : Type 0} (k : Known) (d : RegistryView) (those : List GuidPrefix) (sorted : InOrder (keys_of k.writers)) → IsKnown k d → (gone : List (Gone A)) → map (λ (n : Gone A). n.fixed) gone ≡ map (λ (n : Gone A). ranks_at n.writer d.fixed) gone → AreFixed k those sorted gone
are_fixed k d those sorted is [] same = tt
are_fixed k d those sorted is (n ∷ ns) same =
    let here : n.fixed ≡ ranks_at n.writer d.fixed = cc in
    let rest : map (λ (n : Gone _). n.fixed) ns ≡ map (λ (n : Gone _). ranks_at n.writer d.fixed) ns = cc in
    (λ rank. ap (λ l. has_rank l rank) here ∙ is.fixed n.writer rank, are_fixed k d those sorted is ns rest)

module _ {A : Type 0} (d : RegistryView) (those : List GuidPrefix) (ps : List (GuidPrefix × RemoteParticipant)) (leases : List (ℕ × GuidPrefix)) (proxies : List (Guid × proxy.ProxyView)) (ws : List (Guid × Offer)) (rs : List (Guid × List ℕ)) (ns : List (Gone A)) (l : Leaves d those ps leases proxies ws rs ns) (up : IsStrictlySortedBy prefix_order those) where
  gone_is : (k : Known) → IsKnown k d → map gone_of ns ≡ filter (any those) d.writers
  gone_is k is = l.gone ∙ together those d.writers up (subst (λ (es : List (Guid × Offer)). InOrder (keys_of es)) (sym is.writers) is.ordered)

  stayed : (k : Known) → IsKnown k d → ps ≡ filter (λ (e : GuidPrefix × RemoteParticipant). not (is_of those e.0)) k.participants
  stayed k is = l.participants ∙ ap (filter (λ (e : GuidPrefix × RemoteParticipant). not (is_of those e.0))) is.participants

  abbrev start : Known → Guid → Option Offer → List ℕ
  start k q o = matched_from (λ rank. is_fixed k.fixed rank q) o 0 k.readers

  absent : (k : Known) (q : Guid) → IsKnown k d → of_any those q ≡ true → list_any (λ (n : Gone A). is_at n.writer q) ns ≡ false → writer_at k q ≡ None
  absent k q is own none =
      let found : lookup (is_at q) (filter (any those) d.writers) ≡ cond (of_any those q) (lookup (is_at q) d.writers) None = lookup-filter-keys (is_at q) (of_any those) (of_any those q) (λ x at. ap (of_any those) (found_is q x at)) d.writers in
      let here : lookup (is_at q) (filter (any those) d.writers) ≡ lookup (is_at q) d.writers = found ∙ rw own refl in
      ap (lookup (is_at q)) (sym is.writers) ∙ sym here ∙ ap (lookup (is_at q)) (sym (gone_is k is)) ∙ none_at d those q ns none

  ranked : (k : Known) (q : Guid) → IsKnown k d → reranked ns q (ranks_at q d.ranks) ≡ matched_ranks (left_by k those) q
  ranked k q is = by_own (of_any those q) refl
    where
      goes : of_any those q ≡ true → writer_at (left_by k those) q ≡ None
      goes own = left k those is.ordered q ∙ rw own refl

      by_found : of_any those q ≡ true → (t : Bool) → list_any (λ (n : Gone A). is_at n.writer q) ns ≡ t → reranked ns q (ranks_at q d.ranks) ≡ ranks_at q d.fixed
      by_found own true found = rerank_found d those q ns (ranks_at q d.ranks) l.fixed found
      by_found own false none = rerank_fixed d those q ns (ranks_at q d.ranks) l.fixed (is.ranks q ∙ ap (start k q) (absent k q is own none) ∙ sym (is.started q))

      by_own : (t : Bool) → of_any those q ≡ t → reranked ns q (ranks_at q d.ranks) ≡ matched_ranks (left_by k those) q
      by_own true own = by_found own (list_any (λ (n : Gone A). is_at n.writer q) ns) refl ∙ is.started q ∙ ap (start k q) (sym (goes own))
      by_own false other =
          let stays : writer_at (left_by k those) q ≡ writer_at k q = left k those is.ordered q ∙ rw other refl in
          let own : AllByRecursion (λ (e : Guid × Offer). of_any those e.0 ≡ true) (map gone_of ns) = subst (AllByRecursion (λ (e : Guid × Offer). of_any those e.0 ≡ true)) (sym (gone_is k is)) (all_mine those d.writers) in
          rerank_other d those q ns (ranks_at q d.ranks) own other ∙ is.ranks q ∙ ap (start k q) (sym stays)

  pub leaves : {X : Type 0} (rr : List Guid) (entries : List (Guid × X)) (earlier all : List ChangeAt) → d.remote_readers ≡ keys_of entries → rr ≡ keys_of (filter (stay those) entries) → all ≡ earlier ++ endings ns 0 d.readers
      → Applies (Leave those) d (record d { participants = ps; leases = leases; announcers = proxies; writers = ws; remote_readers = rr; ranks = rs }) earlier all
  leaves rr entries earlier all were readers told = record {
    known = λ k is. record {
      own = is.own;
      moment = is.moment;
      readers = is.readers;
      fixed = is.fixed;
      started = is.started;
      participants = stayed k is;
      in_order = sorted_left (λ (e : GuidPrefix × RemoteParticipant). not (is_of those e.0)) k.participants is.in_order;
      leases = subst (Covers leases) (stayed k is) (l.covers (subst (Covers d.leases) (sym is.participants) is.leases));
      announcers = subst (λ ms. AllStand ms proxies) (all_end those k.announcers is.announce) (l.announcers k.announcers is.announcers);
      announce = announce_left (λ m. not (is_of those m.pairing.writer.prefix)) k.announcers is.announce;
      writers = l.left ∙ ap (filter (stay those)) is.writers;
      ordered = sorted_filter (stay those) k.writers is.ordered;
      remote_readers = readers ∙ keys_left (λ g. not (of_any those g)) entries ∙ ap (filter (λ g. not (of_any those g))) (sym were ∙ is.remote_readers);
      ranks = λ q. l.ranks q ∙ ranked k q is;
    };
    changes = λ k is.
        told ∙ ap (λ readers. earlier ++ endings ns 0 readers) is.readers
        ∙ ap (λ heard. earlier ++ heard) (sym (heard_leaving k those is.ordered ns (are_fixed k d those is.ordered is ns l.fixed) (gone_is k is ∙ ap (filter (any those)) is.writers)));
  }
