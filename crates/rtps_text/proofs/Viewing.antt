-- The meanings of the entries of a cache are the entries of a cache that accepted the meanings of
-- its notices.
use Rattle.std.proofs.Common.{◌≡◌, ◌∙◌, suc, List, [], ◌∷◌, ◌++◌, Bool, true, false, ◌||◌, ◌&&◌, if◌then◌else◌, nat_lt, refl, sym, ap, map, length}
use Rattle.std.specs.Prelude.{filter}
use Rattle.std.specs.List.{list_any}
use Rattle.std.proofs.lemmas.List.{map-append}
use Rattle.rtps_types.specs.declared.identity.Guid.{Guid}
use Rattle.rtps_types.specs.declared.identity.KeyHash.{KeyHash}
use Rattle.rtps_types.specs.declared.place.Place.{Place}
use Rattle.rtps_reader.specs.declared.body.Body.TheVariants as body
use Rattle.rtps_reader.specs.declared.notice.Notice.{Notice}
use Rattle.rtps_reader.specs.declared.notice.NoticeKind.{NoticeKind}
use Rattle.rtps_reader.specs.declared.notice.NoticeKind.TheVariants as kind
use Rattle.rtps_reader.specs.Notice.{kind_view, notice_view}
use Rattle.dds_cache.specs.Answered.{shown_by}
use Rattle.dds_cache.specs.Cache.{cached, entry_by, first_by, is_of, kept_by, with_entry, without_oldest}
use Rattle.dds_cache.specs.Calls.{Done, Accepted, accepted_after}
use Rattle.dds_cache.specs.Instances.{brought, has_live, is_disposed, is_end, is_live, is_value, state_of, told_about}
use Rattle.dds_cache.specs.declared.entry.Entry.{Entry}
use Rattle.dds_cache.specs.declared.history.History.{History}
use Rattle.dds_cache.specs.declared.history.History.TheVariants.{KeepLast, KeepAll}
use Rattle.rtps_lines.specs.Entry.{content_view, sample_view}
use Rattle.rtps_text.specs.Entries.{all_taken}

-- ---- notices that were accepted, the newest first

abbrev pub accepted : {X : Type 0} → List (Notice X) → List (Done X)
accepted [] = []
accepted (n ∷ ns) = Accepted n ∷ accepted ns

-- more notices are accepted after these; the newest come first
abbrev pub heard_after : {X : Type 0} → List (Notice X) → List (Notice X) → List (Notice X)
heard_after hs [] = hs
heard_after hs (n ∷ ns) = heard_after (n ∷ hs) ns

after_is : {X : Type 0} (hs ns : List (Notice X)) → accepted_after (accepted hs) ns ≡ accepted (heard_after hs ns)
after_is hs [] = refl
after_is hs (n ∷ ns) = after_is (n ∷ hs) ns

heard_map : {X Y : Type 0} (g : Notice X → Notice Y) (hs ns : List (Notice X)) → heard_after (map g hs) (map g ns) ≡ map g (heard_after hs ns)
heard_map g hs [] = refl
heard_map g hs (n ∷ ns) = heard_map g (n ∷ hs) ns

-- ---- the state of a cache doesn't depend on values

module _ {V M : Type 0} (f : V → M) where
  told_same : (k : KeyHash) (what : NoticeKind V) → told_about k (kind_view f what) ≡ told_about k what
  told_same k (kind.Sample n t (body.Value h v)) = refl
  told_same k (kind.Sample n t (body.Disposed h)) = refl
  told_same k (kind.Sample n t (body.Unregistered h)) = refl
  told_same k (kind.Sample n t (body.Unread u)) = refl
  told_same k kind.Matched = refl
  told_same k kind.Unmatched = refl
  told_same k (kind.Incompatible policy) = refl
  told_same k (kind.Lost count) = refl

  end_same : (what : NoticeKind V) → is_end (kind_view f what) ≡ is_end what
  end_same (kind.Sample n t b) = refl
  end_same kind.Matched = refl
  end_same kind.Unmatched = refl
  end_same (kind.Incompatible policy) = refl
  end_same (kind.Lost count) = refl

  live_same : (hs : List (Notice V)) (k : KeyHash) (w : Guid) → is_live (accepted (map (notice_view f) hs)) k w ≡ is_live (accepted hs) k w
  live_same [] k w = refl
  live_same (n ∷ hs) k w = rw (told_same k n.what, end_same n.what, live_same hs k w) refl

  disposed_same : (hs : List (Notice V)) (k : KeyHash) → is_disposed (accepted (map (notice_view f) hs)) k ≡ is_disposed (accepted hs) k
  disposed_same [] k = refl
  disposed_same (n ∷ hs) k = rw (told_same k n.what, disposed_same hs k) refl

  brought_same : (by other : Guid → Bool) → ((w : Guid) → by w ≡ other w) → (k : KeyHash) (hs : List (Notice V))
      → list_any (brought by k) (accepted (map (notice_view f) hs)) ≡ list_any (brought other k) (accepted hs)
  brought_same by other same k [] = refl
  brought_same by other same k (n ∷ hs) =
      ap (λ b. b || list_any (brought by k) (accepted (map (notice_view f) hs))) (ap (λ a. is_value a && by n.writer) (told_same k n.what) ∙ ap (λ b. is_value (told_about k n.what) && b) (same n.writer))
      ∙ ap (λ b. (is_value (told_about k n.what) && other n.writer) || b) (brought_same by other same k hs)

  has_live_same : (hs : List (Notice V)) (k : KeyHash) → has_live (accepted (map (notice_view f) hs)) k ≡ has_live (accepted hs) k
  has_live_same hs k = brought_same (is_live (accepted (map (notice_view f) hs)) k) (is_live (accepted hs) k) (live_same hs k) k hs

  state_same : (hs : List (Notice V)) (k : KeyHash) → state_of (accepted (map (notice_view f) hs)) k ≡ state_of (accepted hs) k
  state_same hs k = rw (disposed_same hs k, has_live_same hs k) refl

  -- ---- entries, with the meanings of their values

  abbrev entry_view : Entry V → Entry M
  entry_view e = record {
    place = e.place;
    writer = e.writer;
    number = e.number;
    time = e.time;
    key = e.key;
    body = content_view f e.body;
    is_read = e.is_read;
  }

  entry_same : (place : Place) (w : Guid) (what : NoticeKind V) → entry_by place w (kind_view f what) ≡ map entry_view (entry_by place w what)
  entry_same place w (kind.Sample n t (body.Value h v)) = refl
  entry_same place w (kind.Sample n t (body.Disposed h)) = refl
  entry_same place w (kind.Sample n t (body.Unregistered h)) = refl
  entry_same place w (kind.Sample n t (body.Unread u)) = refl
  entry_same place w kind.Matched = refl
  entry_same place w kind.Unmatched = refl
  entry_same place w (kind.Incompatible policy) = refl
  entry_same place w (kind.Lost count) = refl

  without_same : (k : KeyHash) (es : List (Entry V)) → without_oldest k (map entry_view es) ≡ map entry_view (without_oldest k es)
  without_same k [] = refl
  without_same k (e ∷ es) = by_test (is_of k e) (without_same k es)
    where
      by_test : (b : Bool) → without_oldest k (map entry_view es) ≡ map entry_view (without_oldest k es)
          → (if b then map entry_view es else entry_view e ∷ without_oldest k (map entry_view es)) ≡ map entry_view (if b then es else e ∷ without_oldest k es)
      by_test true rest = refl
      by_test false rest = ap (λ l. entry_view e ∷ l) rest

  count_same : (k : KeyHash) (es : List (Entry V)) → length (filter (is_of k) (map entry_view es)) ≡ length (filter (is_of k) es)
  count_same k [] = refl
  count_same k (e ∷ es) = by_test (is_of k e) (count_same k es)
    where
      by_test : (b : Bool) → length (filter (is_of k) (map entry_view es)) ≡ length (filter (is_of k) es)
          → length (if b then entry_view e ∷ filter (is_of k) (map entry_view es) else filter (is_of k) (map entry_view es)) ≡ length (if b then e ∷ filter (is_of k) es else filter (is_of k) es)
      by_test true rest = ap suc rest
      by_test false rest = rest

  kept_same : (keep : History) (k : KeyHash) (es : List (Entry V)) → kept_by keep k (map entry_view es) ≡ map entry_view (kept_by keep k es)
  kept_same (KeepLast most) k es =
      ap (λ c. if nat_lt most c then without_oldest k (map entry_view es) else map entry_view es) (count_same k es)
      ∙ by_test (nat_lt most (length (filter (is_of k) es)))
    where
      by_test : (b : Bool) → (if b then without_oldest k (map entry_view es) else map entry_view es) ≡ map entry_view (if b then without_oldest k es else es)
      by_test true = without_same k es
      by_test false = refl
  kept_same KeepAll k es = refl

  with_same : (keep : History) (es more : List (Entry V)) → with_entry keep (map entry_view es) (map entry_view more) ≡ map entry_view (with_entry keep es more)
  with_same keep es [] = refl
  with_same keep es (e ∷ more) = ap (kept_by keep e.key) (sym (map-append entry_view es (e ∷ []))) ∙ kept_same keep e.key (es ++ e ∷ [])

  cached_same : (keep : History) (hs : List (Notice V)) → (cached keep (accepted (map (notice_view f) hs))).entries ≡ map entry_view (cached keep (accepted hs)).entries
  cached_same keep [] = refl
  cached_same keep (n ∷ hs) =
      ap (λ es. with_entry keep es (entry_by n.place n.writer (kind_view f n.what))) (cached_same keep hs)
      ∙ ap (with_entry keep (map entry_view (cached keep (accepted hs)).entries)) (entry_same n.place n.writer n.what)
      ∙ with_same keep (cached keep (accepted hs)).entries (entry_by n.place n.writer n.what)

-- no entry was read or taken before, so each instance is new
all_new : {X : Type 0} (keep : History) (hs : List (Notice X)) (k : KeyHash) → (cached keep (accepted hs)).is_new k ≡ true
all_new keep [] k = refl
all_new keep (n ∷ hs) k = rw (all_new keep hs k) refl

first_all : {E : Type 0} (p : E → Bool) → ((e : E) → p e ≡ true) → (es : List E) → first_by p (length es) es ≡ es
first_all p all [] = refl
first_all p all (e ∷ es) = rw (all e) (ap (λ l. e ∷ l) (first_all p all es))

all_shown : {X : Type 0} (keep : History) (past : List (Done X)) → all_taken keep past ≡ map (shown_by past (cached keep past)) (cached keep past).entries
all_shown keep past = ap (map (shown_by past (cached keep past))) (first_all _ (λ e. refl) (cached keep past).entries)

map_both : {X Y Z W : Type 0} (g : X → Y) (h : Y → Z) (i : X → W) (j : W → Z) → ((x : X) → h (g x) ≡ j (i x)) → (xs : List X) → map h (map g xs) ≡ map j (map i xs)
map_both g h i j same [] = refl
map_both g h i j same (x ∷ xs) = rw (same x) (ap (λ l. j (i x) ∷ l) (map_both g h i j same xs))

shown_same : {V M : Type 0} (f : V → M) (keep : History) (hs : List (Notice V)) (e : Entry V)
    → sample_view f (shown_by (accepted hs) (cached keep (accepted hs)) e)
    ≡ shown_by (accepted (map (notice_view f) hs)) (cached keep (accepted (map (notice_view f) hs))) (entry_view f e)
shown_same f keep hs e = rw (all_new keep hs e.key, all_new keep (map (notice_view f) hs) e.key, state_same f hs e.key) refl

-- the meanings of the entries that are taken are the entries that are taken after the meanings of
-- the notices were accepted
pub taken_same : {V M : Type 0} (f : V → M) (keep : History) (ns : List (Notice V))
    → map (sample_view f) (all_taken keep (accepted_after [] ns)) ≡ all_taken keep (accepted_after [] (map (notice_view f) ns))
taken_same f keep ns =
    let hs = heard_after [] ns in
    let seen = map (notice_view f) hs in
    ap (λ past. map (sample_view f) (all_taken keep past)) (after_is [] ns)
    ∙ ap (map (sample_view f)) (all_shown keep (accepted hs))
    ∙ map_both _ _ (entry_view f) _ (shown_same f keep hs) (cached keep (accepted hs)).entries
    ∙ ap (map (shown_by (accepted seen) (cached keep (accepted seen)))) (sym (cached_same f keep hs))
    ∙ sym (all_shown keep (accepted seen))
    ∙ ap (λ l. all_taken keep (accepted l)) (sym (heard_map (notice_view f) [] ns))
    ∙ ap (all_taken keep) (sym (after_is [] (map (notice_view f) ns)))
