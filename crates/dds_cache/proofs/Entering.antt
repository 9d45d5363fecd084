-- What a cache keeps once an entry was put after the others.
use Rattle.std.proofs.Common.{◌≡◌, ℕ, suc, ◌+◌, ◌<◌, Bool, true, false, List, [], ◌∷◌, ◌++◌, map, length, Some, None, refl, sym, ap, ◌∙◌, subst, arith}
use Rattle.std.specs.BTreeSet.{insert_key}
use Rattle.std.specs.List.{AllByRecursion, list_any}
use Rattle.std.specs.Ordering.{nat_cmp}
use Rattle.std.specs.Prelude.{Option, filter, if◌then◌else◌, is_some, not, ◌&&◌, ◌||◌}
use Rattle.std.proofs.lemmas.List.Elements.{filter-append}
use Rattle.std.proofs.lemmas.List.Folds.{list_any-append}
use Rattle.rtps_types.specs.declared.identity.Guid.{Guid}
use Rattle.rtps_types.specs.declared.identity.KeyHash.{KeyHash}
use Rattle.rtps_types.specs.declared.place.Place.{Place}
use Rattle.rtps_proxy.specs.Matches.{same_guid}
use Rattle.rtps_reader.specs.declared.body.Body.TheVariants as body
use Rattle.rtps_reader.specs.declared.notice.Notice.{Notice}
use Rattle.rtps_reader.specs.declared.notice.NoticeKind.{NoticeKind}
use Rattle.rtps_reader.specs.declared.notice.NoticeKind.TheVariants as kind
use Rattle.dds_cache.specs.declared.entry.Content.TheVariants as content
use Rattle.dds_cache.specs.declared.entry.Entry.{Entry}
use Rattle.dds_cache.specs.declared.history.History.{History}
use Rattle.dds_cache.specs.declared.history.History.TheVariants.{KeepLast, KeepAll}
use Rattle.dds_cache.specs.Cache.{cached, entry_by, is_new_behind}
use Rattle.dds_cache.specs.Calls.{Done, Accepted, same_key}
use Rattle.dds_cache.specs.Coming.{came, is_value_of, joined_by, joins, numbered, or_fresh}
use Rattle.dds_cache.specs.Instances.{About, AValue, ADisposal, about_key, disposed_by, is_alive, is_disposed, is_end, is_live, is_value, live_by, told_about}
use Rattle.dds_cache.specs.Standing.{AreSized, InstanceView, Pair, CacheIndex, Rising, StandsBy, alive_in, count_in, disposed_in, is_key, is_pair, new_in, numbers, numbers_in, numbers_kept, of_key, pair_order, writers_in}
use Rattle.dds_cache.proofs.Answering.{parts_from}
use Rattle.dds_cache.proofs.Keys.{and_left, and_right, guid_is, key_is, key_tie, key_turned, pair_tie, pair_total, same_turned}
use Rattle.dds_cache.proofs.Living.{alive_is}
use Rattle.dds_cache.proofs.Placing.{all_put, any_put, below_last, count_put, key_last, rising_last}

-- ---- the same, but for the entries, which are these

pub record Stood {M : Type 0} (past : List (Done M)) (l : List (Entry M)) (p : CacheIndex M) : Type 0 where
  pub entries : map (λ e. e.1) p.entries ≡ l
  pub rising : Rising 0 p.entries
  pub below : AllByRecursion (λ e. e.0 < p.accepted) p.entries
  pub there : (k : KeyHash) → list_any (of_key k) p.entries ≡ true → is_some (p.find k) ≡ true
  pub numbers : (k : KeyHash) → numbers_in (p.find k) ≡ numbers_kept p.keep k p.entries
  pub new : (k : KeyHash) → new_in (p.find k) ≡ (cached p.keep past).is_new k
  pub disposed : (k : KeyHash) → disposed_in (p.find k) ≡ is_disposed past k
  pub counts : (k : KeyHash) → count_in (p.find k) ≡ writers_in k p.live
  pub live : (k : KeyHash) (w : Guid) → list_any (is_pair (w, k)) p.live ≡ is_live past k w
  pub sized : AreSized p.live

pub stands_from : {M : Type 0} (past : List (Done M)) (l : List (Entry M)) (p : CacheIndex M) → Stood past l p → l ≡ (cached p.keep past).entries → StandsBy past p
stands_from past l p s is = record {
  entries = s.entries ∙ is;
  rising = s.rising;
  below = s.below;
  there = s.there;
  numbers = s.numbers;
  new = s.new;
  disposed = s.disposed;
  counts = s.counts;
  live = s.live;
  sized = s.sized;
}

-- ---- a notice that makes an entry

abbrev pub about_of : Bool → About
about_of true = AValue
about_of false = ADisposal

pub record Makes {M : Type 0} (n : Notice M) (e : Entry M) : Type 0 where
  pub about : (k : KeyHash) → told_about k n.what ≡ about_key (same_key e.key k) (about_of (is_value_of e.body))
  pub goes_on : is_end n.what ≡ false
  pub writer : n.writer ≡ e.writer
  pub unread : e.is_read ≡ false

abbrev MadeOf : {M : Type 0} → Guid → NoticeKind M → Entry M → Type 0
MadeOf w t e = ((k : KeyHash) → told_about k t ≡ about_key (same_key e.key k) (about_of (is_value_of e.body))) × (is_end t ≡ false) × (w ≡ e.writer) × (e.is_read ≡ false)

makes_what : {M : Type 0} (place : Place) (w : Guid) (t : NoticeKind M) (e : Entry M) → entry_by place w t ≡ e ∷ [] → MadeOf w t e
makes_what {M} place w (kind.Sample number time (body.Value h v)) e is =
    let x : Entry M = record { place = place; writer = w; number = number; time = time; key = h; body = content.Value v; is_read = false } in
    let same : x ≡ e = cc in
    subst (MadeOf w (kind.Sample number time (body.Value h v))) same ((λ k. refl), refl, refl, refl)
makes_what {M} place w (kind.Sample number time (body.Disposed h)) e is =
    let x : Entry M = record { place = place; writer = w; number = number; time = time; key = h; body = content.Disposed; is_read = false } in
    let same : x ≡ e = cc in
    subst (MadeOf w (kind.Sample number time (body.Disposed h))) same ((λ k. refl), refl, refl, refl)
makes_what place w (kind.Sample number time (body.Unregistered h)) e is = absurd cc
makes_what place w (kind.Sample number time (body.Unread u)) e is = absurd cc
makes_what place w kind.Matched e is = absurd cc
makes_what place w kind.Unmatched e is = absurd cc
makes_what place w (kind.Incompatible policy) e is = absurd cc
makes_what place w (kind.Lost count) e is = absurd cc

pub makes : {M : Type 0} (n : Notice M) (e : Entry M) → entry_by n.place n.writer n.what ≡ e ∷ [] → Makes n e
makes n e is =
    let h = makes_what n.place n.writer n.what e is in
    record { about = h.0; goes_on = h.1; writer = h.2; unread = h.3 }

-- ---- what is known of its instance

abbrev pub entered : Bool → Bool → History → ℕ → Option InstanceView → Option InstanceView
entered v j keep n o = Some (came v j (numbered keep n (or_fresh o)))

new_value : (j : Bool) (keep : History) (n : ℕ) (o : Option InstanceView) → new_in (entered true j keep n o) ≡ (new_in o || not (alive_in o))
new_value j (KeepLast most) n None = refl
new_value j (KeepLast most) n (Some i) = refl
new_value j KeepAll n None = refl
new_value j KeepAll n (Some i) = refl

new_disposal : (j : Bool) (keep : History) (n : ℕ) (o : Option InstanceView) → new_in (entered false j keep n o) ≡ new_in o
new_disposal j (KeepLast most) n None = refl
new_disposal j (KeepLast most) n (Some i) = refl
new_disposal j KeepAll n None = refl
new_disposal j KeepAll n (Some i) = refl

count_same : (v : Bool) (keep : History) (n : ℕ) (o : Option InstanceView) → count_in (entered v false keep n o) ≡ count_in o
count_same true (KeepLast most) n None = refl
count_same true (KeepLast most) n (Some i) = refl
count_same true KeepAll n None = refl
count_same true KeepAll n (Some i) = refl
count_same false (KeepLast most) n None = refl
count_same false (KeepLast most) n (Some i) = refl
count_same false KeepAll n None = refl
count_same false KeepAll n (Some i) = refl

count_more : (keep : History) (n : ℕ) (o : Option InstanceView) → count_in (entered true true keep n o) ≡ count_in o + 1
count_more (KeepLast most) n None = refl
count_more (KeepLast most) n (Some i) = refl
count_more KeepAll n None = refl
count_more KeepAll n (Some i) = refl

pub numbers_more : (v j : Bool) (most n : ℕ) (o : Option InstanceView) → numbers_in (entered v j (KeepLast most) n o) ≡ insert_key nat_cmp (numbers_in o) n
numbers_more true j most n None = refl
numbers_more true j most n (Some i) = refl
numbers_more false j most n None = refl
numbers_more false j most n (Some i) = refl

numbers_same : (v j : Bool) (n : ℕ) (o : Option InstanceView) → numbers_in (entered v j KeepAll n o) ≡ numbers_in o
numbers_same true j n None = refl
numbers_same true j n (Some i) = refl
numbers_same false j n None = refl
numbers_same false j n (Some i) = refl

disposed_then : (v j : Bool) (keep : History) (n : ℕ) (o : Option InstanceView) (before : Bool) → disposed_in (entered v j keep n o) ≡ disposed_by (about_of v) before
disposed_then true j keep n o before = refl
disposed_then false j keep n o before = refl

pub or_nothing : (b r : Bool) → (b || (false && r)) ≡ b
or_nothing true r = refl
or_nothing false r = refl

not_ended : (b r : Bool) → (not (b && false) && r) ≡ r
not_ended true r = refl
not_ended false r = refl

-- ---- the live writers

pub key_back : (k q : KeyHash) → is_key k q ≡ is_key q k
key_back k q = key_tie k q ∙ key_turned k q ∙ sym (key_tie q k)

pair_from : Guid → KeyHash → Pair
pair_from g k = (g, k)

pub pair_back : (p q : Pair) → is_pair p q ≡ true → p ≡ q
unfolding pair_from
pair_back p q h =
    let both : (same_guid p.0 q.0 && same_key p.1 q.1) ≡ true = sym (pair_tie p q) ∙ h in
    ap (λ g. pair_from g p.1) (guid_is p.0 q.0 (and_left (same_guid p.0 q.0) (same_key p.1 q.1) both))
    ∙ ap (pair_from q.0) (key_is p.1 q.1 (key_tie p.1 q.1 ∙ and_right (same_guid p.0 q.0) (same_key p.1 q.1) both))

any_value : (q p : Pair) (live : List Pair) → list_any (is_pair q) (joined_by true p live) ≡ (is_pair q p || list_any (is_pair q) live)
any_value q p live = by_there (list_any (is_pair p) live) refl
  where
    was : (b : Bool) → is_pair q p ≡ b → list_any (is_pair p) live ≡ true → list_any (is_pair q) live ≡ (b || list_any (is_pair q) live)
    was true is there = subst (λ x. list_any (is_pair x) live ≡ true) (sym (pair_back q p is)) there
    was false is there = refl

    by_there : (b : Bool) → list_any (is_pair p) live ≡ b → list_any (is_pair q) (joined_by true p live) ≡ (is_pair q p || list_any (is_pair q) live)
    by_there true h = ap (λ b. list_any (is_pair q) (if not b then insert_key pair_order live p else live)) h ∙ was (is_pair q p) refl h
    by_there false h = ap (λ b. list_any (is_pair q) (if not b then insert_key pair_order live p else live)) h ∙ any_put pair_order pair_total q p live

module _ {M : Type 0} (past : List (Done M)) (p : CacheIndex M) (s : StandsBy past p) (n : Notice M) (e : Entry M) (m : Makes n e) where
  abbrev v : Bool
  v = is_value_of e.body

  abbrev pair : Pair
  pair = (e.writer, e.key)

  abbrev j : Bool
  j = joins v pair p.live

  abbrev found : KeyHash → Option InstanceView
  found k = if is_key e.key k then entered v j p.keep p.accepted (p.find k) else p.find k

  abbrev last : ℕ × Entry M
  last = (p.accepted, e)

  abbrev pub entered_parts : CacheIndex M
  entered_parts = parts_from p.keep (p.accepted + 1) (p.entries ++ last ∷ []) found (joined_by v pair p.live)

  map_last : (es : List (ℕ × Entry M)) → map (λ e. e.1) (es ++ last ∷ []) ≡ map (λ e. e.1) es ++ e ∷ []
  map_last [] = refl
  map_last (x ∷ es) = ap (λ l. x.1 ∷ l) (map_last es)

  numbers_last : (es : List (ℕ × Entry M)) → numbers (es ++ last ∷ []) ≡ numbers es ++ p.accepted ∷ []
  numbers_last [] = refl
  numbers_last (x ∷ es) = ap (λ l. x.0 ∷ l) (numbers_last es)

  numbers_with : (test : ℕ × Entry M → Bool) → test last ≡ true → numbers (filter test (p.entries ++ last ∷ [])) ≡ numbers (filter test p.entries) ++ p.accepted ∷ []
  numbers_with test is = ap numbers (filter-append test p.entries (last ∷ [])) ∙ ap (λ b. numbers (filter test p.entries ++ (if b then last ∷ [] else []))) is ∙ numbers_last (filter test p.entries)

  append_none : (l : List (ℕ × Entry M)) → l ++ [] ≡ l
  append_none [] = refl
  append_none (x ∷ l) = ap (λ t. x ∷ t) (append_none l)

  numbers_without : (test : ℕ × Entry M → Bool) → test last ≡ false → numbers (filter test (p.entries ++ last ∷ [])) ≡ numbers (filter test p.entries)
  numbers_without test is = ap numbers (filter-append test p.entries (last ∷ [])) ∙ ap (λ b. numbers (filter test p.entries ++ (if b then last ∷ [] else []))) is ∙ ap numbers (append_none (filter test p.entries))

  pub below_numbers : (test : ℕ × Entry M → Bool) (n : ℕ) (es : List (ℕ × Entry M)) → AllByRecursion (λ e. e.0 < n) es → AllByRecursion (λ m. m < n) (numbers (filter test es))
  below_numbers test n [] all = tt
  below_numbers test n (x ∷ es) all = by_test (test x) (below_numbers test n es all.1)
    where
      by_test : (b : Bool) → AllByRecursion (λ m. m < n) (numbers (filter test es)) → AllByRecursion (λ m. m < n) (numbers (if b then x ∷ filter test es else filter test es))
      by_test true more = (all.0, more)
      by_test false more = more

  there_then : (k : KeyHash) → list_any (of_key k) (p.entries ++ last ∷ []) ≡ true → is_some (found k) ≡ true
  there_then k h = by_key (is_key e.key k) refl
    where
      or_false : (b : Bool) → (b || false) ≡ b
      or_false true = refl
      or_false false = refl

      by_key : (b : Bool) → is_key e.key k ≡ b → is_some (if b then entered v j p.keep p.accepted (p.find k) else p.find k) ≡ true
      by_key true is = refl
      by_key false is =
          let not_it : of_key k last ≡ false = sym (key_tie e.key k) ∙ is in
          s.there k (sym (or_false (list_any (of_key k) p.entries)) ∙ sym (ap (λ b. list_any (of_key k) p.entries || (b || false)) not_it) ∙ sym (list_any-append (of_key k) p.entries (last ∷ [])) ∙ h)

  numbers_then : (k : KeyHash) (keep : History) → numbers_in (p.find k) ≡ numbers_kept keep k p.entries
      → numbers_in (if is_key e.key k then entered v j keep p.accepted (p.find k) else p.find k) ≡ numbers_kept keep k (p.entries ++ last ∷ [])
  numbers_then k (KeepLast most) is = by_key (is_key e.key k) refl
    where
      by_key : (b : Bool) → is_key e.key k ≡ b → numbers_in (if b then entered v j (KeepLast most) p.accepted (p.find k) else p.find k) ≡ numbers (filter (of_key k) (p.entries ++ last ∷ []))
      by_key true h =
          numbers_more v j most p.accepted (p.find k) ∙ ap (λ l. insert_key nat_cmp l p.accepted) is
          ∙ key_last p.accepted (numbers (filter (of_key k) p.entries)) (below_numbers (of_key k) p.accepted p.entries s.below)
          ∙ sym (numbers_with (of_key k) (sym (key_tie e.key k) ∙ h))
      by_key false h = is ∙ sym (numbers_without (of_key k) (sym (key_tie e.key k) ∙ h))
  numbers_then k KeepAll is = by_key (is_key e.key k)
    where
      by_key : (b : Bool) → numbers_in (if b then entered v j KeepAll p.accepted (p.find k) else p.find k) ≡ []
      by_key true = numbers_same v j p.accepted (p.find k) ∙ is
      by_key false = is

  new_then : (k : KeyHash) → new_in (found k) ≡ is_new_behind past n ((cached p.keep past).is_new k) k
  new_then k = by_key (is_key e.key k) refl ∙ sym (ap (λ a. (cached p.keep past).is_new k || (is_value a && not (is_alive past k))) (m.about k))
    where
      by_value : (b : Bool) → new_in (entered b j p.keep p.accepted (p.find k)) ≡ ((cached p.keep past).is_new k || (is_value (about_of b) && not (is_alive past k)))
      by_value true = new_value j p.keep p.accepted (p.find k) ∙ ap (λ b. b || not (alive_in (p.find k))) (s.new k) ∙ ap (λ b. (cached p.keep past).is_new k || not b) (alive_is past p s k)
      by_value false = new_disposal j p.keep p.accepted (p.find k) ∙ s.new k ∙ sym (or_nothing ((cached p.keep past).is_new k) (not (is_alive past k)))

      by_key : (b : Bool) → is_key e.key k ≡ b → new_in (if b then entered v j p.keep p.accepted (p.find k) else p.find k)
          ≡ ((cached p.keep past).is_new k || (is_value (about_key (same_key e.key k) (about_of v)) && not (is_alive past k)))
      by_key true h = by_value v ∙ sym (ap (λ b. (cached p.keep past).is_new k || (is_value (about_key b (about_of v)) && not (is_alive past k))) (sym (key_tie e.key k) ∙ h))
      by_key false h = s.new k ∙ sym (or_nothing ((cached p.keep past).is_new k) (not (is_alive past k))) ∙ sym (ap (λ b. (cached p.keep past).is_new k || (is_value (about_key b (about_of v)) && not (is_alive past k))) (sym (key_tie e.key k) ∙ h))

  disposed_now : (k : KeyHash) → disposed_in (found k) ≡ disposed_by (told_about k n.what) (is_disposed past k)
  disposed_now k = by_key (is_key e.key k) refl ∙ sym (ap (λ a. disposed_by a (is_disposed past k)) (m.about k))
    where
      by_key : (b : Bool) → is_key e.key k ≡ b → disposed_in (if b then entered v j p.keep p.accepted (p.find k) else p.find k) ≡ disposed_by (about_key (same_key e.key k) (about_of v)) (is_disposed past k)
      by_key true h = disposed_then v j p.keep p.accepted (p.find k) (is_disposed past k) ∙ sym (ap (λ b. disposed_by (about_key b (about_of v)) (is_disposed past k)) (sym (key_tie e.key k) ∙ h))
      by_key false h = s.disposed k ∙ sym (ap (λ b. disposed_by (about_key b (about_of v)) (is_disposed past k)) (sym (key_tie e.key k) ∙ h))

  counts_then : (k : KeyHash) → count_in (found k) ≡ writers_in k (joined_by v pair p.live)
  counts_then k = by_value v (list_any (is_pair pair) p.live) refl
    where
      same : (u : Bool) → count_in (if is_key e.key k then entered u false p.keep p.accepted (p.find k) else p.find k) ≡ writers_in k p.live
      same u = by_key (is_key e.key k)
        where
          by_key : (b : Bool) → count_in (if b then entered u false p.keep p.accepted (p.find k) else p.find k) ≡ writers_in k p.live
          by_key true = count_same u p.keep p.accepted (p.find k) ∙ s.counts k
          by_key false = s.counts k

      more : list_any (is_pair pair) p.live ≡ false → count_in (if is_key e.key k then entered true true p.keep p.accepted (p.find k) else p.find k) ≡ writers_in k (insert_key pair_order p.live pair)
      more none = by_key (is_key e.key k) refl ∙ sym (count_put pair_order pair_total (λ (x : Pair). is_key k x.1) pair p.live none)
        where
          by_key : (b : Bool) → is_key e.key k ≡ b → count_in (if b then entered true true p.keep p.accepted (p.find k) else p.find k) ≡ (if is_key k e.key then suc (writers_in k p.live) else writers_in k p.live)
          by_key true h = count_more p.keep p.accepted (p.find k) ∙ ap (λ c. c + 1) (s.counts k) ∙ omega arith ∙ sym (ap (λ b. if b then suc (writers_in k p.live) else writers_in k p.live) (key_back k e.key ∙ h))
          by_key false h = s.counts k ∙ sym (ap (λ b. if b then suc (writers_in k p.live) else writers_in k p.live) (key_back k e.key ∙ h))

      by_value : (u b : Bool) → list_any (is_pair pair) p.live ≡ b
          → count_in (if is_key e.key k then entered u (joins u pair p.live) p.keep p.accepted (p.find k) else p.find k) ≡ writers_in k (joined_by u pair p.live)
      by_value true true h =
          ap (λ b. count_in (if is_key e.key k then entered true (not b) p.keep p.accepted (p.find k) else p.find k)) h ∙ same true
          ∙ sym (ap (λ b. writers_in k (if not b then insert_key pair_order p.live pair else p.live)) h)
      by_value true false h =
          ap (λ b. count_in (if is_key e.key k then entered true (not b) p.keep p.accepted (p.find k) else p.find k)) h ∙ more h
          ∙ sym (ap (λ b. writers_in k (if not b then insert_key pair_order p.live pair else p.live)) h)
      by_value false b h = same false

  live_then : (k : KeyHash) (w : Guid) → list_any (is_pair (w, k)) (joined_by v pair p.live) ≡ live_by (told_about k n.what) (same_guid n.writer w) (is_end n.what) (is_live past k w)
  live_then k w =
      by_value v ∙ sym (ap (λ a. live_by a (same_guid e.writer w) false (is_live past k w)) (m.about k))
      ∙ sym (ap (λ g. live_by (told_about k n.what) (same_guid g w) false (is_live past k w)) m.writer)
      ∙ sym (ap (λ b. live_by (told_about k n.what) (same_guid n.writer w) b (is_live past k w)) m.goes_on)
    where
      by_key : (u b : Bool) → same_key e.key k ≡ b → list_any (is_pair (w, k)) (joined_by u pair p.live) ≡ live_by (about_key b (about_of u)) (same_guid e.writer w) false (is_live past k w)
      by_key true true h =
          any_value (w, k) pair p.live ∙ ap (λ b. b || list_any (is_pair (w, k)) p.live) (pair_tie (w, k) pair ∙ ap (λ b. same_guid w e.writer && b) (key_turned k e.key ∙ h) ∙ and_true (same_guid w e.writer) ∙ same_turned w e.writer)
          ∙ ap (λ b. same_guid e.writer w || b) (s.live k w)
        where
          and_true : (b : Bool) → (b && true) ≡ b
          and_true true = refl
          and_true false = refl
      by_key true false h =
          any_value (w, k) pair p.live ∙ ap (λ b. b || list_any (is_pair (w, k)) p.live) (pair_tie (w, k) pair ∙ ap (λ b. same_guid w e.writer && b) (key_turned k e.key ∙ h) ∙ and_false (same_guid w e.writer))
          ∙ s.live k w ∙ sym (not_ended (same_guid e.writer w) (is_live past k w))
        where
          and_false : (b : Bool) → (b && false) ≡ false
          and_false true = refl
          and_false false = refl
      by_key false true h = s.live k w
      by_key false false h = s.live k w ∙ sym (not_ended (same_guid e.writer w) (is_live past k w))

      by_value : (u : Bool) → list_any (is_pair (w, k)) (joined_by u pair p.live) ≡ live_by (about_key (same_key e.key k) (about_of u)) (same_guid e.writer w) false (is_live past k w)
      by_value u = by_key u (same_key e.key k) refl

  sized_then : length e.key.0 ≡ 16 → AreSized (joined_by v pair p.live)
  sized_then h = by_joins j
    where
      by_joins : (b : Bool) → AreSized (if b then insert_key pair_order p.live pair else p.live)
      by_joins true = all_put pair_order pair_total (λ (x : Pair). length x.1.0 ≡ 16) pair p.live h s.sized
      by_joins false = s.sized

  pub put_stands : length e.key.0 ≡ 16 → Stood (Accepted n ∷ past) ((cached p.keep past).entries ++ e ∷ []) entered_parts
  put_stands h = record {
    entries = map_last p.entries ∙ ap (λ l. l ++ e ∷ []) s.entries;
    rising = rising_last 0 p.accepted e p.entries (omega arith) s.rising s.below;
    below = below_last p.accepted e p.entries s.below;
    there = there_then;
    numbers = λ k. numbers_then k p.keep (s.numbers k);
    new = new_then;
    disposed = disposed_now;
    counts = counts_then;
    live = live_then;
    sized = sized_then h;
  }
