-- What a cache keeps once the oldest entry of an instance left.
use Rattle.std.proofs.Common.{◌≡◌, ℕ, suc, ◌<◌, Bool, true, false, List, [], ◌∷◌, map, cond, length, Some, None, refl, sym, ap, ◌∙◌, subst, arith}
use Rattle.std.specs.List.{AllByRecursion, list_any}
use Rattle.std.specs.Map.{remove_entry}
use Rattle.std.specs.Option.{option_map}
use Rattle.std.specs.Prelude.{Option, filter, if◌then◌else◌, is_some, nat_lt}
use Rattle.std.specs.Set.{remove_key}
use Rattle.std.proofs.lemmas.Bool.Decides.{nat_tests}
use Rattle.std.proofs.lemmas.List.{length-map}
use Rattle.rtps_types.specs.declared.identity.KeyHash.{KeyHash}
use Rattle.dds_cache.specs.declared.entry.Entry.{Entry}
use Rattle.dds_cache.specs.declared.history.History.{History}
use Rattle.dds_cache.specs.declared.history.History.TheVariants.{KeepLast, KeepAll}
use Rattle.dds_cache.specs.Cache.{cached, first_by, is_of, kept_by, left_by, without_oldest}
use Rattle.dds_cache.specs.Calls.{Done}
use Rattle.dds_cache.specs.Coming.{dropped, without_first}
use Rattle.dds_cache.specs.Effects.{chosen_by, each, spend_each, spent, take_each, with_numbers}
use Rattle.dds_cache.specs.Standing.{InstanceView, Pair, Rising, StandsBy, count_in, disposed_in, is_key, is_number, new_in, numbers, numbers_in, of_key}
use Rattle.dds_cache.proofs.Answering.{parts_from}
use Rattle.dds_cache.proofs.Choosing.{first_zero, number_itself}
use Rattle.dds_cache.proofs.Entering.{Stood, stands_from}
use Rattle.dds_cache.proofs.Keys.{key_is, key_tie}
use Rattle.dds_cache.proofs.Lists.{all_left, any_left, left_map, rising_left}
use Rattle.dds_cache.proofs.Taking.{spends, takes}

pub left_none : {E : Type 0} (p : E → Bool) (es : List E) → left_by p 0 es ≡ es
left_none p [] = refl
left_none p (e ∷ es) = refl

some_still : (ns : List ℕ) (o : Option InstanceView) → is_some (option_map (with_numbers ns) o) ≡ is_some o
some_still ns None = refl
some_still ns (Some i) = refl

new_still : (ns : List ℕ) (o : Option InstanceView) → new_in (option_map (with_numbers ns) o) ≡ new_in o
new_still ns None = refl
new_still ns (Some i) = refl

disposed_still : (ns : List ℕ) (o : Option InstanceView) → disposed_in (option_map (with_numbers ns) o) ≡ disposed_in o
disposed_still ns None = refl
disposed_still ns (Some i) = refl

count_still : (ns : List ℕ) (o : Option InstanceView) → count_in (option_map (with_numbers ns) o) ≡ count_in o
count_still ns None = refl
count_still ns (Some i) = refl

same_cut : (n : ℕ) (ns : List ℕ) (o : Option InstanceView) → numbers_in o ≡ n ∷ ns → numbers_in (option_map (with_numbers ns) o) ≡ numbers_in (option_map (spent n) o)
same_cut n ns None is = absurd cc
same_cut n ns (Some i) is = sym (ap (remove_key (is_number n)) is ∙ ap (λ b. cond b ns (n ∷ remove_key (is_number n) ns)) (number_itself n))

module _ {M : Type 0} where
  pub oldest_is : (k : KeyHash) (l : List (Entry M)) → without_oldest k l ≡ left_by (is_of k) 1 l
  oldest_is k [] = refl
  oldest_is k (e ∷ es) = by_test (is_of k e) (oldest_is k es)
    where
      by_test : (b : Bool) → without_oldest k es ≡ left_by (is_of k) 1 es → (if b then es else e ∷ without_oldest k es) ≡ (if b then left_by (is_of k) 0 es else e ∷ left_by (is_of k) 1 es)
      by_test true more = sym (left_none (is_of k) es)
      by_test false more = ap (λ l. e ∷ l) more

  same_count : (k : KeyHash) (es : List (ℕ × Entry M)) → length (filter (of_key k) es) ≡ length (filter (is_of k) (map (λ e. e.1) es))
  same_count k [] = refl
  same_count k (e ∷ es) = by_test (of_key k e) (same_count k es)
    where
      by_test : (b : Bool) → length (filter (of_key k) es) ≡ length (filter (is_of k) (map (λ e. e.1) es))
          → length (if b then e ∷ filter (of_key k) es else filter (of_key k) es) ≡ length (if b then e.1 ∷ filter (is_of k) (map (λ e. e.1) es) else filter (is_of k) (map (λ e. e.1) es))
      by_test true more = ap suc more
      by_test false more = more

  -- the first entry of an instance has the first of its numbers
  record First (k : KeyHash) (n : ℕ) (es : List (ℕ × Entry M)) : Type 0 where
    pub entry : ℕ × Entry M
    pub number : entry.0 ≡ n
    pub key : entry.1.key ≡ k
    pub first : first_by (of_key k) 1 es ≡ entry ∷ []

  first_of : (k : KeyHash) (n : ℕ) (ns : List ℕ) (es : List (ℕ × Entry M)) → numbers (filter (of_key k) es) ≡ n ∷ ns → First k n es
  first_of k n ns [] is = absurd cc
  first_of k n ns (e ∷ es) is = by_test (of_key k e) refl is (first_of k n ns es)
    where
      by_test : (b : Bool) → of_key k e ≡ b → numbers (if b then e ∷ filter (of_key k) es else filter (of_key k) es) ≡ n ∷ ns → (numbers (filter (of_key k) es) ≡ n ∷ ns → First k n es) → First k n (e ∷ es)
      by_test true h is more = record {
        entry = e;
        number = cc;
        key = key_is e.1.key k (key_tie e.1.key k ∙ h);
        first = ap (λ b. if b then e ∷ first_by (of_key k) 0 es else first_by (of_key k) 1 es) h ∙ ap (λ l. e ∷ l) (first_zero (of_key k) es);
      }
      by_test false h is more =
          let f = more is in
          record { entry = f.entry; number = f.number; key = f.key; first = ap (λ b. if b then e ∷ first_by (of_key k) 0 es else first_by (of_key k) 1 es) h ∙ f.first }

  module _ (past : List (Done M)) (l : List (Entry M)) (key : KeyHash) (most accepted : ℕ) (es : List (ℕ × Entry M)) (find : KeyHash → Option InstanceView) (live : List Pair) (s : Stood past l (parts_from (KeepLast most) accepted es find live)) (n : ℕ) (rest : List ℕ) (is : numbers_in (find key) ≡ n ∷ rest) where
    f : First key n es
    f = first_of key n rest es (sym (s.numbers key) ∙ is)

    abbrev left : List (ℕ × Entry M)
    left = left_by (of_key key) 1 es

    taken : remove_entry (is_number n) es ≡ left
    taken =
        ap (λ m. remove_entry (is_number m) es) (sym f.number) ∙ sym (ap (λ x. take_each (map (chosen_by find) x) es) f.first)
        ∙ takes find (of_key key) 1 0 es s.rising

    abbrev found : KeyHash → Option InstanceView
    found k = if is_key key k then option_map (with_numbers rest) (find k) else find k

    still : {X : Type 0} (g : Option InstanceView → X) → ((o : Option InstanceView) → g (option_map (with_numbers rest) o) ≡ g o) → (k : KeyHash) → g (found k) ≡ g (find k)
    still g same k = by_key (is_key key k)
      where
        by_key : (b : Bool) → g (if b then option_map (with_numbers rest) (find k) else find k) ≡ g (find k)
        by_key true = same (find k)
        by_key false = refl

    cut : (k : KeyHash) → numbers_in (found k) ≡ numbers_in (if is_key key k then option_map (spent n) (find k) else find k)
    cut k = by_key (is_key key k) refl
      where
        by_key : (b : Bool) → is_key key k ≡ b → numbers_in (if b then option_map (with_numbers rest) (find k) else find k) ≡ numbers_in (if b then option_map (spent n) (find k) else find k)
        by_key true h = same_cut n rest (find k) (sym (ap (λ q. numbers_in (find q)) (key_is key k h)) ∙ is)
        by_key false h = refl

    numbers_left : (k : KeyHash) → numbers_in (found k) ≡ numbers (filter (of_key k) left)
    numbers_left k =
        cut k ∙ ap (λ m. numbers_in (if is_key key k then option_map (spent m) (find k) else find k)) (sym f.number)
        ∙ ap (λ q. numbers_in (if is_key q k then option_map (spent f.entry.0) (find k) else find k)) (sym f.key)
        ∙ sym (ap (λ x. numbers_in (each spend_each (map (chosen_by find) x) k (find k))) f.first)
        ∙ spends find k (of_key key) 1 0 es [] (find k) tt s.rising (s.numbers k)

    pub oldest_left : Stood past (without_oldest key l) (without_first key (n ∷ rest) (parts_from (KeepLast most) accepted es find live))
    oldest_left = record {
      entries = ap (map (λ e. e.1)) taken ∙ sym (left_map (λ e. e.1) (is_of key) 1 es) ∙ ap (left_by (is_of key) 1) s.entries ∙ sym (oldest_is key l);
      rising = subst (Rising 0) (sym taken) (rising_left (of_key key) 1 0 es s.rising);
      below = subst (AllByRecursion (λ e. e.0 < accepted)) (sym taken) (all_left (λ e. e.0 < accepted) (of_key key) 1 es s.below);
      there = λ k h. still is_some (some_still rest) k ∙ s.there k (any_left (of_key k) (of_key key) 1 es (ap (list_any (of_key k)) (sym taken) ∙ h));
      numbers = λ k. numbers_left k ∙ ap (λ x. numbers (filter (of_key k) x)) (sym taken);
      new = λ k. still new_in (new_still rest) k ∙ s.new k;
      disposed = λ k. still disposed_in (disposed_still rest) k ∙ s.disposed k;
      counts = λ k. still count_in (count_still rest) k ∙ s.counts k;
      live = s.live;
      sized = s.sized;
    }

  pub dropping : (past : List (Done M)) (l : List (Entry M)) (key : KeyHash) (keep : History) (accepted : ℕ) (es : List (ℕ × Entry M)) (find : KeyHash → Option InstanceView) (live : List Pair)
      → Stood past l (parts_from keep accepted es find live) → kept_by keep key l ≡ (cached keep past).entries → StandsBy past (dropped key keep (parts_from keep accepted es find live))
  dropping past l key KeepAll accepted es find live s is = stands_from past l (parts_from KeepAll accepted es find live) s is
  dropping past l key (KeepLast most) accepted es find live s is = by_test (nat_lt most (length (numbers_in (find key)))) refl
    where
      same_length : length (numbers_in (find key)) ≡ length (filter (is_of key) l)
      same_length = ap length (s.numbers key) ∙ length-map (filter (of_key key) es) (λ (e : ℕ × Entry M). e.0) ∙ same_count key es ∙ ap (λ x. length (filter (is_of key) x)) s.entries

      same_test : nat_lt most (length (filter (is_of key) l)) ≡ nat_lt most (length (numbers_in (find key)))
      same_test = ap (nat_lt most) (sym same_length)

      none_more : nat_lt most 0 ≡ false
      none_more = grind (arith, nat_tests)

      by_numbers : (ms : List ℕ) → numbers_in (find key) ≡ ms → nat_lt most (length (numbers_in (find key))) ≡ true → StandsBy past (without_first key ms (parts_from (KeepLast most) accepted es find live))
      by_numbers [] e h = let bad : true ≡ false = sym h ∙ ap (λ x. nat_lt most (length x)) e ∙ none_more in absurd cc
      by_numbers (n ∷ rest) e h =
          stands_from past (without_oldest key l) (without_first key (n ∷ rest) (parts_from (KeepLast most) accepted es find live))
          (oldest_left past l key most accepted es find live s n rest e)
          (sym (ap (λ b. if b then without_oldest key l else l) (same_test ∙ h)) ∙ is)

      by_test : (b : Bool) → nat_lt most (length (numbers_in (find key))) ≡ b
          → StandsBy past (if b then without_first key (numbers_in (find key)) (parts_from (KeepLast most) accepted es find live) else parts_from (KeepLast most) accepted es find live)
      by_test true h = by_numbers (numbers_in (find key)) refl h
      by_test false h = stands_from past l (parts_from (KeepLast most) accepted es find live) s (sym (ap (λ b. if b then without_oldest key l else l) (same_test ∙ h)) ∙ is)
