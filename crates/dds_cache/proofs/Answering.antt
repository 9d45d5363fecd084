-- What a call answers, and what a cache keeps after it took entries.
use Rattle.std.proofs.Common.{◌≡◌, ℕ, ◌<◌, Bool, true, false, List, [], ◌∷◌, map, Some, None, refl, sym, ap, ◌∙◌, subst}
use Rattle.std.proofs.Math.Path.{fun_ext}
use Rattle.std.specs.Prelude.{Option, is_some, not, ◌&&◌, ◌||◌, nat_lt}
use Rattle.std.specs.Option.{option_map}
use Rattle.std.specs.List.{list_any}
use Rattle.rtps_types.specs.declared.identity.KeyHash.{KeyHash}
use Rattle.dds_cache.specs.declared.choose.Chosen.{Chosen}
use Rattle.dds_cache.specs.declared.condition.Condition.{Condition}
use Rattle.dds_cache.specs.declared.entry.Entry.{Entry}
use Rattle.dds_cache.specs.declared.entry.Sample.{Sample}
use Rattle.dds_cache.specs.declared.history.History.{History}
use Rattle.dds_cache.specs.declared.history.History.TheVariants.{KeepLast, KeepAll}
use Rattle.dds_cache.specs.Answered.{answered, sample_state, shown, shown_by, view_state}
use Rattle.dds_cache.specs.Cache.{cached, first_by, is_of, left_by, meets}
use Rattle.dds_cache.specs.Calls.{Done, WasTaken}
use Rattle.dds_cache.specs.Effects.{HandsOver, IsSame, take_each, take_shown, chosen_by, each, passes, shown_as, spend_each}
use Rattle.dds_cache.specs.Instances.{is_disposed, state_by}
use Rattle.dds_cache.specs.Standing.{InstanceView, Pair, CacheIndex, StandsBy, alive_in, count_in, disposed_in, is_key, new_in, numbers_in, numbers_kept, of_key}
use Rattle.dds_cache.proofs.Keys.{key_tie}
use Rattle.dds_cache.proofs.Lists.{all_left, any_first, any_left, any_map, first_map, left_map, rising_left}
use Rattle.dds_cache.proofs.Living.{alive_is, has_live_is}
use Rattle.dds_cache.proofs.Taking.{chosen, each_keeps, each_new, each_none, none_spent, spends, takes, takes_shown}

-- ---- the same parts

abbrev pub parts_from : {M : Type 0} → History → ℕ → List (ℕ × Entry M) → (KeyHash → Option InstanceView) → List Pair → CacheIndex M
parts_from keep accepted entries find live = record { keep = keep; accepted = accepted; entries = entries; find = find; live = live }

pub same_parts : {M : Type 0} (p q : CacheIndex M) → IsSame p q → q ≡ p
same_parts p q is =
    ap (λ x. parts_from x q.accepted q.entries q.find q.live) is.keep
    ∙ ap (λ x. parts_from p.keep x q.entries q.find q.live) is.accepted
    ∙ ap (λ x. parts_from p.keep p.accepted x q.find q.live) is.entries
    ∙ ap (λ x. parts_from p.keep p.accepted p.entries x q.live) (fun_ext is.find)
    ∙ ap (λ x. parts_from p.keep p.accepted p.entries p.find x) is.live

pub stands_same : {M : Type 0} (past : List (Done M)) (p q : CacheIndex M) → IsSame p q → StandsBy past p → StandsBy past q
stands_same past p q is s = subst (StandsBy past) (sym (same_parts p q is)) s

map_map : {A B C : Type 0} (g : A → B) (f : B → C) (l : List A) → map f (map g l) ≡ map (λ x. f (g x)) l
map_map g f [] = refl
map_map g f (x ∷ xs) = ap (λ l. f (g x) ∷ l) (map_map g f xs)

keeps_some : (c : Chosen) (o : Option InstanceView) → is_some (option_map (spend_each c) o) ≡ is_some o
keeps_some c None = refl
keeps_some c (Some i) = refl

keeps_disposed : (c : Chosen) (o : Option InstanceView) → disposed_in (option_map (spend_each c) o) ≡ disposed_in o
keeps_disposed c None = refl
keeps_disposed c (Some i) = refl

keeps_count : (c : Chosen) (o : Option InstanceView) → count_in (option_map (spend_each c) o) ≡ count_in o
keeps_count c None = refl
keeps_count c (Some i) = refl

module _ {M : Type 0} (past : List (Done M)) (p : CacheIndex M) (s : StandsBy past p) (flags : Condition) where
  abbrev meet : Entry M → Bool
  meet = meets past (cached p.keep past) flags

  pub test : passes p.find flags ≡ (λ e. meet e.1)
  test = fun_ext (λ e.
      ap (λ b. (not flags.not_read || not e.1.is_read) && ((not flags.new || b) && (not flags.alive || alive_in (p.find e.1.key)))) (s.new e.1.key)
      ∙ ap (λ b. (not flags.not_read || not e.1.is_read) && ((not flags.new || (cached p.keep past).is_new e.1.key) && (not flags.alive || b))) (alive_is past p s e.1.key))

  abbrev handed : ℕ × Entry M → Sample M
  handed e = shown_as e.1 (chosen_by p.find e)

  abbrev said : ℕ × Entry M → Sample M
  said e = shown_by past (cached p.keep past) e.1

  shows : handed ≡ said
  shows = fun_ext (λ e.
      ap (λ b. shown e.1 (sample_state e.1.is_read) (view_state b) (state_by (disposed_in (p.find e.1.key)) (nat_lt 0 (count_in (p.find e.1.key))))) (s.new e.1.key)
      ∙ ap (λ b. shown e.1 (sample_state e.1.is_read) (view_state ((cached p.keep past).is_new e.1.key)) (state_by b (nat_lt 0 (count_in (p.find e.1.key))))) (s.disposed e.1.key)
      ∙ ap (λ b. shown e.1 (sample_state e.1.is_read) (view_state ((cached p.keep past).is_new e.1.key)) (state_by (is_disposed past e.1.key) b)) (has_live_is past p s e.1.key))

  pub firsts : (max : ℕ) → map (λ e. e.1) (first_by (passes p.find flags) max p.entries) ≡ first_by meet max (cached p.keep past).entries
  firsts max =
      ap (λ t. map (λ e. e.1) (first_by t max p.entries)) test
      ∙ sym (first_map (λ e. e.1) meet max p.entries) ∙ ap (first_by meet max) s.entries

  -- what is handed over is what the definition says
  pub answers : (max : ℕ) → map (λ e. shown_as e.1 (chosen_by p.find e)) (first_by (passes p.find flags) max p.entries) ≡ answered p.keep past max flags
  answers max =
      ap (λ f. map f (first_by (passes p.find flags) max p.entries)) shows
      ∙ sym (map_map (λ e. e.1) (shown_by past (cached p.keep past)) (first_by (passes p.find flags) max p.entries))
      ∙ ap (map (shown_by past (cached p.keep past))) (firsts max)

  abbrev pub picked : ℕ → List Chosen
  picked max = chosen p.find (passes p.find flags) max p.entries

  any_picked : (max : ℕ) (k : KeyHash) → list_any (λ (c : Chosen). is_key c.key k) (picked max) ≡ list_any (of_key k) (first_by (passes p.find flags) max p.entries)
  any_picked max k =
      any_map (chosen_by p.find) (λ (c : Chosen). is_key c.key k) (first_by (passes p.find flags) max p.entries)
      ∙ ap (λ t. list_any t (first_by (passes p.find flags) max p.entries)) (fun_ext (λ (e : ℕ × Entry M). key_tie e.1.key k))

  any_answered : (max : ℕ) (k : KeyHash) → list_any (λ (c : Chosen). is_key c.key k) (picked max) ≡ list_any (is_of k) (first_by meet max (cached p.keep past).entries)
  any_answered max k = any_picked max k ∙ sym (any_map (λ (e : ℕ × Entry M). e.1) (is_of k) (first_by (passes p.find flags) max p.entries)) ∙ ap (list_any (is_of k)) (firsts max)

  -- an instance isn't new any more once an entry of it was answered
  pub new_after : (f : Chosen → InstanceView → InstanceView) → ((c : Chosen) (i : InstanceView) → (f c i).is_new ≡ false) → (max : ℕ) (k : KeyHash)
      → new_in (each f (picked max) k (p.find k)) ≡ ((cached p.keep past).is_new k && not (list_any (is_of k) (first_by meet max (cached p.keep past).entries)))
  new_after f old max k = by_find (p.find k) refl
    where
      not_any : p.find k ≡ None → list_any (λ (c : Chosen). is_key c.key k) (picked max) ≡ false
      not_any none = by_any (list_any (λ (c : Chosen). is_key c.key k) (picked max)) refl
        where
          by_any : (b : Bool) → list_any (λ (c : Chosen). is_key c.key k) (picked max) ≡ b → b ≡ false
          by_any true e = let some : is_some (p.find k) ≡ true = s.there k (any_first (of_key k) (passes p.find flags) max p.entries (sym (any_picked max k) ∙ e)) in absurd (cc (some, none))
          by_any false e = refl

      by_find : (o : Option InstanceView) → p.find k ≡ o → new_in (each f (picked max) k (p.find k)) ≡ ((cached p.keep past).is_new k && not (list_any (is_of k) (first_by meet max (cached p.keep past).entries)))
      by_find None e =
          ap (λ o. new_in (each f (picked max) k o)) e ∙ ap new_in (each_none f (picked max) k)
          ∙ ap (λ b. true && not b) (sym (not_any e)) ∙ ap (λ b. b && not (list_any (λ (c : Chosen). is_key c.key k) (picked max))) (ap new_in (sym e) ∙ s.new k)
          ∙ ap (λ b. (cached p.keep past).is_new k && not b) (any_answered max k)
      by_find (Some i) e =
          ap (λ o. new_in (each f (picked max) k o)) e ∙ each_new f old (picked max) k i
          ∙ ap (λ b. b && not (list_any (λ (c : Chosen). is_key c.key k) (picked max))) (ap new_in (sym e) ∙ s.new k)
          ∙ ap (λ b. (cached p.keep past).is_new k && not b) (any_answered max k)

  -- ---- once entries were taken

  abbrev pub without : ℕ → CacheIndex M
  without max = parts_from p.keep p.accepted (left_by (passes p.find flags) max p.entries) (λ k. each spend_each (picked max) k (p.find k)) p.live

  numbers_left : (max : ℕ) (k : KeyHash) (keep : History) (o : Option InstanceView) → numbers_in o ≡ numbers_kept keep k p.entries
      → numbers_in (each spend_each (picked max) k o) ≡ numbers_kept keep k (left_by (passes p.find flags) max p.entries)
  numbers_left max k (KeepLast n) o is = spends p.find k (passes p.find flags) max 0 p.entries [] o tt s.rising is
  numbers_left max k KeepAll o is = none_spent k (picked max) o is

  pub taken_stands : (max : ℕ) → StandsBy (WasTaken max flags ∷ past) (without max)
  taken_stands max = record {
    entries = ap (λ t. map (λ e. e.1) (left_by t max p.entries)) test ∙ sym (left_map (λ e. e.1) meet max p.entries) ∙ ap (left_by meet max) s.entries;
    rising = rising_left (passes p.find flags) max 0 p.entries s.rising;
    below = all_left (λ e. e.0 < p.accepted) (passes p.find flags) max p.entries s.below;
    there = λ k h. each_keeps spend_each is_some keeps_some (picked max) k (p.find k) ∙ s.there k (any_left (of_key k) (passes p.find flags) max p.entries h);
    numbers = λ k. numbers_left max k p.keep (p.find k) (s.numbers k);
    new = λ k. new_after spend_each (λ c i. refl) max k;
    disposed = λ k. each_keeps spend_each disposed_in keeps_disposed (picked max) k (p.find k) ∙ s.disposed k;
    counts = λ k. each_keeps spend_each count_in keeps_count (picked max) k (p.find k) ∙ s.counts k;
    live = s.live;
    sized = s.sized;
  }

  pub took : (max : ℕ) (cs : List Chosen) (q : CacheIndex M) → cs ≡ picked max → HandsOver cs p q → StandsBy (WasTaken max flags ∷ past) q
  took max cs q is h =
      let same : IsSame (without max) q = record {
        keep = h.keep;
        accepted = h.accepted;
        entries = h.entries ∙ ap (λ l. take_each l p.entries) is ∙ takes p.find (passes p.find flags) max 0 p.entries s.rising;
        find = λ k. h.find k ∙ ap (λ l. each spend_each l k (p.find k)) is;
        live = h.live;
      } in
      stands_same (WasTaken max flags ∷ past) (without max) q same (taken_stands max)

  pub took_shown : (max : ℕ) (cs : List Chosen) → cs ≡ picked max → take_shown cs p.entries ≡ answered p.keep past max flags
  took_shown max cs is = ap (λ l. take_shown l p.entries) is ∙ takes_shown p.find (passes p.find flags) max 0 p.entries s.rising ∙ answers max
