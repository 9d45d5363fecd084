-- An instance has a live writer where the count of its live writers isn't 0.
use Rattle.std.proofs.Common.{◌≡◌, Bool, true, false, List, [], ◌∷◌, refl, sym, ap, ◌∙◌}
use Rattle.std.specs.Cmp.{both_ways}
use Rattle.std.specs.Prelude.{not, ◌&&◌, ◌||◌, nat_lt}
use Rattle.std.specs.List.{list_any}
use Rattle.rtps_types.specs.declared.identity.Guid.{Guid}
use Rattle.rtps_types.specs.declared.identity.KeyHash.{KeyHash}
use Rattle.rtps_proxy.specs.Matches.{same_guid}
use Rattle.dds_cache.specs.Calls.{Done, Accepted, WasRead, WasTaken, same_key}
use Rattle.dds_cache.specs.Instances.{About, AValue, ADisposal, AnUnregistration, Nothing, alive_by, brought, has_live, is_alive, is_end, is_live, is_value, live_by, told_about}
use Rattle.dds_cache.specs.Standing.{Pair, CacheIndex, StandsBy, alive_in, count_in, is_key, is_pair}
use Rattle.dds_cache.proofs.Keys.{and_left, and_right, guid_is, guid_tie, itself, key_tie, guid_total, pair_tie}
use Rattle.rtps_types.specs.Order.{guid_order}
use Rattle.dds_cache.proofs.Lists.{any_count, any_from, or_left, or_right, witness}

and_so : (a b : Bool) → (not a && b) ≡ true → b ≡ true
and_so true b h = absurd cc
and_so false b h = h

pub both_true : (a b : Bool) → a ≡ true → b ≡ true → (a && b) ≡ true
both_true true b h k = k
both_true false b h k = absurd cc

abbrev Lately : {M : Type 0} → List (Done M) → KeyHash → Guid → Type 0
Lately past k w = is_live past k w ≡ true → list_any (brought (λ g. same_guid g w) k) past ≡ true

-- a live writer has brought a value
live_brought : {M : Type 0} (past : List (Done M)) (k : KeyHash) (w : Guid) → is_live past k w ≡ true → list_any (brought (λ g. same_guid g w) k) past ≡ true
live_brought [] k w h = absurd cc
live_brought (Accepted n ∷ past) k w h = by_about (told_about k n.what) refl h (live_brought past k w)
  where
    later : Lately past k w → is_live past k w ≡ true → list_any (brought (λ g. same_guid g w) k) (Accepted n ∷ past) ≡ true
    later more h = or_right (is_value (told_about k n.what) && same_guid n.writer w) (list_any (brought (λ g. same_guid g w) k) past) (more h)

    by_it : Lately past k w → (b : Bool) → same_guid n.writer w ≡ b → told_about k n.what ≡ AValue → (b || is_live past k w) ≡ true → list_any (brought (λ g. same_guid g w) k) (Accepted n ∷ past) ≡ true
    by_it more true is about h = or_left (is_value (told_about k n.what) && same_guid n.writer w) (list_any (brought (λ g. same_guid g w) k) past) (ap (λ a. is_value a && same_guid n.writer w) about ∙ is)
    by_it more false is about h = later more h

    by_about : (a : About) → told_about k n.what ≡ a → live_by a (same_guid n.writer w) (is_end n.what) (is_live past k w) ≡ true → Lately past k w → list_any (brought (λ g. same_guid g w) k) (Accepted n ∷ past) ≡ true
    by_about AValue is h more = by_it more (same_guid n.writer w) refl is h
    by_about ADisposal is h more = later more h
    by_about AnUnregistration is h more = later more (and_so (same_guid n.writer w) (is_live past k w) h)
    by_about Nothing is h more = later more (and_so (same_guid n.writer w && is_end n.what) (is_live past k w) h)
live_brought (WasRead max c ∷ past) k w h = live_brought past k w h
live_brought (WasTaken max c ∷ past) k w h = live_brought past k w h

module _ {M : Type 0} (past : List (Done M)) (k : KeyHash) (live : List Pair) (is : (w : Guid) → list_any (is_pair (w, k)) live ≡ is_live past k w) where
  by_one : (w : Guid) → is_live past k w ≡ true → (d : Done M) → brought (λ g. same_guid g w) k d ≡ true → brought (is_live past k) k d ≡ true
  by_one w lives (Accepted n) h =
      let same : n.writer ≡ w = guid_is n.writer w (and_right (is_value (told_about k n.what)) (same_guid n.writer w) h) in
      both_true (is_value (told_about k n.what)) (is_live past k n.writer) (and_left (is_value (told_about k n.what)) (same_guid n.writer w) h) (ap (is_live past k) same ∙ lives)
  by_one w lives (WasRead max c) h = absurd cc
  by_one w lives (WasTaken max c) h = absurd cc

  -- a pair of the list, as a writer of the instance
  there : (l : List Pair) → list_any (λ (p : Pair). is_key k p.1) l ≡ true → (w : Guid) × (list_any (is_pair (w, k)) l ≡ true)
  there [] h = absurd cc
  there (x ∷ xs) h = by_test (is_key k x.1) refl h (there xs)
    where
      by_test : (b : Bool) → is_key k x.1 ≡ b → (b || list_any (λ (p : Pair). is_key k p.1) xs) ≡ true → (list_any (λ (p : Pair). is_key k p.1) xs ≡ true → (w : Guid) × (list_any (is_pair (w, k)) xs ≡ true)) → (w : Guid) × ((is_pair (w, k) x || list_any (is_pair (w, k)) xs) ≡ true)
      by_test true same h rest = (x.0, or_left (is_pair (x.0, k) x) (list_any (is_pair (x.0, k)) xs) (pair_tie (x.0, k) x ∙ both_true (same_guid x.0 x.0) (same_key k x.1) (sym (guid_tie x.0 x.0) ∙ itself guid_order guid_total x.0) (sym (key_tie k x.1) ∙ same)))
      by_test false same h rest = let more = rest h in (more.0, or_right (is_pair (more.0, k) x) (list_any (is_pair (more.0, k)) xs) more.1)

  forth : list_any (λ (p : Pair). is_key k p.1) live ≡ true → has_live past k ≡ true
  forth h =
      let found = there live h in
      let lives : is_live past k found.0 ≡ true = sym (is found.0) ∙ found.1 in
      any_from (brought (λ g. same_guid g found.0) k) (brought (is_live past k) k) (by_one found.0 lives) past (live_brought past k found.0 lives)

  back : has_live past k ≡ true → list_any (λ (p : Pair). is_key k p.1) live ≡ true
  back h =
      let found = witness (brought (is_live past k) k) past h in
      by_done found.0 found.1
    where
      by_done : (d : Done M) → brought (is_live past k) k d ≡ true → list_any (λ (p : Pair). is_key k p.1) live ≡ true
      by_done (Accepted n) e =
          let lives : is_live past k n.writer ≡ true = and_right (is_value (told_about k n.what)) (is_live past k n.writer) e in
          any_from (is_pair (n.writer, k)) (λ (p : Pair). is_key k p.1) (λ x s. key_tie k x.1 ∙ and_right (same_guid n.writer x.0) (same_key k x.1) (sym (pair_tie (n.writer, k) x) ∙ s)) live (is n.writer ∙ lives)
      by_done (WasRead max c) e = absurd cc
      by_done (WasTaken max c) e = absurd cc

  pub lives : list_any (λ (p : Pair). is_key k p.1) live ≡ has_live past k
  lives = both_ways (list_any (λ (p : Pair). is_key k p.1) live) (has_live past k) forth back

pub has_live_is : {M : Type 0} (past : List (Done M)) (p : CacheIndex M) → StandsBy past p → (k : KeyHash) → nat_lt 0 (count_in (p.find k)) ≡ has_live past k
has_live_is past p s k = ap (nat_lt 0) (s.counts k) ∙ any_count (λ (x : Pair). is_key k x.1) p.live ∙ lives past k p.live (s.live k)

pub alive_is : {M : Type 0} (past : List (Done M)) (p : CacheIndex M) → StandsBy past p → (k : KeyHash) → alive_in (p.find k) ≡ is_alive past k
alive_is past p s k = ap (λ b. alive_by b (nat_lt 0 (count_in (p.find k)))) (s.disposed k) ∙ ap (alive_by _) (has_live_is past p s k)
