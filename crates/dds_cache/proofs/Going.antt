-- What a cache keeps once writers are not live any more, and where a notice makes no entry.
use Rattle.std.proofs.Common.{◌≡◌, ◌+◌, ◌-◌, Bool, true, false, cond, List, [], ◌∷◌, length, Some, None, refl, sym, ap, ◌∙◌, subst, arith}
use Rattle.std.specs.List.{list_any}
use Rattle.std.specs.Option.{option_map}
use Rattle.std.specs.Prelude.{Option, filter, if◌then◌else◌, is_some, not, ◌&&◌, ◌||◌}
use Rattle.std.specs.Set.{remove_key}
use Rattle.rtps_types.specs.declared.identity.Guid.{Guid}
use Rattle.rtps_types.specs.declared.identity.KeyHash.{KeyHash}
use Rattle.rtps_proxy.specs.Matches.{same_guid}
use Rattle.rtps_types.specs.declared.number.Number.{Number}
use Rattle.rtps_types.specs.declared.time.Timestamp.{Timestamp}
use Rattle.rtps_reader.specs.declared.body.Body.TheVariants as body
use Rattle.rtps_reader.specs.declared.notice.Notice.{Notice}
use Rattle.rtps_reader.specs.declared.notice.NoticeKind.TheVariants as kind
use Rattle.dds_cache.specs.declared.index.Index.{Index}
use Rattle.dds_cache.specs.Cache.{cached, entry_by, with_entry}
use Rattle.dds_cache.specs.Calls.{Done, Accepted, same_key}
use Rattle.dds_cache.specs.Departing.{AreCounted, Departs, Ends, KeepsRest, is_by, uncounted}
use Rattle.dds_cache.specs.Effects.{ChangesAt, IsSame, left}
use Rattle.dds_cache.specs.Instances.{AnUnregistration, about_key, disposed_by, is_alive, is_disposed, is_end, is_live, is_value, live_by, told_about}
use Rattle.dds_cache.specs.Placed.{ShelfView}
use Rattle.dds_cache.specs.Standing.{AreSized, InstanceView, Pair, CacheIndex, StandsBy, count_in, disposed_in, is_key, is_pair, known_at, new_in, numbers_in, pair_order, parts, writers_in}
use Rattle.dds_cache.proofs.Answering.{parts_from, stands_same}
use Rattle.dds_cache.proofs.Entering.{key_back, or_nothing, pair_back}
use Rattle.dds_cache.proofs.Keys.{guid_is, pair_tie, pair_total}
use Rattle.dds_cache.proofs.Placing.{all_taken}

-- ---- what is known besides the count of live writers

some_rest : (o : Option InstanceView) → is_some (uncounted o) ≡ is_some o
some_rest None = refl
some_rest (Some i) = refl

new_rest : (o : Option InstanceView) → new_in (uncounted o) ≡ new_in o
new_rest None = refl
new_rest (Some i) = refl

disposed_rest : (o : Option InstanceView) → disposed_in (uncounted o) ≡ disposed_in o
disposed_rest None = refl
disposed_rest (Some i) = refl

numbers_rest : (o : Option InstanceView) → numbers_in (uncounted o) ≡ numbers_in o
numbers_rest None = refl
numbers_rest (Some i) = refl

module _ {A M : Type 0} (past : List (Done M)) (n : Notice M) (leaves : Pair → Bool) (e : Ends n leaves) (old new : Index A) (es : ShelfView M) where
  abbrev found : KeyHash → Option InstanceView
  found = known_at new.instances.entries

  abbrev left_parts : CacheIndex M
  left_parts = parts_from old.keep es.next es.entries found new.live.keys

  module _ (d : Departs leaves old new) where
    rest : {X : Type 0} (g : Option InstanceView → X) → ((o : Option InstanceView) → g (uncounted o) ≡ g o) → (k : KeyHash) → g (found k) ≡ g (known_at old.instances.entries k)
    rest g keeps k = sym (keeps (found k)) ∙ ap g (d.rest k) ∙ keeps (known_at old.instances.entries k)

    pub departed : StandsBy past (parts old es) → StandsBy (Accepted n ∷ past) (parts new es)
    departed s =
        let here : StandsBy (Accepted n ∷ past) left_parts = record {
          entries = s.entries ∙ sym (ap (with_entry old.keep (cached old.keep past).entries) e.none);
          rising = s.rising;
          below = s.below;
          there = λ k h. rest is_some some_rest k ∙ s.there k h;
          numbers = λ k. rest numbers_in numbers_rest k ∙ s.numbers k;
          new = λ k. rest new_in new_rest k ∙ s.new k ∙ sym (or_nothing ((cached old.keep past).is_new k) (not (is_alive past k))) ∙ sym (ap (λ b. (cached old.keep past).is_new k || (b && not (is_alive past k))) (e.value k));
          disposed = λ k. rest disposed_in disposed_rest k ∙ s.disposed k ∙ sym (e.disposed k (is_disposed past k));
          counts = d.counted s.counts;
          live = λ k w. d.live (w, k) ∙ ap (λ b. not (leaves (w, k)) && b) (s.live k w) ∙ sym (e.live k w (is_live past k w));
          sized = d.sized s.sized;
        } in
        let same : IsSame left_parts (parts new es) = record { keep = d.keep; accepted = refl; entries = refl; find = λ k. refl; live = refl } in
        stands_same (Accepted n ∷ past) left_parts (parts new es) same here

-- no pair leaves
pub none_departs : {A : Type 0} (index : Index A) → Departs (λ p. false) index index
none_departs index = record { keep = refl; rest = λ k. refl; counted = λ h. h; live = λ p. refl; sized = λ h. h }

-- ---- a writer leaves one instance

-- what is taken out is counted no more
taken_count : (f : Pair → Bool) (p : Pair) (live : List Pair) → list_any (is_pair p) live ≡ true → length (filter f (remove_key (is_pair p) live)) + (if f p then 1 else 0) ≡ length (filter f live)
taken_count f p [] h = absurd cc
taken_count f p (x ∷ xs) h = by_pair (is_pair p x) refl h (taken_count f p xs)
  where
    here : (b : Bool) → length (filter f xs) + (if b then 1 else 0) ≡ length (if b then x ∷ filter f xs else filter f xs)
    here true = omega arith
    here false = omega arith

    there : (b : Bool) → length (filter f (remove_key (is_pair p) xs)) + (if f p then 1 else 0) ≡ length (filter f xs)
        → length (if b then x ∷ filter f (remove_key (is_pair p) xs) else filter f (remove_key (is_pair p) xs)) + (if f p then 1 else 0) ≡ length (if b then x ∷ filter f xs else filter f xs)
    there true more = omega (arith, more)
    there false more = more

    by_pair : (b : Bool) → is_pair p x ≡ b → (b || list_any (is_pair p) xs) ≡ true → (list_any (is_pair p) xs ≡ true → length (filter f (remove_key (is_pair p) xs)) + (if f p then 1 else 0) ≡ length (filter f xs))
        → length (filter f (cond b xs (x ∷ remove_key (is_pair p) xs))) + (if f p then 1 else 0) ≡ length (if f x then x ∷ filter f xs else filter f xs)
    by_pair true is h more = ap (λ y. length (filter f xs) + (if f y then 1 else 0)) (pair_back p x is) ∙ here (f x)
    by_pair false is h more = there (f x) (more h)

module _ {A : Type 0} (old new : Index A) (w : Guid) (key : KeyHash) where
  abbrev pair : Pair
  pair = (w, key)

  pub one_departs : new.keep ≡ old.keep → list_any (is_pair pair) old.live.keys ≡ true → new.live.keys ≡ remove_key (is_pair pair) old.live.keys
      → ((q : Pair) → list_any (is_pair q) new.live.keys ≡ cond (is_pair pair q) false (list_any (is_pair q) old.live.keys)) → ChangesAt key (option_map left) (known_at old.instances.entries) (known_at new.instances.entries) → Departs (is_pair pair) old new
  one_departs keep there taken others changes = record {
    keep = keep;
    rest = λ k. ap uncounted (changes k) ∙ rest_by (is_key key k) (known_at old.instances.entries k);
    counted = λ h k. counted_by h k (is_key key k) refl;
    live = λ q. others q ∙ live_by_pair (is_pair pair q) (list_any (is_pair q) old.live.keys);
    sized = λ h. subst AreSized (sym taken) (all_taken pair_order pair_total (λ (x : Pair). length x.1.0 ≡ 16) (is_pair pair) old.live.keys h);
  }
    where
      rest_by : (b : Bool) (o : Option InstanceView) → uncounted (if b then option_map left o else o) ≡ uncounted o
      rest_by true None = refl
      rest_by true (Some i) = refl
      rest_by false o = refl

      live_by_pair : (b r : Bool) → cond b false r ≡ (not b && r)
      live_by_pair true r = refl
      live_by_pair false r = refl

      fewer : (o : Option InstanceView) → count_in (option_map left o) ≡ count_in o - 1
      fewer None = omega arith
      fewer (Some i) = refl

      counted_by : AreCounted (known_at old.instances.entries) old.live.keys → (k : KeyHash) (b : Bool) → is_key key k ≡ b → count_in (known_at new.instances.entries k) ≡ writers_in k new.live.keys
      counted_by h k b is =
          let sum : length (filter (λ (p : Pair). is_key k p.1) (remove_key (is_pair pair) old.live.keys)) + (if b then 1 else 0) ≡ writers_in k old.live.keys =
          ap (λ c. length (filter (λ (p : Pair). is_key k p.1) (remove_key (is_pair pair) old.live.keys)) + (if c then 1 else 0)) (sym (key_back k key ∙ is)) ∙ taken_count (λ (p : Pair). is_key k p.1) pair old.live.keys there in
          ap count_in (changes k) ∙ ap (λ c. count_in (if c then option_map left (known_at old.instances.entries k) else known_at old.instances.entries k)) is
          ∙ by_key b sum ∙ sym (ap (writers_in k) taken)
        where
          by_key : (b : Bool) → length (filter (λ (p : Pair). is_key k p.1) (remove_key (is_pair pair) old.live.keys)) + (if b then 1 else 0) ≡ writers_in k old.live.keys
              → count_in (if b then option_map left (known_at old.instances.entries k) else known_at old.instances.entries k) ≡ writers_in k (remove_key (is_pair pair) old.live.keys)
          by_key true sum = fewer (known_at old.instances.entries k) ∙ ap (λ c. c - 1) (h k) ∙ omega (arith, sum)
          by_key false sum = h k ∙ omega (arith, sum)

  -- it wasn't live there
  pub absent_departs : new.keep ≡ old.keep → list_any (is_pair pair) old.live.keys ≡ false → new.live.keys ≡ old.live.keys
      → new.instances.entries ≡ old.instances.entries → Departs (is_pair pair) old new
  absent_departs keep none same found = record {
    keep = keep;
    rest = λ k. ap (λ es. uncounted (known_at es k)) found;
    counted = λ h k. ap (λ es. count_in (known_at es k)) found ∙ h k ∙ ap (writers_in k) (sym same);
    live = λ q. ap (list_any (is_pair q)) same ∙ by_pair q (is_pair pair q) refl;
    sized = λ h. subst AreSized (sym same) h;
  }
    where
      by_pair : (q : Pair) (b : Bool) → is_pair pair q ≡ b → list_any (is_pair q) old.live.keys ≡ (not b && list_any (is_pair q) old.live.keys)
      by_pair q true is = subst (λ x. list_any (is_pair x) old.live.keys ≡ false) (pair_back pair q is) none
      by_pair q false is = refl

-- ---- a writer leaves all instances, one after the other

pub record IsGoing {A : Type 0} (w : Guid) (old new : Index A) : Type 0 where
  pub keep : new.keep ≡ old.keep
  pub rest : KeepsRest (known_at old.instances.entries) (known_at new.instances.entries)
  pub counted : AreCounted (known_at old.instances.entries) old.live.keys → AreCounted (known_at new.instances.entries) new.live.keys
  pub others : (p : Pair) → is_by w p ≡ false → list_any (is_pair p) new.live.keys ≡ list_any (is_pair p) old.live.keys
  pub sized : AreSized old.live.keys → AreSized new.live.keys

pub going_first : {A : Type 0} (w : Guid) (index : Index A) → IsGoing w index index
going_first w index = record { keep = refl; rest = λ k. refl; counted = λ h. h; others = λ p h. refl; sized = λ h. h }

pub going_on : {A : Type 0} (w : Guid) (k : KeyHash) (a b c : Index A) → IsGoing w a b → Departs (is_pair (w, k)) b c → IsGoing w a c
going_on w k a b c g d = record {
  keep = d.keep ∙ g.keep;
  rest = λ q. d.rest q ∙ g.rest q;
  counted = λ h. d.counted (g.counted h);
  others = λ p h. d.live p ∙ ap (λ t. not t && list_any (is_pair p) b.live.keys) (pair_tie (w, k) p ∙ ap (λ t. t && same_key k p.1) h) ∙ g.others p h;
  sized = λ h. d.sized (g.sized h);
}

pub gone : {A : Type 0} (w : Guid) (a b : Index A) → IsGoing w a b → ((k : KeyHash) → list_any (is_pair (w, k)) b.live.keys ≡ false) → Departs (is_by w) a b
gone w a b g none = record {
  keep = g.keep;
  rest = g.rest;
  counted = g.counted;
  live = λ p. by_writer p (is_by w p) refl;
  sized = g.sized;
}
  where
    by_writer : (p : Pair) (t : Bool) → is_by w p ≡ t → list_any (is_pair p) b.live.keys ≡ (not t && list_any (is_pair p) a.live.keys)
    by_writer p true h = subst (λ x. list_any (is_pair (x, p.1)) b.live.keys ≡ false) (guid_is w p.0 h) (none p.1)
    by_writer p false h = g.others p h

-- ---- what a notice ends

-- its writer is not live in the instance any more
pub unregistered : {M : Type 0} (n : Notice M) (number : Number) (time : Option Timestamp) (k : KeyHash) → n.what ≡ kind.Sample number time (body.Unregistered k) → Ends n (is_pair (n.writer, k))
unregistered n number time k is = record {
  none = ap (entry_by n.place n.writer) is;
  value = λ q. ap (λ t. is_value (told_about q t)) is ∙ no_value (same_key k q);
  disposed = λ q b. ap (λ t. disposed_by (told_about q t) b) is ∙ no_disposal b (same_key k q);
  live = λ q w b. ap (λ t. live_by (told_about q t) (same_guid n.writer w) (is_end t) b) is ∙ leaving (same_guid n.writer w) b (same_key k q) ∙ sym (ap (λ t. not t && b) (pair_tie (n.writer, k) (w, q)));
}
  where
    no_value : (b : Bool) → is_value (about_key b AnUnregistration) ≡ false
    no_value true = refl
    no_value false = refl

    no_disposal : (before b : Bool) → disposed_by (about_key b AnUnregistration) before ≡ before
    no_disposal before true = refl
    no_disposal before false = refl

    leaving : (by_it before b : Bool) → live_by (about_key b AnUnregistration) by_it false before ≡ (not (by_it && b) && before)
    leaving true before true = refl
    leaving true before false = refl
    leaving false before true = refl
    leaving false before false = refl
