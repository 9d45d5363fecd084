-- The changes of what is known are differences.
use Rattle.std.proofs.Common.{◌≡◌, ℕ, zero, suc, ◌+◌, ◌<◌, Bool, true, false, ◌||◌, if◌then◌else◌, List, [], ◌∷◌, Option, Some, None, refl, sym, ap, ◌∙◌, subst, true≢false, arith, ◌⊎◌, inl, inr, Contains}
use Rattle.std.specs.List.{flat_map}
use Rattle.std.specs.Map.{keys_of, lookup}
use Rattle.std.specs.BTreeSet.{insert_key}
use Rattle.std.specs.Ordering.{is_eq}
use Rattle.std.specs.declared.cmp.Ordering.{Ordering}
use Rattle.std.specs.declared.cmp.Ordering.TheVariants.{Less, Equal, Greater}
use Rattle.std.proofs.lemmas.List.Elements.{Contains-append_cases, Contains-append_left, Contains-append_right}
use Rattle.rtps_types.specs.Policy.{same_policy}
use Rattle.rtps_types.proofs.Policies.{policy_is, policy_isnt}
use Rattle.rtps_types.specs.declared.policy.PolicyId.{PolicyId}
use Rattle.rtps_types.specs.Order.{guid_order}
use Rattle.rtps_types.specs.declared.identity.Guid.{Guid}
use Rattle.rtps_types.specs.declared.locator.Locator.{Locator}
use Rattle.rtps_proxy.specs.Matches.{is_at}
use Rattle.rtps_proxy.proofs.Matching.{exact}
use Rattle.rtps_discovery.specs.Announcement.{Offer}
use Rattle.rtps_types.specs.MatchChange.{MatchChange, Matches, Unmatches, Refuses}
use Rattle.rtps_discovery.specs.Changes.{ChangeAt, at, at_pair, both, changes, row, rows, told}
use Rattle.rtps_discovery.specs.Differences.{ChangesAreDifferences, IsRefused}
use Rattle.rtps_discovery.proofs.Following.{in_order}
use Rattle.rtps_discovery.specs.Known.{Known, PairState, Unmatched, Joined, Refused, Wish, is_fixed, is_joined, is_matched, locators_at, reader_at, standing, writer_at}

-- ---- what a list contains

-- nothing is in no list, and one thing in a list of one
pub none_in : {X : Type 0} → (x : X) → Contains [] x → ⊥
none_in x (k, inside, is) = let i : k < 0 = inside in omega arith

one_in : {X : Type 0} → (y x : X) → Contains (y ∷ []) x → y ≡ x
one_in y x (zero, inside, is) = is
one_in y x (suc k, inside, is) = let i : suc k < 1 = inside in absurd (omega arith)

pub at_first : {X : Type 0} → (x : X) (xs : List X) → Contains (x ∷ xs) x
at_first x xs = (0, omega arith, refl)

pub first_or : {X : Type 0} → (y : X) (ys : List X) (x : X) → Contains (y ∷ ys) x → (y ≡ x) ⊎ Contains ys x
first_or y ys x h = by_part (Contains-append_cases (y ∷ []) ys x h)
  where
    by_part : Contains (y ∷ []) x ⊎ Contains ys x → (y ≡ x) ⊎ Contains ys x
    by_part (inl here) = inl (one_in y x here)
    by_part (inr later) = inr later

pub later_in : {X : Type 0} → (y : X) (ys : List X) (x : X) → Contains ys x → Contains (y ∷ ys) x
later_in y ys x h = Contains-append_right (y ∷ []) ys x h

-- what a list of lists contains is in one of them
pub record Among {X Y : Type 0} (f : Y → List X) (ys : List Y) (x : X) : Type 0 where
  pub from : Y
  pub listed : Contains ys from
  pub given : Contains (f from) x

among : {X Y : Type 0} → (f : Y → List X) (ys : List Y) (x : X) → Contains (flat_map f ys) x → Among f ys x
among f [] x h = absurd (none_in x h)
among f (y ∷ ys) x h = by_part (Contains-append_cases (f y) (flat_map f ys) x h) (among f ys x)
  where
    by_part : Contains (f y) x ⊎ Contains (flat_map f ys) x → (Contains (flat_map f ys) x → Among f ys x) → Among f (y ∷ ys) x
    by_part (inl here) others = record { from = y; listed = at_first y ys; given = here }
    by_part (inr later) others =
        let rest = others later in
        record { from = rest.from; listed = later_in y ys rest.from rest.listed; given = rest.given }

gathered : {X Y : Type 0} → (f : Y → List X) (ys : List Y) (y : Y) (x : X) → Contains ys y → Contains (f y) x → Contains (flat_map f ys) x
gathered f [] y x listed h = absurd (none_in y listed)
gathered f (z ∷ ys) y x listed h = by_part (first_or z ys y listed) (λ later. gathered f ys y x later h)
  where
    by_part : (z ≡ y) ⊎ Contains ys y → (Contains ys y → Contains (flat_map f ys) x) → Contains (flat_map f (z ∷ ys)) x
    by_part (inl is) others = Contains-append_left (f z) (flat_map f ys) x (subst (λ v. Contains (f v) x) (sym is) h)
    by_part (inr later) others = Contains-append_right (f z) (flat_map f ys) x (others later)

-- ---- the writers that changes go over

inserted : (xs : List Guid) (k : Guid) → Contains (insert_key guid_order xs k) k
inserted [] k = at_first k []
inserted (x ∷ xs) k = by_order (guid_order k x) refl (inserted xs k)
  where
    by_order : (o : Ordering) → guid_order k x ≡ o → Contains (insert_key guid_order xs k) k → Contains (insert_key guid_order (x ∷ xs) k) k
    by_order Less e rest = rw e (at_first k (x ∷ xs))
    by_order Equal e rest = rw e (subst (λ g. Contains (x ∷ xs) g) (exact k x e) (at_first x xs))
    by_order Greater e rest = rw e (later_in x (insert_key guid_order xs k) k rest)

stays_inserted : (xs : List Guid) (k g : Guid) → Contains xs g → Contains (insert_key guid_order xs k) g
stays_inserted [] k g h = absurd (none_in g h)
stays_inserted (x ∷ xs) k g h = by_order (guid_order k x) refl (stays_inserted xs k g)
  where
    by_order : (o : Ordering) → guid_order k x ≡ o → (Contains xs g → Contains (insert_key guid_order xs k) g)
        → Contains (insert_key guid_order (x ∷ xs) k) g
    by_order Less e rest = rw e (later_in k (x ∷ xs) g h)
    by_order Equal e rest = rw e h
    by_order Greater e rest = rw e (by_part (first_or x xs g h))
      where
        by_part : (x ≡ g) ⊎ Contains xs g → Contains (x ∷ insert_key guid_order xs k) g
        by_part (inl is) = subst (λ v. Contains (x ∷ insert_key guid_order xs k) v) is (at_first x (insert_key guid_order xs k))
        by_part (inr later) = later_in x (insert_key guid_order xs k) g (rest later)

in_second : (xs ys : List Guid) (g : Guid) → Contains ys g → Contains (both xs ys) g
in_second [] ys g h = h
in_second (x ∷ xs) ys g h = stays_inserted (both xs ys) x g (in_second xs ys g h)

in_first : (xs ys : List Guid) (g : Guid) → Contains xs g → Contains (both xs ys) g
in_first [] ys g h = absurd (none_in g h)
in_first (x ∷ xs) ys g h = by_part (first_or x xs g h) (in_first xs ys g)
  where
    by_part : (x ≡ g) ⊎ Contains xs g → (Contains xs g → Contains (both xs ys) g) → Contains (both (x ∷ xs) ys) g
    by_part (inl is) others = subst (λ v. Contains (both (x ∷ xs) ys) v) is (inserted (both xs ys) x)
    by_part (inr later) others = stays_inserted (both xs ys) x g (others later)

-- a writer with which a reader has to do is known
keyed : (ws : List (Guid × Offer)) (g : Guid) (w : Offer) → lookup (is_at g) ws ≡ Some w → Contains (keys_of ws) g
keyed [] g w h = absurd cc
keyed (e ∷ ws) g w h = by_test (is_at g e.0) refl (keyed ws g w)
  where
    by_order : (o : Ordering) → guid_order g e.0 ≡ o → is_eq o ≡ true → e.0 ≡ g
    by_order Less is t = absurd cc
    by_order Equal is t = exact g e.0 is
    by_order Greater is t = absurd cc

    by_test : (b : Bool) → is_at g e.0 ≡ b → (lookup (is_at g) ws ≡ Some w → Contains (keys_of ws) g) → Contains (keys_of (e ∷ ws)) g
    by_test true t rest =
        subst (λ v. Contains (e.0 ∷ keys_of ws) v) (by_order (guid_order g e.0) refl t) (at_first e.0 (keys_of ws))
    by_test false t rest =
        let left : lookup (is_at g) ws ≡ Some w = rw t at h in
        later_in e.0 (keys_of ws) g (rest left)

abbrev is_unmatched : PairState → Bool
is_unmatched Unmatched = true
is_unmatched Joined = false
is_unmatched (Refused p) = false

has_writer : (r : Option Wish) (ws : List (Guid × Offer)) (g : Guid) → is_unmatched (standing r (lookup (is_at g) ws)) ≡ false → Contains (keys_of ws) g
has_writer None ws g h = absurd (true≢false h)
has_writer (Some r) ws g h = by_found (lookup (is_at g) ws) refl
  where
    by_found : (o : Option Offer) → lookup (is_at g) ws ≡ o → Contains (keys_of ws) g
    by_found None e = let apart : true ≡ false = rw e at h in absurd (true≢false apart)
    by_found (Some w) e = keyed ws g w e

-- ---- the changes of one pair

become_one : (k rank : ℕ) (x y : MatchChange) → Contains (at k x ∷ []) (at rank y) → (k ≡ rank) × (x ≡ y)
become_one k rank x y c =
    let is : at k x ≡ at rank y = one_in (at k x) (at rank y) c in
    (ap (λ (d : ChangeAt). d.rank) is, ap (λ (d : ChangeAt). d.what) is)

pub record Begins (k rank : ℕ) (h g : Guid) (ls ms : List Locator) (a b : PairState) : Type 0 where
  pub ranks : k ≡ rank
  pub writers : h ≡ g
  pub locators : ls ≡ ms
  pub before : is_joined a ≡ false
  pub after : is_joined b ≡ true

begins_told : (k rank : ℕ) (h g : Guid) (ls ms : List Locator) (a b : PairState) → Contains (told k h ls a b) (at rank (Matches g ms)) → Begins k rank h g ls ms a b
begins_told k rank h g ls ms Unmatched Unmatched c = absurd (none_in _ c)
begins_told k rank h g ls ms Unmatched Joined c =
    let is = become_one k rank (Matches h ls) (Matches g ms) c in let what : Matches h ls ≡ Matches g ms = is.1 in
    record { ranks = is.0; writers = cc; locators = cc; before = refl; after = refl }
begins_told k rank h g ls ms Unmatched (Refused p) c =
    let is = become_one k rank (Refuses h p) (Matches g ms) c in let what : Refuses h p ≡ Matches g ms = is.1 in absurd cc
begins_told k rank h g ls ms Joined Unmatched c =
    let is = become_one k rank (Unmatches h) (Matches g ms) c in let what : Unmatches h ≡ Matches g ms = is.1 in absurd cc
begins_told k rank h g ls ms Joined Joined c = absurd (none_in _ c)
begins_told k rank h g ls ms Joined (Refused p) c = by_part (first_or (at k (Unmatches h)) (at k (Refuses h p) ∷ []) _ c)
  where
    by_part : (at k (Unmatches h) ≡ at rank (Matches g ms)) ⊎ Contains (at k (Refuses h p) ∷ []) (at rank (Matches g ms)) → Begins k rank h g ls ms Joined (Refused p)
    by_part (inl same) = let what : Unmatches h ≡ Matches g ms = ap (λ (d : ChangeAt). d.what) same in absurd cc
    by_part (inr later) = let is = become_one k rank (Refuses h p) (Matches g ms) later in let what : Refuses h p ≡ Matches g ms = is.1 in absurd cc
begins_told k rank h g ls ms (Refused q) Unmatched c = absurd (none_in _ c)
begins_told k rank h g ls ms (Refused q) Joined c =
    let is = become_one k rank (Matches h ls) (Matches g ms) c in let what : Matches h ls ≡ Matches g ms = is.1 in
    record { ranks = is.0; writers = cc; locators = cc; before = refl; after = refl }
begins_told k rank h g ls ms (Refused q) (Refused p) c = by_test (same_policy q p) c
  where
    by_test : (t : Bool) → Contains (if t then [] else at k (Refuses h p) ∷ []) (at rank (Matches g ms)) → Begins k rank h g ls ms (Refused q) (Refused p)
    by_test true d = absurd (none_in _ d)
    by_test false d = let is = become_one k rank (Refuses h p) (Matches g ms) d in let what : Refuses h p ≡ Matches g ms = is.1 in absurd cc

told_begins : (k : ℕ) (g : Guid) (ls : List Locator) (a b : PairState) → is_joined a ≡ false → is_joined b ≡ true → Contains (told k g ls a b) (at k (Matches g ls))
told_begins k g ls Unmatched Unmatched n y = absurd (true≢false (sym y))
told_begins k g ls Unmatched Joined n y = at_first (at k (Matches g ls)) []
told_begins k g ls Unmatched (Refused p) n y = absurd (true≢false (sym y))
told_begins k g ls Joined b n y = absurd (true≢false n)
told_begins k g ls (Refused q) Unmatched n y = absurd (true≢false (sym y))
told_begins k g ls (Refused q) Joined n y = at_first (at k (Matches g ls)) []
told_begins k g ls (Refused q) (Refused p) n y = absurd (true≢false (sym y))

pub record EndsAt (k rank : ℕ) (h g : Guid) (a b : PairState) : Type 0 where
  pub ranks : k ≡ rank
  pub writers : h ≡ g
  pub before : is_joined a ≡ true
  pub after : is_joined b ≡ false

ends_told : (k rank : ℕ) (h g : Guid) (ls : List Locator) (a b : PairState) → Contains (told k h ls a b) (at rank (Unmatches g)) → EndsAt k rank h g a b
ends_told k rank h g ls Unmatched Unmatched c = absurd (none_in _ c)
ends_told k rank h g ls Unmatched Joined c =
    let is = become_one k rank (Matches h ls) (Unmatches g) c in let what : Matches h ls ≡ Unmatches g = is.1 in absurd cc
ends_told k rank h g ls Unmatched (Refused p) c =
    let is = become_one k rank (Refuses h p) (Unmatches g) c in let what : Refuses h p ≡ Unmatches g = is.1 in absurd cc
ends_told k rank h g ls Joined Unmatched c =
    let is = become_one k rank (Unmatches h) (Unmatches g) c in let what : Unmatches h ≡ Unmatches g = is.1 in
    record { ranks = is.0; writers = cc; before = refl; after = refl }
ends_told k rank h g ls Joined Joined c = absurd (none_in _ c)
ends_told k rank h g ls Joined (Refused p) c = by_part (first_or (at k (Unmatches h)) (at k (Refuses h p) ∷ []) _ c)
  where
    by_part : (at k (Unmatches h) ≡ at rank (Unmatches g)) ⊎ Contains (at k (Refuses h p) ∷ []) (at rank (Unmatches g)) → EndsAt k rank h g Joined (Refused p)
    by_part (inl same) =
        let what : Unmatches h ≡ Unmatches g = ap (λ (d : ChangeAt). d.what) same in
        record { ranks = ap (λ (d : ChangeAt). d.rank) same; writers = cc; before = refl; after = refl }
    by_part (inr later) = let is = become_one k rank (Refuses h p) (Unmatches g) later in let what : Refuses h p ≡ Unmatches g = is.1 in absurd cc
ends_told k rank h g ls (Refused q) Unmatched c = absurd (none_in _ c)
ends_told k rank h g ls (Refused q) Joined c =
    let is = become_one k rank (Matches h ls) (Unmatches g) c in let what : Matches h ls ≡ Unmatches g = is.1 in absurd cc
ends_told k rank h g ls (Refused q) (Refused p) c = by_test (same_policy q p) c
  where
    by_test : (t : Bool) → Contains (if t then [] else at k (Refuses h p) ∷ []) (at rank (Unmatches g)) → EndsAt k rank h g (Refused q) (Refused p)
    by_test true d = absurd (none_in _ d)
    by_test false d = let is = become_one k rank (Refuses h p) (Unmatches g) d in let what : Refuses h p ≡ Unmatches g = is.1 in absurd cc

told_ends : (k : ℕ) (g : Guid) (ls : List Locator) (a b : PairState) → is_joined a ≡ true → is_joined b ≡ false → Contains (told k g ls a b) (at k (Unmatches g))
told_ends k g ls Unmatched b y n = absurd (true≢false (sym y))
told_ends k g ls Joined Unmatched y n = at_first (at k (Unmatches g)) []
told_ends k g ls Joined Joined y n = absurd (true≢false n)
told_ends k g ls Joined (Refused p) y n = at_first (at k (Unmatches g)) (at k (Refuses g p) ∷ [])
told_ends k g ls (Refused q) b y n = absurd (true≢false (sym y))

pub record RefusesAt (k rank : ℕ) (h g : Guid) (policy : PolicyId) (a b : PairState) : Type 0 where
  pub ranks : k ≡ rank
  pub writers : h ≡ g
  pub before : a ≡ Refused policy → ⊥
  pub after : b ≡ Refused policy

refuses_told : (k rank : ℕ) (h g : Guid) (ls : List Locator) (policy : PolicyId) (a b : PairState) → Contains (told k h ls a b) (at rank (Refuses g policy)) → RefusesAt k rank h g policy a b
refuses_told k rank h g ls policy Unmatched Unmatched c = absurd (none_in _ c)
refuses_told k rank h g ls policy Unmatched Joined c =
    let is = become_one k rank (Matches h ls) (Refuses g policy) c in let what : Matches h ls ≡ Refuses g policy = is.1 in absurd cc
refuses_told k rank h g ls policy Unmatched (Refused p) c =
    let is = become_one k rank (Refuses h p) (Refuses g policy) c in let what : Refuses h p ≡ Refuses g policy = is.1 in
    record { ranks = is.0; writers = cc; before = λ e. absurd cc; after = cc }
refuses_told k rank h g ls policy Joined Unmatched c =
    let is = become_one k rank (Unmatches h) (Refuses g policy) c in let what : Unmatches h ≡ Refuses g policy = is.1 in absurd cc
refuses_told k rank h g ls policy Joined Joined c = absurd (none_in _ c)
refuses_told k rank h g ls policy Joined (Refused p) c = by_part (first_or (at k (Unmatches h)) (at k (Refuses h p) ∷ []) _ c)
  where
    by_part : (at k (Unmatches h) ≡ at rank (Refuses g policy)) ⊎ Contains (at k (Refuses h p) ∷ []) (at rank (Refuses g policy)) → RefusesAt k rank h g policy Joined (Refused p)
    by_part (inl same) = let what : Unmatches h ≡ Refuses g policy = ap (λ (d : ChangeAt). d.what) same in absurd cc
    by_part (inr later) =
        let is = become_one k rank (Refuses h p) (Refuses g policy) later in let what : Refuses h p ≡ Refuses g policy = is.1 in
        record { ranks = is.0; writers = cc; before = λ e. absurd cc; after = cc }
refuses_told k rank h g ls policy (Refused q) Unmatched c = absurd (none_in _ c)
refuses_told k rank h g ls policy (Refused q) Joined c =
    let is = become_one k rank (Matches h ls) (Refuses g policy) c in let what : Matches h ls ≡ Refuses g policy = is.1 in absurd cc
refuses_told k rank h g ls policy (Refused q) (Refused p) c = by_test (same_policy q p) refl c
  where
    by_test : (t : Bool) → same_policy q p ≡ t → Contains (if t then [] else at k (Refuses h p) ∷ []) (at rank (Refuses g policy)) → RefusesAt k rank h g policy (Refused q) (Refused p)
    by_test true e d = absurd (none_in _ d)
    by_test false e d =
        let is = become_one k rank (Refuses h p) (Refuses g policy) d in let what : Refuses h p ≡ Refuses g policy = is.1 in
        let policies : p ≡ policy = cc in
        record { ranks = is.0; writers = cc; before = λ f. let same : q ≡ policy = cc in policy_isnt q p e (same ∙ sym policies); after = cc }

told_refuses : (k : ℕ) (g : Guid) (ls : List Locator) (policy : PolicyId) (a b : PairState) → (a ≡ Refused policy → ⊥) → b ≡ Refused policy → Contains (told k g ls a b) (at k (Refuses g policy))
told_refuses k g ls policy a Unmatched n y = absurd cc
told_refuses k g ls policy a Joined n y = absurd cc
told_refuses k g ls policy Unmatched (Refused p) n y = let is : p ≡ policy = cc in subst (λ q. Contains (at k (Refuses g p) ∷ []) (at k (Refuses g q))) is (at_first (at k (Refuses g p)) [])
told_refuses k g ls policy Joined (Refused p) n y =
    let is : p ≡ policy = cc in
    later_in (at k (Unmatches g)) (at k (Refuses g p) ∷ []) (at k (Refuses g policy)) (subst (λ q. Contains (at k (Refuses g p) ∷ []) (at k (Refuses g q))) is (at_first (at k (Refuses g p)) []))
told_refuses k g ls policy (Refused q) (Refused p) n y = by_test (same_policy q p) refl
  where
    is : p ≡ policy
    is = cc

    by_test : (t : Bool) → same_policy q p ≡ t → Contains (if t then [] else at k (Refuses g p) ∷ []) (at k (Refuses g policy))
    by_test true e = absurd (n (ap Refused (policy_is q p e ∙ is)))
    by_test false e = subst (λ q. Contains (at k (Refuses g p) ∷ []) (at k (Refuses g q))) is (at_first (at k (Refuses g p)) [])

-- ---- the pairs

-- what is reported of a pair, where it isn't fixed
pub record IsTold (fixed : List (ℕ × Guid)) (k : ℕ) (g : Guid) (ls : List Locator) (a b : PairState) (c : ChangeAt) : Type 0 where
  pub free : is_fixed fixed k g ≡ false
  pub given : Contains (told k g ls a b) c

told_at : (fixed : List (ℕ × Guid)) (k : ℕ) (g : Guid) (ls : List Locator) (a b : PairState) (c : ChangeAt) → Contains (at_pair fixed k g ls a b) c → IsTold fixed k g ls a b c
told_at fixed k g ls a b c = by_test (is_fixed fixed k g) refl
  where
    by_test : (t : Bool) → is_fixed fixed k g ≡ t → Contains (if t then [] else told k g ls a b) c → IsTold fixed k g ls a b c
    by_test true e h = absurd (none_in c h)
    by_test false e h = record { free = e; given = h }

at_told : (fixed : List (ℕ × Guid)) (k : ℕ) (g : Guid) (ls : List Locator) (a b : PairState) (c : ChangeAt) → is_fixed fixed k g ≡ false → Contains (told k g ls a b) c → Contains (at_pair fixed k g ls a b) c
at_told fixed k g ls a b c free h = rw free h

-- ---- the ranks

abbrev row_at : Known → Known → ℕ → List (Option Wish) → List (Option Wish) → ℕ → List ChangeAt
row_at before after k qs rs i = row before after (both (keys_of before.writers) (keys_of after.writers)) (k + i) (reader_at qs i) (reader_at rs i)

abbrev rows_of : Known → Known → ℕ → List (Option Wish) → List (Option Wish) → List ChangeAt
rows_of before after k qs rs = rows before after (both (keys_of before.writers) (keys_of after.writers)) k qs rs

pub record AtRank (before after : Known) (k : ℕ) (qs rs : List (Option Wish)) (c : ChangeAt) : Type 0 where
  pub rank : ℕ
  pub given : Contains (row_at before after k qs rs rank) c

abbrev guids : Known → Known → List Guid
guids before after = both (keys_of before.writers) (keys_of after.writers)

-- the row of another number that is the same
moved_row : (before after : Known) (m n : ℕ) (q r : Option Wish) (c : ChangeAt) → m ≡ n → Contains (row before after (guids before after) m q r) c → Contains (row before after (guids before after) n q r) c
moved_row before after m n q r c e h = subst (λ v. Contains (row before after (guids before after) v q r) c) e h

-- a change is one of the first reader, or of one after it
by_rows : (before after : Known) (k : ℕ) (qs rs more_qs more_rs : List (Option Wish)) (q r : Option Wish) (c : ChangeAt)
    → reader_at qs 0 ≡ q → reader_at rs 0 ≡ r
    → ((i : ℕ) → reader_at qs (suc i) ≡ reader_at more_qs i) → ((i : ℕ) → reader_at rs (suc i) ≡ reader_at more_rs i)
    → Contains (row before after (guids before after) k q r) c ⊎ AtRank before after (k + 1) more_qs more_rs c
    → AtRank before after k qs rs c
by_rows before after k qs rs more_qs more_rs q r c first_q first_r next_q next_r (inl here) = record {
  rank = 0;
  given = rw (first_q, first_r) (moved_row before after k (k + 0) q r c (omega arith) here);
}
by_rows before after k qs rs more_qs more_rs q r c first_q first_r next_q next_r (inr later) = record {
  rank = suc later.rank;
  given = rw (next_q later.rank, next_r later.rank)
      (moved_row before after (k + 1 + later.rank) (k + suc later.rank) (reader_at more_qs later.rank) (reader_at more_rs later.rank) c (omega arith) later.given);
}

in_rows : (before after : Known) (k : ℕ) (qs rs : List (Option Wish)) (c : ChangeAt) → Contains (rows_of before after k qs rs) c → AtRank before after k qs rs c
in_rows before after k [] [] c h = absurd (none_in c h)
in_rows before after k [] (r ∷ rs) c h =
    by_part (Contains-append_cases (row before after (guids before after) k None r) (rows_of before after (k + 1) [] rs) c h) (in_rows before after (k + 1) [] rs c)
  where
    by_part : Contains (row before after (guids before after) k None r) c ⊎ Contains (rows_of before after (k + 1) [] rs) c
        → (Contains (rows_of before after (k + 1) [] rs) c → AtRank before after (k + 1) [] rs c) → AtRank before after k [] (r ∷ rs) c
    by_part (inl here) others = by_rows before after k [] (r ∷ rs) [] rs None r c refl refl (λ i. refl) (λ i. refl) (inl here)
    by_part (inr later) others = by_rows before after k [] (r ∷ rs) [] rs None r c refl refl (λ i. refl) (λ i. refl) (inr (others later))
in_rows before after k (q ∷ qs) [] c h =
    by_part (Contains-append_cases (row before after (guids before after) k q None) (rows_of before after (k + 1) qs []) c h) (in_rows before after (k + 1) qs [] c)
  where
    by_part : Contains (row before after (guids before after) k q None) c ⊎ Contains (rows_of before after (k + 1) qs []) c
        → (Contains (rows_of before after (k + 1) qs []) c → AtRank before after (k + 1) qs [] c) → AtRank before after k (q ∷ qs) [] c
    by_part (inl here) others = by_rows before after k (q ∷ qs) [] qs [] q None c refl refl (λ i. refl) (λ i. refl) (inl here)
    by_part (inr later) others = by_rows before after k (q ∷ qs) [] qs [] q None c refl refl (λ i. refl) (λ i. refl) (inr (others later))
in_rows before after k (q ∷ qs) (r ∷ rs) c h =
    by_part (Contains-append_cases (row before after (guids before after) k q r) (rows_of before after (k + 1) qs rs) c h) (in_rows before after (k + 1) qs rs c)
  where
    by_part : Contains (row before after (guids before after) k q r) c ⊎ Contains (rows_of before after (k + 1) qs rs) c
        → (Contains (rows_of before after (k + 1) qs rs) c → AtRank before after (k + 1) qs rs c) → AtRank before after k (q ∷ qs) (r ∷ rs) c
    by_part (inl here) others = by_rows before after k (q ∷ qs) (r ∷ rs) qs rs q r c refl refl (λ i. refl) (λ i. refl) (inl here)
    by_part (inr later) others = by_rows before after k (q ∷ qs) (r ∷ rs) qs rs q r c refl refl (λ i. refl) (λ i. refl) (inr (others later))

-- where there is no reader nothing is reported
nobody_hears : (before after : Known) (n : ℕ) (c : ChangeAt) → Contains (row before after (guids before after) n None None) c → ⊥
nobody_hears before after n c h =
    let one = among (λ g. at_pair before.fixed n g (locators_at after g) Unmatched Unmatched) (guids before after) c h in
    none_in c (told_at before.fixed n one.from (locators_at after one.from) Unmatched Unmatched c one.given).given

rows_in : (before after : Known) (k : ℕ) (qs rs : List (Option Wish)) (rank : ℕ) (c : ChangeAt) → Contains (row_at before after k qs rs rank) c → Contains (rows_of before after k qs rs) c
rows_in before after k [] [] rank c h = absurd (nobody_hears before after (k + rank) c h)
rows_in before after k [] (r ∷ rs) zero c h =
    Contains-append_left (row before after (guids before after) k None r) (rows_of before after (k + 1) [] rs) c (moved_row before after (k + 0) k None r c (omega arith) h)
rows_in before after k [] (r ∷ rs) (suc i) c h =
    Contains-append_right (row before after (guids before after) k None r) (rows_of before after (k + 1) [] rs) c
    (rows_in before after (k + 1) [] rs i c (moved_row before after (k + suc i) (k + 1 + i) None (reader_at rs i) c (omega arith) h))
rows_in before after k (q ∷ qs) [] zero c h =
    Contains-append_left (row before after (guids before after) k q None) (rows_of before after (k + 1) qs []) c (moved_row before after (k + 0) k q None c (omega arith) h)
rows_in before after k (q ∷ qs) [] (suc i) c h =
    Contains-append_right (row before after (guids before after) k q None) (rows_of before after (k + 1) qs []) c
    (rows_in before after (k + 1) qs [] i c (moved_row before after (k + suc i) (k + 1 + i) (reader_at qs i) None c (omega arith) h))
rows_in before after k (q ∷ qs) (r ∷ rs) zero c h =
    Contains-append_left (row before after (guids before after) k q r) (rows_of before after (k + 1) qs rs) c (moved_row before after (k + 0) k q r c (omega arith) h)
rows_in before after k (q ∷ qs) (r ∷ rs) (suc i) c h =
    Contains-append_right (row before after (guids before after) k q r) (rows_of before after (k + 1) qs rs) c
    (rows_in before after (k + 1) qs rs i c (moved_row before after (k + suc i) (k + 1 + i) (reader_at qs i) (reader_at rs i) c (omega arith) h))

-- ---- from all changes to one pair, and back

abbrev was : Known → ℕ → Guid → PairState
was k rank g = standing (reader_at k.readers rank) (writer_at k g)

pub record AtPair (before after : Known) (c : ChangeAt) : Type 0 where
  pub rank : ℕ
  pub writer : Guid
  pub free : is_fixed before.fixed rank writer ≡ false
  pub given : Contains (told rank writer (locators_at after writer) (was before rank writer) (was after rank writer)) c

at_one_pair : (before after : Known) (c : ChangeAt) → Contains (changes before after) c → AtPair before after c
unfolding changes
at_one_pair before after c h =
    let r = in_rows before after 0 before.readers after.readers c h in
    let given = moved_row before after (0 + r.rank) r.rank (reader_at before.readers r.rank) (reader_at after.readers r.rank) c (omega arith) r.given in
    let one = among (λ g. at_pair before.fixed r.rank g (locators_at after g) (was before r.rank g) (was after r.rank g)) (guids before after) c given in
    let pair = told_at before.fixed r.rank one.from (locators_at after one.from) (was before r.rank one.from) (was after r.rank one.from) c one.given in
    record { rank = r.rank; writer = one.from; free = pair.free; given = pair.given }

from_one_pair : (before after : Known) (rank : ℕ) (g : Guid) (c : ChangeAt) → Contains (guids before after) g → is_fixed before.fixed rank g ≡ false
    → Contains (told rank g (locators_at after g) (was before rank g) (was after rank g)) c → Contains (changes before after) c
unfolding changes
from_one_pair before after rank g c listed free h =
    rows_in before after 0 before.readers after.readers rank c
    (moved_row before after rank (0 + rank) (reader_at before.readers rank) (reader_at after.readers rank) c (omega arith)
    (gathered (λ v. at_pair before.fixed rank v (locators_at after v) (was before rank v) (was after rank v)) (guids before after) g c listed
    (at_told before.fixed rank g (locators_at after g) (was before rank g) (was after rank g) c free h)))

-- ---- the law

or_false : (a b : Bool) → (a || b) ≡ false → (a ≡ false) × (b ≡ false)
or_false false b h = (refl, h)
or_false true b h = absurd (true≢false h)

or_true : (a b : Bool) → a ≡ false → (a || b) ≡ true → b ≡ true
or_true false b free h = h
or_true true b free h = absurd (true≢false free)

joined_isnt_apart : (s : PairState) → is_joined s ≡ true → is_unmatched s ≡ false
joined_isnt_apart Unmatched h = absurd (true≢false (sym h))
joined_isnt_apart Joined h = refl
joined_isnt_apart (Refused p) h = refl

known_after_is : (before after : Known) (rank : ℕ) (g : Guid) → is_unmatched (was after rank g) ≡ false → Contains (guids before after) g
known_after_is before after rank g h = in_second (keys_of before.writers) (keys_of after.writers) g (has_writer (reader_at after.readers rank) after.writers g h)

known_before_is : (before after : Known) (rank : ℕ) (g : Guid) → is_unmatched (was before rank g) ≡ false → Contains (guids before after) g
known_before_is before after rank g h = in_first (keys_of before.writers) (keys_of after.writers) g (has_writer (reader_at before.readers rank) before.writers g h)

-- what holds of a pair holds of the one that it is
moved_to : (P : ℕ → Guid → Type 0) (n rank : ℕ) (v g : Guid) → n ≡ rank → v ≡ g → P n v → P rank g
moved_to P n rank v g ranks writers h = subst (λ w. P rank w) writers (subst (λ m. P m v) ranks h)

begin_is : (before after : Known) → before.fixed ≡ after.fixed → (rank : ℕ) (g : Guid) (ls : List Locator) → Contains (changes before after) (at rank (Matches g ls))
    → (is_matched before rank g ≡ false) × ((is_matched after rank g ≡ true) × (locators_at after g ≡ ls))
begin_is before after fixed rank g ls h =
    let pair = at_one_pair before after (at rank (Matches g ls)) h in
    let one = begins_told pair.rank rank pair.writer g (locators_at after pair.writer) ls (was before pair.rank pair.writer) (was after pair.rank pair.writer) pair.given in
    let free : is_fixed before.fixed rank g ≡ false = moved_to (λ n v. is_fixed before.fixed n v ≡ false) pair.rank rank pair.writer g one.ranks one.writers pair.free in
    let free_after : is_fixed after.fixed rank g ≡ false = subst (λ f. is_fixed f rank g ≡ false) fixed free in
    let unjoined : is_joined (was before rank g) ≡ false = moved_to (λ n v. is_joined (was before n v) ≡ false) pair.rank rank pair.writer g one.ranks one.writers one.before in
    let joined : is_joined (was after rank g) ≡ true = moved_to (λ n v. is_joined (was after n v) ≡ true) pair.rank rank pair.writer g one.ranks one.writers one.after in
    let where_to : locators_at after g ≡ ls = subst (λ v. locators_at after v ≡ ls) one.writers one.locators in
    (rw free unjoined, (rw free_after joined, where_to))

begin_from : (before after : Known) → before.fixed ≡ after.fixed → (rank : ℕ) (g : Guid) (ls : List Locator)
    → (is_matched before rank g ≡ false) × ((is_matched after rank g ≡ true) × (locators_at after g ≡ ls)) → Contains (changes before after) (at rank (Matches g ls))
begin_from before after fixed rank g ls h =
    let unmatched = or_false (is_fixed before.fixed rank g) (is_joined (was before rank g)) h.0 in
    let free_after : is_fixed after.fixed rank g ≡ false = subst (λ f. is_fixed f rank g ≡ false) fixed unmatched.0 in
    let joined = or_true (is_fixed after.fixed rank g) (is_joined (was after rank g)) free_after h.1.0 in
    let known = known_after_is before after rank g (joined_isnt_apart (was after rank g) joined) in
    subst (λ l. Contains (changes before after) (at rank (Matches g l))) h.1.1
    (from_one_pair before after rank g (at rank (Matches g (locators_at after g))) known unmatched.0
    (told_begins rank g (locators_at after g) (was before rank g) (was after rank g) unmatched.1 joined))

end_is : (before after : Known) → before.fixed ≡ after.fixed → (rank : ℕ) (g : Guid) → Contains (changes before after) (at rank (Unmatches g))
    → (is_matched before rank g ≡ true) × (is_matched after rank g ≡ false)
end_is before after fixed rank g h =
    let pair = at_one_pair before after (at rank (Unmatches g)) h in
    let one = ends_told pair.rank rank pair.writer g (locators_at after pair.writer) (was before pair.rank pair.writer) (was after pair.rank pair.writer) pair.given in
    let free : is_fixed before.fixed rank g ≡ false = moved_to (λ n v. is_fixed before.fixed n v ≡ false) pair.rank rank pair.writer g one.ranks one.writers pair.free in
    let free_after : is_fixed after.fixed rank g ≡ false = subst (λ f. is_fixed f rank g ≡ false) fixed free in
    let joined : is_joined (was before rank g) ≡ true = moved_to (λ n v. is_joined (was before n v) ≡ true) pair.rank rank pair.writer g one.ranks one.writers one.before in
    let unjoined : is_joined (was after rank g) ≡ false = moved_to (λ n v. is_joined (was after n v) ≡ false) pair.rank rank pair.writer g one.ranks one.writers one.after in
    (rw free joined, rw free_after unjoined)

end_from : (before after : Known) → before.fixed ≡ after.fixed → (rank : ℕ) (g : Guid)
    → (is_matched before rank g ≡ true) × (is_matched after rank g ≡ false) → Contains (changes before after) (at rank (Unmatches g))
end_from before after fixed rank g h =
    let unmatched = or_false (is_fixed after.fixed rank g) (is_joined (was after rank g)) h.1 in
    let free : is_fixed before.fixed rank g ≡ false = subst (λ f. is_fixed f rank g ≡ false) (sym fixed) unmatched.0 in
    let joined = or_true (is_fixed before.fixed rank g) (is_joined (was before rank g)) free h.0 in
    let known = known_before_is before after rank g (joined_isnt_apart (was before rank g) joined) in
    from_one_pair before after rank g (at rank (Unmatches g)) known free
    (told_ends rank g (locators_at after g) (was before rank g) (was after rank g) joined unmatched.1)

refuse_is : (before after : Known) → before.fixed ≡ after.fixed → (rank : ℕ) (g : Guid) (policy : PolicyId) → Contains (changes before after) (at rank (Refuses g policy))
    → IsRefused after rank g policy × (IsRefused before rank g policy → ⊥)
refuse_is before after fixed rank g policy h =
    let pair = at_one_pair before after (at rank (Refuses g policy)) h in
    let one = refuses_told pair.rank rank pair.writer g (locators_at after pair.writer) policy (was before pair.rank pair.writer) (was after pair.rank pair.writer) pair.given in
    let free : is_fixed before.fixed rank g ≡ false = moved_to (λ n v. is_fixed before.fixed n v ≡ false) pair.rank rank pair.writer g one.ranks one.writers pair.free in
    let free_after : is_fixed after.fixed rank g ≡ false = subst (λ f. is_fixed f rank g ≡ false) fixed free in
    let refused : was after rank g ≡ Refused policy = moved_to (λ n v. was after n v ≡ Refused policy) pair.rank rank pair.writer g one.ranks one.writers one.after in
    let other : was before rank g ≡ Refused policy → ⊥ = moved_to (λ n v. was before n v ≡ Refused policy → ⊥) pair.rank rank pair.writer g one.ranks one.writers one.before in
    (record { free = free_after; refused = refused }, λ was_refused. other was_refused.refused)

refused_isnt_apart : (s : PairState) (policy : PolicyId) → s ≡ Refused policy → is_unmatched s ≡ false
refused_isnt_apart s policy h = rw h refl

refuse_from : (before after : Known) → before.fixed ≡ after.fixed → (rank : ℕ) (g : Guid) (policy : PolicyId)
    → IsRefused after rank g policy × (IsRefused before rank g policy → ⊥) → Contains (changes before after) (at rank (Refuses g policy))
refuse_from before after fixed rank g policy h =
    let free : is_fixed before.fixed rank g ≡ false = subst (λ f. is_fixed f rank g ≡ false) (sym fixed) h.0.free in
    let known = known_after_is before after rank g (refused_isnt_apart (was after rank g) policy h.0.refused) in
    from_one_pair before after rank g (at rank (Refuses g policy)) known free
    (told_refuses rank g (locators_at after g) policy (was before rank g) (was after rank g) (λ e. h.1 (record { free = free; refused = e })) h.0.refused)

pub differences : ChangesAreDifferences
differences before after fixed = record {
  begin = λ rank g ls. (begin_is before after fixed rank g ls, begin_from before after fixed rank g ls);
  end = λ rank g. (end_is before after fixed rank g, end_from before after fixed rank g);
  refuse = λ rank g policy. (refuse_is before after fixed rank g policy, refuse_from before after fixed rank g policy);
  order = in_order before after;
}
