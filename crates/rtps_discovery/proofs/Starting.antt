-- What is known at the start: our readers and the fixed matches.
use Rattle.std.proofs.Common.{◌≡◌, ℕ, zero, suc, ◌+◌, ◌≤◌, ◌<◌, ◌==◌, nat_le, nat_lt, List, [], ◌∷◌, ◌++◌, length, map, Bool, true, false, ◌&&◌, ◌||◌, if◌then◌else◌, Option, None, Ok, refl, sym, ap, ◌∙◌, arith, eq-eqb}
use Rattle.std.specs.List.{list_any}
use Rattle.std.specs.List.Sorted.{IsStrictlySortedBy}
use Rattle.std.proofs.lemmas.Bool.Decides.{nat_tests}
use Rattle.std.proofs.lemmas.List.Folds.{list_any-append, list_any_none}
use Rattle.rtps_types.specs.declared.identity.Guid.{Guid}
use Rattle.rtps_types.specs.declared.identity.GuidPrefix.{GuidPrefix}
use Rattle.rtps_proxy.specs.Matches.{is_at, same_guid}
use Rattle.rtps_proxy.proofs.Matching.{tie}
use Rattle.rtps_discovery.specs.declared.config.Config.{Config}
use Rattle.rtps_discovery.specs.declared.config.FixedMatch.{FixedMatch}
use Rattle.rtps_discovery.specs.Announcement.{Offer}
use Rattle.rtps_discovery.specs.Config.{check_of, is_bad_fixed}
use Rattle.rtps_discovery.specs.Kept.{IsKnown, RegistryView, ranks_at}
use Rattle.rtps_discovery.specs.Known.{Wish, is_fixed, is_joined, prefix_order, reader_at, standing}
use Rattle.rtps_discovery.specs.OneWriter.{has_rank, matched_from}
use Rattle.rtps_discovery.specs.Start.{first_known, fixed_ranks, pair_of, reader_of}
use Rattle.rtps_discovery.proofs.Faultless.{taken_is_faultless}
use Rattle.rtps_discovery.proofs.Guids.{found_is, tied}
use Rattle.rtps_discovery.proofs.OneWriter.{no_writer}
use Rattle.rtps_discovery.proofs.SortedKeys.{InOrder}
use Rattle.rtps_discovery.proofs.Turning.{matched_same}

-- ---- which ranks are among those that are matched

lt_more : (a b : ℕ) → nat_lt (suc a) (suc b) ≡ nat_lt a b
lt_more a b = by_test (nat_lt a b) refl
  where
    by_test : (t : Bool) → nat_lt a b ≡ t → nat_lt (suc a) (suc b) ≡ t
    by_test true e = grind (arith, nat_tests)
    by_test false e = grind (arith, nat_tests)

lt_some : (n : ℕ) → nat_lt 0 (suc n) ≡ true
lt_some n = grind (arith, nat_tests)

unequal : (m n : ℕ) → n < m → (m == n) ≡ false
unequal m n low = grind (arith, nat_tests)

module _ (f : ℕ → Bool) (w : Option Offer) where
  pub not_below : (n k : ℕ) (rs : List (Option Wish)) → n < k → has_rank (matched_from f w k rs) n ≡ false
  not_below n k [] low = refl
  not_below n k (r ∷ rs) low = by_test (f k || is_joined (standing r w)) (not_below n (k + 1) rs (omega arith))
    where
      by_test : (b : Bool) → has_rank (matched_from f w (k + 1) rs) n ≡ false → has_rank (if b then k ∷ matched_from f w (k + 1) rs else matched_from f w (k + 1) rs) n ≡ false
      by_test true more = rw (unequal k n low) more
      by_test false more = more

  pub is_member : (i n k : ℕ) (rs : List (Option Wish)) → n ≡ k + i → has_rank (matched_from f w k rs) n ≡ (nat_lt i (length rs) && (f n || is_joined (standing (reader_at rs i) w)))
  is_member i n k [] e = let none : nat_lt i 0 ≡ false = grind (arith, nat_tests) in rw none refl
  is_member zero n k (r ∷ rs) e =
      by_test (f k || is_joined (standing r w)) refl (not_below n (k + 1) rs (omega (arith, e)))
      ∙ ap (λ b. b && (f n || is_joined (standing r w))) (sym (lt_some (length rs)))
    where
      here : k ≡ n
      here = omega (arith, e)

      by_test : (b : Bool) → (f k || is_joined (standing r w)) ≡ b → has_rank (matched_from f w (k + 1) rs) n ≡ false
          → has_rank (if b then k ∷ matched_from f w (k + 1) rs else matched_from f w (k + 1) rs) n ≡ (f n || is_joined (standing r w))
      by_test true t none = rw (eq-eqb k n here) (sym t ∙ ap (λ m. f m || is_joined (standing r w)) here)
      by_test false t none = none ∙ sym t ∙ ap (λ m. f m || is_joined (standing r w)) here
  is_member (suc i) n k (r ∷ rs) e =
      by_test (f k || is_joined (standing r w)) (is_member i n (k + 1) rs (omega (arith, e)))
      ∙ ap (λ b. b && (f n || is_joined (standing (reader_at rs i) w))) (sym (lt_more i (length rs)))
    where
      apart : (k == n) ≡ false
      apart = grind (arith, nat_tests)

      rest : Bool
      rest = nat_lt i (length rs) && (f n || is_joined (standing (reader_at rs i) w))

      by_test : (b : Bool) → has_rank (matched_from f w (k + 1) rs) n ≡ rest
          → has_rank (if b then k ∷ matched_from f w (k + 1) rs else matched_from f w (k + 1) rs) n ≡ rest
      by_test true more = rw apart more
      by_test false more = more

or_nothing : (b : Bool) → (b || false) ≡ b
or_nothing true = refl
or_nothing false = refl

-- where no writer is there, those alone whose rank a reader has
fixed_member : (f : ℕ → Bool) (rs : List (Option Wish)) (n : ℕ) → (nat_lt n (length rs) ≡ false → f n ≡ false) → has_rank (matched_from f None 0 rs) n ≡ f n
fixed_member f rs n past = is_member f None n n 0 rs (omega arith) ∙ by_test (nat_lt n (length rs)) refl
  where
    by_test : (b : Bool) → nat_lt n (length rs) ≡ b → (b && (f n || is_joined (standing (reader_at rs n) None))) ≡ f n
    by_test true e = rw (no_writer (reader_at rs n)) (or_nothing (f n))
    by_test false e = sym (past e)

-- ---- the pairs, one by one

same_at : (w q : Guid) → same_guid w q ≡ is_at w q
same_at w q = sym (tie q w) ∙ tied q w

or_in : (a b r : Bool) → ((a || (b || false)) || r) ≡ (a || ((b && true) || r))
or_in true b r = refl
or_in false true r = refl
or_in false false r = refl

or_out : (b r : Bool) → r ≡ ((b && false) || r)
or_out true r = refl
or_out false r = refl

-- one more pair is listed
pub one_more : (q w : Guid) (n rank : ℕ) (old new : List (Guid × List ℕ)) (left : List (ℕ × Guid))
    → ranks_at q new ≡ (if is_at w q then ranks_at w old ++ n ∷ [] else ranks_at q old)
    → (has_rank (ranks_at q new) rank || is_fixed left rank q) ≡ (has_rank (ranks_at q old) rank || is_fixed ((n, w) ∷ left) rank q)
one_more q w n rank old new left put = ap (λ l. has_rank l rank || is_fixed left rank q) put ∙ by_test (is_at w q) refl
  where
    by_test : (b : Bool) → is_at w q ≡ b
        → (has_rank (if b then ranks_at w old ++ n ∷ [] else ranks_at q old) rank || is_fixed left rank q) ≡ (has_rank (ranks_at q old) rank || (((n == rank) && same_guid w q) || is_fixed left rank q))
    by_test true e =
        ap (λ t. t || is_fixed left rank q) (list_any-append (λ r. r == rank) (ranks_at w old) (n ∷ []))
        ∙ or_in (has_rank (ranks_at w old) rank) (n == rank) (is_fixed left rank q)
        ∙ ap (λ t. has_rank (ranks_at w old) rank || (((n == rank) && t) || is_fixed left rank q)) (sym (same_at w q ∙ e))
        ∙ ap (λ v. has_rank (ranks_at v old) rank || (((n == rank) && same_guid w q) || is_fixed left rank q)) (sym (found_is w q e))
    by_test false e =
        ap (λ t. has_rank (ranks_at q old) rank || t) (or_out (n == rank) (is_fixed left rank q))
        ∙ ap (λ t. has_rank (ranks_at q old) rank || (((n == rank) && t) || is_fixed left rank q)) (sym (same_at w q ∙ e))

-- a writer that no pair names has no fixed rank
unnamed : (q : Guid) (ps : List FixedMatch) (rank : ℕ) → list_any (λ (p : FixedMatch). is_at p.writer q) ps ≡ false → is_fixed (map pair_of ps) rank q ≡ false
unnamed q [] rank none = refl
unnamed q (p ∷ ps) rank none = by_test (is_at p.writer q) refl none (unnamed q ps rank)
  where
    by_test : (b : Bool) → is_at p.writer q ≡ b → (b || list_any (λ (o : FixedMatch). is_at o.writer q) ps) ≡ false → (list_any (λ (o : FixedMatch). is_at o.writer q) ps ≡ false → is_fixed (map pair_of ps) rank q ≡ false)
        → (((p.rank == rank) && same_guid p.writer q) || is_fixed (map pair_of ps) rank q) ≡ false
    by_test true e bad more = absurd cc
    by_test false e left more = rw (same_at p.writer q ∙ e) (sym (or_out (p.rank == rank) (is_fixed (map pair_of ps) rank q)) ∙ more left)

none_matched : (f : ℕ → Bool) → ((n : ℕ) → f n ≡ false) → (rank : ℕ) (rs : List (Option Wish)) → matched_from f None rank rs ≡ []
none_matched f none rank [] = refl
none_matched f none rank (r ∷ rs) = rw (no_writer r, none rank) (none_matched f none (rank + 1) rs)

pub none_fixed : (q : Guid) (ps : List FixedMatch) (rs : List (Option Wish)) → list_any (λ (p : FixedMatch). is_at p.writer q) ps ≡ false → [] ≡ fixed_ranks (map pair_of ps) rs q
none_fixed q ps rs none = sym (none_matched (λ rank. is_fixed (map pair_of ps) rank q) (λ n. unnamed q ps n none) 0 rs)

-- the ranks of one more writer are put into the index
pub one_put : (q w : Guid) (ps left : List FixedMatch) (p : FixedMatch) (rs : List (Option Wish)) (listed old new : List (Guid × List ℕ)) → w ≡ p.writer
    → ((rank : ℕ) → has_rank (ranks_at w listed) rank ≡ is_fixed (map pair_of ps) rank w)
    → ranks_at q new ≡ (if is_at w q then matched_from (has_rank (ranks_at w listed)) None 0 rs else ranks_at q old)
    → (list_any (λ (o : FixedMatch). is_at o.writer q) (p ∷ left) ≡ false → ranks_at q old ≡ fixed_ranks (map pair_of ps) rs q)
    → list_any (λ (o : FixedMatch). is_at o.writer q) left ≡ false → ranks_at q new ≡ fixed_ranks (map pair_of ps) rs q
one_put q w ps left p rs listed old new is are put before none = put ∙ by_test (is_at w q) refl
  where
    by_test : (b : Bool) → is_at w q ≡ b → (if b then matched_from (has_rank (ranks_at w listed)) None 0 rs else ranks_at q old) ≡ fixed_ranks (map pair_of ps) rs q
    by_test true e =
        matched_same (has_rank (ranks_at w listed)) (λ rank. is_fixed (map pair_of ps) rank w) are None 0 rs
        ∙ ap (λ v. fixed_ranks (map pair_of ps) rs v) (sym (found_is w q e))
    by_test false e = before (rw (sym is, e) none)

-- ---- the start

in_order : InOrder []
unfolding IsStrictlySortedBy
in_order = tt

no_participants : IsStrictlySortedBy prefix_order []
unfolding IsStrictlySortedBy
no_participants = tt

-- a rank that no reader has is fixed with none
fixed_within : (own : GuidPrefix) (n : ℕ) (ps : List FixedMatch) → list_any (is_bad_fixed own n) ps ≡ false → (g : Guid) (rank : ℕ) → nat_lt rank n ≡ false → is_fixed (map pair_of ps) rank g ≡ false
fixed_within own n [] good g rank past = refl
fixed_within own n (p ∷ ps) good g rank past = by_tests (p.rank == rank) refl (is_bad_fixed own n p) refl good (fixed_within own n ps)
  where
    by_tests : (b : Bool) → (p.rank == rank) ≡ b → (c : Bool) → is_bad_fixed own n p ≡ c → (c || list_any (is_bad_fixed own n) ps) ≡ false
        → (list_any (is_bad_fixed own n) ps ≡ false → (h : Guid) (m : ℕ) → nat_lt m n ≡ false → is_fixed (map pair_of ps) m h ≡ false)
        → ((b && same_guid p.writer g) || is_fixed (map pair_of ps) rank g) ≡ false
    by_tests b e true bad left more = absurd cc
    by_tests false e false ok left more = more left g rank past
    by_tests true e false ok left more = absurd (let worse : nat_le n p.rank ≡ true = grind (arith, nat_tests) in cc)

abbrev pub at_first : GuidPrefix → List (Option Wish) → List (Guid × List ℕ) → List (Guid × List ℕ) → RegistryView
at_first own readers fixed ranks = record { own = own; moment = 0; readers = readers; fixed = fixed; participants = []; leases = []; announcers = []; writers = []; remote_readers = []; ranks = ranks }

map_length : {X Y : Type 0} (f : X → Y) (xs : List X) → length (map f xs) ≡ length xs
map_length f [] = refl
map_length f (x ∷ xs) = ap suc (map_length f xs)

pub few_readers : (c : Config) → check_of c ≡ Ok tt → length (map reader_of c.readers.items) ≤ 4096
few_readers c taken =
    let few : length c.readers.items ≤ 256 = ((taken_is_faultless c).0 taken).readers_at_most in
    let same : length (map reader_of c.readers.items) ≡ length c.readers.items = map_length reader_of c.readers.items in
    omega (arith, few, same)

pub at_start : (c : Config) (fixed ranks : List (Guid × List ℕ)) → check_of c ≡ Ok tt
    → ((g : Guid) → ranks_at g fixed ≡ fixed_ranks (map pair_of c.fixed.items) (map reader_of c.readers.items) g)
    → ((g : Guid) → ranks_at g ranks ≡ fixed_ranks (map pair_of c.fixed.items) (map reader_of c.readers.items) g)
    → IsKnown (first_known c) (at_first c.own (map reader_of c.readers.items) fixed ranks)
at_start c fixed ranks taken fixed_are ranks_are =
    let pairs = map pair_of c.fixed.items in
    let readers = map reader_of c.readers.items in
    let good = list_any_none (is_bad_fixed c.own (length c.readers.items)) c.fixed.items (((taken_is_faultless c).0 taken).good_fixed) in
    record {
      own = refl;
      moment = refl;
      readers = refl;
      fixed = λ g rank. ap (λ l. has_rank l rank) (fixed_are g)
          ∙ fixed_member (λ n. is_fixed pairs n g) readers rank
          (λ past. fixed_within c.own (length c.readers.items) c.fixed.items good g rank (ap (λ n. nat_lt rank n) (sym (map_length reader_of c.readers.items)) ∙ past));
      started = fixed_are;
      participants = refl;
      leases = λ p m. refl;
      in_order = no_participants;
      announcers = tt;
      announce = tt;
      writers = refl;
      ordered = in_order;
      remote_readers = refl;
      ranks = ranks_are;
    }
