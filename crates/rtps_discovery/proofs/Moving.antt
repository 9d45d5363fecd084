-- A reader of ours that comes or goes: the changes of its matches, and the data of discovery then.
use Rattle.std.proofs.Common.{◌≡◌, ℕ, zero, suc, ◌==◌, nat_lt, List, [], ◌∷◌, ◌++◌, length, Bool, true, false, not, ◌&&◌, ◌||◌, if◌then◌else◌, cond, Option, Some, None, get_or, refl, sym, ap, ◌∙◌, arith, append-nil, append_assoc}
use Rattle.std.specs.Prelude.{filter}
use Rattle.std.specs.List.{flat_map}
use Rattle.std.specs.Map.{keys_of, lookup}
use Rattle.std.specs.Option.{unwrap_or}
use Rattle.std.proofs.lemmas.Bool.Decides.{nat_tests}
use Rattle.std.proofs.lemmas.Map.Keys.{sorted_head, sorted_tail}
use Rattle.std.proofs.Math.ListN.{set}
use Rattle.rtps_types.specs.declared.identity.Guid.{Guid}
use Rattle.rtps_types.specs.declared.identity.GuidPrefix.{GuidPrefix}
use Rattle.rtps_types.specs.declared.locator.Locator.{Locator}
use Rattle.rtps_types.specs.Order.{guid_order}
use Rattle.rtps_proxy.specs.Matches.{is_at}
use Rattle.rtps_discovery.specs.Announcement.{Offer}
use Rattle.rtps_discovery.specs.Changes.{ChangeAt, at_pair, changes, told}
use Rattle.rtps_discovery.specs.Joining.{joined, vacated, without_fixed, without_reader}
use Rattle.rtps_discovery.specs.Kept.{IsKnown, RegistryView, ranks_at}
use Rattle.rtps_discovery.specs.Known.{Known, RemoteParticipant, Unmatched, Joined, Refused, PairState, Wish, is_fixed, is_joined, locators_for, reader_at, standing, writer_at}
use Rattle.rtps_discovery.specs.Moving.{Joins, Parts, meeting, parting, ranked_with, without_rank}
use Rattle.rtps_discovery.specs.OneWriter.{has_rank, matched_from}
use Rattle.rtps_discovery.proofs.Guids.{equal_from, found_is, tied}
use Rattle.rtps_discovery.proofs.Joining.{fixed_without, joined_from, joined_heard, parted_from, parted_heard}
use Rattle.rtps_discovery.proofs.Leaving.{Found, all_found}
use Rattle.rtps_discovery.proofs.OneWriter.{no_writer}
use Rattle.rtps_discovery.proofs.SameKeys.{none_above}
use Rattle.rtps_discovery.proofs.SortedKeys.{InOrder, has}
use Rattle.rtps_discovery.proofs.Starting.{is_member}

-- ---- the changes, by the entries of the writers

by_entries : (f : Guid → Option Offer → List ChangeAt) (all es : List (Guid × Offer)) → Found all es → flat_map (λ g. f g (lookup (is_at g) all)) (keys_of es) ≡ flat_map (λ (e : Guid × Offer). f e.0 (Some e.1)) es
by_entries f all [] found = refl
by_entries f all (e ∷ es) (here, rest) = ap (λ o. f e.0 o ++ flat_map (λ g. f g (lookup (is_at g) all)) (keys_of es)) here ∙ ap (λ l. f e.0 (Some e.1) ++ l) (by_entries f all es rest)

same_told : (f h : Guid × Offer → List ChangeAt) → ((e : Guid × Offer) → f e ≡ h e) → (es : List (Guid × Offer)) → flat_map f es ≡ flat_map h es
same_told f h same [] = refl
same_told f h same (e ∷ es) = rw (same e) (ap (λ l. h e ++ l) (same_told f h same es))

-- the end of a match has no locators
told_end : (rank : ℕ) (g : Guid) (ls ms : List Locator) (s : PairState) → told rank g ls s Unmatched ≡ told rank g ms s Unmatched
told_end rank g ls ms Unmatched = refl
told_end rank g ls ms Joined = refl
told_end rank g ls ms (Refused p) = refl

module _ (k : Known) (d : RegistryView) (is : IsKnown k d) where
  pub joined_told : (r : Wish) → flat_map (meeting d.participants (length k.readers) (Some r)) d.writers ≡ changes (without_fixed (length k.readers) k) (joined r k)
  joined_told r =
      let n = length k.readers in
      ap (λ (ps : List (GuidPrefix × RemoteParticipant)). flat_map (meeting ps n (Some r)) d.writers) is.participants
      ∙ ap (λ (es : List (Guid × Offer)). flat_map (meeting k.participants n (Some r)) es) is.writers
      ∙ sym (by_entries (λ g o. told n g (locators_for k g.prefix o) Unmatched (standing (Some r) o)) k.writers k.writers (all_found k.writers is.ordered))
      ∙ sym (joined_heard k r is.ordered)

  pub parted_told : (rank : ℕ) → flat_map (parting d.fixed rank (reader_at k.readers rank)) d.writers ≡ changes k (without_reader rank k)
  parted_told rank =
      let r : Option Wish = reader_at k.readers rank in
      let after : Known = without_reader rank k in
      ap (λ (es : List (Guid × Offer)). flat_map (parting d.fixed rank r) es) is.writers
      ∙ same_told (parting d.fixed rank r) (λ e. at_pair k.fixed rank e.0 (locators_for after e.0.prefix (Some e.1)) (standing r (Some e.1)) Unmatched)
      (λ e. ap (λ b. if b then [] else told rank e.0 [] (standing r (Some e.1)) (standing r None)) (is.fixed e.0 rank)
      ∙ ap (λ s. at_pair k.fixed rank e.0 [] (standing r (Some e.1)) s) (no_writer r)
      ∙ ap (λ l. if is_fixed k.fixed rank e.0 then [] else l) (told_end rank e.0 [] (locators_for after e.0.prefix (Some e.1)) (standing r (Some e.1))))
      k.writers
      ∙ sym (by_entries (λ g o. at_pair k.fixed rank g (locators_for after g.prefix o) (standing r o) (standing None o)) k.writers k.writers (all_found k.writers is.ordered))
      ∙ sym (parted_heard k rank is.ordered)

-- the changes of one more entry are appended
pub one_more_told : (f : Guid × Offer → List ChangeAt) (e : Guid × Offer) (left es : List (Guid × Offer)) (earlier all : List ChangeAt) → es ≡ e ∷ left → all ≡ earlier ++ f e → all ++ flat_map f left ≡ earlier ++ flat_map f es
one_more_told f e left es earlier all cut more =
    ap (λ l. l ++ flat_map f left) more ∙ append_assoc earlier (f e) (flat_map f left) ∙ ap (λ (l : List (Guid × Offer)). earlier ++ flat_map f l) (sym cut)

-- ---- the ranks that are listed for each writer

module _ (rank : ℕ) (r : Option Wish) (g : Guid) where
  none_ranked : (es : List (Guid × Offer)) (ranks : List ℕ) → has (keys_of es) g ≡ false → ranked_with rank r es g ranks ≡ ranks
  none_ranked [] ranks none = refl
  none_ranked (e ∷ es) ranks none = by_tests (is_at e.0 g) (is_joined (standing r (Some e.1))) none (none_ranked es ranks)
    where
      by_tests : (t b : Bool) → (t || has (keys_of es) g) ≡ false → (has (keys_of es) g ≡ false → ranked_with rank r es g ranks ≡ ranks) → ranked_with rank r es g (if b && t then ranks ++ rank ∷ [] else ranks) ≡ ranks
      by_tests true b bad more = absurd cc
      by_tests false true left more = more left
      by_tests false false left more = more left

  pub one_ranked : (es : List (Guid × Offer)) (ranks : List ℕ) → InOrder (keys_of es) → ranked_with rank r es g ranks ≡ ranks ++ (if is_joined (standing r (lookup (is_at g) es)) then rank ∷ [] else [])
  one_ranked [] ranks up = rw (no_writer r) (sym (append-nil ranks))
  one_ranked (e ∷ es) ranks up = by_test (is_at e.0 g) refl (one_ranked es ranks (sorted_tail guid_order e.0 (keys_of es) up))
    where
      joins : Bool
      joins = is_joined (standing r (Some e.1))

      added : (b : Bool) → (if b && true then ranks ++ rank ∷ [] else ranks) ≡ ranks ++ (if b then rank ∷ [] else [])
      added true = refl
      added false = sym (append-nil ranks)

      kept : (b : Bool) → (if b && false then ranks ++ rank ∷ [] else ranks) ≡ ranks
      kept true = refl
      kept false = refl

      by_test : (t : Bool) → is_at e.0 g ≡ t → ranked_with rank r es g ranks ≡ ranks ++ (if is_joined (standing r (lookup (is_at g) es)) then rank ∷ [] else [])
          → ranked_with rank r es g (if joins && t then ranks ++ rank ∷ [] else ranks) ≡ ranks ++ (if is_joined (standing r (cond (is_at g e.0) (Some e.1) (lookup (is_at g) es))) then rank ∷ [] else [])
      by_test true at more =
          let none : has (keys_of es) g ≡ false = none_above e.0 g (keys_of es) (equal_from (guid_order e.0 g) at) (sorted_head guid_order e.0 (keys_of es) up) in
          rw (tied g e.0 ∙ at) (none_ranked es (if joins && true then ranks ++ rank ∷ [] else ranks) none ∙ added joins)
      by_test false at more = rw (tied g e.0 ∙ at) (ap (ranked_with rank r es g) (kept joins) ∙ more)

has_without : (rank n : ℕ) (ranks : List ℕ) → has_rank (without_rank rank ranks) n ≡ (not (n == rank) && has_rank ranks n)
has_without rank n [] = by_test (n == rank)
  where
    by_test : (b : Bool) → false ≡ (not b && false)
    by_test true = refl
    by_test false = refl
has_without rank n (x ∷ xs) = by_tests (x == rank) refl (x == n) refl (has_without rank n xs)
  where
    by_tests : (a : Bool) → (x == rank) ≡ a → (b : Bool) → (x == n) ≡ b → has_rank (without_rank rank xs) n ≡ (not (n == rank) && has_rank xs n)
        → has_rank (if not a then x ∷ without_rank rank xs else without_rank rank xs) n ≡ (not (n == rank) && (b || has_rank xs n))
    by_tests true at true here more = let same : (n == rank) ≡ true = grind (arith, nat_tests) in rw same (more ∙ rw same refl)
    by_tests true at false here more = more
    by_tests false at true here more = let other : (n == rank) ≡ false = grind (arith, nat_tests) in rw (other, here) refl
    by_tests false at false here more = rw here more

-- the ranks of one writer are taken out of the index, and put back with one more
pub one_added : (w q : Guid) (rank : ℕ) (ranks : List ℕ) (old removed new : List (Guid × List ℕ)) → ranks ≡ ranks_at w old → (is_at w q ≡ false → lookup (is_at q) removed ≡ lookup (is_at q) old)
    → ranks_at q new ≡ (if is_at w q then ranks ++ rank ∷ [] else ranks_at q removed) → ranks_at q new ≡ (if is_at w q then ranks_at q old ++ rank ∷ [] else ranks_at q old)
one_added w q rank ranks old removed new were others put = put ∙ by_test (is_at w q) refl
  where
    by_test : (t : Bool) → is_at w q ≡ t → (if t then ranks ++ rank ∷ [] else ranks_at q removed) ≡ (if t then ranks_at q old ++ rank ∷ [] else ranks_at q old)
    by_test true at = ap (λ l. l ++ rank ∷ []) (were ∙ ap (λ h. ranks_at h old) (sym (found_is w q at)))
    by_test false at = ap (λ (o : Option (List ℕ)). unwrap_or o []) (others at)

-- a new rank has no fixed matches
never_fixed : (k : Known) (d : RegistryView) → IsKnown k d → (g : Guid) → is_fixed k.fixed (length k.readers) g ≡ false
never_fixed k d is g =
    let n = length k.readers in
    let none : nat_lt n n ≡ false = grind (arith, nat_tests) in
    sym (is.fixed g n) ∙ ap (λ l. has_rank l n) (is.started g) ∙ is_member (λ i. is_fixed k.fixed i g) None n n 0 k.readers (omega arith) ∙ rw none refl

fixed_stay : (k : Known) (d : RegistryView) → IsKnown k d → (g : Guid) (rank : ℕ) → is_fixed k.fixed rank g ≡ is_fixed (filter (λ (p : ℕ × Guid). not (p.0 == length k.readers)) k.fixed) rank g
fixed_stay k d is g rank = by_test (rank == length k.readers) refl ∙ sym (fixed_without (length k.readers) rank g k.fixed)
  where
    by_test : (t : Bool) → (rank == length k.readers) ≡ t → is_fixed k.fixed rank g ≡ (not (rank == length k.readers) && is_fixed k.fixed rank g)
    by_test true e = let here : rank ≡ length k.readers = grind (arith, nat_tests) in rw e (ap (λ n. is_fixed k.fixed n g) here ∙ never_fixed k d is g)
    by_test false e = rw e refl

-- ---- the data of discovery then

pub joins : (d : RegistryView) (r s : Wish) (n : ℕ) (readers : List (Option Wish)) (rs : List (Guid × List ℕ)) (heard : List ChangeAt) → s ≡ r → n ≡ length d.readers → readers ≡ d.readers ++ Some s ∷ []
    → ((g : Guid) → ranks_at g rs ≡ ranked_with n (Some s) d.writers g (ranks_at g d.ranks)) → heard ≡ flat_map (meeting d.participants n (Some s)) d.writers
    → Joins r d (record d { readers = readers; ranks = rs }) n heard
joins d r s n readers rs heard same last are ranks told_are = record {
  rank = last;
  known = λ k is. record {
    own = is.own;
    moment = is.moment;
    readers = are ∙ ap (λ (x : Wish). d.readers ++ Some x ∷ []) same ∙ ap (λ (l : List (Option Wish)). l ++ Some r ∷ []) is.readers;
    fixed = λ g rank. is.fixed g rank ∙ fixed_stay k d is g rank;
    started = λ g. is.started g ∙ sym (joined_from k r g None ∙ append-nil (matched_from (λ rank. is_fixed k.fixed rank g) None 0 k.readers));
    participants = is.participants;
    in_order = is.in_order;
    leases = is.leases;
    announcers = is.announcers;
    announce = is.announce;
    writers = is.writers;
    ordered = is.ordered;
    remote_readers = is.remote_readers;
    ranks = λ g.
        ranks g
        ∙ ap (λ (m : ℕ). ranked_with m (Some s) d.writers g (ranks_at g d.ranks)) (last ∙ ap length is.readers)
        ∙ ap (λ (x : Wish). ranked_with (length k.readers) (Some x) d.writers g (ranks_at g d.ranks)) same
        ∙ ap (λ (es : List (Guid × Offer)). ranked_with (length k.readers) (Some r) es g (ranks_at g d.ranks)) is.writers
        ∙ one_ranked (length k.readers) (Some r) g k.writers (ranks_at g d.ranks) is.ordered
        ∙ ap (λ l. l ++ (if is_joined (standing (Some r) (writer_at k g)) then length k.readers ∷ [] else [])) (is.ranks g)
        ∙ sym (joined_from k r g (writer_at k g));
  };
  told = λ k is.
      told_are
      ∙ ap (λ (m : ℕ). flat_map (meeting d.participants m (Some s)) d.writers) (last ∙ ap length is.readers)
      ∙ ap (λ (x : Wish). flat_map (meeting d.participants (length k.readers) (Some x)) d.writers) same
      ∙ joined_told k d is r;
}

pub parts : (d : RegistryView) (rank : ℕ) (readers : List (Option Wish)) (fixed rs : List (Guid × List ℕ)) (heard : List ChangeAt) → readers ≡ vacated rank d.readers
    → ((g : Guid) → ranks_at g fixed ≡ without_rank rank (ranks_at g d.fixed)) → ((g : Guid) → ranks_at g rs ≡ without_rank rank (ranks_at g d.ranks))
    → heard ≡ flat_map (parting d.fixed rank (reader_at d.readers rank)) d.writers → Parts rank d (record d { readers = readers; fixed = fixed; ranks = rs }) heard
parts d rank readers fixed rs heard are fixed_are ranks_are told_are = record {
  known = λ k is. record {
    own = is.own;
    moment = is.moment;
    readers = are ∙ ap (vacated rank) is.readers;
    fixed = λ g n. ap (λ l. has_rank l n) (fixed_are g) ∙ has_without rank n (ranks_at g d.fixed) ∙ ap (λ b. not (n == rank) && b) (is.fixed g n) ∙ sym (fixed_without rank n g k.fixed);
    started = λ g. fixed_are g ∙ ap (without_rank rank) (is.started g) ∙ sym (parted_from k rank g None);
    participants = is.participants;
    in_order = is.in_order;
    leases = is.leases;
    announcers = is.announcers;
    announce = is.announce;
    writers = is.writers;
    ordered = is.ordered;
    remote_readers = is.remote_readers;
    ranks = λ g. ranks_are g ∙ ap (without_rank rank) (is.ranks g) ∙ sym (parted_from k rank g (writer_at k g));
  };
  told = λ k is. told_are ∙ ap (λ (l : List (Option Wish)). flat_map (parting d.fixed rank (reader_at l rank)) d.writers) is.readers ∙ parted_told k d is rank;
}

-- ---- places by rank

pub vacated_set : (readers : List (Option Wish)) (rank : ℕ) → set readers rank None ≡ vacated rank readers
vacated_set [] rank = refl
vacated_set (r ∷ rs) zero = refl
vacated_set (r ∷ rs) (suc rank) = ap (λ l. r ∷ l) (vacated_set rs rank)

pub reader_got : (readers : List (Option Wish)) (rank : ℕ) → get_or readers rank None ≡ reader_at readers rank
reader_got [] rank = refl
reader_got (r ∷ rs) zero = refl
reader_got (r ∷ rs) (suc rank) = reader_got rs rank
