-- A writer comes, changes or goes: what is heard of it, and what is kept then.
use Rattle.std.proofs.Common.{◌≡◌, ℕ, ◌+◌, List, [], ◌∷◌, ◌++◌, Bool, true, false, Option, Some, None, if◌then◌else◌, refl, sym, ap, ◌∙◌, subst}
use Rattle.std.specs.BTreeMap.{insert_entry}
use Rattle.std.specs.Map.{keys_of, lookup, remove_entry}
use Rattle.rtps_types.specs.Order.{guid_order}
use Rattle.rtps_types.specs.declared.identity.Guid.{Guid}
use Rattle.rtps_types.specs.declared.identity.GuidPrefix.{GuidPrefix}
use Rattle.rtps_types.specs.declared.locator.Locator.{Locator}
use Rattle.rtps_proxy.specs.Matches.{is_at}
use Rattle.rtps_discovery.specs.Announcement.{Offer, Offers, Withdraws}
use Rattle.rtps_discovery.specs.Changes.{ChangeAt, changes}
use Rattle.rtps_discovery.specs.Known.{Known, RemoteParticipant, Wish, is_fixed, locators_for, own_or, writer_at}
use Rattle.rtps_discovery.specs.Kept.{Applies, IsKnown, RegistryView, fixed_at, heard_of, locators_by, matched_ranks, participant_in, ranks_at, ranks_of}
use Rattle.rtps_discovery.specs.OneWriter.{column, matched_from}
use Rattle.rtps_discovery.proofs.Guids.{found_is}
use Rattle.rtps_discovery.proofs.OneWriter.{DiffersAt, changes_one}
use Rattle.rtps_discovery.proofs.SortedKeys.{InOrder}

-- tests that answer the same give the same
column_same : (f h : ℕ → Bool) → ((n : ℕ) → f n ≡ h n) → (g : Guid) (ls : List Locator) (b a : Option Offer) (k : ℕ) (rs : List (Option Wish)) → column f g ls b a k rs ≡ column h g ls b a k rs
column_same f h same g ls b a k [] = refl
column_same f h same g ls b a k (r ∷ rs) = rw (same k, column_same f h same g ls b a (k + 1) rs) refl

pub matched_same : (f h : ℕ → Bool) → ((n : ℕ) → f n ≡ h n) → (w : Option Offer) (k : ℕ) (rs : List (Option Wish)) → matched_from f w k rs ≡ matched_from h w k rs
matched_same f h same w k [] = refl
matched_same f h same w k (r ∷ rs) = rw (same k, matched_same f h same w (k + 1) rs) refl

-- of the writers kept, only this one differs, and it offers this now
pub record IsStep (es fs : List (Guid × Offer)) (g : Guid) (w : Option Offer) : Type 0 where
  pub here : lookup (is_at g) fs ≡ w
  pub others : (q : Guid) → is_at g q ≡ false → lookup (is_at q) fs ≡ lookup (is_at q) es
  pub sorted : InOrder (keys_of fs)

abbrev pub with_writers : Known → List (Guid × Offer) → Known
with_writers k ws = record k { writers = ws }

module _ (k : Known) (d : RegistryView) (is : IsKnown k d) (g : Guid) (w : Option Offer) (ws : List (Guid × Offer)) (step : IsStep d.writers ws g w) where
  differs : DiffersAt k (with_writers k ws) g
  differs = record {
    readers = refl;
    others = λ q apart. step.others q apart ∙ ap (lookup (is_at q)) is.writers;
    sorted = step.sorted;
  }

  locators_are : (o : Option Offer) → locators_for (with_writers k ws) g.prefix o ≡ locators_by d g.prefix o
  locators_are None = refl
  locators_are (Some x) = ap (λ (ps : List (GuidPrefix × RemoteParticipant)). own_or x.locators (participant_in g.prefix ps)) (sym is.participants)

  pub heard : changes k (with_writers k ws) ≡ heard_of d g w
  heard =
      changes_one k (with_writers k ws) g differs
      ∙ ap (λ o. column (λ rank. is_fixed k.fixed rank g) g (locators_for (with_writers k ws) g.prefix o) (writer_at k g) o 0 k.readers) step.here
      ∙ ap (λ ls. column (λ rank. is_fixed k.fixed rank g) g ls (writer_at k g) w 0 k.readers) (locators_are w)
      ∙ column_same (λ rank. is_fixed k.fixed rank g) (fixed_at d g) (λ n. sym (is.fixed g n)) g (locators_by d g.prefix w) (writer_at k g) w 0 k.readers
      ∙ ap (λ (es : List (Guid × Offer)). column (fixed_at d g) g (locators_by d g.prefix w) (lookup (is_at g) es) w 0 k.readers) (sym is.writers)
      ∙ ap (λ rs. column (fixed_at d g) g (locators_by d g.prefix w) (lookup (is_at g) d.writers) w 0 rs) (sym is.readers)

  ranks_here : ranks_of d g w ≡ matched_ranks (with_writers k ws) g
  ranks_here =
      ap (λ rs. matched_from (fixed_at d g) w 0 rs) is.readers
      ∙ matched_same (fixed_at d g) (λ rank. is_fixed k.fixed rank g) (is.fixed g) w 0 k.readers
      ∙ ap (λ o. matched_from (λ rank. is_fixed k.fixed rank g) o 0 k.readers) (sym step.here)

  pub ranked : (rs : List (Guid × List ℕ)) → ((q : Guid) → ranks_at q rs ≡ (if is_at g q then ranks_of d g w else ranks_at q d.ranks)) → (q : Guid) → ranks_at q rs ≡ matched_ranks (with_writers k ws) q
  ranked rs put q = put q ∙ by_test (is_at g q) refl
    where
      by_test : (b : Bool) → is_at g q ≡ b → (if b then ranks_of d g w else ranks_at q d.ranks) ≡ matched_ranks (with_writers k ws) q
      by_test true e = ranks_here ∙ ap (matched_ranks (with_writers k ws)) (sym (found_is g q e))
      by_test false e = is.ranks q ∙ ap (λ o. matched_from (λ rank. is_fixed k.fixed rank q) o 0 k.readers) (sym (differs.others q e))

  pub stands : (rs : List (Guid × List ℕ)) → ((q : Guid) → ranks_at q rs ≡ (if is_at g q then ranks_of d g w else ranks_at q d.ranks)) → IsKnown (with_writers k ws) (record d { writers = ws; ranks = rs })
  stands rs put = record {
    own = is.own;
    moment = is.moment;
    leases = is.leases;
    in_order = is.in_order;
    readers = is.readers;
    fixed = is.fixed;
    started = is.started;
    participants = is.participants;
    announcers = is.announcers;
    announce = is.announce;
    writers = refl;
    ordered = step.sorted;
    remote_readers = is.remote_readers;
    ranks = ranked rs put;
  }

-- where these are the writers that are known after an announcement of one of them
pub offers : (d : RegistryView) (g : Guid) (w : Offer) (ws : List (Guid × Offer)) (rs : List (Guid × List ℕ)) (earlier all : List ChangeAt) → IsStep d.writers ws g (Some w)
    → ws ≡ insert_entry guid_order d.writers g w → ((q : Guid) → ranks_at q rs ≡ (if is_at g q then ranks_of d g (Some w) else ranks_at q d.ranks)) → all ≡ earlier ++ heard_of d g (Some w)
    → Applies (Offers g w) d (record d { writers = ws; ranks = rs }) earlier all
offers d g w ws rs earlier all step e put told = record {
  known = λ k is.
      let same : ws ≡ insert_entry guid_order k.writers g w = e ∙ ap (λ (l : List (Guid × Offer)). insert_entry guid_order l g w) is.writers in
      subst (λ (l : List (Guid × Offer)). IsKnown (with_writers k l) (record d { writers = ws; ranks = rs })) same (stands k d is g (Some w) ws step rs put);
  changes = λ k is.
      let same : ws ≡ insert_entry guid_order k.writers g w = e ∙ ap (λ (l : List (Guid × Offer)). insert_entry guid_order l g w) is.writers in
      told ∙ ap (λ l. earlier ++ l) (sym (heard k d is g (Some w) ws step) ∙ ap (λ l. changes k (with_writers k l)) same);
}

pub withdraws : (d : RegistryView) (g : Guid) (ws : List (Guid × Offer)) (rs : List (Guid × List ℕ)) (earlier all : List ChangeAt) → IsStep d.writers ws g None
    → ws ≡ remove_entry (is_at g) d.writers → ((q : Guid) → ranks_at q rs ≡ (if is_at g q then ranks_of d g None else ranks_at q d.ranks)) → all ≡ earlier ++ heard_of d g None
    → Applies (Withdraws g) d (record d { writers = ws; ranks = rs }) earlier all
withdraws d g ws rs earlier all step e put told = record {
  known = λ k is.
      let same : ws ≡ remove_entry (is_at g) k.writers = e ∙ ap (λ (l : List (Guid × Offer)). remove_entry (is_at g) l) is.writers in
      subst (λ (l : List (Guid × Offer)). IsKnown (with_writers k l) (record d { writers = ws; ranks = rs })) same (stands k d is g None ws step rs put);
  changes = λ k is.
      let same : ws ≡ remove_entry (is_at g) k.writers = e ∙ ap (λ (l : List (Guid × Offer)). remove_entry (is_at g) l) is.writers in
      told ∙ ap (λ l. earlier ++ l) (sym (heard k d is g None ws step) ∙ ap (λ l. changes k (with_writers k l)) same);
}
