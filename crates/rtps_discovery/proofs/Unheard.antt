-- What changes nothing for our readers.
use Rattle.std.proofs.Common.{◌≡◌, ℕ, ◌+◌, List, [], ◌∷◌, ◌++◌, Option, refl, sym, ap, ◌∙◌}
use Rattle.std.specs.BTreeSet.{insert_key}
use Rattle.std.specs.Set.{remove_key}
use Rattle.std.specs.List.{flat_map}
use Rattle.std.specs.Map.{keys_of, lookup}
use Rattle.std.proofs.lemmas.List.{append-nil}
use Rattle.rtps_types.specs.declared.identity.Guid.{Guid}
use Rattle.rtps_types.specs.Order.{guid_order}
use Rattle.rtps_proxy.specs.Matches.{is_at}
use Rattle.rtps_discovery.specs.Announcement.{Asks, AsksNoMore, Offer}
use Rattle.rtps_discovery.specs.Changes.{ChangeAt, at_pair, both, changes, row, rows}
use Rattle.rtps_discovery.specs.Known.{Known, Wish, known_after, locators_at, standing, writer_at}
use Rattle.rtps_discovery.specs.Kept.{Applies, IsKnown, RegistryView}
use Rattle.rtps_discovery.proofs.OneWriter.{at_pair_same}

none_counts : {X Y : Type 0} → (f : X → List Y) → ((x : X) → f x ≡ []) → (xs : List X) → flat_map f xs ≡ []
none_counts f none [] = refl
none_counts f none (x ∷ xs) = rw (none x, none_counts f none xs) refl

-- where the readers stay, and the writers
pub unheard : (before after : Known) → after.readers ≡ before.readers → after.writers ≡ before.writers → changes before after ≡ []
unfolding changes
unheard before after same writers = ap (rows before after gs 0 before.readers) same ∙ rows_none 0 before.readers
  where
    gs : List Guid
    gs = both (keys_of before.writers) (keys_of after.writers)

    row_none : (k : ℕ) (r : Option Wish) → row before after gs k r r ≡ []
    row_none k r = none_counts (λ g. at_pair before.fixed k g (locators_at after g) (standing r (writer_at before g)) (standing r (writer_at after g)))
        (λ g. ap (λ (ws : List (Guid × Offer)). at_pair before.fixed k g (locators_at after g) (standing r (writer_at before g)) (standing r (lookup (is_at g) ws))) writers
        ∙ at_pair_same before.fixed k g (locators_at after g) (standing r (writer_at before g)))
        gs

    rows_none : (k : ℕ) (rs : List (Option Wish)) → rows before after gs k rs rs ≡ []
    rows_none k [] = refl
    rows_none k (r ∷ rs) = rw (row_none k r, rows_none (k + 1) rs) refl

abbrev with_readers : RegistryView → List Guid → RegistryView
with_readers d gs = record d { remote_readers = gs }

keeps_readers : (k : Known) (d : RegistryView) (gs : List Guid) → IsKnown k d → IsKnown (record k { remote_readers = gs }) (with_readers d gs)
keeps_readers k d gs is = record {
  own = is.own;
  moment = is.moment;
  leases = is.leases;
  in_order = is.in_order;
  readers = is.readers;
  fixed = is.fixed;
  started = is.started;
  participants = is.participants;
  announcers = is.announcers;
  announce = is.announce;
  writers = is.writers;
  ordered = is.ordered;
  remote_readers = refl;
  ranks = is.ranks;
}

pub quiet : (k k' : Known) (earlier : List ChangeAt) → k'.readers ≡ k.readers → k'.writers ≡ k.writers → earlier ≡ earlier ++ changes k k'
quiet k k' earlier same writers = sym (append-nil earlier) ∙ ap (λ l. earlier ++ l) (sym (unheard k k' same writers))

pub asks : (d : RegistryView) (g : Guid) (gs : List Guid) (earlier : List ChangeAt) → gs ≡ insert_key guid_order d.remote_readers g → Applies (Asks g) d (with_readers d gs) earlier earlier
asks d g gs earlier e = record {
  known = λ k is.
      let same : gs ≡ insert_key guid_order k.remote_readers g = e ∙ ap (λ l. insert_key guid_order l g) is.remote_readers in
      rw (← same) (keeps_readers k d gs is);
  changes = λ k is. quiet k (known_after k (Asks g)) earlier refl refl;
}

pub asks_no_more : (d : RegistryView) (g : Guid) (gs : List Guid) (earlier : List ChangeAt) → gs ≡ remove_key (is_at g) d.remote_readers → Applies (AsksNoMore g) d (with_readers d gs) earlier earlier
asks_no_more d g gs earlier e = record {
  known = λ k is.
      let same : gs ≡ remove_key (is_at g) k.remote_readers = e ∙ ap (remove_key (is_at g)) is.remote_readers in
      rw (← same) (keeps_readers k d gs is);
  changes = λ k is. quiet k (known_after k (AsksNoMore g)) earlier refl refl;
}
