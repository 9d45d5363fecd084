-- A participant comes, or speaks again.
use Rattle.std.proofs.Common.{◌≡◌, ℕ, List, [], ◌∷◌, Bool, true, false, if◌then◌else◌, refl, sym, ap, subst, ◌∙◌}
use Rattle.std.specs.Prelude.{is_some}
use Rattle.std.specs.BTreeMap.{insert_entry}
use Rattle.std.specs.List.{AllByRecursion}
use Rattle.std.specs.List.Sorted.{IsStrictlySortedBy}
use Rattle.std.specs.Map.{keys_of}
use Rattle.std.specs.Ordering.{match_ordering}
use Rattle.std.specs.declared.cmp.Ordering.{Ordering}
use Rattle.std.specs.declared.cmp.Ordering.TheVariants.{Less, Equal, Greater}
use Rattle.rtps_types.specs.declared.identity.Guid.{Guid}
use Rattle.rtps_types.specs.declared.identity.GuidPrefix.{GuidPrefix}
use Rattle.rtps_types.specs.Order.{guid_order}
use Rattle.rtps_proxy.specs.Kept as proxy
use Rattle.rtps_proxy.specs.Matches.{AllStand, Match, begun}
use Rattle.rtps_discovery.specs.Announcement.{Comes, Facts}
use Rattle.rtps_discovery.specs.Changes.{ChangeAt}
use Rattle.rtps_discovery.specs.Known.{Known, RemoteParticipant, announcer, known_after, participant_at, prefix_order, publications_reader, publications_writer, subscriptions_reader, subscriptions_writer, where_announced, with_announcers}
use Rattle.rtps_discovery.specs.Kept.{Applies, RegistryView, IsKnown, is_announcer, participant_in}
use Rattle.rtps_discovery.specs.Ends.{Covers}
use Rattle.rtps_discovery.proofs.Unheard.{quiet}

abbrev Announce : List Match → Type 0
Announce ms = AllByRecursion (λ m. is_announcer m ≡ true) ms

begun_announces : (m : Match) (ms : List Match) → is_announcer m ≡ true → Announce ms → Announce (begun m ms)
begun_announces m [] is all = (is, tt)
begun_announces m (n ∷ ms) is (first, rest) = by_order (guid_order m.pairing.writer n.pairing.writer) (begun_announces m ms is rest)
  where
    by_order : (o : Ordering) → Announce (begun m ms) → Announce (match_ordering o (m ∷ n ∷ ms) (m ∷ ms) (n ∷ begun m ms))
    by_order Less more = (is, (first, rest))
    by_order Equal more = (is, rest)
    by_order Greater more = (first, more)

announced_where : (b : Bool) (m : Match) (ms : List Match) → is_announcer m ≡ true → Announce ms → Announce (where_announced b m ms)
announced_where true m ms is all = begun_announces m ms is all
announced_where false m ms is all = all

with_announces : (own p : GuidPrefix) (f : Facts) (ms : List Match) → Announce ms → Announce (with_announcers own p f ms)
with_announces own p f ms all =
    announced_where f.announces_readers (announcer own p subscriptions_writer subscriptions_reader f.metatraffic) (where_announced f.announces_writers (announcer own p publications_writer publications_reader f.metatraffic) ms) refl
    (announced_where f.announces_writers (announcer own p publications_writer publications_reader f.metatraffic) ms refl all)

abbrev told_of : ℕ → Facts → RemoteParticipant
told_of moment f = record { locators = f.locators; lease = f.lease; heard = moment }

pub comes : (d : RegistryView) (p : GuidPrefix) (f : Facts) (ps : List (GuidPrefix × RemoteParticipant)) (leases : List (ℕ × GuidPrefix)) (proxies : List (Guid × proxy.ProxyView)) (earlier : List ChangeAt)
    → ps ≡ insert_entry prefix_order d.participants p (told_of d.moment f)
    → IsStrictlySortedBy prefix_order (keys_of ps)
    → (Covers d.leases d.participants → Covers leases ps)
    → ((ms : List Match) → AllStand ms d.announcers → AllStand (if is_some (participant_in p d.participants) then ms else with_announcers d.own p f ms) proxies)
    → Applies (Comes p f) d (record d { participants = ps; leases = leases; announcers = proxies }) earlier earlier
comes d p f ps leases proxies earlier e up renew begin = record {
  known = λ k is. record {
    own = is.own;
    moment = is.moment;
    readers = is.readers;
    fixed = is.fixed;
    started = is.started;
    participants = entered k is;
    in_order = subst (λ (es : List (GuidPrefix × RemoteParticipant)). IsStrictlySortedBy prefix_order (keys_of es)) (entered k is) up;
    leases = subst (Covers leases) (entered k is) (renew (subst (Covers d.leases) (sym is.participants) is.leases));
    announcers = rw (← is.own, ← is.participants) (begin k.announcers is.announcers);
    announce = by_test k (is_some (participant_at k p)) is.announce;
    writers = is.writers;
    ordered = is.ordered;
    remote_readers = is.remote_readers;
    ranks = is.ranks;
  };
  changes = λ k is. quiet k (known_after k (Comes p f)) earlier refl refl;
}
  where
    entered : (k : Known) → IsKnown k d → ps ≡ insert_entry prefix_order k.participants p (told_of k.moment f)
    entered k is = e ∙ ap (λ (l : List (GuidPrefix × RemoteParticipant)). insert_entry prefix_order l p (told_of d.moment f)) is.participants ∙ ap (λ m. insert_entry prefix_order k.participants p (told_of m f)) is.moment

    by_test : (k : Known) (b : Bool) → Announce k.announcers → Announce (if b then k.announcers else with_announcers k.own p f k.announcers)
    by_test k true all = all
    by_test k false all = with_announces k.own p f k.announcers all
