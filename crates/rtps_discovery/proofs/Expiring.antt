-- Those whose leases have ended, by the index of their ends and by the definition.
use Rattle.std.proofs.Common.{◌≡◌, ℕ, ◌==◌, nat_lt, Bool, true, false, not, ◌&&◌, ◌||◌, if◌then◌else◌, cond, List, [], ◌∷◌, Option, Some, None, refl, sym, ap, ◌∙◌, eq-eqb, arith}
use Rattle.std.specs.Prelude.{filter}
use Rattle.std.specs.Cmp.{both_ways}
use Rattle.std.specs.List.{AllByRecursion, list_any}
use Rattle.std.specs.List.Sorted.{IsStrictlySortedBy}
use Rattle.std.specs.Map.{keys_of, lookup}
use Rattle.std.specs.Ordering.{is_eq}
use Rattle.std.specs.declared.cmp.Ordering.TheVariants.{Less}
use Rattle.std.proofs.lemmas.Bool.Decides.{nat_tests}
use Rattle.std.proofs.lemmas.Map.Keys.{sorted_head, sorted_tail}
use Rattle.std.proofs.lemmas.Map.Text.{is_eq-slice_cmp}
use Rattle.rtps_types.specs.declared.identity.Guid.{Guid}
use Rattle.rtps_types.specs.declared.identity.GuidPrefix.{GuidPrefix}
use Rattle.rtps_proxy.specs.Matches.{Match}
use Rattle.rtps_discovery.specs.Announcement.{Leave, Offer}
use Rattle.rtps_discovery.specs.Changes.{ChangeAt, changes}
use Rattle.rtps_discovery.specs.Ends.{Covers, end_of, end_order, has_due, has_end, has_prefix, is_due, is_last}
use Rattle.rtps_discovery.specs.Known.{Known, RemoteParticipant, lapsed_by, expired, has_expired, is_of, known_after, moved, passed, prefix_order}
use Rattle.rtps_discovery.specs.Leases.{is_after}
use Rattle.rtps_discovery.specs.Kept.{Applies, RegistryView, IsKnown}
use Rattle.rtps_discovery.proofs.Ends.{both_equal, prefix_itself}
use Rattle.rtps_discovery.proofs.Guids.{equal_from, prefix_total}
use Rattle.rtps_discovery.proofs.Taking.{turned}
use Rattle.rtps_discovery.proofs.Unheard.{quiet}
use Rattle.rtps_discovery.proofs.Together.{filter_every, same_filter}

abbrev at : GuidPrefix → GuidPrefix → Bool
at p q = is_eq (prefix_order p q)

or_later : (b c : Bool) → c ≡ true → (b || c) ≡ true
or_later true c h = refl
or_later false c h = h

record Found (ends : List (ℕ × GuidPrefix)) (moment : ℕ) (p : GuidPrefix) : Type 0 where
  pub last : ℕ
  pub there : has_end ends last p ≡ true
  pub less : nat_lt last moment ≡ true

due_found : (ends : List (ℕ × GuidPrefix)) (moment : ℕ) (p : GuidPrefix) → has_due ends moment p ≡ true → Found ends moment p
due_found [] moment p h = absurd cc
due_found (e ∷ es) moment p h = by_tests (nat_lt e.0 moment) refl (at p e.1) refl h (λ k. due_found es moment p k)
  where
    later : Found es moment p → Found (e ∷ es) moment p
    later f = record { last = f.last; there = or_later (is_eq (end_order (f.last, p) e)) (has_end es f.last p) f.there; less = f.less }

    by_tests : (a : Bool) → nat_lt e.0 moment ≡ a → (b : Bool) → at p e.1 ≡ b → ((a && b) || has_due es moment p) ≡ true → (has_due es moment p ≡ true → Found es moment p) → Found (e ∷ es) moment p
    by_tests true less true is k more = record { last = e.0; there = ap (λ b. b || has_end es e.0 p) (both_equal e.0 e.0 p e.1 ∙ ap (λ b. b && at p e.1) (eq-eqb e.0 e.0 refl) ∙ is); less = less }
    by_tests true less false is k more = later (more k)
    by_tests false less b is k more = later (more k)

end_due : (ends : List (ℕ × GuidPrefix)) (moment l : ℕ) (p : GuidPrefix) → nat_lt l moment ≡ true → has_end ends l p ≡ true → has_due ends moment p ≡ true
end_due [] moment l p less h = absurd cc
end_due (e ∷ es) moment l p less h = by_tests (l == e.0) refl (at p e.1) refl (sym (ap (λ b. b || has_end es l p) (both_equal l e.0 p e.1)) ∙ h) (λ k. end_due es moment l p less k)
  where
    by_tests : (a : Bool) → (l == e.0) ≡ a → (b : Bool) → at p e.1 ≡ b → ((a && b) || has_end es l p) ≡ true → (has_end es l p ≡ true → has_due es moment p ≡ true) → ((nat_lt e.0 moment && at p e.1) || has_due es moment p) ≡ true
    by_tests true same true is k more =
        let one : l ≡ e.0 = grind (arith, nat_tests) in
        let here : nat_lt e.0 moment ≡ true = ap (λ n. nat_lt n moment) (sym one) ∙ less in rw (here, is) refl
    by_tests true same false is k more = or_later (nat_lt e.0 moment && at p e.1) (has_due es moment p) (more k)
    by_tests false same b is k more = or_later (nat_lt e.0 moment && at p e.1) (has_due es moment p) (more k)

last_after : (l moment : ℕ) (o : Option ℕ) → is_last l o ≡ true → nat_lt l moment ≡ true → is_after moment o ≡ true
last_after l moment None h less = absurd cc
last_after l moment (Some x) h less = let one : x ≡ l = grind (arith, nat_tests) in ap (λ n. nat_lt n moment) one ∙ less

-- by the index, those whose leases have ended
due_is : (ends : List (ℕ × GuidPrefix)) (ps : List (GuidPrefix × RemoteParticipant)) (moment : ℕ) (p : GuidPrefix) → Covers ends ps → has_due ends moment p ≡ is_after moment (end_of (lookup (at p) ps))
due_is ends ps moment p covers = both_ways (has_due ends moment p) (is_after moment (end_of (lookup (at p) ps))) there (λ h. back (end_of (lookup (at p) ps)) refl h)
  where
    there : has_due ends moment p ≡ true → is_after moment (end_of (lookup (at p) ps)) ≡ true
    there h = let f = due_found ends moment p h in last_after f.last moment (end_of (lookup (at p) ps)) (sym (covers p f.last) ∙ f.there) f.less

    back : (o : Option ℕ) → end_of (lookup (at p) ps) ≡ o → is_after moment o ≡ true → has_due ends moment p ≡ true
    back None is h = absurd cc
    back (Some l) is h = end_due ends moment l p h (covers p l ∙ ap (is_last l) is ∙ eq-eqb l l refl)

none_above : (p q : GuidPrefix) (f : GuidPrefix × RemoteParticipant → Bool) (es : List (GuidPrefix × RemoteParticipant)) → at p q ≡ true → AllByRecursion (λ y. prefix_order q y ≡ Less) (keys_of es) → has_prefix (keys_of (filter f es)) p ≡ false
none_above p q f [] is above = refl
none_above p q f (e ∷ es) is above = by_test (f e) (none_above p q f es is above.1)
  where
    apart : at p e.0 ≡ false
    apart = ap is_eq (prefix_total.congr p q e.0 (equal_from (prefix_order p q) is) ∙ above.0)

    by_test : (b : Bool) → has_prefix (keys_of (filter f es)) p ≡ false → has_prefix (keys_of (if b then e ∷ filter f es else filter f es)) p ≡ false
    by_test true more = rw apart more
    by_test false more = more

pub expired_is : (moment : ℕ) (ps : List (GuidPrefix × RemoteParticipant)) (p : GuidPrefix) → IsStrictlySortedBy prefix_order (keys_of ps) → has_prefix (keys_of (filter (lapsed_by moment) ps)) p ≡ is_after moment (end_of (lookup (at p) ps))
expired_is moment [] p up = refl
expired_is moment (e ∷ es) p up = by_key (at p e.0) refl (expired_is moment es p (sorted_tail prefix_order e.0 (keys_of es) up))
  where
    by_key : (b : Bool) → at p e.0 ≡ b → has_prefix (keys_of (filter (lapsed_by moment) es)) p ≡ is_after moment (end_of (lookup (at p) es))
        → has_prefix (keys_of (if lapsed_by moment e then e ∷ filter (lapsed_by moment) es else filter (lapsed_by moment) es)) p ≡ is_after moment (end_of (cond b (Some e.1) (lookup (at p) es)))
    by_key true is more = by_end (lapsed_by moment e) refl
      where
        by_end : (t : Bool) → lapsed_by moment e ≡ t → has_prefix (keys_of (if t then e ∷ filter (lapsed_by moment) es else filter (lapsed_by moment) es)) p ≡ lapsed_by moment e
        by_end true h = rw (is, h) refl
        by_end false h = none_above p e.0 (lapsed_by moment) es is (sorted_head prefix_order e.0 (keys_of es) up) ∙ sym h
    by_key false is more = by_end (lapsed_by moment e)
      where
        by_end : (t : Bool) → has_prefix (keys_of (if t then e ∷ filter (lapsed_by moment) es else filter (lapsed_by moment) es)) p ≡ is_after moment (end_of (lookup (at p) es))
        by_end true = rw is more
        by_end false = more

pub is_of_has : (gone : List GuidPrefix) (p : GuidPrefix) → is_of gone p ≡ has_prefix gone p
is_of_has [] p = refl
is_of_has (q ∷ gone) p = rw (is_of_has gone p) (ap (λ b. b || has_prefix gone p) (turned q.0 p.0 ∙ sym (is_eq-slice_cmp p.0 q.0)))

same_gone : (k : Known) (d : RegistryView) (gone : List GuidPrefix) → IsKnown k d → ((p : GuidPrefix) → has_prefix gone p ≡ has_due d.leases d.moment p) → (p : GuidPrefix) → is_of gone p ≡ is_of (expired k) p
same_gone k d gone is due p =
    is_of_has gone p ∙ due p ∙ ap (λ m. has_due d.leases m p) is.moment ∙ due_is d.leases k.participants k.moment p is.leases
    ∙ sym (expired_is k.moment k.participants p is.in_order) ∙ sym (is_of_has (expired k) p)

-- those who leave are given by a test
same_leave : (k : Known) (gs hs : List GuidPrefix) → ((p : GuidPrefix) → is_of gs p ≡ is_of hs p) → known_after k (Leave gs) ≡ known_after k (Leave hs)
same_leave k gs hs same = rw (
  same_filter (λ (e : GuidPrefix × RemoteParticipant). not (is_of gs e.0)) (λ (e : GuidPrefix × RemoteParticipant). not (is_of hs e.0)) (λ e. ap not (same e.0)) k.participants,
  same_filter (λ (m : Match). not (is_of gs m.pairing.writer.prefix)) (λ (m : Match). not (is_of hs m.pairing.writer.prefix)) (λ m. ap not (same m.pairing.writer.prefix)) k.announcers,
  same_filter (λ (e : Guid × Offer). not (is_of gs e.0.prefix)) (λ (e : Guid × Offer). not (is_of hs e.0.prefix)) (λ e. ap not (same e.0.prefix)) k.writers,
  same_filter (λ (g : Guid). not (is_of gs g.prefix)) (λ (g : Guid). not (is_of hs g.prefix)) (λ g. ap not (same g.prefix)) k.remote_readers,
) refl

-- a moment comes
pub moves : (k : Known) (d : RegistryView) (moment m : ℕ) → IsKnown k d → m ≡ (moved moment (record k { moment = d.moment })).moment → IsKnown (moved moment k) (record d { moment = m })
moves k d moment m is e = record {
  own = is.own;
  moment = e ∙ ap (λ n. (moved moment (record k { moment = n })).moment) is.moment;
  readers = is.readers;
  fixed = is.fixed;
  started = is.started;
  participants = is.participants;
  in_order = is.in_order;
  leases = is.leases;
  announcers = is.announcers;
  announce = is.announce;
  writers = is.writers;
  ordered = is.ordered;
  remote_readers = is.remote_readers;
  ranks = is.ranks;
}

-- they leave
pub record Expires (moment : ℕ) (k : Known) (new : RegistryView) (ended : List ChangeAt) : Type 0 where
  pub known : IsKnown (passed moment k) new
  pub changes : ended ≡ changes (moved moment k) (passed moment k)

pub expires : (k : Known) (d new : RegistryView) (moment : ℕ) (gone : List GuidPrefix) (ended : List ChangeAt) → IsKnown (moved moment k) d → ((p : GuidPrefix) → has_prefix gone p ≡ has_due d.leases d.moment p)
    → Applies (Leave gone) d new [] ended → Expires moment k new ended
expires k d new moment gone ended is due applies =
    let same : known_after (moved moment k) (Leave gone) ≡ passed moment k = same_leave (moved moment k) gone (expired (moved moment k)) (same_gone (moved moment k) d gone is due) in
    record {
      known = rw (← same) (applies.known (moved moment k) is);
      changes = applies.changes (moved moment k) is ∙ ap (changes (moved moment k)) same;
    }

-- ---- where none has ended

none_due : (ends : List (ℕ × GuidPrefix)) (moment : ℕ) (p : GuidPrefix) → is_due ends moment ≡ false → has_due ends moment p ≡ false
none_due [] moment p h = refl
none_due (e ∷ es) moment p h = by_test (nat_lt e.0 moment) h (λ k. none_due es moment p k)
  where
    by_test : (b : Bool) → (b || is_due es moment) ≡ false → (is_due es moment ≡ false → has_due es moment p ≡ false) → ((b && at p e.1) || has_due es moment p) ≡ false
    by_test true k more = absurd cc
    by_test false k more = more k

stay_all : (k : Known) → known_after k (Leave []) ≡ k
stay_all k = rw (filter_every k.participants, filter_every k.announcers, filter_every k.writers, filter_every k.remote_readers) refl

nobody : (d : RegistryView) → Applies (Leave []) d d [] []
nobody d = record {
  known = λ k is. rw (stay_all k) is;
  changes = λ k is. rw (stay_all k) (quiet k k [] refl refl);
}

pub expires_none : (k : Known) (d : RegistryView) (moment : ℕ) → IsKnown (moved moment k) d → is_due d.leases d.moment ≡ false → Expires moment k d []
expires_none k d moment is none = expires k d d moment [] [] is (λ p. sym (none_due d.leases d.moment p none)) (nobody d)

-- ---- whether somebody's lease has ended

record Due (ends : List (ℕ × GuidPrefix)) (moment : ℕ) : Type 0 where
  pub who : GuidPrefix
  pub ended : has_due ends moment who ≡ true

one_due : (ends : List (ℕ × GuidPrefix)) (moment : ℕ) → is_due ends moment ≡ true → Due ends moment
one_due [] moment h = absurd cc
one_due (e ∷ es) moment h = by_test (nat_lt e.0 moment) refl h (λ k. one_due es moment k)
  where
    by_test : (b : Bool) → nat_lt e.0 moment ≡ b → (b || is_due es moment) ≡ true → (is_due es moment ≡ true → Due es moment) → Due (e ∷ es) moment
    by_test true less k more = record { who = e.1; ended = rw (less, prefix_itself e.1) refl }
    by_test false less k more = let d : Due es moment = more k in record { who = d.who; ended = or_later (nat_lt e.0 moment && at d.who e.1) (has_due es moment d.who) d.ended }

ended_any : (moment : ℕ) (ps : List (GuidPrefix × RemoteParticipant)) (p : GuidPrefix) → is_after moment (end_of (lookup (at p) ps)) ≡ true → list_any (lapsed_by moment) ps ≡ true
ended_any moment [] p h = absurd cc
ended_any moment (e ∷ es) p h = by_key (at p e.0) h (λ k. ended_any moment es p k)
  where
    by_key : (b : Bool) → is_after moment (end_of (cond b (Some e.1) (lookup (at p) es))) ≡ true → (is_after moment (end_of (lookup (at p) es)) ≡ true → list_any (lapsed_by moment) es ≡ true) → (lapsed_by moment e || list_any (lapsed_by moment) es) ≡ true
    by_key true h more = ap (λ b. b || list_any (lapsed_by moment) es) h
    by_key false h more = or_later (lapsed_by moment e) (list_any (lapsed_by moment) es) (more h)

none_ends : (moment : ℕ) (ps : List (GuidPrefix × RemoteParticipant)) → ((p : GuidPrefix) → has_prefix (keys_of (filter (lapsed_by moment) ps)) p ≡ false) → list_any (lapsed_by moment) ps ≡ false
none_ends moment [] none = refl
none_ends moment (e ∷ es) none = by_end (lapsed_by moment e) none (λ k. none_ends moment es k)
  where
    by_end : (b : Bool) → ((p : GuidPrefix) → has_prefix (keys_of (if b then e ∷ filter (lapsed_by moment) es else filter (lapsed_by moment) es)) p ≡ false)
        → (((p : GuidPrefix) → has_prefix (keys_of (filter (lapsed_by moment) es)) p ≡ false) → list_any (lapsed_by moment) es ≡ false) → (b || list_any (lapsed_by moment) es) ≡ false
    by_end true none more = ap (λ b. b || has_prefix (keys_of (filter (lapsed_by moment) es)) e.0) (sym (prefix_itself e.0)) ∙ none e.0
    by_end false none more = more none

-- by the index, and by the definition
pub due_is_expired : (k : Known) (d : RegistryView) → IsKnown k d → is_due d.leases d.moment ≡ has_expired k
due_is_expired k d is = by_test (is_due d.leases d.moment) refl
  where
    by_test : (b : Bool) → is_due d.leases d.moment ≡ b → b ≡ has_expired k
    by_test true h =
        let one : Due d.leases d.moment = one_due d.leases d.moment h in
        sym (ended_any k.moment k.participants one.who (sym (due_is d.leases k.participants k.moment one.who is.leases) ∙ ap (λ m. has_due d.leases m one.who) (sym is.moment) ∙ one.ended))
    by_test false h =
        sym (none_ends k.moment k.participants (λ p. expired_is k.moment k.participants p is.in_order ∙ sym (due_is d.leases k.participants k.moment p is.leases) ∙ ap (λ m. has_due d.leases m p) (sym is.moment) ∙ none_due d.leases d.moment p h))

-- where a growth is refused, somebody's lease has ended
pub refused : (k : Known) (d : RegistryView) → IsKnown k d → is_due d.leases d.moment ≡ true → has_expired k ≡ false → ⊥
refused k d is due none = let bad : true ≡ false = sym due ∙ due_is_expired k d is ∙ none in cc
