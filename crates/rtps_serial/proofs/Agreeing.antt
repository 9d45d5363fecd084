-- In a run each reader is matched with just the writers that it matches by what is known, also where
-- leases end and readers come and go.
use Rattle.std.proofs.Common.{◌≡◌, ℕ, ◌+◌, ◌<◌, ◌==◌, Bool, true, false, not, ◌&&◌, ◌||◌, if◌then◌else◌, List, [], ◌∷◌, ◌++◌, length, map, filter, Option, Some, None, is_some, Contains, ◌⊎◌, inl, inr, refl, sym, ap, ◌∙◌, subst, true≢false, arith}
use Rattle.std.specs.List.{list_any}
use Rattle.std.specs.Option.{option_map}
use Rattle.std.proofs.Math.Bool.{or-false}
use Rattle.std.proofs.lemmas.Bool.{eq-eqb}
use Rattle.std.proofs.lemmas.Bool.Decides.{nat_tests}
use Rattle.std.proofs.lemmas.List.{length-append}
use Rattle.rtps_types.specs.declared.identity.EntityId.{EntityId}
use Rattle.rtps_types.specs.declared.identity.Guid.{Guid}
use Rattle.rtps_types.specs.declared.identity.GuidPrefix.{GuidPrefix}
use Rattle.rtps_receiver.specs.Events.{EventView}
use Rattle.rtps_discovery.specs.Addressed.{is_addressed, is_discovery, writer_of}
use Rattle.rtps_discovery.specs.Announcement.{Announcement, Comes, Leave, Offers, Withdraws, Asks, AsksNoMore, Offer}
use Rattle.rtps_types.specs.MatchChange.{MatchChange, Matches, Unmatches, Refuses}
use Rattle.rtps_discovery.specs.Changes.{ChangeAt, at, changes, changes_run, known_run}
use Rattle.rtps_discovery.specs.declared.config.Config.{Config}
use Rattle.rtps_discovery.specs.declared.config.FixedMatch.{FixedMatch}
use Rattle.rtps_discovery.specs.Joining.{joined, parted, vacated, without_fixed, without_reader}
use Rattle.rtps_discovery.specs.Known.{Known, Wish, is_fixed, is_joined, is_matched, known_after, locators_at, moved, passed, reader_at, standing, writer_at}
use Rattle.rtps_discovery.specs.Records.{announcements, announcer_of, changes_by, known_by, noted}
use Rattle.rtps_proxy.specs.History.{match_event_of}
use Rattle.rtps_discovery.specs.Start.{first_known, pair_of, reader_of}
use Rattle.rtps_discovery.proofs.Differences.{at_first, differences, first_or, later_in, none_in}
use Rattle.rtps_discovery.proofs.OneWriter.{no_writer}
use Rattle.rtps_proxy.specs.Matches.{Match, begun, extended, fresh, match_with, same_guid}
use Rattle.rtps_proxy.proofs.Matching.{same_is}
use Rattle.dds_topic.specs.Decoding.{Decoding}
use Rattle.rtps_reader.specs.Reader.{Reader, all_begun, first_matches, fresh_with, reader_after, reader_run, pairing_of}
use Rattle.rtps_reader.specs.Step.{StepView, Takes, Changes, Starts, Stops, asks_of}
use Rattle.rtps_reader.proofs.Begun.{match_begun, same_self}
use Rattle.rtps_run.specs.Input.{Input, occurrences_from}
use Rattle.rtps_run.specs.Occurrence.{Occurrence, Passes, Came, Joins, Parts as Goes}
use Rattle.rtps_run.specs.Run.{entity_of, first_world, fixed_of, is_reliable_at, run, world_run}
use Rattle.rtps_run.specs.Seen.{Agrees}
use Rattle.rtps_run.specs.World.{World, addressed_to, asked_by, changes_for, doings, is_reliable, known_after_event, known_then, stops, world_after}
use Rattle.rtps_run.proofs.ByRank.{vacated_none}
use Rattle.rtps_run.proofs.Counting.{vacated_length}
use Rattle.rtps_run.proofs.Matched.{ended_match, extend, extended_match}
use Rattle.rtps_run.proofs.Routed.{readers_stay}

-- ---- whether there is a match with a writer

abbrev pub has : Guid → List Match → Bool
has g ms = is_some (match_with g ms)

pub some_if : (b : Bool) (m : Match) (o : Option Match) → is_some (if b then Some m else o) ≡ (b || is_some o)
some_if true m o = refl
some_if false m o = refl

none_if : (b : Bool) (o : Option Match) → is_some (if b then None else o) ≡ (not b && is_some o)
none_if true o = refl
none_if false o = refl

still_some : (b : Bool) (f : Match → Match) (o : Option Match) → is_some (if b then option_map f o else o) ≡ is_some o
still_some true f None = refl
still_some true f (Some m) = refl
still_some false f o = refl

has_begun : (g : Guid) (m : Match) (ms : List Match) → has g (begun m ms) ≡ (same_guid m.pairing.writer g || has g ms)
has_begun g m ms = ap (λ (o : Option Match). is_some o) (match_begun g m ms) ∙ some_if (same_guid m.pairing.writer g) m (match_with g ms)

-- what a step makes of it
abbrev after_doing : Guid → Bool → StepView → Bool
after_doing g b (Takes w c) = b
after_doing g b (Changes (Matches w ls)) = same_guid w g || b
after_doing g b (Changes (Unmatches w)) = not (same_guid w g) && b
after_doing g b (Changes (Refuses w policy)) = b
after_doing g b (Starts own entity reliable) = false
after_doing g b Stops = false

abbrev after_doings : Guid → Bool → List StepView → Bool
after_doings g b [] = b
after_doings g b (d ∷ ds) = after_doings g (after_doing g b d) ds

has_done : (g : Guid) (r : Reader) (d : StepView) → has g (reader_after r d).matches ≡ after_doing g (has g r.matches) d
has_done g r (Takes w c) = ap (λ (o : Option Match). is_some o) (extended_match g w c r.matches) ∙ still_some (same_guid g w) (extend c) (match_with g r.matches)
has_done g r (Changes (Matches w ls)) = has_begun g (fresh_with r (w, ls)) r.matches
has_done g r (Changes (Unmatches w)) = ap (λ (o : Option Match). is_some o) (ended_match g w r.matches) ∙ none_if (same_guid w g) (match_with g r.matches)
has_done g r (Changes (Refuses w policy)) = refl
has_done g r (Starts own entity reliable) = refl
has_done g r Stops = refl

has_run : (g : Guid) (r : Reader) (ds : List StepView) → has g (reader_run r ds).matches ≡ after_doings g (has g r.matches) ds
has_run g r [] = refl
has_run g r (d ∷ ds) = has_run g (reader_after r d) ds ∙ ap (λ b. after_doings g b ds) (has_done g r d)

-- ---- what changes make of it

-- a change begins or ends a match with the writer
abbrev pub touches : Guid → MatchChange → Bool
touches g (Matches w ls) = same_guid w g
touches g (Unmatches w) = same_guid w g
touches g (Refuses w policy) = false

abbrev presence : ℕ → Guid → Bool → List ChangeAt → Bool
presence rank g b cs = after_doings g b (changes_for rank cs)

abbrev after_change : ℕ → Guid → Bool → ChangeAt → Bool
after_change rank g b c = if c.rank == rank then after_doing g b (Changes c.what) else b

one_change : (rank : ℕ) (g : Guid) (b : Bool) (c : ChangeAt) (cs : List ChangeAt) → presence rank g b (c ∷ cs) ≡ presence rank g (after_change rank g b c) cs
one_change rank g b c cs = by_test (c.rank == rank)
  where
    by_test : (t : Bool) → after_doings g b (map (λ (d : ChangeAt). Changes d.what) (if t then c ∷ filter (λ d. d.rank == rank) cs else filter (λ d. d.rank == rank) cs))
        ≡ after_doings g (if t then after_doing g b (Changes c.what) else b) (changes_for rank cs)
    by_test true = refl
    by_test false = refl

changes_then : (rank : ℕ) (g : Guid) (b : Bool) (xs ys : List ChangeAt) → presence rank g b (xs ++ ys) ≡ presence rank g (presence rank g b xs) ys
changes_then rank g b [] ys = refl
changes_then rank g b (c ∷ xs) ys =
    one_change rank g b c (xs ++ ys)
    ∙ changes_then rank g (after_change rank g b c) xs ys
    ∙ ap (λ t. presence rank g t ys) (sym (one_change rank g b c xs))

-- a change of the reader and the writer sets whether they are matched
sets : (g : Guid) (t b : Bool) (x : MatchChange) → (touches g x ≡ true → after_doing g t (Changes x) ≡ t) → touches g x ≡ true → after_doing g b (Changes x) ≡ t
sets g t b (Matches w ls) h is = rw is (sym (ap (λ s. s || t) is) ∙ h is)
sets g t b (Unmatches w) h is = rw is (sym (ap (λ s. not s && t) is) ∙ h is)
sets g t b (Refuses w policy) h is = absurd (true≢false (sym is))

-- and another leaves it
leaves : (g : Guid) (b : Bool) (x : MatchChange) → touches g x ≡ false → after_doing g b (Changes x) ≡ b
leaves g b (Matches w ls) other = rw other refl
leaves g b (Unmatches w) other = rw other refl
leaves g b (Refuses w policy) other = refl

-- whether they are matched after a change of the reader and the writer: the same after each of these
abbrev AllSet : ℕ → Guid → Bool → List ChangeAt → Type 0
AllSet rank g t cs = (x : MatchChange) → Contains cs (at rank x) → touches g x ≡ true → after_doing g t (Changes x) ≡ t

later_set : (rank : ℕ) (g : Guid) (t : Bool) (c : ChangeAt) (cs : List ChangeAt) → AllSet rank g t (c ∷ cs) → AllSet rank g t cs
later_set rank g t c cs all x h = all x (later_in c cs (at rank x) h)

one_set : (rank : ℕ) (g : Guid) (t : Bool) (c : ChangeAt) (cs : List ChangeAt) → AllSet rank g t (c ∷ cs) → after_change rank g t c ≡ t
one_set rank g t c cs all = by_rank (c.rank == rank) refl
  where
    by_touch : (b : Bool) → touches g c.what ≡ b → Contains (c ∷ cs) (at rank c.what) → after_doing g t (Changes c.what) ≡ t
    by_touch true is there = all c.what there is
    by_touch false other there = leaves g t c.what other

    by_rank : (b : Bool) → (c.rank == rank) ≡ b → (if b then after_doing g t (Changes c.what) else t) ≡ t
    by_rank true e =
        let same : c.rank ≡ rank = grind (arith, nat_tests) in
        by_touch (touches g c.what) refl (subst (λ k. Contains (c ∷ cs) (at k c.what)) same (at_first c cs))
    by_rank false e = refl

-- where it was so already, it stays so
stays : (rank : ℕ) (g : Guid) (t : Bool) (cs : List ChangeAt) → AllSet rank g t cs → presence rank g t cs ≡ t
stays rank g t [] all = refl
stays rank g t (c ∷ cs) all = one_change rank g t c cs ∙ ap (λ b. presence rank g b cs) (one_set rank g t c cs all) ∙ stays rank g t cs (later_set rank g t c cs all)

-- and where there is such a change, it becomes so
becomes : (rank : ℕ) (g : Guid) (t b : Bool) (x : MatchChange) (cs : List ChangeAt) → touches g x ≡ true → Contains cs (at rank x) → AllSet rank g t cs → presence rank g b cs ≡ t
becomes rank g t b x [] is there all = absurd (none_in (at rank x) there)
becomes rank g t b x (c ∷ cs) is there all = by_part (first_or c cs (at rank x) there) (λ later. becomes rank g t (after_change rank g b c) x cs is later (later_set rank g t c cs all))
  where
    by_part : (c ≡ at rank x) ⊎ Contains cs (at rank x) → (Contains cs (at rank x) → presence rank g (after_change rank g b c) cs ≡ t) → presence rank g b (c ∷ cs) ≡ t
    by_part (inl here) rest =
        one_change rank g b c cs
        ∙ ap (λ d. presence rank g (after_change rank g b d) cs) here
        ∙ ap (λ s. presence rank g (if s then after_doing g b (Changes x) else b) cs) (eq-eqb rank rank refl)
        ∙ ap (λ d. presence rank g d cs) (sets g t b x (all x there) is)
        ∙ stays rank g t cs (later_set rank g t c cs all)
    by_part (inr later) rest = one_change rank g b c cs ∙ rest later

-- the changes make of a match what it is by what is known after them
changes_presence : (before after : Known) (rank : ℕ) (g : Guid) → before.fixed ≡ after.fixed → presence rank g (is_matched before rank g) (changes before after) ≡ is_matched after rank g
changes_presence before after rank g fixed = by_both (is_matched before rank g) (is_matched after rank g) refl refl
  where
    all : AllSet rank g (is_matched after rank g) (changes before after)
    all (Matches w ls) there is =
        let same : w ≡ g = same_is w g is in
        let matched : is_matched after rank g ≡ true = subst (λ h. is_matched after rank h ≡ true) same (((differences before after fixed).begin rank w ls).0 there).1.0 in
        rw (is, matched) refl
    all (Unmatches w) there is =
        let same : w ≡ g = same_is w g is in
        let unmatched : is_matched after rank g ≡ false = subst (λ h. is_matched after rank h ≡ false) same (((differences before after fixed).end rank w).0 there).1 in
        rw (is, unmatched) refl
    all (Refuses w policy) there is = refl

    by_both : (b t : Bool) → is_matched before rank g ≡ b → is_matched after rank g ≡ t → presence rank g b (changes before after) ≡ is_matched after rank g
    by_both true true was is = ap (λ b. presence rank g b (changes before after)) (sym is) ∙ stays rank g (is_matched after rank g) (changes before after) all
    by_both false false was is = ap (λ b. presence rank g b (changes before after)) (sym is) ∙ stays rank g (is_matched after rank g) (changes before after) all
    by_both false true was is =
        becomes rank g (is_matched after rank g) false (Matches g (locators_at after g)) (changes before after) (same_self g)
        (((differences before after fixed).begin rank g (locators_at after g)).1 (was, (is, refl))) all
    by_both true false was is =
        becomes rank g (is_matched after rank g) true (Unmatches g) (changes before after) (same_self g)
        (((differences before after fixed).end rank g).1 (was, is)) all

-- ---- announcements and events

-- announcements leave the fixed pairs
pub fixed_stay : (k : Known) (a : Announcement) → (known_after k a).fixed ≡ k.fixed
fixed_stay k (Comes p f) = refl
fixed_stay k (Leave gone) = refl
fixed_stay k (Offers g w) = refl
fixed_stay k (Withdraws g) = refl
fixed_stay k (Asks g) = refl
fixed_stay k (AsksNoMore g) = refl

fixed_stay_run : (k : Known) (said : List Announcement) → (known_run k said).fixed ≡ k.fixed
fixed_stay_run k [] = refl
fixed_stay_run k (a ∷ more) = fixed_stay_run (known_after k a) more ∙ fixed_stay k a

run_presence : (k : Known) (said : List Announcement) (rank : ℕ) (g : Guid) → presence rank g (is_matched k rank g) (changes_run k said) ≡ is_matched (known_run k said) rank g
run_presence k [] rank g = refl
run_presence k (a ∷ more) rank g =
    changes_then rank g (is_matched k rank g) (changes k (known_after k a)) (changes_run (known_after k a) more)
    ∙ ap (λ b. presence rank g b (changes_run (known_after k a) more)) (changes_presence k (known_after k a) rank g (sym (fixed_stay k a)))
    ∙ run_presence (known_after k a) more rank g

-- and so does what is noted of an announcer, which leaves what writers are known too
pub record IsAlike (k j : Known) : Type 0 where
  pub readers : j.readers ≡ k.readers
  pub fixed : j.fixed ≡ k.fixed
  pub writers : j.writers ≡ k.writers

pub noted_alike : (k : Known) (e : EventView) → IsAlike k (noted k e)
noted_alike k e = by_test (is_some (announcer_of k e))
  where
    by_test : (b : Bool) → IsAlike k (if b then record k { announcers = extended (writer_of e) (match_event_of e) k.announcers } else k)
    by_test true = record { readers = refl; fixed = refl; writers = refl }
    by_test false = record { readers = refl; fixed = refl; writers = refl }

noted_matched : (k : Known) (e : EventView) (rank : ℕ) (g : Guid) → is_matched (noted k e) rank g ≡ is_matched k rank g
noted_matched k e rank g = by_test (is_some (announcer_of k e))
  where
    by_test : (b : Bool) → is_matched (if b then record k { announcers = extended (writer_of e) (match_event_of e) k.announcers } else k) rank g ≡ is_matched k rank g
    by_test true = refl
    by_test false = refl

-- what an event asks of a reader makes of a match what it is by what is known after the event
known_presence : (k : Known) (e : EventView) (rank : ℕ) (g : Guid) → after_doings g (is_matched k rank g) (asked_by k rank e) ≡ is_matched (known_after_event k e) rank g
known_presence k e rank g = by_kind (is_discovery e.writer)
  where
    taken : (r : Option Wish) → after_doings g (is_matched k rank g) (addressed_to k rank e r) ≡ is_matched k rank g
    taken None = refl
    taken (Some r) = by_test (is_addressed (is_matched k rank) r.entity e)
      where
        by_test : (b : Bool) → after_doings g (is_matched k rank g) (if b then asks_of e ∷ [] else []) ≡ is_matched k rank g
        by_test true = refl
        by_test false = refl

    heard : presence rank g (is_matched k rank g) (changes_by k e) ≡ is_matched (known_by k e) rank g
    heard =
        ap (λ b. presence rank g b (changes_by k e)) (sym (noted_matched k e rank g))
        ∙ run_presence (noted k e) (announcements k e) rank g

    by_kind : (b : Bool) → after_doings g (is_matched k rank g) (if b then changes_for rank (changes_by k e) else addressed_to k rank e (reader_at k.readers rank))
        ≡ is_matched (if b then known_by k e else k) rank g
    by_kind true = heard
    by_kind false = taken (reader_at k.readers rank)

-- an event leaves the fixed pairs
pub fixed_kept : (k : Known) (e : EventView) → (known_after_event k e).fixed ≡ k.fixed
fixed_kept k e = by_kind (is_discovery e.writer)
  where
    by_kind : (b : Bool) → (if b then known_by k e else k).fixed ≡ k.fixed
    by_kind true = fixed_stay_run (noted k e) (announcements k e) ∙ (noted_alike k e).fixed
    by_kind false = refl

-- ---- readers that come and go

doings_then : (g : Guid) (b : Bool) (xs ys : List StepView) → after_doings g b (xs ++ ys) ≡ after_doings g (after_doings g b xs) ys
doings_then g b [] ys = refl
doings_then g b (d ∷ xs) ys = doings_then g (after_doing g b d) xs ys

-- the fixed matches of a rank, where those of another are taken out
pub other_fixed : (fixed : List (ℕ × Guid)) (rank gone : ℕ) (g : Guid) → (rank == gone) ≡ false → is_fixed (filter (λ (p : ℕ × Guid). not (p.0 == gone)) fixed) rank g ≡ is_fixed fixed rank g
other_fixed [] rank gone g other = refl
other_fixed (p ∷ ps) rank gone g other = by_gone (p.0 == gone) refl (other_fixed ps rank gone g other)
  where
    by_gone : (b : Bool) → (p.0 == gone) ≡ b → is_fixed (filter (λ (p : ℕ × Guid). not (p.0 == gone)) ps) rank g ≡ is_fixed ps rank g
        → is_fixed (if not b then p ∷ filter (λ (p : ℕ × Guid). not (p.0 == gone)) ps else filter (λ (p : ℕ × Guid). not (p.0 == gone)) ps) rank g ≡ (p.0 == rank && same_guid p.1 g || is_fixed ps rank g)
    by_gone false e more = ap (λ b. p.0 == rank && same_guid p.1 g || b) more
    by_gone true e more =
        let apart : (p.0 == rank) ≡ false = grind (arith, nat_tests) in
        rw apart more

-- and its own
pub own_fixed : (fixed : List (ℕ × Guid)) (gone : ℕ) (g : Guid) → is_fixed (filter (λ (p : ℕ × Guid). not (p.0 == gone)) fixed) gone g ≡ false
own_fixed [] gone g = refl
own_fixed (p ∷ ps) gone g = by_gone (p.0 == gone) refl (own_fixed ps gone g)
  where
    by_gone : (b : Bool) → (p.0 == gone) ≡ b → is_fixed (filter (λ (p : ℕ × Guid). not (p.0 == gone)) ps) gone g ≡ false
        → is_fixed (if not b then p ∷ filter (λ (p : ℕ × Guid). not (p.0 == gone)) ps else filter (λ (p : ℕ × Guid). not (p.0 == gone)) ps) gone g ≡ false
    by_gone true e more = more
    by_gone false e more = rw (e, more) refl

past_none : (rs : List (Option Wish)) → reader_at rs (length rs) ≡ None
past_none [] = refl
past_none (r ∷ rs) = past_none rs

apart_matched : (fixed : Bool) (o : Option Wish) (w : Option Offer) → fixed ≡ false → o ≡ None → (fixed || is_joined (standing o w)) ≡ false
apart_matched fixed o w e f = rw (e, f) refl

inside_of : (i n : ℕ) → (i == n) ≡ false → i < n + 1 → i < n
inside_of i n other less = grind (arith, nat_tests)

-- ---- each occurrence

-- what an occurrence asks of a reader makes of a match what it is by what is known after the occurrence
occurrence_presence : (k : Known) (o : Occurrence) (rank : ℕ) (g : Guid) (b : Bool) → (rank < length k.readers → b ≡ is_matched k rank g) → rank < length (known_then k o).readers
    → after_doings g b (doings k rank o) ≡ is_matched (known_then k o) rank g
occurrence_presence k (Passes index moment) rank g b was below =
    ap (λ c. after_doings g c (changes_for rank (changes (moved moment k) (passed moment k)))) (was below)
    ∙ changes_presence (moved moment k) (passed moment k) rank g refl
occurrence_presence k (Came e) rank g b was below =
    ap (λ c. after_doings g c (asked_by k rank e)) (was (subst (λ (rs : List (Option Wish)). rank < length rs) (readers_stay k e) below))
    ∙ known_presence k e rank g
occurrence_presence k (Joins index r) rank g b was below = by_new (rank == length k.readers) refl
  where
    open_at : Known
    open_at = without_fixed (length k.readers) k

    cs : List StepView
    cs = changes_for rank (changes open_at (joined r k))

    by_new : (t : Bool) → (rank == length k.readers) ≡ t
        → after_doings g b ((if t then Starts k.own r.entity (is_reliable r.policies.reliability) ∷ [] else []) ++ cs) ≡ is_matched (joined r k) rank g
    by_new true e =
        let is : rank ≡ length k.readers = grind (arith, nat_tests) in
        let free : is_matched open_at rank g ≡ false = apart_matched (is_fixed open_at.fixed rank g) (reader_at k.readers rank) (writer_at k g) (ap (λ n. is_fixed open_at.fixed n g) is ∙ own_fixed k.fixed (length k.readers) g) (ap (reader_at k.readers) is ∙ past_none k.readers) in
        ap (λ c. after_doings g c cs) (sym free) ∙ changes_presence open_at (joined r k) rank g refl
    by_new false e =
        let more : length (k.readers ++ Some r ∷ []) ≡ length k.readers + 1 = length-append k.readers (Some r ∷ []) in
        let inside : rank < length k.readers = inside_of rank (length k.readers) e (subst (λ n. rank < n) more below) in
        let same : is_matched open_at rank g ≡ is_matched k rank g = ap (λ f. f || is_joined (standing (reader_at k.readers rank) (writer_at k g))) (other_fixed k.fixed rank (length k.readers) g e) in
        ap (λ c. after_doings g c cs) (was inside ∙ sym same) ∙ changes_presence open_at (joined r k) rank g refl
occurrence_presence k (Goes index gone) rank g b was below = doings_then g b cs (stops rank gone) ∙ by_gone (rank == gone) refl
  where
    cs : List StepView
    cs = changes_for rank (changes k (without_reader gone k))

    by_gone : (t : Bool) → (rank == gone) ≡ t → after_doings g (after_doings g b cs) (if t then Stops ∷ [] else []) ≡ is_matched (parted gone k) rank g
    by_gone true e =
        let is : rank ≡ gone = grind (arith, nat_tests) in
        sym (apart_matched (is_fixed (parted gone k).fixed rank g) (reader_at (vacated gone k.readers) rank) (writer_at k g) (ap (λ n. is_fixed (parted gone k).fixed n g) is ∙ own_fixed k.fixed gone g) (ap (reader_at (vacated gone k.readers)) is ∙ vacated_none k.readers gone))
    by_gone false e =
        let inside : rank < length k.readers = subst (λ n. rank < n) (vacated_length gone k.readers) below in
        ap (λ c. after_doings g c cs) (was inside)
        ∙ changes_presence k (without_reader gone k) rank g refl
        ∙ sym (ap (λ f. f || is_joined (standing (reader_at (vacated gone k.readers) rank) (writer_at k g))) (other_fixed k.fixed rank gone g e))

-- ---- runs

pub agrees_after : {M : Type 0} (decoding : Decoding M) (w : World M) (o : Occurrence) → Agrees w → Agrees (world_after decoding w o)
agrees_after decoding w o agrees rank g below =
    has_run g (w.readers rank) (doings w.known rank o)
    ∙ occurrence_presence w.known o rank g (has g (w.readers rank).matches) (λ inside. agrees rank g inside) below

pub agrees_run : {M : Type 0} (decoding : Decoding M) (w : World M) (os : List Occurrence) → Agrees w → Agrees (world_run decoding w os)
agrees_run decoding w [] agrees = agrees
agrees_run decoding w (o ∷ os) agrees = agrees_run decoding (world_after decoding w o) os (agrees_after decoding w o agrees)

pub turned : (a b c : Bool) → (a || (b || c)) ≡ ((b || a) || c)
turned true true c = refl
turned true false c = refl
turned false true c = refl
turned false false c = refl

-- the matches at the start are the fixed ones
fixed_begun : (g : Guid) (own : GuidPrefix) (entity : EntityId) (b : Bool) (rank : ℕ) (fixed : List FixedMatch) (ms : List Match)
    → has g (all_begun ms (map (pairing_of own entity b) (fixed_of fixed rank))) ≡ (is_fixed (map pair_of fixed) rank g || has g ms)
fixed_begun g own entity b rank [] ms = refl
fixed_begun g own entity b rank (m ∷ fixed) ms = by_rank (m.rank == rank) refl (λ ns. fixed_begun g own entity b rank fixed ns)
  where
    one : Match
    one = fresh (pairing_of own entity b (m.writer, m.locators))

    by_rank : (t : Bool) → (m.rank == rank) ≡ t → ((ns : List Match) → has g (all_begun ns (map (pairing_of own entity b) (fixed_of fixed rank))) ≡ (is_fixed (map pair_of fixed) rank g || has g ns))
        → has g (all_begun ms (map (pairing_of own entity b) (fixed_of (m ∷ fixed) rank))) ≡ (is_fixed (map pair_of (m ∷ fixed)) rank g || has g ms)
    by_rank true is rest =
        rw is (rest (begun one ms) ∙ ap (λ t. is_fixed (map pair_of fixed) rank g || t) (has_begun g one ms)
        ∙ turned (is_fixed (map pair_of fixed) rank g) (same_guid m.writer g) (has g ms))
    by_rank false is rest = rw is (rest ms)

-- the configuration has a fixed match of a rank with a writer
abbrev pub is_paired : Config → ℕ → Guid → Bool
is_paired config rank g = list_any (λ (m : FixedMatch). m.rank == rank && same_guid m.writer g) config.fixed.items

pairs_fixed : (rank : ℕ) (g : Guid) (fixed : List FixedMatch) → is_fixed (map pair_of fixed) rank g ≡ list_any (λ (m : FixedMatch). m.rank == rank && same_guid m.writer g) fixed
pairs_fixed rank g [] = refl
pairs_fixed rank g (m ∷ fixed) = ap (λ b. (m.rank == rank && same_guid m.writer g) || b) (pairs_fixed rank g fixed)

-- what is known at the start has the fixed pairs of the configuration
pub first_fixed : (config : Config) (rank : ℕ) (g : Guid) → is_fixed (first_known config).fixed rank g ≡ is_paired config rank g
first_fixed config rank g = pairs_fixed rank g config.fixed.items

-- at the start a reader is matched with the writers of its fixed pairs
pub first_has : (config : Config) (rank : ℕ) (g : Guid)
    → has g (first_matches config.own (entity_of config.readers.items rank) (is_reliable_at config.readers.items rank) (fixed_of config.fixed.items rank)) ≡ is_paired config rank g
first_has config rank g =
    fixed_begun g config.own (entity_of config.readers.items rank) (is_reliable_at config.readers.items rank) rank config.fixed.items []
    ∙ or-false (is_fixed (map pair_of config.fixed.items) rank g)
    ∙ first_fixed config rank g

pub agrees_first : (M : Type 0) (config : Config) → Agrees (first_world {M = M} config)
agrees_first M config rank g below =
    fixed_begun g config.own (entity_of config.readers.items rank) (is_reliable_at config.readers.items rank) rank config.fixed.items []
    ∙ ap (λ s. is_fixed (map pair_of config.fixed.items) rank g || is_joined s) (sym (no_writer (reader_at (map reader_of config.readers.items) rank)))

pub run_agrees : {M : Type 0} (decoding : Decoding M) (config : Config) (inputs : List Input) → Agrees (run decoding config inputs)
run_agrees {M} decoding config inputs = agrees_run decoding (first_world config) (occurrences_from config.own 0 inputs) (agrees_first M config)
