-- In a run what a reader presents of a writer falls into stretches, one for each match; also of a
-- reader that comes later, and of one that goes.
use Rattle.std.proofs.Common.{◌≡◌, ◌⊎◌, inl, inr, ℕ, zero, suc, ◌+◌, ◌<◌, ◌≤◌, ◌==◌, nat_lt, Bool, true, false, not, ◌&&◌, if◌then◌else◌, List, [], ◌∷◌, ◌++◌, length, map, Option, Some, None, is_some, refl, sym, ◌∙◌, ap, subst, true≢false, arith, append-nil, append_assoc}
use mathlib.Core.List.{reverse_aux}
use Rattle.std.specs.Prelude.{filter, slice_index_or}
use Rattle.std.specs.List.{AllByRecursion}
use Rattle.std.proofs.lemmas.Bool.Decides.{nat_tests}
use Rattle.std.proofs.lemmas.List.{length-append, length-map}
use Rattle.rtps_types.specs.declared.identity.EntityId.{EntityId}
use Rattle.rtps_types.specs.declared.identity.Guid.{Guid}
use Rattle.rtps_types.specs.declared.identity.GuidPrefix.{GuidPrefix}
use Rattle.rtps_types.specs.declared.place.Place.{Place}
use Rattle.rtps_receiver.specs.Events.{EventView, events_of}
use Rattle.rtps_discovery.specs.Addressed.{is_addressed, is_discovery, is_for, unknown_entity, writer_of}
use Rattle.rtps_discovery.specs.Changes.{ChangeAt, changes}
use Rattle.rtps_discovery.specs.Joining.{joined, parted, vacated, without_fixed, without_reader}
use Rattle.rtps_discovery.specs.declared.config.Config.{Config}
use Rattle.rtps_discovery.specs.declared.config.ReaderConfig.{ReaderConfig}
use Rattle.rtps_discovery.specs.Known.{Known, Wish, is_matched, moved, passed, reader_at}
use Rattle.rtps_discovery.specs.Known as known
use Rattle.rtps_discovery.specs.Records.{changes_by}
use Rattle.rtps_discovery.specs.Start.{reader_of, wish_of}
use Rattle.rtps_proxy.specs.Matches.{Match, begun, fresh, match_with, same_guid}
use Rattle.rtps_proxy.proofs.Matching.{same_is}
use Rattle.dds_topic.specs.Decoding.{Decoding}
use Rattle.rtps_reader.specs.declared.notice.Notice.{Notice}
use Rattle.rtps_reader.specs.Reader.{Facts, Reader, all_begun, first_matches, first_reader, reader_after, reader_run, tells, pairing_of}
use Rattle.rtps_reader.specs.Step.{StepView, Starts, Stops, asks_of}
use Rattle.rtps_reader.proofs.Begun.{match_begun}
use Rattle.rtps_run.specs.Input.{Input, Datagram, Tick, AddReader, RemoveReader, added, events_from, occurrences_from}
use Rattle.rtps_run.specs.Occurrence.{Occurrence, Passes, Came, Joins, Parts as Goes, head_of, place_of}
use Rattle.rtps_run.specs.Presentation.{IsPresented, Since, TheStart, Never, Stretch, entity_at, events_after, events_for, events_in, first_since, is_reliable_among, not_after, readers_ever, stretch, stretches, stretches_in}
use Rattle.rtps_run.specs.Run.{entity_of, first_world, fixed_of, is_reliable_at, run, world_run}
use Rattle.rtps_run.specs.Seen.{Agrees, notices_by, reader_count}
use Rattle.rtps_run.specs.World.{World, addressed_to, asked_by, changes_for, count_after, doings, is_reliable, stops, world_after}
use Rattle.rtps_run.proofs.ByRank.{front_there, last_there, other_vacated, vacated_none}
use Rattle.rtps_run.proofs.Counting.{vacated_length}
use Rattle.rtps_run.proofs.Matched.{told_more, told_run}
use Rattle.rtps_run.proofs.Places.{PlacesFall, PlacesRise, all_weaker, events_since, places_fall, places_rise}
use Rattle.rtps_run.proofs.Routed.{readers_stay}
use Rattle.rtps_run.proofs.Running.{wish_at}
use Rattle.rtps_run.proofs.Unheard.{heard_past}
use Rattle.rtps_serial.proofs.Absent.{IsAbsent, absent_silent, still_absent, told_stop}
use Rattle.rtps_serial.proofs.Agreeing.{agrees_after, agrees_first, first_has, has, is_paired, own_fixed}
use Rattle.rtps_serial.proofs.Progress.{IsPast, Progresses, came, came_append, came_from, run_progresses, since_head}
use Rattle.rtps_serial.proofs.Stretching.{Follows, IsNow, IsSettled, all_settled, follows_changes, follows_missed, follows_other, follows_taken, nothing_first}
use Rattle.rtps_serial.proofs.Taken.{HasNumber, all_have_numbers}
use Rattle.rtps_serial.proofs.Told.{told_both}

-- ---- one event

no_match : (o : Option Match) → is_some o ≡ false → o ≡ None
no_match None h = refl
no_match (Some m) h = absurd (true≢false h)

-- what an event asks of the reader is done, and then these submessages for the match are left
abbrev Does : {M : Type 0} → Decoding M → Bool → Guid → Since → List EventView → Reader → List (Notice M) → EventView → List EventView → List StepView → Type 0
Does decoding reliable g first all r given e left ds = Follows decoding reliable g first all (reader_run r ds) (given ++ told_run decoding e.place r ds) left

module _ {M : Type 0} (decoding : Decoding M) (reliable : Bool) (g : Guid) (first : Since) (all : List EventView) (r : Reader) (given : List (Notice M)) (e : EventView) (left : List EventView) where
  nothing : Follows decoding reliable g first all r given left → Does decoding reliable g first all r given e left []
  nothing f = subst (λ ns. Follows decoding reliable g first all r ns left) (sym (append-nil given)) f

  one : (d : StepView) → Follows decoding reliable g first all (reader_after r d) (given ++ tells decoding r e.place d) left → Does decoding reliable g first all r given e left (d ∷ [])
  one d f = subst (λ ns. Follows decoding reliable g first all (reader_after r d) (given ++ ns) left) (sym (append-nil (tells decoding r e.place d))) f

  -- an event of a user's writer: whether it is of this writer, whether it is for the reader, and whether its writer is matched
  by_tests : HasNumber e.body → (ours meant matched : Bool) → same_guid g (writer_of e) ≡ ours → (ours ≡ true → has g r.matches ≡ matched)
      → Follows decoding reliable g first all r given (if ours && meant then e ∷ left else left)
      → Does decoding reliable g first all r given e left (if matched && meant then asks_of e ∷ [] else [])
  by_tests has_number true true true is agrees f = one (asks_of e) (follows_taken decoding reliable g first all e r given left has_number is f)
  by_tests has_number true true false is agrees f = nothing (follows_missed decoding reliable g first all e r given left (no_match (match_with g r.matches) (agrees refl)) f)
  by_tests has_number true false true is agrees f = nothing f
  by_tests has_number true false false is agrees f = nothing f
  by_tests has_number false true true is agrees f = one (asks_of e) (follows_other decoding reliable g first all e r given left is f)
  by_tests has_number false true false is agrees f = nothing f
  by_tests has_number false false true is agrees f = nothing f
  by_tests has_number false false false is agrees f = nothing f

  of_user : (k : Known) (rank : ℕ) (wish : Wish) → is_discovery e.writer ≡ false → HasNumber e.body → reader_at k.readers rank ≡ Some wish → has g r.matches ≡ is_matched k rank g
      → Follows decoding reliable g first all r given (if is_addressed (same_guid g) wish.entity e then e ∷ left else left)
      → Does decoding reliable g first all r given e left (addressed_to k rank e (reader_at k.readers rank))
  of_user k rank wish other has_number found agrees f =
      subst (λ (o : Option Wish). Does decoding reliable g first all r given e left (addressed_to k rank e o)) (sym found)
      (subst (λ d. Does decoding reliable g first all r given e left (if not d && (is_matched k rank (writer_of e) && is_for e.reader wish.entity) then asks_of e ∷ [] else [])) (sym other)
      (by_tests has_number (same_guid g (writer_of e)) (is_for e.reader wish.entity) (is_matched k rank (writer_of e)) refl
      (λ is. agrees ∙ ap (λ w. is_matched k rank w) (same_is g (writer_of e) is))
      (subst (λ d. Follows decoding reliable g first all r given (if not d && (same_guid g (writer_of e) && is_for e.reader wish.entity) then e ∷ left else left)) other f)))

-- ---- a reader of a run: not yet there, there, or gone

-- the readers that come among occurrences
abbrev joins : List Occurrence → List Wish
joins [] = []
joins (Passes index moment ∷ os) = joins os
joins (Came e ∷ os) = joins os
joins (Joins index r ∷ os) = r ∷ joins os
joins (Goes index rank ∷ os) = joins os

module _ {M : Type 0} (decoding : Decoding M) (reliable : Bool) (g : Guid) (first : Since) (all : List EventView) (rank : ℕ) (entity : EntityId) (ws : List Wish) where
  abbrev mine : EventView → Bool
  mine = is_addressed (same_guid g) entity

  record NotYet (w : World M) (left : List Occurrence) : Type 0 where
    agrees : Agrees w
    past : reader_count w ≤ rank
    silent : notices_by rank w.put ≡ []
    never : first ≡ Never
    given : List Wish
    many : length given ≡ reader_count w
    are : ws ≡ given ++ joins left

  record There (w : World M) (left : List Occurrence) : Type 0 where
    agrees : Agrees w
    below : rank < reader_count w
    wish : Wish
    found : reader_at w.known.readers rank ≡ Some wish
    named : wish.entity ≡ entity
    follows : Follows decoding reliable g first (events_for g entity all) (w.readers rank) (notices_by rank w.put) (filter mine (came left))

  record Gone (w : World M) : Type 0 where
    absent : IsAbsent decoding rank w
    settled : AllByRecursion (IsSettled decoding reliable (events_for g entity all)) (stretches g first (notices_by rank w.put))

  abbrev Phase : World M → List Occurrence → Type 0
  Phase w left = NotYet w left ⊎ (There w left ⊎ Gone w)

  -- the events after a head
  here : (before : List Occurrence) (o : Occurrence) (left : List Occurrence) → all ≡ came before ++ came left → Progresses (before ++ o ∷ left) → ((b : Place) → IsPast b o → not_after b (place_of o) ≡ true)
      → events_after (place_of o) (events_for g entity all) ≡ reverse_aux (filter mine (came left)) []
  here before o left whole on tells = subst (λ l. events_after (place_of o) (events_for g entity l) ≡ reverse_aux (filter mine (came left)) []) (sym whole) (since_head g entity before o left on tells)

  -- changes of what is known
  abbrev With : Reader → List (Notice M) → List Occurrence → Type 0
  With r given left = Follows decoding reliable g first (events_for g entity all) r given (filter mine (came left))

  changed : (r : Reader) (given : List (Notice M)) (place : Place) (left : List Occurrence) (cs : List ChangeAt) → PlacesFall (events_for g entity all) → events_after place (events_for g entity all) ≡ reverse_aux (filter mine (came left)) []
      → With r given left → With (reader_run r (changes_for rank cs)) (given ++ told_run decoding place r (changes_for rank cs)) left
  changed r given place left cs falls after f = follows_changes decoding reliable g first (events_for g entity all) place r given (filter mine (came left)) (filter (λ c. c.rank == rank) cs) falls after f

  -- a reader that is there, at an event
  part : (w : World M) (before : List Occurrence) (e : EventView) (left : List Occurrence) → all ≡ came before ++ e ∷ came left → PlacesFall (events_for g entity all) → PlacesRise all → HasNumber e.body → There w (Came e ∷ left)
      → Does decoding reliable g first (events_for g entity all) (w.readers rank) (notices_by rank w.put) e (filter mine (came left)) (asked_by w.known rank e)
  part w before e left whole falls rises has_number i = by_kind (is_discovery e.writer) refl
    where
      other_way : is_discovery e.writer ≡ true → mine e ≡ false
      other_way is = rw is refl

      by_kind : (d : Bool) → is_discovery e.writer ≡ d
          → Does decoding reliable g first (events_for g entity all) (w.readers rank) (notices_by rank w.put) e (filter mine (came left)) (if d then changes_for rank (changes_by w.known e) else addressed_to w.known rank e (reader_at w.known.readers rank))
      by_kind true is =
          follows_changes decoding reliable g first (events_for g entity all) e.place (w.readers rank) (notices_by rank w.put) (filter mine (came left)) (filter (λ c. c.rank == rank) (changes_by w.known e)) falls
          (subst (λ l. events_after e.place (events_for g entity l) ≡ reverse_aux (filter mine (came left)) []) (sym whole) (events_since g entity (came before) e (came left) (subst PlacesRise whole rises) (other_way is)))
          (subst (λ b. Follows decoding reliable g first (events_for g entity all) (w.readers rank) (notices_by rank w.put) (if b then e ∷ filter mine (came left) else filter mine (came left))) (other_way is) i.follows)
      by_kind false is =
          of_user decoding reliable g first (events_for g entity all) (w.readers rank) (notices_by rank w.put) e (filter mine (came left)) w.known rank i.wish is has_number i.found (i.agrees rank g i.below)
          (subst (λ n. Follows decoding reliable g first (events_for g entity all) (w.readers rank) (notices_by rank w.put) (if is_addressed (same_guid g) n e then e ∷ filter mine (came left) else filter mine (came left))) (sym i.named) i.follows)

  said : (w : World M) (o : Occurrence) (left : List Occurrence) → rank < count_after w o
      → With (reader_run (w.readers rank) (doings w.known rank o)) (notices_by rank w.put ++ told_run decoding (place_of o) (w.readers rank) (doings w.known rank o)) left
      → With ((world_after decoding w o).readers rank) (notices_by rank (world_after decoding w o).put) left
  said w o left below f = subst (λ ns. With ((world_after decoding w o).readers rank) ns left) (sym (told_more decoding w rank o below)) f

  there_step : (w : World M) (before : List Occurrence) (o : Occurrence) (left : List Occurrence) → all ≡ came before ++ came (o ∷ left) → Progresses (before ++ o ∷ left) → PlacesFall (events_for g entity all) → PlacesRise all
      → AllByRecursion (λ (e : EventView). HasNumber e.body) (came (o ∷ left)) → There w (o ∷ left) → Phase (world_after decoding w o) left
  there_step w before (Passes index moment) left whole on falls rises numbers t = inr (inl (record {
    agrees = agrees_after decoding w (Passes index moment) t.agrees;
    below = t.below;
    wish = t.wish;
    found = t.found;
    named = t.named;
    follows = said w (Passes index moment) left t.below
        (changed (w.readers rank) (notices_by rank w.put) (head_of index) left (changes (moved moment w.known) (passed moment w.known)) falls (here before (Passes index moment) left whole on (λ b l. l)) t.follows);
  }))
  there_step w before (Came e) left whole on falls rises numbers t =
      let below : rank < count_after w (Came e) = subst (λ (rs : List (Option Wish)). rank < length rs) (sym (readers_stay w.known e)) t.below in
      inr (inl (record {
        agrees = agrees_after decoding w (Came e) t.agrees;
        below = below;
        wish = t.wish;
        found = ap (λ (rs : List (Option Wish)). reader_at rs rank) (readers_stay w.known e) ∙ t.found;
        named = t.named;
        follows = said w (Came e) left below (part w before e left whole falls rises numbers.0 t);
      }))
  there_step w before (Joins index r) left whole on falls rises numbers t =
      let more : length (w.known.readers ++ Some r ∷ []) ≡ length w.known.readers + 1 = length-append w.known.readers (Some r ∷ []) in
      let below : rank < length (w.known.readers ++ Some r ∷ []) = omega (arith, more, t.below) in
      inr (inl (record {
        agrees = agrees_after decoding w (Joins index r) t.agrees;
        below = below;
        wish = t.wish;
        found = front_there w.known.readers (Some r) rank t.below ∙ t.found;
        named = t.named;
        follows = said w (Joins index r) left below (by_new (rank == length w.known.readers) refl);
      }))
    where
      cs : List ChangeAt
      cs = changes (without_fixed (length w.known.readers) w.known) (joined r w.known)

      first_step : StepView
      first_step = Starts w.known.own r.entity (is_reliable r.policies.reliability)

      by_new : (b : Bool) → (rank == length w.known.readers) ≡ b
          → With (reader_run (w.readers rank) ((if b then first_step ∷ [] else []) ++ changes_for rank cs)) (notices_by rank w.put ++ told_run decoding (head_of index) (w.readers rank) ((if b then first_step ∷ [] else []) ++ changes_for rank cs)) left
      by_new true e = let below = t.below in absurd (grind (arith, nat_tests))
      by_new false e = changed (w.readers rank) (notices_by rank w.put) (head_of index) left cs falls (here before (Joins index r) left whole on (λ b l. l)) t.follows
  there_step w before (Goes index gone) left whole on falls rises numbers t = by_gone (rank == gone) refl
    where
      cs : List ChangeAt
      cs = changes w.known (without_reader gone w.known)

      heard : List StepView
      heard = changes_for rank cs

      below : rank < length (vacated gone w.known.readers)
      below = subst (λ n. rank < n) (sym (vacated_length gone w.known.readers)) t.below

      after : With (reader_run (w.readers rank) heard) (notices_by rank w.put ++ told_run decoding (head_of index) (w.readers rank) heard) left
      after = changed (w.readers rank) (notices_by rank w.put) (head_of index) left cs falls (here before (Goes index gone) left whole on (λ b l. l)) t.follows

      by_gone : (b : Bool) → (rank == gone) ≡ b → Phase (world_after decoding w (Goes index gone)) left
      by_gone false e = inr (inl (record {
        agrees = agrees_after decoding w (Goes index gone) t.agrees;
        below = below;
        wish = t.wish;
        found = other_vacated gone rank w.known.readers e ∙ t.found;
        named = t.named;
        follows = said w (Goes index gone) left below (subst (λ ds. With (reader_run (w.readers rank) ds) (notices_by rank w.put ++ told_run decoding (head_of index) (w.readers rank) ds) left) (sym (ap (λ b. heard ++ (if b then Stops ∷ [] else [])) e ∙ append-nil heard)) after);
      }))
      by_gone true e =
          let is : rank ≡ gone = grind (arith, nat_tests) in
          let told : notices_by rank (world_after decoding w (Goes index gone)).put ≡ notices_by rank w.put ++ told_run decoding (head_of index) (w.readers rank) heard =
          told_more decoding w rank (Goes index gone) below
          ∙ ap (λ l. notices_by rank w.put ++ l) (sym (told_both decoding (head_of index) (w.readers rank) heard (stops rank gone)) ∙ ap (λ l. told_run decoding (head_of index) (w.readers rank) heard ++ l) (told_stop decoding (head_of index) (reader_run (w.readers rank) heard) (rank == gone)) ∙ append-nil (told_run decoding (head_of index) (w.readers rank) heard)) in
          inr (inr (record {
            absent = record {
              below = below;
              none = ap (reader_at (vacated gone w.known.readers)) is ∙ vacated_none w.known.readers gone;
              free = λ h. ap (λ n. known.is_fixed (parted gone w.known).fixed n h) is ∙ own_fixed w.known.fixed gone h;
            };
            settled = subst (λ ns. AllByRecursion (IsSettled decoding reliable (events_for g entity all)) (stretches g first ns)) (sym told)
                (all_settled decoding reliable g first (events_for g entity all) (reader_run (w.readers rank) heard) (notices_by rank w.put ++ told_run decoding (head_of index) (w.readers rank) heard) (filter mine (came left)) falls after);
          }))

  -- one that went gives out nothing more
  gone_step : (w : World M) (o : Occurrence) → Gone w → Gone (world_after decoding w o)
  gone_step w o t = record {
    absent = still_absent decoding rank w o t.absent;
    settled = subst (λ ns. AllByRecursion (IsSettled decoding reliable (events_for g entity all)) (stretches g first ns)) (sym (absent_silent decoding rank w o t.absent)) t.settled;
  }

  -- ---- one that isn't there yet

  index_there : {X : Type 0} (f : Wish → X) (given : List Wish) (r : Wish) (more : List Wish) (d : X) → slice_index_or (map f (given ++ r ∷ more)) (length given) d ≡ f r
  index_there f [] r more d = refl
  index_there f (x ∷ given) r more d = index_there f given r more d

  begins : (w : World M) (before : List Occurrence) (index : ℕ) (r : Wish) (left : List Occurrence) → all ≡ came before ++ came left → Progresses (before ++ Joins index r ∷ left) → PlacesFall (events_for g entity all)
      → entity ≡ entity_at ws rank → reliable ≡ is_reliable_among ws rank → (rank == length w.known.readers) ≡ true → NotYet w (Joins index r ∷ left) → There (world_after decoding w (Joins index r)) left
  begins w before index r left whole on falls named asks new n = record {
    agrees = agrees_after decoding w (Joins index r) n.agrees;
    below = below;
    wish = r;
    found = ap (reader_at (w.known.readers ++ Some r ∷ [])) is ∙ last_there w.known.readers (Some r);
    named = sym (named ∙ at_rank (λ (w : Wish). w.entity) unknown_entity);
    follows = said w (Joins index r) left below
        (subst (λ b. With (reader_run (w.readers rank) ((if b then first_step ∷ [] else []) ++ changes_for rank cs)) (notices_by rank w.put ++ told_run decoding (head_of index) (w.readers rank) ((if b then first_step ∷ [] else []) ++ changes_for rank cs)) left) (sym new)
        (changed fresh_reader (notices_by rank w.put) (head_of index) left cs falls (here before (Joins index r) left whole on (λ b l. l))
        (subst (λ ns. With fresh_reader ns left) (sym n.silent) begun)));
  }
    where
      is : rank ≡ length w.known.readers
      is = grind (arith, nat_tests)

      more : length (w.known.readers ++ Some r ∷ []) ≡ length w.known.readers + 1
      more = length-append w.known.readers (Some r ∷ [])

      below : rank < length (w.known.readers ++ Some r ∷ [])
      below = omega (arith, is, more)

      cs : List ChangeAt
      cs = changes (without_fixed (length w.known.readers) w.known) (joined r w.known)

      first_step : StepView
      first_step = Starts w.known.own r.entity (is_reliable r.policies.reliability)

      fresh_reader : Reader
      fresh_reader = first_reader w.known.own r.entity (is_reliable r.policies.reliability) []

      at_rank : {X : Type 0} (f : Wish → X) (d : X) → slice_index_or (map f ws) rank d ≡ f r
      at_rank f d = ap (λ (l : List Wish). slice_index_or (map f l) rank d) n.are ∙ ap (λ i. slice_index_or (map f (n.given ++ r ∷ joins left)) i d) (is ∙ sym n.many) ∙ index_there f n.given r (joins left) d

      begun : With fresh_reader [] left
      begun = record {
        asks = sym (asks ∙ at_rank (λ (w : Wish). is_reliable w.policies.reliability) false);
        over = [];
        since = first;
        shown = [];
        settled = tt;
        cut = λ ys. sym (nothing_first (stretches g first ys));
        now = (n.never, refl);
      }

  not_yet_step : (w : World M) (before : List Occurrence) (o : Occurrence) (left : List Occurrence) → all ≡ came before ++ came (o ∷ left) → Progresses (before ++ o ∷ left) → PlacesFall (events_for g entity all)
      → entity ≡ entity_at ws rank → reliable ≡ is_reliable_among ws rank → NotYet w (o ∷ left) → Phase (world_after decoding w o) left
  not_yet_step w before (Passes index moment) left whole on falls named asks n = inl (record {
    agrees = agrees_after decoding w (Passes index moment) n.agrees;
    past = n.past;
    silent = heard_past decoding w rank (Passes index moment) n.past ∙ n.silent;
    never = n.never;
    given = n.given;
    many = n.many;
    are = n.are;
  })
  not_yet_step w before (Came e) left whole on falls named asks n =
      let past : count_after w (Came e) ≤ rank = subst (λ (rs : List (Option Wish)). length rs ≤ rank) (sym (readers_stay w.known e)) n.past in
      inl (record {
        agrees = agrees_after decoding w (Came e) n.agrees;
        past = past;
        silent = heard_past decoding w rank (Came e) past ∙ n.silent;
        never = n.never;
        given = n.given;
        many = n.many ∙ ap (λ (rs : List (Option Wish)). length rs) (sym (readers_stay w.known e));
        are = n.are;
      })
  not_yet_step w before (Goes index gone) left whole on falls named asks n =
      let past : count_after w (Goes index gone) ≤ rank = subst (λ c. c ≤ rank) (sym (vacated_length gone w.known.readers)) n.past in
      inl (record {
        agrees = agrees_after decoding w (Goes index gone) n.agrees;
        past = past;
        silent = heard_past decoding w rank (Goes index gone) past ∙ n.silent;
        never = n.never;
        given = n.given;
        many = n.many ∙ sym (vacated_length gone w.known.readers);
        are = n.are;
      })
  not_yet_step w before (Joins index r) left whole on falls named asks n = by_new (rank == length w.known.readers) refl
    where
      more : length (w.known.readers ++ Some r ∷ []) ≡ length w.known.readers + 1
      more = length-append w.known.readers (Some r ∷ [])

      beyond : (c : ℕ) → c ≤ rank → (rank == c) ≡ false → c + 1 ≤ rank
      beyond c le other = grind (arith, nat_tests)

      by_new : (b : Bool) → (rank == length w.known.readers) ≡ b → Phase (world_after decoding w (Joins index r)) left
      by_new true e = inr (inl (begins w before index r left whole on falls named asks e n))
      by_new false e =
          let past : length (w.known.readers ++ Some r ∷ []) ≤ rank = subst (λ c. c ≤ rank) (sym more) (beyond (length w.known.readers) n.past e) in
          let last : length (n.given ++ r ∷ []) ≡ length n.given + 1 = length-append n.given (r ∷ []) in
          inl (record {
            agrees = agrees_after decoding w (Joins index r) n.agrees;
            past = past;
            silent = heard_past decoding w rank (Joins index r) past ∙ n.silent;
            never = n.never;
            given = n.given ++ r ∷ [];
            many = last ∙ ap (λ c. c + 1) n.many ∙ sym more;
            are = n.are ∙ sym (append_assoc n.given (r ∷ []) (joins left));
          })

  -- ---- a run

  whole_run : (w : World M) (before left : List Occurrence) → all ≡ came before ++ came left → Progresses (before ++ left) → PlacesFall (events_for g entity all) → PlacesRise all
      → AllByRecursion (λ (e : EventView). HasNumber e.body) (came left) → entity ≡ entity_at ws rank → reliable ≡ is_reliable_among ws rank → Phase w left → Phase (world_run decoding w left) []
  whole_run w before [] whole on falls rises numbers named asks phase = phase
  whole_run w before (o ∷ left) whole on falls rises numbers named asks phase =
      whole_run (world_after decoding w o) (before ++ o ∷ []) left (whole ∙ sym (next before)) (subst Progresses (sym (append_assoc before (o ∷ []) left)) on) falls rises (later o numbers) named asks (by_phase phase)
    where
      next : (bs : List Occurrence) → came (bs ++ o ∷ []) ++ came left ≡ came bs ++ came (o ∷ left)
      next bs = ap (λ l. l ++ came left) (came_append bs (o ∷ [])) ∙ append_assoc (came bs) (came (o ∷ [])) (came left) ∙ ap (λ l. came bs ++ l) (sym (came_append (o ∷ []) left))

      later : (o : Occurrence) → AllByRecursion (λ (e : EventView). HasNumber e.body) (came (o ∷ left)) → AllByRecursion (λ (e : EventView). HasNumber e.body) (came left)
      later (Passes index moment) h = h
      later (Came e) h = h.1
      later (Joins index r) h = h
      later (Goes index gone) h = h

      by_phase : Phase w (o ∷ left) → Phase (world_after decoding w o) left
      by_phase (inl n) = not_yet_step w before o left whole on falls named asks n
      by_phase (inr (inl t)) = there_step w before o left whole on falls rises numbers t
      by_phase (inr (inr t)) = inr (inr (gone_step w o t))

  settled_at : (w : World M) → PlacesFall (events_for g entity all) → Phase w [] → AllByRecursion (IsSettled decoding reliable (events_for g entity all)) (stretches g first (notices_by rank w.put))
  settled_at w falls (inl n) =
      subst (λ ns. AllByRecursion (IsSettled decoding reliable (events_for g entity all)) (stretches g first ns)) (sym n.silent)
      (subst (λ s. IsSettled decoding reliable (events_for g entity all) (stretch s [])) (sym n.never) (record { unmatched = λ never. refl; matched = λ asks. refl }), tt)
  settled_at w falls (inr (inl t)) = all_settled decoding reliable g first (events_for g entity all) (w.readers rank) (notices_by rank w.put) [] falls t.follows
  settled_at w falls (inr (inr t)) = t.settled

-- ---- the start

-- a match for which nothing came yet, as reliable as its reader
abbrev IsFresh : Bool → Option Match → Type 0
IsFresh reliable None = Unit {0}
IsFresh reliable (Some m) = (m.pairing.reliable ≡ reliable) × (m.past ≡ [])

fresh_more : (g : Guid) (reliable : Bool) (m : Match) (ms : List Match) → m.pairing.reliable ≡ reliable → m.past ≡ [] → IsFresh reliable (match_with g ms) → IsFresh reliable (match_with g (begun m ms))
fresh_more g reliable m ms asks past before = subst (IsFresh reliable) (sym (match_begun g m ms)) (by_test (same_guid m.pairing.writer g))
  where
    by_test : (b : Bool) → IsFresh reliable (if b then Some m else match_with g ms)
    by_test true = (asks, past)
    by_test false = before

all_fresh : (g : Guid) (own : GuidPrefix) (entity : EntityId) (reliable : Bool) (fixed : List Facts) (ms : List Match) → IsFresh reliable (match_with g ms) → IsFresh reliable (match_with g (all_begun ms (map (pairing_of own entity reliable) fixed)))
all_fresh g own entity reliable [] ms before = before
all_fresh g own entity reliable (p ∷ fixed) ms before =
    all_fresh g own entity reliable fixed (begun (fresh (pairing_of own entity reliable p)) ms) (fresh_more g reliable (fresh (pairing_of own entity reliable p)) ms refl refl before)

joins_append : (xs ys : List Occurrence) → joins (xs ++ ys) ≡ joins xs ++ joins ys
joins_append [] ys = refl
joins_append (Passes index moment ∷ xs) ys = joins_append xs ys
joins_append (Came e ∷ xs) ys = joins_append xs ys
joins_append (Joins index r ∷ xs) ys = ap (λ l. r ∷ l) (joins_append xs ys)
joins_append (Goes index rank ∷ xs) ys = joins_append xs ys

joins_none : (es : List EventView) → joins (map Came es) ≡ []
joins_none [] = refl
joins_none (e ∷ es) = joins_none es

joins_from : (own : GuidPrefix) (index : ℕ) (xs : List Input) → joins (occurrences_from own index xs) ≡ added xs
joins_from own index [] = refl
joins_from own index (Datagram moment octets ∷ xs) =
    joins_append (map Came (events_of own index octets)) (occurrences_from own (index + 1) xs)
    ∙ ap (λ l. l ++ joins (occurrences_from own (index + 1) xs)) (joins_none (events_of own index octets))
    ∙ joins_from own (index + 1) xs
joins_from own index (Tick moment ∷ xs) = joins_from own index xs
joins_from own index (AddReader r ∷ xs) = ap (λ l. r ∷ l) (joins_from own index xs)
joins_from own index (RemoveReader rank ∷ xs) = joins_from own index xs

front_index : {X : Type 0} (f : Wish → X) (rs : List ReaderConfig) (more : List Wish) (rank : ℕ) (d : X) → rank < length rs
    → slice_index_or (map f (map wish_of rs ++ more)) rank d ≡ slice_index_or (map (λ (r : ReaderConfig). f (wish_of r)) rs) rank d
front_index f [] more rank d below = absurd (omega (arith, below))
front_index f (r ∷ rs) more zero d below = refl
front_index f (r ∷ rs) more (suc rank) d below = front_index f rs more rank d (omega (arith, below))

module _ {M : Type 0} (decoding : Decoding M) (config : Config) (inputs : List Input) (rank : ℕ) (g : Guid) where
  abbrev reliable_there : Bool
  reliable_there = is_reliable_among (readers_ever config inputs) rank

  abbrev entity_there : EntityId
  entity_there = entity_at (readers_ever config inputs) rank

  abbrev all_there : List EventView
  all_there = events_from config.own 0 inputs

  abbrev os : List Occurrence
  os = occurrences_from config.own 0 inputs

  whole_there : all_there ≡ came os
  whole_there = sym (came_from config.own 0 inputs)

  there_first : rank < length config.readers.items → There decoding reliable_there g (first_since config rank g) all_there rank entity_there (readers_ever config inputs) (first_world config) os
  there_first below =
      let found = wish_at config.readers.items rank below in
      let many : length (map reader_of config.readers.items) ≡ length config.readers.items = length-map config.readers.items reader_of in
      record {
        agrees = agrees_first M config;
        below = omega (arith, below, many);
        wish = found.wish;
        found = found.found;
        named = found.named ∙ sym (front_index (λ (w : Wish). w.entity) config.readers.items (added inputs) rank unknown_entity below);
        follows = record {
          asks = sym (front_index (λ (w : Wish). is_reliable w.policies.reliability) config.readers.items (added inputs) rank false below);
          over = [];
          since = first_since config rank g;
          shown = [];
          settled = tt;
          cut = λ ys. sym (nothing_first (stretches g (first_since config rank g) ys));
          now = subst (λ (l : List EventView). IsNow decoding reliable_there (events_for g entity_there all_there) (filter (is_addressed (same_guid g) entity_there) l) (first_since config rank g) [] (match_with g matches_there)) whole_there
              (subst (λ b. IsNow decoding reliable_there (events_for g entity_there all_there) (filter (is_addressed (same_guid g) entity_there) all_there) (if b && is_paired config rank g then TheStart else Never) [] (match_with g matches_there)) (sym inside)
              (by_fixed (is_paired config rank g) (match_with g matches_there) (first_has config rank g) (subst (λ b. IsFresh b (match_with g matches_there)) reliable_is (all_fresh g config.own (entity_of config.readers.items rank) (is_reliable_at config.readers.items rank) (fixed_of config.fixed.items rank) [] tt))));
        };
      }
    where
      inside : nat_lt rank (length config.readers.items) ≡ true
      inside = grind (arith, nat_tests)

      matches_there : List Match
      matches_there = first_matches config.own (entity_of config.readers.items rank) (is_reliable_at config.readers.items rank) (fixed_of config.fixed.items rank)

      reliable_is : is_reliable_at config.readers.items rank ≡ reliable_there
      reliable_is = sym (front_index (λ (w : Wish). is_reliable w.policies.reliability) config.readers.items (added inputs) rank false below)

      by_fixed : (fixed : Bool) (o : Option Match) → is_some o ≡ fixed → IsFresh reliable_there o
          → IsNow decoding reliable_there (events_for g entity_there all_there) (filter (is_addressed (same_guid g) entity_there) all_there) (if fixed then TheStart else Never) [] o
      by_fixed true None h none = absurd (true≢false (sym h))
      by_fixed true (Some m) h new = record { mine = []; past = new.1; asks = new.0; numbers = tt; given = λ asks. refl; events = refl }
      by_fixed false None h none = (refl, refl)
      by_fixed false (Some m) h new = absurd (true≢false h)

  not_yet_first : length config.readers.items ≤ rank → NotYet decoding reliable_there g (first_since config rank g) all_there rank entity_there (readers_ever config inputs) (first_world config) os
  not_yet_first past =
      let many : length (map reader_of config.readers.items) ≡ length config.readers.items = length-map config.readers.items reader_of in
      record {
        agrees = agrees_first M config;
        past = omega (arith, past, many);
        silent = refl;
        never = ap (λ b. if b && is_paired config rank g then TheStart else Never) outside;
        given = map wish_of config.readers.items;
        many = length-map config.readers.items wish_of ∙ sym many;
        are = ap (λ l. map wish_of config.readers.items ++ l) (sym (joins_from config.own 0 inputs));
      }
    where
      outside : nat_lt rank (length config.readers.items) ≡ false
      outside = grind (arith, nat_tests)

  -- in a run each stretch of what a reader presents is settled
  run_settled : AllByRecursion (IsSettled decoding reliable_there (events_in config inputs rank g)) (stretches_in decoding config inputs rank g)
  run_settled = settled_at decoding reliable_there g (first_since config rank g) all_there rank entity_there (readers_ever config inputs) (run decoding config inputs) falls
      (whole_run decoding reliable_there g (first_since config rank g) all_there rank entity_there (readers_ever config inputs) (first_world config) [] os whole_there (run_progresses config.own 0 inputs) falls (places_rise config.own inputs)
      (subst (AllByRecursion (λ (e : EventView). HasNumber e.body)) whole_there (all_have_numbers config.own 0 inputs)) refl refl (by_count (nat_lt rank (length config.readers.items)) refl))
    where
      falls : PlacesFall (events_for g entity_there all_there)
      falls = places_fall config.own inputs g entity_there

      by_count : (b : Bool) → nat_lt rank (length config.readers.items) ≡ b → Phase decoding reliable_there g (first_since config rank g) all_there rank entity_there (readers_ever config inputs) (first_world config) os
      by_count true is = inr (inl (there_first (grind (arith, nat_tests))))
      by_count false is = inl (not_yet_first (grind (arith, nat_tests)))

-- what a reliable reader presents of a writer, match by match
pub run_presents : {M : Type 0} (decoding : Decoding M) (config : Config) (inputs : List Input) (rank : ℕ) (g : Guid) → is_reliable_among (readers_ever config inputs) rank ≡ true
    → AllByRecursion (IsPresented decoding (events_in config inputs rank g)) (stretches_in decoding config inputs rank g)
run_presents decoding config inputs rank g asks =
    all_weaker (IsSettled decoding (is_reliable_among (readers_ever config inputs) rank) (events_in config inputs rank g)) (IsPresented decoding (events_in config inputs rank g)) (stretches_in decoding config inputs rank g)
    (λ s settled. settled.matched asks) (run_settled decoding config inputs rank g)

-- and none of what no reader is matched with
pub run_presents_none : {M : Type 0} (decoding : Decoding M) (config : Config) (inputs : List Input) (rank : ℕ) (g : Guid)
    → AllByRecursion (λ (s : Stretch M). s.since ≡ Never → s.samples ≡ []) (stretches_in decoding config inputs rank g)
run_presents_none {M} decoding config inputs rank g =
    all_weaker (IsSettled decoding (is_reliable_among (readers_ever config inputs) rank) (events_in config inputs rank g)) (λ (s : Stretch M). s.since ≡ Never → s.samples ≡ []) (stretches_in decoding config inputs rank g)
    (λ s settled. settled.unmatched) (run_settled decoding config inputs rank g)
