-- What a reader presents of a writer, match by match, as it takes one step after the other.
use Rattle.std.proofs.Common.{◌≡◌, ◌==◌, Bool, true, false, ◌&&◌, if◌then◌else◌, List, [], ◌∷◌, ◌++◌, map, Option, Some, None, refl, sym, ◌∙◌, ap, subst, append-nil, append_assoc, true≢false}
use mathlib.Core.List.{reverse_aux}
use Rattle.std.specs.List.{AllByRecursion}
use Rattle.std.specs.Option.{option_map}
use Rattle.std.proofs.Math.Bool.{and-false}
use Rattle.rtps_types.specs.SequenceNumber.{IsNumber}
use Rattle.rtps_types.specs.declared.identity.Guid.{Guid}
use Rattle.rtps_types.specs.declared.place.Place.{Place}
use Rattle.rtps_receiver.specs.Events.{EventView}
use Rattle.rtps_discovery.specs.Addressed.{writer_of}
use Rattle.rtps_types.specs.MatchChange.{MatchChange, Matches, Unmatches, Refuses}
use Rattle.rtps_discovery.specs.Changes.{ChangeAt}
use Rattle.rtps_proxy.specs.Effects.{ready_of}
use Rattle.rtps_proxy.specs.Change.{ChangeView}
use Rattle.rtps_proxy.specs.History.{MatchEvent, match_event_of}
use Rattle.rtps_proxy.specs.Matches.{Match, match_with, same_guid}
use Rattle.rtps_proxy.specs.Presentation.{Brings}
use Rattle.rtps_proxy.specs.Received.{ready}
use Rattle.rtps_proxy.proofs.Matching.{same_is}
use Rattle.rtps_proxy.proofs.Presenting.{ready_brought}
use Rattle.dds_topic.specs.Decoding.{Decoding}
use Rattle.rtps_reader.specs.declared.notice.Notice.{Notice}
use Rattle.rtps_reader.specs.declared.notice.NoticeKind.{NoticeKind}
use Rattle.rtps_reader.specs.declared.notice.NoticeKind.TheVariants.{Sample as ASample, Matched, Unmatched, Incompatible, Lost}
use Rattle.rtps_reader.specs.Reader.{Reader, fresh_with, loses, lost_at, presented, reader_after, reader_run, ready_at, tells, told_of}
use Rattle.rtps_reader.specs.Step.{Takes, Changes, asks_of}
use Rattle.rtps_reader.proofs.Begun.{match_begun, same_self}
use Rattle.rtps_run.specs.Presentation.{ArePresented, IsPresented, PresentedSince, Shown, Since, TheStart, ThePlace, Never, Stretch, events_after, shown_first, shown_in, stretch, stretches, stretches_by}
use Rattle.rtps_run.proofs.Matched.{either_way, ended_match, extend, extended_match, other_way, samples_told, told_by_other, told_run}
use Rattle.rtps_run.proofs.Places.{PlacesFall, all_append, all_weaker, later_fall}
use Rattle.rtps_run.proofs.Shown.{first_presented, samples_of, shown, shown_after}
use Rattle.rtps_serial.proofs.Taken.{HasNumber, brought_number}

-- ---- stretches of notices

pub nothing_first : {M : Type 0} (ss : List (Stretch M)) → shown_first [] ss ≡ ss
nothing_first [] = refl
nothing_first (s ∷ ss) = refl

shown_twice : {M : Type 0} (xs ys : List (Shown M)) (ss : List (Stretch M)) → shown_first xs (shown_first ys ss) ≡ shown_first (xs ++ ys) ss
shown_twice xs ys [] = refl
shown_twice xs ys (s ∷ ss) = ap (λ l. stretch s.since l ∷ ss) (sym (append_assoc xs ys s.samples))

-- a notice of the writer that begins or ends a match
abbrev pub begins_or_ends : {M : Type 0} → NoticeKind M → Bool
begins_or_ends (ASample number time body) = false
begins_or_ends Matched = true
begins_or_ends Unmatched = true
begins_or_ends (Incompatible policy) = false
begins_or_ends (Lost count) = false

abbrev pub is_cut : {M : Type 0} → Guid → Notice M → Bool
is_cut g n = same_guid n.writer g && begins_or_ends n.what

-- without one, all samples are of one stretch
pub uncut : {M : Type 0} (g : Guid) (since : Since) (ns ys : List (Notice M)) → AllByRecursion (λ n. is_cut g n ≡ false) ns
    → stretches g since (ns ++ ys) ≡ shown_first (samples_of g ns) (stretches g since ys)
uncut g since [] ys all = sym (nothing_first (stretches g since ys))
uncut {M} g since (n ∷ ns) ys all = by_writer (same_guid n.writer g) all.0 (uncut g since ns ys all.1)
  where
    by_kind : (k : NoticeKind M) → begins_or_ends k ≡ false → stretches g since (ns ++ ys) ≡ shown_first (samples_of g ns) (stretches g since ys)
        → stretches_by since n.place k (λ s. stretches g s (ns ++ ys)) ≡ shown_first (shown_in n.place k ++ samples_of g ns) (stretches g since ys)
    by_kind (ASample number time body) h rest = ap (shown_first (shown_in n.place (ASample number time body))) rest ∙ shown_twice (shown_in n.place (ASample number time body)) (samples_of g ns) (stretches g since ys)
    by_kind Matched h rest = absurd (true≢false h)
    by_kind Unmatched h rest = absurd (true≢false h)
    by_kind (Incompatible policy) h rest = ap (shown_first []) rest ∙ shown_twice [] (samples_of g ns) (stretches g since ys)
    by_kind (Lost count) h rest = ap (shown_first []) rest ∙ shown_twice [] (samples_of g ns) (stretches g since ys)

    by_writer : (b : Bool) → (b && begins_or_ends n.what) ≡ false → stretches g since (ns ++ ys) ≡ shown_first (samples_of g ns) (stretches g since ys)
        → (if b then stretches_by since n.place n.what (λ s. stretches g s (ns ++ ys)) else stretches g since (ns ++ ys))
        ≡ shown_first (if b then shown_in n.place n.what ++ samples_of g ns else samples_of g ns) (stretches g since ys)
    by_writer true h rest = by_kind n.what h rest
    by_writer false h rest = rest

-- what a reader reports of an event begins and ends no match
pub told_uncut : {M : Type 0} (decoding : Decoding M) (place : Place) (g w : Guid) (c : MatchEvent) (o : Option Match) → AllByRecursion (λ n. is_cut g n ≡ false) (told_of decoding place w c o)
told_uncut decoding place g w c None = tt
told_uncut {M} decoding place g w c (Some m) =
    all_append (λ (n : Notice M). is_cut g n ≡ false) (loses place w (lost_at m c)) (map (presented decoding place w) (ready_at m c)) (no_losses (lost_at m c == 0)) (of_samples (ready_at m c))
  where
    no_losses : (b : Bool) → AllByRecursion (λ (n : Notice M). is_cut g n ≡ false) (if b then [] else record { place = place; writer = w; what = Lost (lost_at m c) } ∷ [])
    no_losses true = tt
    no_losses false = (and-false (same_guid w g), tt)

    of_samples : (ss : List ChangeView) → AllByRecursion (λ (n : Notice M). is_cut g n ≡ false) (map (presented decoding place w) ss)
    of_samples [] = tt
    of_samples (s ∷ ss) = (and-false (same_guid w g), of_samples ss)

-- ---- a reader, step by step

-- a stretch that is over: of a reliable reader it is presented against these submessages for the match
pub record IsSettled {M : Type 0} (decoding : Decoding M) (reliable : Bool) (all : List EventView) (s : Stretch M) : Type 0 where
  pub unmatched : s.since ≡ Never → s.samples ≡ []
  pub matched : reliable ≡ true → IsPresented decoding all s

-- these are the submessages since then
abbrev IsSince : Since → List EventView → List EventView → Type 0
IsSince TheStart all es = all ≡ es
IsSince (ThePlace place) all es = events_after place all ≡ es
IsSince Never all es = ⊥

-- a match that goes on: what came for it, the newest first, and what is left are its submessages since it began
pub record GoesOn {M : Type 0} (decoding : Decoding M) (reliable : Bool) (all left : List EventView) (since : Since) (shown : List (Shown M)) (m : Match) : Type 0 where
  pub mine : List EventView
  pub past : m.past ≡ map match_event_of mine
  pub asks : m.pairing.reliable ≡ reliable
  pub numbers : AllByRecursion (λ (e : EventView). HasNumber e.body) mine
  pub given : reliable ≡ true → shown ≡ shown_after decoding mine
  pub events : IsSince since all (reverse_aux left mine)

abbrev pub IsNow : {M : Type 0} → Decoding M → Bool → List EventView → List EventView → Since → List (Shown M) → Option Match → Type 0
IsNow decoding reliable all left since shown None = (since ≡ Never) × (shown ≡ [])
IsNow decoding reliable all left since shown (Some m) = GoesOn decoding reliable all left since shown m

-- a reader gave out these notices, and these submessages for the match with the writer are left
pub record Follows {M : Type 0} (decoding : Decoding M) (reliable : Bool) (g : Guid) (first : Since) (all : List EventView) (r : Reader) (given : List (Notice M)) (left : List EventView) : Type 0 where
  pub asks : r.reliable ≡ reliable
  -- the stretches that are over, and the one that goes on
  pub over : List (Stretch M)
  pub since : Since
  pub shown : List (Shown M)
  pub settled : AllByRecursion (IsSettled decoding reliable all) over
  pub cut : (ys : List (Notice M)) → stretches g first (given ++ ys) ≡ over ++ shown_first shown (stretches g since ys)
  pub now : IsNow decoding reliable all left since shown (match_with g r.matches)

-- a stretch is settled once it is over
settles : {M : Type 0} (decoding : Decoding M) (reliable : Bool) (all left : List EventView) (since : Since) (shown : List (Shown M)) (o : Option Match)
    → PlacesFall all → IsNow decoding reliable all left since shown o → IsSettled decoding reliable all (stretch since shown)
settles decoding reliable all left since shown None falls now = record {
  unmatched = λ never. now.1;
  matched = λ asks. subst (PresentedSince decoding all shown) (sym now.0) now.1;
}
settles {M} decoding reliable all left since shown (Some m) falls now = by_since since now.events
  where
    shows : (es : List EventView) → PlacesFall es → es ≡ reverse_aux left now.mine → reliable ≡ true → ArePresented decoding es shown
    shows es down is asks =
        subst (λ (l : List (Shown M)). ArePresented decoding es l) (sym (now.given asks))
        (subst (λ l. ArePresented decoding l (shown_after decoding now.mine)) (sym is) (first_presented decoding left now.mine (subst PlacesFall is down)))

    by_since : (s : Since) → IsSince s all (reverse_aux left now.mine) → IsSettled decoding reliable all (stretch s shown)
    by_since TheStart is = record { unmatched = λ never. absurd cc; matched = λ asks. shows all falls is asks }
    by_since (ThePlace place) is = record { unmatched = λ never. absurd cc; matched = λ asks. shows (events_after place all) (later_fall place all falls) is asks }
    by_since Never is = absurd is

module _ {M : Type 0} (decoding : Decoding M) (reliable : Bool) (g : Guid) (first : Since) (all : List EventView) where
  -- notices that begin and end no match of the writer
  more_shown : (r s : Reader) (given ns : List (Notice M)) (left rest : List EventView) (f : Follows decoding reliable g first all r given left) → s.reliable ≡ r.reliable
      → AllByRecursion (λ n. is_cut g n ≡ false) ns → IsNow decoding reliable all rest f.since (f.shown ++ samples_of g ns) (match_with g s.matches)
      → Follows decoding reliable g first all s (given ++ ns) rest
  more_shown r s given ns left rest f same whole now = record {
    asks = same ∙ f.asks;
    over = f.over;
    since = f.since;
    shown = f.shown ++ samples_of g ns;
    settled = f.settled;
    cut = λ ys. ap (stretches g first) (append_assoc given ns ys)
        ∙ f.cut (ns ++ ys)
        ∙ ap (λ ss. f.over ++ shown_first f.shown ss) (uncut g f.since ns ys whole)
        ∙ ap (λ ss. f.over ++ ss) (shown_twice f.shown (samples_of g ns) (stretches g f.since ys));
    now = now;
  }

  -- a step that leaves the match, and presents nothing of it
  left_alone : (r s : Reader) (given ns : List (Notice M)) (left : List EventView) → Follows decoding reliable g first all r given left → s.reliable ≡ r.reliable
      → match_with g s.matches ≡ match_with g r.matches → AllByRecursion (λ n. is_cut g n ≡ false) ns → samples_of g ns ≡ []
      → Follows decoding reliable g first all s (given ++ ns) left
  left_alone r s given ns left f same still whole none =
      more_shown r s given ns left left f same whole
      (subst (λ (l : List (Shown M)). IsNow decoding reliable all left f.since l (match_with g s.matches)) (sym (ap (λ l. f.shown ++ l) none ∙ append-nil f.shown))
      (subst (λ (o : Option Match). IsNow decoding reliable all left f.since f.shown o) (sym still) f.now))

  -- one that begins or ends the match
  anew : (r s : Reader) (given : List (Notice M)) (n : Notice M) (left : List EventView) (since : Since) → PlacesFall all → Follows decoding reliable g first all r given left → s.reliable ≡ r.reliable
      → ((old : Since) (ys : List (Notice M)) → stretches g old (n ∷ ys) ≡ stretch old [] ∷ stretches g since ys)
      → IsNow decoding reliable all left since [] (match_with g s.matches)
      → Follows decoding reliable g first all s (given ++ n ∷ []) left
  anew r s given n left since falls f same cuts now = record {
    asks = same ∙ f.asks;
    over = f.over ++ stretch f.since f.shown ∷ [];
    since = since;
    shown = [];
    settled = all_append (IsSettled decoding reliable all) f.over (stretch f.since f.shown ∷ []) f.settled (settles decoding reliable all left f.since f.shown (match_with g r.matches) falls f.now, tt);
    cut = λ ys. ap (stretches g first) (append_assoc given (n ∷ []) ys)
        ∙ f.cut (n ∷ ys)
        ∙ ap (λ ss. f.over ++ shown_first f.shown ss) (cuts f.since ys)
        ∙ ap (λ l. f.over ++ stretch f.since l ∷ stretches g since ys) (append-nil f.shown)
        ∙ sym (append_assoc f.over (stretch f.since f.shown ∷ []) (stretches g since ys))
        ∙ ap (λ ss. (f.over ++ stretch f.since f.shown ∷ []) ++ ss) (sym (nothing_first (stretches g since ys)));
    now = now;
  }

  -- a change of what is known, at a place after which these submessages are left
  follows_change : (place : Place) (r : Reader) (given : List (Notice M)) (left : List EventView) (x : MatchChange) → PlacesFall all → events_after place all ≡ reverse_aux left []
      → Follows decoding reliable g first all r given left → Follows decoding reliable g first all (reader_after r (Changes x)) (given ++ tells decoding r place (Changes x)) left
  follows_change place r given left (Matches w ls) falls here f = by_writer (same_guid w g) refl
    where
      one : Match
      one = fresh_with r (w, ls)

      by_writer : (b : Bool) → same_guid w g ≡ b → Follows decoding reliable g first all (reader_after r (Changes (Matches w ls))) (given ++ tells decoding r place (Changes (Matches w ls))) left
      by_writer true is =
          anew r (reader_after r (Changes (Matches w ls))) given (record { place = place; writer = w; what = Matched }) left (ThePlace place) falls f refl
          (λ old ys. rw is refl)
          (subst (λ (o : Option Match). IsNow decoding reliable all left (ThePlace place) [] o) (sym (match_begun g one r.matches ∙ ap (λ t. if t then Some one else match_with g r.matches) is))
          (record { mine = []; past = refl; asks = f.asks; numbers = tt; given = λ asks. refl; events = here }))
      by_writer false other =
          left_alone r (reader_after r (Changes (Matches w ls))) given (record { place = place; writer = w; what = Matched } ∷ []) left f refl
          (match_begun g one r.matches ∙ ap (λ t. if t then Some one else match_with g r.matches) other)
          (ap (λ t. t && true) other, tt) (rw other refl)
  follows_change place r given left (Unmatches w) falls here f = by_writer (same_guid w g) refl
    where
      by_writer : (b : Bool) → same_guid w g ≡ b → Follows decoding reliable g first all (reader_after r (Changes (Unmatches w))) (given ++ tells decoding r place (Changes (Unmatches w))) left
      by_writer true is =
          anew r (reader_after r (Changes (Unmatches w))) given (record { place = place; writer = w; what = Unmatched }) left Never falls f refl
          (λ old ys. rw is refl)
          (subst (λ (o : Option Match). IsNow decoding reliable all left Never [] o) (sym (ended_match g w r.matches ∙ ap (λ t. if t then None else match_with g r.matches) is)) (refl, refl))
      by_writer false other =
          left_alone r (reader_after r (Changes (Unmatches w))) given (record { place = place; writer = w; what = Unmatched } ∷ []) left f refl
          (ended_match g w r.matches ∙ ap (λ t. if t then None else match_with g r.matches) other)
          (ap (λ t. t && true) other, tt) (rw other refl)
  follows_change place r given left (Refuses w policy) falls here f =
      left_alone r r given (record { place = place; writer = w; what = Incompatible policy } ∷ []) left f refl refl (and-false (same_guid w g), tt) (either_way (same_guid w g) none)
    where
      none : List (Shown M)
      none = []

  -- all changes of an event, one after the other
  pub follows_changes : (place : Place) (r : Reader) (given : List (Notice M)) (left : List EventView) (cs : List ChangeAt) → PlacesFall all → events_after place all ≡ reverse_aux left []
      → Follows decoding reliable g first all r given left
      → Follows decoding reliable g first all (reader_run r (map (λ c. Changes c.what) cs)) (given ++ told_run decoding place r (map (λ c. Changes c.what) cs)) left
  follows_changes place r given left [] falls here f = subst (λ ns. Follows decoding reliable g first all r ns left) (sym (append-nil given)) f
  follows_changes place r given left (c ∷ cs) falls here f =
      subst (λ ns. Follows decoding reliable g first all (reader_run (reader_after r (Changes c.what)) (map (λ (c : ChangeAt). Changes c.what) cs)) ns left)
      (append_assoc given (tells decoding r place (Changes c.what)) (told_run decoding place (reader_after r (Changes c.what)) (map (λ (c : ChangeAt). Changes c.what) cs)))
      (follows_changes place (reader_after r (Changes c.what)) (given ++ tells decoding r place (Changes c.what)) left cs falls here (follows_change place r given left c.what falls here f))

  ready_is : (m : Match) (past : List MatchEvent) (c : MatchEvent) → m.pairing.reliable ≡ true → m.past ≡ past → ready_at m c ≡ ready past c
  ready_is m past c asks came = ap (λ b. ready_of b m.past c) asks ∙ ap (λ p. ready p c) came

  -- a submessage for the match comes
  next_shown : (e : EventView) (m : Match) (shown_so_far : List (Shown M)) (mine : List EventView) → HasNumber e.body → AllByRecursion (λ (e : EventView). HasNumber e.body) mine
      → m.past ≡ map match_event_of mine → m.pairing.reliable ≡ true → shown_so_far ≡ shown_after decoding mine
      → shown_so_far ++ samples_of g (told_of decoding e.place g (match_event_of e) (Some m)) ≡ shown_after decoding (e ∷ mine)
  next_shown e m shown_so_far mine has numbers past asks given =
      ap (λ l. l ++ samples_of g (told_of decoding e.place g (match_event_of e) (Some m))) given
      ∙ ap (λ l. shown_after decoding mine ++ l)
      (samples_told decoding e.place g (match_event_of e) m numbered ∙ ap (map (shown decoding e.place)) (ready_is m (map match_event_of mine) (match_event_of e) asks past))
    where
      numbered : AllByRecursion (λ (s : ChangeView). IsNumber s.number) (ready_at m (match_event_of e))
      numbered = subst (AllByRecursion (λ (s : ChangeView). IsNumber s.number)) (sym (ready_is m (map match_event_of mine) (match_event_of e) asks past))
          (all_weaker (Brings (match_event_of e ∷ map match_event_of mine)) (λ (s : ChangeView). IsNumber s.number) (ready (map match_event_of mine) (match_event_of e)) (λ s b. brought_number (e ∷ mine) s (has, numbers) b) (ready_brought (map match_event_of mine) (match_event_of e)))

  taken_own : (e : EventView) (r : Reader) (given : List (Notice M)) (left : List EventView) → HasNumber e.body → Follows decoding reliable g first all r given (e ∷ left)
      → Follows decoding reliable g first all (reader_after r (Takes g (match_event_of e))) (given ++ told_of decoding e.place g (match_event_of e) (match_with g r.matches)) left
  taken_own e r given left has f =
      more_shown r (reader_after r (Takes g (match_event_of e))) given (told_of decoding e.place g (match_event_of e) (match_with g r.matches)) (e ∷ left) left f refl
      (told_uncut decoding e.place g g (match_event_of e) (match_with g r.matches))
      (subst (λ (o : Option Match). IsNow decoding reliable all left f.since (f.shown ++ samples_of g (told_of decoding e.place g (match_event_of e) (match_with g r.matches))) o)
      (sym (extended_match g g (match_event_of e) r.matches ∙ ap (λ t. if t then option_map (extend (match_event_of e)) (match_with g r.matches) else match_with g r.matches) (same_self g)))
      (by_match (match_with g r.matches) f.now))
    where
      by_match : (o : Option Match) → IsNow decoding reliable all (e ∷ left) f.since f.shown o
          → IsNow decoding reliable all left f.since (f.shown ++ samples_of g (told_of decoding e.place g (match_event_of e) o)) (option_map (extend (match_event_of e)) o)
      by_match None now = (now.0, append-nil f.shown ∙ now.1)
      by_match (Some m) now = record {
        mine = e ∷ now.mine;
        past = ap (λ (l : List MatchEvent). match_event_of e ∷ l) now.past;
        asks = now.asks;
        numbers = (has, now.numbers);
        given = λ asks. next_shown e m f.shown now.mine has now.numbers now.past (now.asks ∙ asks) (now.given asks);
        events = now.events;
      }

  -- an event of the writer for the reader
  pub follows_taken : (e : EventView) (r : Reader) (given : List (Notice M)) (left : List EventView) → HasNumber e.body → same_guid g (writer_of e) ≡ true
      → Follows decoding reliable g first all r given (e ∷ left)
      → Follows decoding reliable g first all (reader_after r (asks_of e)) (given ++ tells decoding r e.place (asks_of e)) left
  follows_taken e r given left has is f =
      subst (λ w. Follows decoding reliable g first all (reader_after r (Takes w (match_event_of e))) (given ++ told_of decoding e.place w (match_event_of e) (match_with w r.matches)) left)
      (same_is g (writer_of e) is) (taken_own e r given left has f)

  -- one that the reader isn't given, since there is no match
  pub follows_missed : (e : EventView) (r : Reader) (given : List (Notice M)) (left : List EventView) → match_with g r.matches ≡ None
      → Follows decoding reliable g first all r given (e ∷ left) → Follows decoding reliable g first all r given left
  follows_missed e r given left none f = record {
    asks = f.asks;
    over = f.over;
    since = f.since;
    shown = f.shown;
    settled = f.settled;
    cut = f.cut;
    now = subst (λ (o : Option Match). IsNow decoding reliable all left f.since f.shown o) (sym none) (subst (λ (o : Option Match). IsNow decoding reliable all (e ∷ left) f.since f.shown o) none f.now);
  }

  -- one of another writer
  pub follows_other : (e : EventView) (r : Reader) (given : List (Notice M)) (left : List EventView) → same_guid g (writer_of e) ≡ false
      → Follows decoding reliable g first all r given left
      → Follows decoding reliable g first all (reader_after r (asks_of e)) (given ++ tells decoding r e.place (asks_of e)) left
  follows_other e r given left other f =
      left_alone r (reader_after r (asks_of e)) given (tells decoding r e.place (asks_of e)) left f refl
      (extended_match g (writer_of e) (match_event_of e) r.matches ∙ ap (λ t. if t then option_map (extend (match_event_of e)) (match_with g r.matches) else match_with g r.matches) other)
      (told_uncut decoding e.place g (writer_of e) (match_event_of e) (match_with (writer_of e) r.matches))
      (told_by_other decoding e.place g (writer_of e) (match_event_of e) (match_with (writer_of e) r.matches) (other_way g (writer_of e) other))

  -- in the end each stretch is settled
  pub all_settled : (r : Reader) (given : List (Notice M)) (left : List EventView) → PlacesFall all → Follows decoding reliable g first all r given left
      → AllByRecursion (IsSettled decoding reliable all) (stretches g first given)
  all_settled r given left falls f =
      subst (AllByRecursion (IsSettled decoding reliable all))
      (sym (ap (stretches g first) (sym (append-nil given)) ∙ f.cut [] ∙ ap (λ l. f.over ++ stretch f.since l ∷ []) (append-nil f.shown)))
      (all_append (IsSettled decoding reliable all) f.over (stretch f.since f.shown ∷ []) f.settled (settles decoding reliable all left f.since f.shown (match_with g r.matches) falls f.now, tt))
