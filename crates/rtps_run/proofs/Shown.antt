-- The samples of one match, with their places.
use Rattle.std.proofs.Common.{◌≡◌, ℕ, ◌<◌, ◌≤◌, ◌⊎◌, Bool, true, false, ◌||◌, if◌then◌else◌, List, [], ◌∷◌, ◌++◌, map, refl, sym, ◌∙◌, ap, subst, arith, eqb, inl, inr}
use mathlib.Core.List.{reverse_aux}
use Rattle.std.specs.List.{list_any, AllByRecursion}
use Rattle.std.proofs.lemmas.Bool.{or_left}
use Rattle.std.proofs.lemmas.Bool.Decides.{nat_tests}
use Rattle.std.proofs.lemmas.List.{map-append}
use Rattle.std.proofs.lemmas.List.Folds.{list_any-append}
use Rattle.rtps_types.specs.declared.identity.Guid.{Guid}
use Rattle.rtps_types.specs.declared.place.Place.{Place}
use Rattle.rtps_receiver.specs.Events.{EventView}
use Rattle.rtps_proxy.specs.Change.{ChangeView}
use Rattle.rtps_proxy.specs.History.{MatchEvent, match_event_of}
use Rattle.rtps_proxy.specs.Presentation.{Brings, IsGivenUp, IsPresented, RisesStrictly, presented}
use Rattle.rtps_proxy.specs.Received.{ready}
use Rattle.rtps_proxy.proofs.Presenting.{presented_rises, ready_brought, ready_passes_over}
use Rattle.rtps_proxy.specs.Matches.{same_guid}
use Rattle.dds_topic.specs.Decoding.{Decoding}
use Rattle.rtps_reader.specs.declared.notice.Notice.{Notice}
use Rattle.rtps_reader.specs.Body.{body_by}
use Rattle.rtps_run.specs.Presentation.{ArePresented, IsBrought, PassesOverOnly, Shown, match_events_by, not_after, shown_in}
use Rattle.rtps_run.proofs.Places.{PlacesFall, all_append, all_both, all_map, all_of_map, all_weaker, later_first}

-- a sample, as a reader presents it at a place
abbrev pub shown : {M : Type 0} → Decoding M → Place → ChangeView → Shown M
shown decoding place s = record { place = place; number = s.number; time = s.time; body = body_by decoding s.info s.payload }

-- the samples of a writer among these notices, in order
abbrev pub samples_of : {M : Type 0} → Guid → List (Notice M) → List (Shown M)
samples_of writer [] = []
samples_of writer (n ∷ ns) =
    if same_guid n.writer writer
    then shown_in n.place n.what ++ samples_of writer ns
    else samples_of writer ns

-- the samples that these submessages of a match give, the newest submessage first
abbrev pub shown_after : {M : Type 0} → Decoding M → List EventView → List (Shown M)
shown_after decoding [] = []
shown_after decoding (e ∷ es) = shown_after decoding es ++ map (shown decoding e.place) (ready (map match_event_of es) (match_event_of e))

same_numbers : {M : Type 0} (decoding : Decoding M) (place : Place) (ss : List ChangeView) → map (λ (s : Shown M). s.number) (map (shown decoding place) ss) ≡ map (λ (s : ChangeView). s.number) ss
same_numbers decoding place [] = refl
same_numbers decoding place (s ∷ ss) = ap (λ (l : List ℕ). s.number ∷ l) (same_numbers decoding place ss)

numbers_are : {M : Type 0} (decoding : Decoding M) (es : List EventView) → map (λ (s : Shown M). s.number) (shown_after decoding es) ≡ map (λ (s : ChangeView). s.number) (presented (map match_event_of es))
numbers_are decoding [] = refl
numbers_are {M} decoding (e ∷ es) =
    map-append (λ (s : Shown M). s.number) (shown_after decoding es) (map (shown decoding e.place) (ready (map match_event_of es) (match_event_of e)))
    ∙ ap (λ (l : List ℕ). l ++ map (λ (s : Shown M). s.number) (map (shown decoding e.place) (ready (map match_event_of es) (match_event_of e)))) (numbers_are decoding es)
    ∙ ap (λ (l : List ℕ). map (λ (s : ChangeView). s.number) (presented (map match_event_of es)) ++ l) (same_numbers decoding e.place (ready (map match_event_of es) (match_event_of e)))
    ∙ sym (map-append (λ (s : ChangeView). s.number) (presented (map match_event_of es)) (ready (map match_event_of es) (match_event_of e)))

any_same : {M : Type 0} (decoding : Decoding M) (place : Place) (k : ℕ) (ss : List ChangeView) → list_any (λ (s : Shown M). eqb s.number k) (map (shown decoding place) ss) ≡ list_any (λ (s : ChangeView). eqb s.number k) ss
any_same decoding place k [] = refl
any_same decoding place k (s ∷ ss) = ap (λ b. eqb s.number k || b) (any_same decoding place k ss)

any_shown : {M : Type 0} (decoding : Decoding M) (k : ℕ) (es : List EventView) → list_any (λ (s : Shown M). eqb s.number k) (shown_after decoding es) ≡ list_any (λ (s : ChangeView). eqb s.number k) (presented (map match_event_of es))
any_shown decoding k [] = refl
any_shown {M} decoding k (e ∷ es) =
    list_any-append (λ (s : Shown M). eqb s.number k) (shown_after decoding es) (map (shown decoding e.place) (ready (map match_event_of es) (match_event_of e)))
    ∙ ap (λ b. b || list_any (λ (s : Shown M). eqb s.number k) (map (shown decoding e.place) (ready (map match_event_of es) (match_event_of e)))) (any_shown decoding k es)
    ∙ ap (λ b. list_any (λ (s : ChangeView). eqb s.number k) (presented (map match_event_of es)) || b) (any_same decoding e.place k (ready (map match_event_of es) (match_event_of e)))
    ∙ sym (list_any-append (λ (s : ChangeView). eqb s.number k) (presented (map match_event_of es)) (ready (map match_event_of es) (match_event_of e)))

-- a sample is at the place of a submessage
all_placed : {M : Type 0} (decoding : Decoding M) (P : Place → Type 0) (es : List EventView) → AllByRecursion (λ e. P e.place) es → AllByRecursion (λ s. P s.place) (shown_after decoding es)
all_placed decoding P [] h = tt
all_placed {M} decoding P (e ∷ es) h =
    all_append (λ (s : Shown M). P s.place) (shown_after decoding es) (map (shown decoding e.place) (ready (map match_event_of es) (match_event_of e))) (all_placed decoding P es h.1) (at_one (ready (map match_event_of es) (match_event_of e)))
  where
    at_one : (ss : List ChangeView) → AllByRecursion (λ (s : Shown M). P s.place) (map (shown decoding e.place) ss)
    at_one [] = tt
    at_one (s ∷ ss) = (h.0, at_one ss)

same_place : (a : Place) → not_after a a ≡ true
same_place a = grind (arith, nat_tests)

earlier : (a b c : Place) → not_after a b ≡ false → not_after a c ≡ true → not_after b c ≡ true
earlier a b c h k = grind (arith, nat_tests)

-- a submessage after a place didn't come by then
came_later : (place : Place) (e : EventView) (es : List EventView) → not_after e.place place ≡ false → match_events_by place (e ∷ es) ≡ match_events_by place es
came_later place e es h = rw h refl

came_here : (place : Place) (e : EventView) (es : List EventView) → not_after e.place place ≡ true → match_events_by place (e ∷ es) ≡ match_event_of e ∷ match_events_by place es
came_here place e es h = rw h refl

-- all of these came by then
came_all : (place : Place) (es : List EventView) → AllByRecursion (λ d. not_after d.place place ≡ true) es → match_events_by place es ≡ map match_event_of es
came_all place [] h = refl
came_all place (e ∷ es) h = came_here place e es h.0 ∙ ap (λ (l : List MatchEvent). match_event_of e ∷ l) (came_all place es h.1)

came_upto : (place : Place) (e : EventView) (es : List EventView) → not_after e.place place ≡ true → AllByRecursion (λ d. not_after e.place d.place ≡ false) es → match_events_by place (e ∷ es) ≡ match_event_of e ∷ map match_event_of es
came_upto place e es h falls =
    came_here place e es h
    ∙ ap (λ (l : List MatchEvent). match_event_of e ∷ l) (came_all place es (all_weaker (λ d. not_after e.place d.place ≡ false) (λ d. not_after d.place place ≡ true) es (λ d l. earlier e.place d.place place l h) falls))

-- what holds of each sample at its event holds of it in the end, given what came by its place
by_place : {M : Type 0} (decoding : Decoding M) (G : List MatchEvent → Shown M → Type 0)
    → ((past : List MatchEvent) (e : EventView) → AllByRecursion (λ s. G (match_event_of e ∷ past) (shown decoding e.place s)) (ready past (match_event_of e)))
    → (es : List EventView) → PlacesFall es → AllByRecursion (λ s. G (match_events_by s.place es) s) (shown_after decoding es)
by_place decoding G each [] falls = tt
by_place decoding G each (e ∷ es) falls =
    all_append (λ s. G (match_events_by s.place (e ∷ es)) s) (shown_after decoding es) (map (shown decoding e.place) (ready (map match_event_of es) (match_event_of e)))
    (all_both (λ s. not_after e.place s.place ≡ false) (λ s. G (match_events_by s.place es) s) (λ s. G (match_events_by s.place (e ∷ es)) s) (shown_after decoding es)
    (λ s later h. subst (λ l. G l s) (sym (came_later s.place e es later)) h)
    (all_placed decoding (λ place. not_after e.place place ≡ false) es falls.0) (by_place decoding G each es falls.1))
    (all_map (λ s. G (match_events_by s.place (e ∷ es)) s) (shown decoding e.place) (ready (map match_event_of es) (match_event_of e))
    (all_weaker (λ s. G (match_event_of e ∷ map match_event_of es) (shown decoding e.place s)) (λ s. G (match_events_by e.place (e ∷ es)) (shown decoding e.place s)) (ready (map match_event_of es) (match_event_of e))
    (λ s h. subst (λ l. G l (shown decoding e.place s)) (sym (came_upto e.place e es (same_place e.place) falls.0)) h)
    (each (map match_event_of es) e)))

brought : {M : Type 0} (decoding : Decoding M) (es : List EventView) → PlacesFall es → AllByRecursion (λ s. IsBrought decoding (match_events_by s.place es) s) (shown_after decoding es)
brought decoding = by_place decoding (IsBrought decoding) each
  where
    each : (past : List MatchEvent) (e : EventView) → AllByRecursion (λ s. IsBrought decoding (match_event_of e ∷ past) (shown decoding e.place s)) (ready past (match_event_of e))
    each past e = all_weaker (Brings (match_event_of e ∷ past)) (λ s. IsBrought decoding (match_event_of e ∷ past) (shown decoding e.place s)) (ready past (match_event_of e)) (λ s h. record { change = s; came = h; number = refl; time = refl; body = refl }) (ready_brought past (match_event_of e))

-- each lesser number was given up or presented
abbrev Passes : List MatchEvent → ℕ → Type 0
Passes past n = (k : ℕ) → 1 ≤ k → k < n → IsGivenUp past k ⊎ IsPresented past k

passes : {M : Type 0} (decoding : Decoding M) (es : List EventView) → PlacesFall es → AllByRecursion (λ (s : Shown M). Passes (match_events_by s.place es) s.number) (shown_after decoding es)
passes {M} decoding = by_place decoding (λ past (s : Shown M). Passes past s.number) (λ past e. ready_passes_over past (match_event_of e))

-- what was presented by a place was presented in the end
presented_within : (place : Place) (k : ℕ) (es : List EventView) → PlacesFall es → IsPresented (match_events_by place es) k → IsPresented (map match_event_of es) k
presented_within place k [] falls h = h
presented_within place k (e ∷ es) falls h = by_test (not_after e.place place) refl (presented_within place k es falls.1)
  where
    by_test : (b : Bool) → not_after e.place place ≡ b → (IsPresented (match_events_by place es) k → IsPresented (map match_event_of es) k) → IsPresented (map match_event_of (e ∷ es)) k
    by_test true is rest = subst (λ l. IsPresented l k) (came_upto place e es is falls.0) h
    by_test false is rest =
        list_any-append (λ (s : ChangeView). eqb s.number k) (presented (map match_event_of es)) (ready (map match_event_of es) (match_event_of e))
        ∙ or_left _ _ (rest (subst (λ l. IsPresented l k) (came_later place e es is) h))

-- no number below all of these is among them
none_among : {M : Type 0} (n k : ℕ) (ss : List (Shown M)) → AllByRecursion (λ s. n ≤ s.number) ss → k < n → list_any (λ s. eqb s.number k) ss ≡ false
none_among n k [] low less = refl
none_among n k (s ∷ ss) low less =
    let here : n ≤ s.number = low.0 in
    let rest : list_any (λ s. eqb s.number k) ss ≡ false = none_among n k ss low.1 less in
    let differ : eqb s.number k ≡ false = grind (arith, nat_tests) in
    rw differ rest

in_rest : (a b : Bool) → a ≡ false → (a || b) ≡ true → b ≡ true
in_rest true b h k = absurd cc
in_rest false b h k = k

-- where the numbers rise, what was presented isn't between two neighbours
neighbours : {M : Type 0} (events : List EventView) (last : ℕ) (ss : List (Shown M)) → AllByRecursion (λ s. last ≤ s.number) ss → RisesStrictly (map (λ (s : Shown M). s.number) ss)
    → AllByRecursion (λ s. (k : ℕ) → last < k → k < s.number → IsGivenUp (match_events_by s.place events) k ⊎ (list_any (λ (t : Shown M). eqb t.number k) ss ≡ true)) ss → PassesOverOnly events last ss
neighbours events last [] low rises h = tt
neighbours {M} events last (s ∷ ss) low rises h = (here, neighbours events s.number ss above rises.1 later)
  where
    above : AllByRecursion (λ (t : Shown M). s.number ≤ t.number) ss
    above = all_weaker (λ (t : Shown M). s.number < t.number) (λ t. s.number ≤ t.number) ss (λ t l. omega arith) (all_of_map (λ n. s.number < n) (λ (t : Shown M). t.number) ss rises.0)

    here : (k : ℕ) → last < k → k < s.number → IsGivenUp (match_events_by s.place events) k
    here k more less = elim (h.0 k more less) [
      | inl up ↦ up
      | inr among ↦ (
          let none : list_any (λ (t : Shown M). eqb t.number k) (s ∷ ss) ≡ false = none_among s.number k (s ∷ ss) (omega arith, above) less in
          let both : true ≡ false = sym among ∙ none in
          absurd cc
          )
    ]

    one : (t : Shown M) → ((k : ℕ) → last < k → k < t.number → IsGivenUp (match_events_by t.place events) k ⊎ (list_any (λ (t : Shown M). eqb t.number k) (s ∷ ss) ≡ true))
        → (k : ℕ) → s.number < k → k < t.number → IsGivenUp (match_events_by t.place events) k ⊎ (list_any (λ (t : Shown M). eqb t.number k) ss ≡ true)
    one t f k more less =
        let low_here : last ≤ s.number = low.0 in
        elim (f k (omega arith) less) [
          | inl up ↦ inl up
          | inr among ↦ (
              let differ : eqb s.number k ≡ false = grind (arith, nat_tests) in
              inr (in_rest (eqb s.number k) (list_any (λ (t : Shown M). eqb t.number k) ss) differ among)
              )
        ]

    later : AllByRecursion (λ t. (k : ℕ) → s.number < k → k < t.number → IsGivenUp (match_events_by t.place events) k ⊎ (list_any (λ (t : Shown M). eqb t.number k) ss ≡ true)) ss
    later = all_weaker (λ t. (k : ℕ) → last < k → k < t.number → IsGivenUp (match_events_by t.place events) k ⊎ (list_any (λ (t : Shown M). eqb t.number k) (s ∷ ss) ≡ true)) _ ss one h.1

all_from_zero : {M : Type 0} (ss : List (Shown M)) → AllByRecursion (λ s. 0 ≤ s.number) ss
all_from_zero [] = tt
all_from_zero (s ∷ ss) = (omega arith, all_from_zero ss)

-- the samples that the submessages of a match give, where these are in order
are_presented : {M : Type 0} (decoding : Decoding M) (es : List EventView) → PlacesFall es → ArePresented decoding es (shown_after decoding es)
are_presented {M} decoding es falls = record {
  rising = rising;
  received = brought decoding es falls;
  passed_over = neighbours es 0 (shown_after decoding es) (all_from_zero (shown_after decoding es)) rising (all_weaker (λ (s : Shown M). Passes (match_events_by s.place es) s.number) _ (shown_after decoding es) among (passes decoding es falls));
}
  where
    rising : RisesStrictly (map (λ (s : Shown M). s.number) (shown_after decoding es))
    rising = subst RisesStrictly (sym (numbers_are decoding es)) (presented_rises (map match_event_of es))

    among : (s : Shown M) → Passes (match_events_by s.place es) s.number → (k : ℕ) → 0 < k → k < s.number → IsGivenUp (match_events_by s.place es) k ⊎ (list_any (λ (t : Shown M). eqb t.number k) (shown_after decoding es) ≡ true)
    among s f k more less = elim (f k (omega arith) less) [
      | inl up ↦ inl up
      | inr was ↦ inr (any_shown decoding k es ∙ presented_within s.place k es falls was)
    ]

-- ---- later submessages

-- a submessage after all samples changes nothing of what was presented
one_later : {M : Type 0} (decoding : Decoding M) (e : EventView) (es : List EventView) (ss : List (Shown M)) → AllByRecursion (λ s. not_after e.place s.place ≡ false) ss
    → ArePresented decoding es ss → ArePresented decoding (e ∷ es) ss
one_later {M} decoding e es ss after are = record {
  rising = are.rising;
  received = all_both (λ (s : Shown M). not_after e.place s.place ≡ false) (λ s. IsBrought decoding (match_events_by s.place es) s) (λ s. IsBrought decoding (match_events_by s.place (e ∷ es)) s) ss
      (λ s later h. subst (λ l. IsBrought decoding l s) (sym (came_later s.place e es later)) h) after are.received;
  passed_over = still 0 ss after are.passed_over;
}
  where
    still : (last : ℕ) (ss : List (Shown M)) → AllByRecursion (λ s. not_after e.place s.place ≡ false) ss → PassesOverOnly es last ss → PassesOverOnly (e ∷ es) last ss
    still last [] later h = tt
    still last (s ∷ ss) later h = (
      λ k more less. subst (λ l. IsGivenUp l k) (sym (came_later s.place e es later.0)) (h.0 k more less),
      still s.number ss later.1 h.1,
    )

all_later : {M : Type 0} (decoding : Decoding M) (later es : List EventView) (ss : List (Shown M)) → AllByRecursion (λ e. AllByRecursion (λ (s : Shown M). not_after e.place s.place ≡ false) ss) later
    → ArePresented decoding es ss → ArePresented decoding (reverse_aux later es) ss
all_later decoding [] es ss after are = are
all_later decoding (e ∷ later) es ss after are = all_later decoding later (e ∷ es) ss after.1 (one_later decoding e es ss after.0 are)

-- the samples that the first submessages of a match give, against all of them
pub first_presented : {M : Type 0} (decoding : Decoding M) (later mine : List EventView) → PlacesFall (reverse_aux later mine) → ArePresented decoding (reverse_aux later mine) (shown_after decoding mine)
first_presented {M} decoding later mine falls =
    let parts = later_first later mine falls in
    all_later decoding later mine (shown_after decoding mine)
    (all_weaker (λ e. AllByRecursion (λ d. not_after e.place d.place ≡ false) mine) (λ e. AllByRecursion (λ (s : Shown M). not_after e.place s.place ≡ false) (shown_after decoding mine)) later
    (λ e h. all_placed decoding (λ place. not_after e.place place ≡ false) mine h) parts.1)
    (are_presented decoding mine parts.0)
