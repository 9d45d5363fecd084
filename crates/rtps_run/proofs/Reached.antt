-- Steps one after the other, and the readers that an event is for.
use Rattle.std.proofs.Common.{◌≡◌, ℕ, ◌+◌, ◌<◌, List, [], ◌∷◌, ◌++◌, length, map, take, get_or, true, false, refl, ap, ◌∙◌}
use Rattle.std.specs.Prelude.{filter}
use Rattle.std.proofs.lemmas.List.{map-append, take_more}
use Rattle.std.proofs.lemmas.List.Elements.{filter-append}
use Rattle.rtps_types.specs.declared.place.Place.{Place}
use Rattle.rtps_receiver.specs.Events.{EventView}
use Rattle.rtps_discovery.specs.Known.{Known, reader_at}
use Rattle.dds_topic.specs.Decoding.{Decoding}
use Rattle.rtps_reader.specs.Step.{asks_of}
use Rattle.rtps_run.specs.Addressed.{is_named}
use Rattle.rtps_run.specs.Steps.{ReaderStep, event_steps, step_by, steps_run, world_stepped}
use Rattle.rtps_run.specs.World.{World}

pub steps_run-append : {M : Type 0} (d : Decoding M) (place : Place) (w : World M) (xs ys : List ReaderStep) → steps_run d place w (xs ++ ys) ≡ steps_run d place (steps_run d place w xs) ys
steps_run-append d place w [] ys = refl
steps_run-append d place w (x ∷ xs) ys = steps_run-append d place (world_stepped d place w x) xs ys

-- one step more
pub steps_more : {M : Type 0} (d : Decoding M) (place : Place) (w : World M) (ss : List ReaderStep) (i : ℕ) (other : ReaderStep) → i < length ss
    → steps_run d place w (take (i + 1) ss) ≡ world_stepped d place (steps_run d place w (take i ss)) (get_or ss i other)
steps_more d place w ss i other h = ap (steps_run d place w) (take_more ss i other h) ∙ steps_run-append d place w (take i ss) (get_or ss i other ∷ [])

event_steps-append : (k : Known) (e : EventView) (xs ys : List ℕ) → event_steps k e (xs ++ ys) ≡ event_steps k e xs ++ event_steps k e ys
event_steps-append k e xs ys =
    ap (map (λ rank. step_by rank (asks_of e))) (filter-append (λ rank. is_named e.reader (reader_at k.readers rank)) xs ys)
    ∙ map-append (λ rank. step_by rank (asks_of e)) (filter (λ rank. is_named e.reader (reader_at k.readers rank)) xs) (filter (λ rank. is_named e.reader (reader_at k.readers rank)) ys)

-- one rank more of those that an event may be for
pub ranks_more : {M : Type 0} (d : Decoding M) (place : Place) (w : World M) (e : EventView) (ranks : List ℕ) (i : ℕ) (rank : ℕ) → i < length ranks → get_or ranks i rank ≡ rank
    → steps_run d place w (event_steps w.known e (take (i + 1) ranks)) ≡ steps_run d place (steps_run d place w (event_steps w.known e (take i ranks))) (event_steps w.known e (rank ∷ []))
ranks_more d place w e ranks i rank h is =
    ap (λ l. steps_run d place w (event_steps w.known e l)) (take_more ranks i rank h ∙ ap (λ k. take i ranks ++ k ∷ []) is)
    ∙ ap (steps_run d place w) (event_steps-append w.known e (take i ranks) (rank ∷ []))
    ∙ steps_run-append d place w (event_steps w.known e (take i ranks)) (event_steps w.known e (rank ∷ []))

-- an event names the reader of a rank, or there is no reader of the rank that it names
pub named_step : (k : Known) (e : EventView) (rank : ℕ) → is_named e.reader (reader_at k.readers rank) ≡ true → event_steps k e (rank ∷ []) ≡ step_by rank (asks_of e) ∷ []
named_step k e rank is = rw is refl

pub unnamed_step : (k : Known) (e : EventView) (rank : ℕ) → is_named e.reader (reader_at k.readers rank) ≡ false → event_steps k e (rank ∷ []) ≡ []
unnamed_step k e rank is = rw is refl
