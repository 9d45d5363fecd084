-- The run, one occurrence and one input more.
use Rattle.std.proofs.Common.{◌≡◌, ℕ, zero, suc, ◌+◌, ◌<◌, ◌≤◌, List, [], ◌∷◌, ◌++◌, length, map, take, None, Some, get_or, refl, sym, ap, ◌∙◌, append_assoc, append-nil, arith}
use Rattle.std.proofs.Math.Seq.{take-append_seam}
use Rattle.std.specs.Option.{option_map}
use Rattle.std.proofs.lemmas.List.{length-map, map-append, take_more}
use Rattle.rtps_types.specs.declared.identity.GuidPrefix.{GuidPrefix}
use Rattle.rtps_receiver.specs.Events.{EventView, events_of}
use Rattle.rtps_discovery.specs.declared.config.Config.{Config}
use Rattle.rtps_discovery.specs.declared.config.ReaderConfig.{ReaderConfig}
use Rattle.rtps_discovery.specs.Known.{Wish, reader_at}
use Rattle.rtps_discovery.specs.Start.{reader_of, wish_of}
use Rattle.dds_topic.specs.Decoding.{Decoding}
use Rattle.rtps_run.specs.Input.{Input, Datagram, Tick, AddReader, RemoveReader, added, events_at, events_from, index_after, index_after_all, occurrences_from, occurrences_of}
use Rattle.rtps_run.specs.Occurrence.{Occurrence, Passes, Came, Parts}
use Rattle.rtps_run.specs.World.{World, world_after}
use Rattle.rtps_run.specs.Run.{entity_of, first_world, run, world_run}
use Rattle.rtps_run.specs.Seen.{reader_count, status_at, status_seen}
use Rattle.rtps_run.proofs.Naming.{reader_past}
use Rattle.rtps_run.proofs.Counting.{vacated_length}
use Rattle.rtps_run.proofs.Routed.{readers_stay}

pub world_run-append : {M : Type 0} (decoding : Decoding M) (w : World M) (xs ys : List Occurrence) → world_run decoding w (xs ++ ys) ≡ world_run decoding (world_run decoding w xs) ys
world_run-append decoding w [] ys = refl
world_run-append decoding w (x ∷ xs) ys = world_run-append decoding (world_after decoding w x) xs ys

-- one occurrence more
pub world_run_more : {M : Type 0} (decoding : Decoding M) (w : World M) (os : List Occurrence) (i : ℕ) (d : Occurrence) → i < length os
    → world_run decoding w (take (i + 1) os) ≡ world_after decoding (world_run decoding w (take i os)) (get_or os i d)
world_run_more decoding w os i d h = ap (world_run decoding w) (take_more os i d h) ∙ world_run-append decoding w (take i os) (get_or os i d ∷ [])

-- one event more of a list of events
pub event_more : {M : Type 0} (decoding : Decoding M) (w : World M) (es : List EventView) (i : ℕ) (d : EventView) → i < length es
    → world_run decoding w (map Came (take (i + 1) es)) ≡ world_after decoding (world_run decoding w (map Came (take i es))) (Came (get_or es i d))
event_more decoding w es i d h =
    ap (λ l. world_run decoding w (map Came l)) (take_more es i d h)
    ∙ ap (world_run decoding w) (map-append Came (take i es) (get_or es i d ∷ []))
    ∙ world_run-append decoding w (map Came (take i es)) (Came (get_or es i d) ∷ [])

-- no event changes how many readers there are
pub count_stays : {M : Type 0} (decoding : Decoding M) (w : World M) (es : List EventView) → reader_count (world_run decoding w (map Came es)) ≡ reader_count w
count_stays decoding w [] = refl
count_stays decoding w (e ∷ es) = count_stays decoding (world_after decoding w (Came e)) es ∙ ap length (readers_stay w.known e)

-- some inputs more
pub index_more : (n : ℕ) (xs ys : List Input) → index_after_all n (xs ++ ys) ≡ index_after_all (index_after_all n xs) ys
index_more n [] ys = refl
index_more n (x ∷ xs) ys = index_more (index_after n x) xs ys

pub events_more : (own : GuidPrefix) (n : ℕ) (xs ys : List Input) → events_from own n (xs ++ ys) ≡ events_from own n xs ++ events_from own (index_after_all n xs) ys
events_more own n [] ys = refl
events_more own n (x ∷ xs) ys =
    ap (λ l. events_at own n x ++ l) (events_more own (index_after n x) xs ys)
    ∙ sym (append_assoc (events_at own n x) (events_from own (index_after n x) xs) (events_from own (index_after_all n (x ∷ xs)) ys))

pub occurrences_more : (own : GuidPrefix) (n : ℕ) (xs ys : List Input) → occurrences_from own n (xs ++ ys) ≡ occurrences_from own n xs ++ occurrences_from own (index_after_all n xs) ys
occurrences_more own n [] ys = refl
occurrences_more own n (x ∷ xs) ys =
    ap (λ l. occurrences_of own n x ++ l) (occurrences_more own (index_after n x) xs ys)
    ∙ sym (append_assoc (occurrences_of own n x) (occurrences_from own (index_after n x) xs) (occurrences_from own (index_after_all n (x ∷ xs)) ys))

-- a batch of inputs more
pub batch_more : {M : Type 0} (decoding : Decoding M) (config : Config) (inputs batch : List Input) (index : ℕ) → index ≡ index_after_all 0 inputs
    → run decoding config (inputs ++ batch) ≡ world_run decoding (run decoding config inputs) (occurrences_from config.own index batch)
batch_more decoding config inputs batch index e =
    ap (world_run decoding (first_world config)) (occurrences_more config.own 0 inputs batch)
    ∙ world_run-append decoding (first_world config) (occurrences_from config.own 0 inputs) (occurrences_from config.own (index_after_all 0 inputs) batch)
    ∙ ap (λ n. world_run decoding (run decoding config inputs) (occurrences_from config.own n batch)) (sym e)

-- one input more
pub run_more : {M : Type 0} (decoding : Decoding M) (config : Config) (inputs : List Input) (x : Input) (index : ℕ) → index ≡ index_after_all 0 inputs
    → run decoding config (inputs ++ x ∷ []) ≡ world_run decoding (run decoding config inputs) (occurrences_of config.own index x)
run_more decoding config inputs x index e =
    batch_more decoding config inputs (x ∷ []) index e
    ∙ ap (world_run decoding (run decoding config inputs)) (append-nil (occurrences_of config.own index x))

-- a run over inputs by which no reader comes has the readers of its configuration
count_kept : {M : Type 0} (decoding : Decoding M) (own : GuidPrefix) (n : ℕ) (inputs : List Input) (w : World M) → added inputs ≡ [] → reader_count (world_run decoding w (occurrences_from own n inputs)) ≡ reader_count w
count_kept decoding own n [] w none = refl
count_kept {M} decoding own n (Datagram moment octets ∷ inputs) w none =
    let passed_by : World M = world_after decoding w (Passes n moment) in
    let came : World M = world_run decoding passed_by (map Came (events_of own n octets)) in
    ap (λ (v : World M). reader_count v) (world_run-append decoding passed_by (map Came (events_of own n octets)) (occurrences_from own (n + 1) inputs))
    ∙ count_kept decoding own (n + 1) inputs came none
    ∙ count_stays decoding passed_by (events_of own n octets)
count_kept decoding own n (Tick moment ∷ inputs) w none = count_kept decoding own n inputs (world_after decoding w (Passes n moment)) none
count_kept decoding own n (AddReader r ∷ inputs) w none = absurd cc
count_kept decoding own n (RemoveReader gone ∷ inputs) w none =
    count_kept decoding own n inputs (world_after decoding w (Parts n gone)) none ∙ vacated_length gone w.known.readers

pub run_count : {M : Type 0} (decoding : Decoding M) (config : Config) (inputs : List Input) → added inputs ≡ [] → reader_count (run decoding config inputs) ≡ length config.readers.items
run_count decoding config inputs none = count_kept decoding config.own 0 inputs (first_world config) none ∙ length-map config.readers.items reader_of

-- the readers of a configuration are known, each by its own entity
pub record HasWish (readers : List ReaderConfig) (rank : ℕ) : Type 0 where
  pub wish : Wish
  pub found : reader_at (map reader_of readers) rank ≡ Some wish
  pub named : wish.entity ≡ entity_of readers rank

pub wish_at : (readers : List ReaderConfig) (rank : ℕ) → rank < length readers → HasWish readers rank
wish_at [] rank below = absurd (omega (arith, below))
wish_at (r ∷ readers) zero below = record { wish = wish_of r; found = refl; named = refl }
wish_at (r ∷ readers) (suc rank) below =
    let rest = wish_at readers rank (omega (arith, below)) in
    record { wish = rest.wish; found = rest.found; named = rest.named }

-- so each of them has a status at the start
pub seen_first : (M : Type 0) (config : Config) (rank : ℕ) → rank < length config.readers.items → status_seen (first_world {M = M} config) rank ≡ Some (status_at (first_world {M = M} config) rank)
seen_first M config rank below = ap (option_map (λ (r : Wish). status_at (first_world {M = M} config) rank)) (wish_at config.readers.items rank below).found

pub seen_past : {M : Type 0} (w : World M) (rank : ℕ) → reader_count w ≤ rank → status_seen w rank ≡ None
seen_past w rank past = ap (option_map (λ (r : Wish). status_at w rank)) (reader_past w.known.readers rank past)

-- a front is what was put in front
pub front_back : {X : Type 0} (n : ℕ) (xs zs : List X) → length xs ≡ n → take n (xs ++ zs) ≡ xs
front_back n xs zs e = ap (λ m. take m (xs ++ zs)) (sym e) ∙ take-append_seam xs zs
