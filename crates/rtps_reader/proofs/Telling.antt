-- What is reported, one part after another.
use Rattle.std.proofs.Common.{◌≡◌, List, [], ◌∷◌, ◌++◌, length, min, take, drop, arith, map, Option, Some, None, refl, sym, ap, ◌∙◌, append_assoc}
use Rattle.std.specs.Prelude.{OnOk, Result, Ok, Err}
use Rattle.std.specs.Option.{option_map}
use Rattle.std.proofs.lemmas.List.{length-take, map_push, take-append-drop, take-append-le}
use Rattle.rtps_types.specs.declared.identity.Guid.{Guid}
use Rattle.rtps_types.specs.declared.number.Number.{Number}
use Rattle.rtps_types.specs.declared.place.Place.{Place}
use Rattle.rtps_types.specs.declared.time.Timestamp.{Timestamp}
use Rattle.rtps_proxy.specs.declared.effects.Effects.{Effects}
use Rattle.rtps_proxy.specs.Change.{change_view}
use Rattle.rtps_proxy.specs.History.{MatchEvent}
use Rattle.rtps_proxy.specs.Replies.{reply_view}
use Rattle.rtps_reader.specs.declared.body.Body.{Body}
use Rattle.dds_topic.specs.Decoding.{Decoding}
use Rattle.rtps_reader.specs.declared.notice.Notice.{Notice}
use Rattle.rtps_reader.specs.declared.notice.NoticeKind.TheVariants as kind
use Rattle.rtps_proxy.specs.Matches.{AreTaken, Match}
use Rattle.rtps_reader.specs.Reader.{loses, lost_at, placed, presented, sent_of, told_of}

pub told_then : {A : Type 0} (old middle new a b : List A) → middle ≡ old ++ a → new ≡ middle ++ b → new ≡ old ++ (a ++ b)
told_then old middle new a b first second = second ∙ ap (λ l. l ++ b) first ∙ append_assoc old a b

-- what the match with a writer gave at an event, as it is reported and as it is counted
pub told_taken : {M A : Type 0} (decoding : Decoding M) (place : Place) (w : Guid) (found : Option Match) (e : MatchEvent) (effects : Effects A) → AreTaken found e (Some effects)
    → loses place w effects.lost ++ map (presented decoding place w) (map change_view effects.ready.items) ≡ told_of decoding place w e found
told_taken decoding place w None e effects taken = absurd taken
told_taken decoding place w (Some m) e effects taken =
    ap (λ n. loses place w n ++ map (presented decoding place w) (map change_view effects.ready.items)) taken.lost
    ∙ ap (λ l. loses place w (lost_at m e) ++ map (presented decoding place w) l) taken.ready

pub said_taken : {A : Type 0} (place : Place) (found : Option Match) (e : MatchEvent) (effects : Effects A) → AreTaken found e (Some effects) → placed place (option_map reply_view effects.answer) ≡ sent_of place e found
said_taken place None e effects taken = absurd taken
said_taken place (Some m) e effects taken = ap (placed place) taken.answer

abbrev pub sample_told : {M : Type 0} → Place → Guid → Number → Option Timestamp → Body M → Notice M
sample_told place w number time b = record { place = place; writer = w; what = kind.Sample number time b }

-- one item more, after what was reported
pub told_more : {R N S P : Type 0} (f : R → P) (h : S → P) (v : N → S) (rs new : List R) (ns left : List N) (r : R) (n : N)
    → new ≡ rs ++ r ∷ [] → ns ≡ n ∷ left → f r ≡ h (v n) → map f new ++ map h (map v left) ≡ map f rs ++ map h (map v ns)
told_more f h v rs new ns left r n pushed taken same =
    ap (λ l. map f l ++ map h (map v left)) pushed
    ∙ ap (λ l. l ++ map h (map v left)) (map_push f rs r)
    ∙ append_assoc (map f rs) (f r ∷ []) (map h (map v left))
    ∙ ap (λ p. map f rs ++ p ∷ map h (map v left)) same
    ∙ ap (λ l. map f rs ++ map h (map v l)) (sym taken)

-- what was in front stays there
pub kept_more : {X : Type 0} (old xs new : List X) (x : X) → take (length old) xs ≡ old → new ≡ xs ++ x ∷ [] → take (length old) new ≡ old
kept_more old xs new x kept pushed =
    let count : length old ≡ min (length old) (length xs) = ap length (sym kept) ∙ length-take (length old) xs in
    ap (take (length old)) pushed ∙ take-append-le (length old) xs (x ∷ []) (omega (arith, count)) ∙ kept

pub kept_then : {X : Type 0} (old middle new : List X) → take (length old) middle ≡ old → take (length middle) new ≡ middle → take (length old) new ≡ old
kept_then old middle new first second =
    let count : length old ≡ min (length old) (length middle) = ap length (sym first) ∙ length-take (length old) middle in
    let whole : middle ++ drop (length middle) new ≡ new = ap (λ l. l ++ drop (length middle) new) (sym second) ∙ take-append-drop (length middle) new in
    ap (take (length old)) (sym whole) ∙ take-append-le (length old) middle (drop (length middle) new) (omega (arith, count)) ∙ first

abbrev pub none_of : (A : Type 0) → Option (Effects A)
none_of A = None

-- of a writer that isn't matched nothing is reported, and nothing is sent to it
pub none_told : {M : Type 0} (A : Type 0) (decoding : Decoding M) (place : Place) (w : Guid) (found : Option Match) (e : MatchEvent) → AreTaken found e (none_of A) → told_of decoding place w e found ≡ []
none_told A decoding place w None e taken = refl
none_told A decoding place w (Some m) e taken = absurd taken

pub none_said : (A : Type 0) (place : Place) (found : Option Match) (e : MatchEvent) → AreTaken found e (none_of A) → sent_of place e found ≡ []
none_said A place None e taken = refl
none_said A place (Some m) e taken = absurd taken

-- a fact that holds in any case holds where there is an answer
pub on_ok : {X E : Type 0} {P : Type 0} (r : Result X E) → P → OnOk r P
on_ok (Ok x) p = p
on_ok (Err e) p = tt

pub on_ok_then : {X E : Type 0} {P Q : Type 0} (r : Result X E) → OnOk r P → (P → Q) → OnOk r Q
on_ok_then (Ok x) p f = f p
on_ok_then (Err e) p f = tt
