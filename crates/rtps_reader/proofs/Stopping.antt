-- A reader that stops.
use Rattle.std.proofs.Common.{◌≡◌, ℕ, suc, ◌+◌, ◌-◌, ◌≤◌, List, [], ◌∷◌, length, Bool, true, false, not, if◌then◌else◌, refl, sym, ap, ◌∙◌, subst, arith}
use Rattle.std.specs.Prelude.{filter}
use Rattle.std.specs.Map.{keys_of}
use Rattle.std.proofs.lemmas.Slice.Eq.{bytes_eq-Decides}
use Rattle.rtps_types.specs.declared.identity.Guid.{Guid}
use Rattle.rtps_proxy.specs.Kept.{ProxyView}
use Rattle.rtps_proxy.specs.Matches.{AllStand, Match, ended, same_guid}
use Rattle.rtps_reader.specs.declared.notice.Notice.{Notice}
use Rattle.rtps_reader.specs.declared.status.Status.{Status}
use Rattle.rtps_reader.specs.Reader.{Reader, reader_after}
use Rattle.rtps_reader.specs.Standing.{IsStopped, ReaderView, StandsAt}
use Rattle.rtps_reader.specs.Status.{status_of}
use Rattle.rtps_reader.specs.Step.{Stops}
use Rattle.rtps_reader.proofs.Stepping.{as_many}

pub stands_stopped : {M : Type 0} (r : Reader) (given : List (Notice M)) (old new : ReaderView) → StandsAt r given old → IsStopped old new → StandsAt (reader_after r Stops) given new
stands_stopped {M} r given old new stands stopped =
    let none : new.matches ≡ [] = stopped.matches r.matches stands.matches in
    record {
      sound = stopped.spent ∙ stands.sound;
      own = stopped.own ∙ stands.own;
      entity = stopped.entity ∙ stands.entity;
      reliable = stopped.reliable ∙ stands.reliable;
      matches = subst (AllStand []) (sym none) tt;
      status = stopped.status ∙ ap (λ (s : Status). record s { matched_now = length new.matches }) stands.status
          ∙ ap (λ (l : List (Guid × ProxyView)). record (status_of r given) { matched_now = length l }) none;
    }

-- some of the matches have ended: those that are left, after this number of them
pub record Left (n : ℕ) (ms : List Match) (now : List (Guid × ProxyView)) : Type 0 where
  pub left : List Match
  pub stand : AllStand left now
  pub fewer : length left ≤ length ms - n

none_left : {X : Type 0} → (xs : List X) → length xs ≤ 0 → xs ≡ []
none_left [] few = refl
none_left (x ∷ xs) few = absurd (omega (arith, few))

no_more : (test : Match → Bool) (ms : List Match) → length (filter test ms) ≤ length ms
no_more test [] = omega arith
no_more test (m ∷ ms) = by_test (test m) (no_more test ms)
  where
    by_test : (t : Bool) → length (filter test ms) ≤ length ms → length (if t then m ∷ filter test ms else filter test ms) ≤ suc (length ms)
    by_test true more = omega (arith, more)
    by_test false more = omega (arith, more)

same_itself : (g : Guid) → same_guid g g ≡ true
same_itself g = rw ((bytes_eq-Decides g.prefix.0 g.prefix.0).1 refl, (bytes_eq-Decides g.entity.0 g.entity.0).1 refl) refl

-- the match of the first proxy ends
one_fewer : (w : Guid) (rest : List Guid) (ms : List Match) (now : List (Guid × ProxyView)) → AllStand ms now → keys_of now ≡ w ∷ rest → suc (length (ended w ms)) ≤ length ms
one_fewer w rest [] [] all first = absurd cc
one_fewer w rest [] (s ∷ ss) all first = absurd all
one_fewer w rest (m ∷ ms) [] all first = absurd all
one_fewer w rest (m ∷ ms) (s ∷ ss) all first =
    let here : s.0 ≡ w = cc in
    let same : same_guid m.pairing.writer w ≡ true = ap (λ g. same_guid g w) (all.0.writer ∙ here) ∙ same_itself w in
    let fewer : length (ended w ms) ≤ length ms = no_more (λ (n : Match). not (same_guid n.pairing.writer w)) ms in
    rw same (omega (arith, fewer))

pub some_left : (ms : List Match) (now : List (Guid × ProxyView)) → AllStand ms now → Left 0 ms now
some_left ms now all = record { left = ms; stand = all; fewer = omega arith }

pub one_less : (n : ℕ) (ms : List Match) (w : Guid) (rest : List Guid) (now new : List (Guid × ProxyView)) → keys_of now ≡ w ∷ rest → ((l : List Match) → AllStand l now → AllStand (ended w l) new) → Left n ms now → Left (n + 1) ms new
one_less n ms w rest now new first ends e =
    let fewer : suc (length (ended w e.left)) ≤ length e.left = one_fewer w rest e.left now e.stand first in
    record { left = ended w e.left; stand = ends e.left e.stand; fewer = omega (arith, fewer, e.fewer) }

pub none_less : (n : ℕ) (ms : List Match) (now : List (Guid × ProxyView)) → keys_of now ≡ [] → Left n ms now → Left (n + 1) ms now
none_less n ms now none e = record { left = e.left; stand = e.stand; fewer = by_lists e.left now e.stand none }
  where
    by_lists : (l : List Match) (now : List (Guid × ProxyView)) → AllStand l now → keys_of now ≡ [] → length l ≤ length ms - (n + 1)
    by_lists [] [] all none = omega arith
    by_lists [] (s ∷ ss) all none = absurd all
    by_lists (m ∷ l) [] all none = absurd all
    by_lists (m ∷ l) (s ∷ ss) all none = absurd cc

-- all have ended
pub all_gone : (n : ℕ) (ms : List Match) (old now : List (Guid × ProxyView)) → AllStand ms old → length old ≤ n → Left n ms now → now ≡ []
all_gone n ms old now all past e =
    let many : length old ≡ length ms = as_many ms old all in
    let few : length e.left ≤ 0 = omega (arith, many, past, e.fewer) in
    by_list now (subst (λ (l : List Match). AllStand l now) (none_left e.left few) e.stand)
  where
    by_list : (now : List (Guid × ProxyView)) → AllStand [] now → now ≡ []
    by_list [] all = refl
    by_list (s ∷ ss) all = absurd all
