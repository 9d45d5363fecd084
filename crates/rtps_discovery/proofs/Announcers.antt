-- What follows of a writer's entity from the announcer that it is.
use Rattle.std.proofs.Common.{◌≡◌, Bool, true, false, ◌||◌, Option, Some, None, if◌then◌else◌, is_some, refl, sym, ap, ◌∙◌}
use Rattle.std.specs.Str.{bytes_eq}
use Rattle.rtps_types.specs.declared.identity.EntityId.{EntityId}
use Rattle.rtps_discovery.specs.declared.announcer.Announcer.{Announcer}
use Rattle.rtps_discovery.specs.declared.announcer.Announcer.TheVariants as announcer
use Rattle.rtps_discovery.specs.Addressed.{is_discovery}
use Rattle.rtps_discovery.specs.Announcer.{announcer_at}
use Rattle.rtps_discovery.specs.Known.{publications_reader, publications_writer, spdp_writer, subscriptions_reader, subscriptions_writer}
use Rattle.rtps_discovery.specs.Records.{detector_of}

pub discovers : (w : EntityId) → is_some (announcer_at w) ≡ is_discovery w
discovers w = by_tests (bytes_eq w.0 spdp_writer.0) (bytes_eq w.0 publications_writer.0) (bytes_eq w.0 subscriptions_writer.0)
  where
    by_tests : (s p q : Bool) → is_some (if s then Some announcer.Participant else if p then Some announcer.Publications else if q then Some announcer.Subscriptions else None)
        ≡ (s || (p || (q || false)))
    by_tests true p q = refl
    by_tests false true q = refl
    by_tests false false true = refl
    by_tests false false false = refl

-- what discovers, and what doesn't
pub announcing : (w : EntityId) (a : Announcer) → announcer_at w ≡ Some a → is_discovery w ≡ true
announcing w a is = sym (discovers w) ∙ ap is_some is

pub user_writer : (w : EntityId) → announcer_at w ≡ None → is_discovery w ≡ false
user_writer w is = sym (discovers w) ∙ ap is_some is

-- the participants' announcer
pub is_participants : (w : EntityId) → announcer_at w ≡ Some announcer.Participant → bytes_eq w.0 spdp_writer.0 ≡ true
is_participants w = by_tests (bytes_eq w.0 spdp_writer.0) (bytes_eq w.0 publications_writer.0) (bytes_eq w.0 subscriptions_writer.0)
  where
    by_tests : (s p q : Bool) → (if s then Some announcer.Participant else if p then Some announcer.Publications else if q then Some announcer.Subscriptions else None) ≡ Some announcer.Participant → s ≡ true
    by_tests true p q is = refl
    by_tests false true q is = absurd cc
    by_tests false false true is = absurd cc
    by_tests false false false is = absurd cc

-- a writer that isn't the participants' announcer, and our reader for it
pub record IsDetectedBy (w : EntityId) (reader : Option EntityId) : Type 0 where
  pub other : bytes_eq w.0 spdp_writer.0 ≡ false
  pub detector : detector_of w ≡ reader

pub is_publications : (w : EntityId) → announcer_at w ≡ Some announcer.Publications → IsDetectedBy w (Some publications_reader)
is_publications w is =
    let both = by_tests (bytes_eq w.0 spdp_writer.0) (bytes_eq w.0 publications_writer.0) (bytes_eq w.0 subscriptions_writer.0) is in
    record { other = both.0; detector = both.1 }
  where
    by_tests : (s p q : Bool) → (if s then Some announcer.Participant else if p then Some announcer.Publications else if q then Some announcer.Subscriptions else None) ≡ Some announcer.Publications
        → (s ≡ false) × ((if p then Some publications_reader else (if q then Some subscriptions_reader else None)) ≡ Some publications_reader)
    by_tests true p q is = absurd cc
    by_tests false true q is = (refl, refl)
    by_tests false false true is = absurd cc
    by_tests false false false is = absurd cc

pub is_subscriptions : (w : EntityId) → announcer_at w ≡ Some announcer.Subscriptions → IsDetectedBy w (Some subscriptions_reader)
is_subscriptions w is =
    let both = by_tests (bytes_eq w.0 spdp_writer.0) (bytes_eq w.0 publications_writer.0) (bytes_eq w.0 subscriptions_writer.0) is in
    record { other = both.0; detector = both.1 }
  where
    by_tests : (s p q : Bool) → (if s then Some announcer.Participant else if p then Some announcer.Publications else if q then Some announcer.Subscriptions else None) ≡ Some announcer.Subscriptions
        → (s ≡ false) × ((if p then Some publications_reader else (if q then Some subscriptions_reader else None)) ≡ Some subscriptions_reader)
    by_tests true p q is = absurd cc
    by_tests false true q is = absurd cc
    by_tests false false true is = (refl, refl)
    by_tests false false false is = absurd cc

-- a user's writer
pub is_none : (w : EntityId) → announcer_at w ≡ None → IsDetectedBy w None
is_none w is =
    let both = by_tests (bytes_eq w.0 spdp_writer.0) (bytes_eq w.0 publications_writer.0) (bytes_eq w.0 subscriptions_writer.0) is in
    record { other = both.0; detector = both.1 }
  where
    by_tests : (s p q : Bool) → (if s then Some announcer.Participant else if p then Some announcer.Publications else if q then Some announcer.Subscriptions else None) ≡ None
        → (s ≡ false) × ((if p then Some publications_reader else (if q then Some subscriptions_reader else None)) ≡ None)
    by_tests true p q is = absurd cc
    by_tests false true q is = absurd cc
    by_tests false false true is = absurd cc
    by_tests false false false is = (refl, refl)
