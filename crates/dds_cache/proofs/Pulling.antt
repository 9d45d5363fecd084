-- Notices that are pulled, one after the other.
use Rattle.std.proofs.Common.{◌≡◌, ◌<◌, Bool, true, false, Result, Ok, Err, IfOk, OnErr, List, [], ◌∷◌, ◌++◌, length, refl, sym, ap, ◌∙◌, append-nil, append_assoc, arith, length-append}
use Rattle.std.specs.Result.{IsErrAnd}
use Rattle.rtps_reader.specs.declared.notice.Notice.{Notice}
use Rattle.dds_outlet.specs.Ring.{Receiving}
use Rattle.dds_cache.specs.Calls.{Accepted, Done, accepted_after}
use Rattle.dds_cache.specs.Standing.{CacheView, StandsAt}
use Rattle.dds_cache.specs.Pulling.{FindsNone, Moves, Pulls, PullsOne, PutsBack}

-- one notice more is accepted after the others
accepted_after-snoc : {V : Type 0} (past : List (Done V)) (ns : List (Notice V)) (n : Notice V) → accepted_after past (ns ++ n ∷ []) ≡ Accepted n ∷ accepted_after past ns
accepted_after-snoc past [] n = refl
accepted_after-snoc past (m ∷ ns) n = accepted_after-snoc (Accepted m ∷ past) ns n

-- the ring is the same, and so is whether it is known what comes last
abbrev SameRing : {V A : Type 0} → Receiving V A → Receiving V A → Type 0
SameRing before after = (after.ring ≡ before.ring) × (after.is_last ≡ before.is_last) × (after.capacity ≡ before.capacity)

module _ {V A : Type 0} where
  -- nothing was pulled yet
  pub pulls_none : (old : CacheView V) (ring : Receiving V A) → Pulls [] old old ring ring
  pulls_none old ring = record {
    received = sym (append-nil ring.received);
    stands = λ past stands. stands;
    most = omega arith;
    ring = (refl, refl, refl);
    left = λ last. refl;
  }

  -- one notice more was accepted
  pub pulls_more : (moved : List (Notice V)) (old mid new : CacheView V) (before ring after : Receiving V A) → Pulls moved old mid before ring → (m : Moves mid new ring after) → length moved < before.capacity
      → SameRing ring after → Pulls (moved ++ m.notice ∷ []) old new before after
  pulls_more moved old mid new before ring after p m room same = record {
    received = m.received ∙ ap (λ l. l ++ m.notice ∷ []) p.received ∙ append_assoc before.received moved (m.notice ∷ []);
    stands = λ past stands. rw (accepted_after-snoc past moved m.notice) (m.stands (accepted_after past moved) (p.stands past stands));
    most = omega (arith, room, length-append moved (m.notice ∷ []));
    ring = (same.0 ∙ p.ring.0, same.1 ∙ p.ring.1, same.2 ∙ p.ring.2);
    left = λ last.
        ap (λ l. l ++ after.next) m.received
        ∙ append_assoc ring.received (m.notice ∷ []) after.next
        ∙ ap (λ l. ring.received ++ l) (sym (m.left (p.ring.1 ∙ last)))
        ∙ p.left last;
  }

  -- the last try has moved no notice
  pulls_same : (moved : List (Notice V)) (old mid new : CacheView V) (before ring after : Receiving V A) → Pulls moved old mid before ring → after.received ≡ ring.received
      → ((past : List (Done V)) → StandsAt past mid → StandsAt past new) → (ring.is_last ≡ true → after.next ≡ ring.next) → SameRing ring after → Pulls moved old new before after
  pulls_same moved old mid new before ring after p received stands next same = record {
    received = received ∙ p.received;
    stands = λ past before. stands (accepted_after past moved) (p.stands past before);
    most = p.most;
    ring = (same.0 ∙ p.ring.0, same.1 ∙ p.ring.1, same.2 ∙ p.ring.2);
    left = λ last. ap (λ l. l ++ after.next) received ∙ ap (λ l. ring.received ++ l) (next (p.ring.1 ∙ last)) ∙ p.left last;
  }

  -- there was no notice
  pub pulls_end : (moved : List (Notice V)) (old mid new : CacheView V) (before ring after : Receiving V A) → Pulls moved old mid before ring → FindsNone mid new ring after → SameRing ring after → Pulls moved old new before after
  pulls_end moved old mid new before ring after p f same = pulls_same moved old mid new before ring after p f.received f.stands (λ last. f.next.1 ∙ sym f.next.0) same

  -- no memory was found for the next one
  pub pulls_back : (moved : List (Notice V)) (old mid new : CacheView V) (before ring after : Receiving V A) → Pulls moved old mid before ring → PutsBack mid new ring after → SameRing ring after → Pulls moved old new before after
  pulls_back moved old mid new before ring after p b same = pulls_same moved old mid new before ring after p b.received b.stands b.left same

  -- what one step did, by its answer
  pub moved_one : (E : Type 0) (b : Bool) (old new : CacheView V) (before after : Receiving V A) → b ≡ true → PullsOne {E = E} (Ok b) old new before after → Moves old new before after
  unfolding PullsOne
  moved_one E true old new before after e h = h
  moved_one E false old new before after e h = absurd (cc e)

  pub found_none : (E : Type 0) (b : Bool) (old new : CacheView V) (before after : Receiving V A) → b ≡ false → PullsOne {E = E} (Ok b) old new before after → FindsNone old new before after
  unfolding PullsOne
  found_none E true old new before after e h = absurd (cc e)
  found_none E false old new before after e h = h

  pub was_put_back : {E : Type 0} (x : E) (old new : CacheView V) (before after : Receiving V A) → PullsOne (Err x) old new before after → PutsBack old new before after
  unfolding PullsOne
  was_put_back x old new before after h = h

-- an error says nothing of a value
pub on_error : {T E : Type 0} (r : Result T E) (P : T → Type 0) (Q : Type 0) (S : E → Type 0) → IsErrAnd r S → Q → IfOk r P × OnErr r Q
on_error (Ok x) P Q S is q = absurd is
on_error (Err e) P Q S is q = (tt, q)
