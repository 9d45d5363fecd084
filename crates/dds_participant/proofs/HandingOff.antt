-- What was sent and what waits are what the run put out.
use Rattle.std.proofs.Common.{◌≡◌, ℕ, zero, suc, ◌<◌, List, [], ◌∷◌, ◌++◌, length, map, get_or, Global, Option, None, Some, append_assoc, refl, sym, ap, ◌∙◌, arith}
use Rattle.std.proofs.lemmas.List.{append-nil, length-map, map-append}
use Rattle.std.specs.declared.vec.Vec.{Vec}
use Rattle.rtps_reader.specs.declared.notice.Notice.{Notice}
use Rattle.rtps_reader.specs.declared.notice.Output.{Output}
use Rattle.rtps_reader.specs.Notice.{notice_view}
use Rattle.rtps_run.specs.declared.outcome.Outcome.{Outcome}
use Rattle.rtps_run.specs.Outcome.{Adds}
use Rattle.rtps_run.specs.Seen.{notices_by}
use Rattle.rtps_run.specs.World.{World}
use Rattle.dds_outlet.specs.Ring.{Sending}
use Rattle.rtps_run.specs.BatchOutput.{IsGiven, told_in}
use Rattle.rtps_run.specs.declared.batch_output.BatchOutput.{BatchOutput}
use Rattle.dds_participant.specs.HandOff.{IsHandedOff}
use Rattle.dds_participant.specs.Handing.{AreHandedOn, IsHandedOn, IsOutcomeHandedOn, listed, reported}
use Rattle.dds_participant.specs.Ports.{Delivers, PortView, new_port, port_with}

-- there is no outlet where there is no reader
some_below : {X : Type 0} (xs : List (Option X)) (i : ℕ) (x : X) → get_or xs i None ≡ Some x → i < length xs
some_below [] i x e = absurd (cc)
some_below (y ∷ xs) zero x e = omega arith
some_below (y ∷ xs) (suc i) x e = let h : i < length xs = some_below xs i x e in omega arith

module _ {V M : Type 0} (f : V → M) (rank : ℕ) where
  pub begins : (w : World M) (outlet : Sending V Global) → IsHandedOff f rank w w outlet.sent (new_port outlet)
  begins w outlet = record {
    since = [];
    sent = sym (append-nil outlet.sent);
    put = sym (append-nil (notices_by rank w.put));
  }

  -- a batch put out these notices of the reader
  grows : (start before after : World M) (earlier notices : List (Notice V)) (port : PortView V)
      → notices_by rank after.put ≡ notices_by rank before.put ++ map (notice_view f) notices → IsHandedOff f rank start before earlier port
      → IsHandedOff f rank start after earlier (record port { backlog = port.backlog ++ notices })
  grows start before after earlier notices port put h = record {
    since = h.since;
    sent = h.sent;
    put = put
        ∙ ap (λ l. l ++ map (notice_view f) notices) h.put
        ∙ append_assoc (notices_by rank start.put) (map (notice_view f) (h.since ++ port.backlog)) (map (notice_view f) notices)
        ∙ ap (λ l. notices_by rank start.put ++ l) (sym (map-append (notice_view f) (h.since ++ port.backlog) notices) ∙ ap (map (notice_view f)) (append_assoc h.since port.backlog notices));
  }

  handed : (start before after : World M) (earlier : List (Notice V)) (whole given : List (List (Notice V))) (old new : List (Option (PortView V))) (port : PortView V)
      → (rank < length whole → notices_by rank after.put ≡ notices_by rank before.put ++ map (notice_view f) (get_or whole rank []))
      → AreHandedOn old whole new given → get_or old rank None ≡ Some port → IsHandedOff f rank start before earlier port
      → (next : PortView V) × (get_or new rank None ≡ Some next) × IsHandedOff f rank start after earlier next
  handed start before after earlier whole given old new port put on there h =
      let below : rank < length old = some_below old rank port there in
      let notices = get_or whole rank [] in (
        record port { backlog = port.backlog ++ notices },
        on.ports rank None below ∙ ap (λ (p : Option (PortView V)). port_with p notices) there,
        grows start before after earlier notices port (put (omega (arith, below, on.readers))) h,
      )

  told_list : (outputs : List (Output V Global)) (i : ℕ) → told_in f outputs i ≡ map (notice_view f) (get_or (reported outputs) i [])
  told_list [] i = refl
  told_list (o ∷ os) zero = refl
  told_list (o ∷ os) (suc i) = told_list os i

  pub gives : (start before after : World M) (earlier : List (Notice V)) (whole given : BatchOutput V) (old new : List (Option (PortView V))) (port : PortView V)
      → IsGiven f before after whole → IsHandedOn whole given old new → get_or old rank None ≡ Some port → IsHandedOff f rank start before earlier port
      → (next : PortView V) × (get_or new rank None ≡ Some next) × IsHandedOff f rank start after earlier next
  gives start before after earlier whole given old new port is on there h =
      handed start before after earlier (reported whole.outputs.items) (reported given.outputs.items) old new port
      (λ below. is.told rank (omega (arith, below, length-map whole.outputs.items (λ (o : Output V Global). o.notices.items))) ∙ ap (λ l. notices_by rank before.put ++ l) (told_list whole.outputs.items rank))
      on.notices there h

  some_list : (lists : List (Vec (Notice V) Global)) (i : ℕ) → i < length lists → Vec (Notice V) Global
  some_list [] i below = absurd (omega (arith, below))
  some_list (l ∷ lists) i below = l

  list_at : (lists : List (Vec (Notice V) Global)) (i : ℕ) (other : Vec (Notice V) Global) → i < length lists → (get_or lists i other).items ≡ get_or (listed lists) i []
  list_at [] i other below = absurd (omega (arith, below))
  list_at (l ∷ lists) zero other below = refl
  list_at (l ∷ lists) (suc i) other below = list_at lists i other (omega (arith, below))

  pub adds : (start before after : World M) (earlier : List (Notice V)) (whole outcome : Outcome V Global) (old new : List (Option (PortView V))) (port : PortView V)
      → Adds f before after whole → IsOutcomeHandedOn whole outcome old new → get_or old rank None ≡ Some port → IsHandedOff f rank start before earlier port
      → (next : PortView V) × (get_or new rank None ≡ Some next) × IsHandedOff f rank start after earlier next
  adds start before after earlier whole outcome old new port is on there h =
      handed start before after earlier (listed whole.notices.items) (listed outcome.notices.items) old new port put on.notices there h
    where
      put : rank < length (listed whole.notices.items) → notices_by rank after.put ≡ notices_by rank before.put ++ map (notice_view f) (get_or (listed whole.notices.items) rank [])
      put below =
          let within : rank < length whole.notices.items = omega (arith, below, length-map whole.notices.items (λ (l : Vec (Notice V) Global). l.items)) in
          let other = some_list whole.notices.items rank within in
          is.notices rank other (omega (arith, within, is.readers)) ∙ ap (λ l. notices_by rank before.put ++ map (notice_view f) l) (list_at whole.notices.items rank other within)

  pub moves : (start now : World M) (earlier : List (Notice V)) (before after : PortView V) → Delivers before after → IsHandedOff f rank start now earlier before → IsHandedOff f rank start now earlier after
  moves start now earlier before after d h = record {
    since = h.since ++ d.moved;
    sent = d.sent ∙ ap (λ l. l ++ d.moved) h.sent ∙ append_assoc earlier h.since d.moved;
    put = h.put ∙ ap (λ l. notices_by rank start.put ++ map (notice_view f) l) (ap (λ l. h.since ++ l) d.backlog ∙ sym (append_assoc h.since d.moved after.backlog));
  }
