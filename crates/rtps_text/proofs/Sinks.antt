-- What each sink does in a step of a run over a file: it processes a batch, or stops; and it
-- finishes its text, or stops.
use Rattle.std.proofs.Common.{◌≡◌, ℕ, ◌⊎◌, List, [], ◌∷◌, ◌++◌, Bool, Option, None, Result, Ok, Err, IfErr, OnErr, OnOk, refl, subst, sym, ap, ◌∙◌, take, drop, inl, inr, append-nil, append_assoc, take-append-drop}
use Rattle.std.specs.Io.KnownBytes.{Appends}
use Rattle.std.proofs.KnownBytes.{Appends-kept, Appends-nil, Appends-trans}
use Rattle.rtps_records.specs.Runs.{Closes, ClosesNot, Moves, PutsFront, Stops, WroteAll}
use Rattle.rtps_records.specs.Text.{IsFront}
use Rattle.rtps_records.specs.declared.fault.RunFault.{RunFault}
use Rattle.rtps_records.specs.declared.fault.RunFault.TheVariants.{CannotWrite, NoMemory}
use Rattle.dds_topic.specs.Decoding.{Decoding}
use Rattle.dds_participant.specs.Ports.{NoneAttached}
use Rattle.rtps_text.specs.Batched.{IsDue, IsSameRun, TakesRecords, batch_lines}
use Rattle.rtps_text.specs.Caches.{AreKept, StopsLate}
use Rattle.rtps_text.specs.Entries.{samples_by}
use Rattle.rtps_text.specs.Replayed.{HasSaid, text_by}
use Rattle.rtps_text.specs.Sink.{HasTaken, IsKept, IsPrinted, IsTaken, is_late, sink_text}
use Rattle.rtps_text.specs.Taken.{ComesLast, Finishes, FinishesFront, StopsBy, Takes, TakesFront}
use Rattle.rtps_text.specs.declared.printer.Printer.{Printer}
use Rattle.rtps_text.specs.declared.running.RunLines.{RunLines}
use Rattle.rtps_text.specs.declared.sampling.RunCaches.{RunCaches}
use Rattle.rtps_text.specs.declared.sink.Sink.{Sink}
use Rattle.rtps_text.specs.declared.sink.Sink.TheVariants.{Caches, Lines}
use Rattle.rtps_text.proofs.Batches.{said_more}
use Rattle.rtps_text.proofs.Run.{fronts, same_text}
use Rattle.rtps_text.proofs.Sampled.{same_samples}
use Rattle.rtps_records.specs.RecordFile.{Record}

-- ---- prefixes

-- if some octets end a prefix of a text, so does a prefix of these octets
front_put : (before octets text : List ℕ) (n : ℕ) → IsFront (before ++ octets) text
    → IsFront (before ++ take n octets) text
front_put before octets text n f = (
  drop n octets ++ f.0,
  f.1 ∙ ap (λ l. (before ++ l) ++ f.0) (sym (take-append-drop n octets))
      ∙ ap (λ l. l ++ f.0) (sym (append_assoc before (take n octets) (drop n octets)))
      ∙ append_assoc (before ++ take n octets) (drop n octets) f.0,
)

-- a prefix of a prefix is a prefix
front_before : (before octets text : List ℕ) → IsFront (before ++ octets) text → IsFront before text
front_before before octets text f = (octets ++ f.0, f.1 ∙ append_assoc before octets f.0)

-- if two lists are empty when joined, the first is empty
empty_left : (a b : List ℕ) → a ++ b ≡ [] → a ≡ []
empty_left [] b e = refl
empty_left (x ∷ a) b e = absurd (let bad : x ∷ (a ++ b) ≡ [] = e in cc)

empty_right : (a b : List ℕ) → a ++ b ≡ [] → b ≡ []
empty_right [] b e = e
empty_right (x ∷ a) b e = absurd (let bad : x ∷ (a ++ b) ≡ [] = e in cc)

-- ---- lines

lines_had : {C V U M : Type 0} (text : C → M → List ℕ) (f : V → M) (decoding : C → Decoding M)
    (run : RunLines C V U) (printer : Printer C V U) (texts : List ℕ) (left : List ℕ)
    → HasTaken text f decoding (Lines run printer) texts left → (records : List Record)
    × (said : List ℕ) × IsPrinted text f decoding run printer.catalog.now texts records said
unfolding IsTaken
lines_had text f decoding run printer texts left h = (h.0, h.1 ++ left, h.2)

lines_same : {C V U M : Type 0} (text : C → M → List ℕ) (decoding : C → Decoding M)
    (run next : RunLines C V U) (printer after : Printer C V U) → IsSameRun run next
    → (those : List Record) → sink_text text decoding (Lines next after) those
    ≡ sink_text text decoding (Lines run printer) those
unfolding sink_text
lines_same text decoding run next printer after same those =
    same_text text decoding next.participant.engine run.participant.engine next.summary run.summary
    same.catalog same.config same.summary those

lines_take : {C V U M : Type 0} (text : C → M → List ℕ) (f : V → M) (decoding : C → Decoding M)
    (run next : RunLines C V U) (printer after : Printer C V U) (texts made : List ℕ)
    (batch : List Record) (old new : Option (List ℕ)) (kept left : List ℕ)
    → IsSameRun run next → after.catalog.now ≡ printer.catalog.now
    → TakesRecords f decoding batch run.participant.engine next.participant.engine next.given
    → ((due : List ℕ) → IsDue (text printer.catalog.now) f texts run.given due
    → Moves old new (kept ++ due) (left ++ made))
    → Takes (IsTaken text f decoding (Lines run printer) texts)
    (IsTaken text f decoding (Lines next after) made) batch old new kept left
unfolding Takes IsTaken
lines_take text f decoding run next printer after texts made batch old new kept left same catalog
    takes moves = λ records written p.
    let m = moves p.due p.is_due in
    let own = catalog ∙ p.own ∙ sym same.catalog in
    let lines = batch_lines (text after.catalog.now) f next.given in
    let said = said_more text f decoding records batch ((written ++ kept) ++ p.due)
    run.participant.engine next.participant.engine next.given after.catalog.now
    (same.catalog, same.config) takes (sym own) p.says in (
      m.0,
      m.1,
      record {
        own = own;
        alone = same.alone p.alone;
        due = made ++ lines;
        is_due = record { in_order = (takes.gives records p.says.stands).in_order; is = refl };
        says = subst (λ l. HasSaid text decoding (records ++ batch) l next.participant.engine)
            (ap (λ l. l ++ lines)
            (append_assoc written kept p.due ∙ ap (λ l. written ++ l) m.2
            ∙ sym (append_assoc written m.0 (left ++ made))
            ∙ sym (append_assoc (written ++ m.0) left made))
            ∙ append_assoc ((written ++ m.0) ++ left) made lines)
            said;
      },
    )

-- what was said, followed by what is due, is a prefix of the text of any records that begin with
-- these
due_begins : {C V U M : Type 0} (text : C → M → List ℕ) (f : V → M) (decoding : C → Decoding M)
    (run : RunLines C V U) (catalog : C) (texts : List ℕ) (records more : List Record)
    (written kept : List ℕ)
    → (p : IsPrinted text f decoding run catalog texts records (written ++ kept))
    → IsFront (written ++ (kept ++ p.due))
    (text_by text decoding run.participant.engine run.summary (records ++ more))
due_begins text f decoding run catalog texts records more written kept p =
    subst (λ l. IsFront l
    (text_by text decoding run.participant.engine run.summary (records ++ more)))
    (append_assoc written kept p.due)
    (fronts text decoding run.summary run.participant.engine records more
    ((written ++ kept) ++ p.due) p.says)

lines_front : {C V U M : Type 0} (text : C → M → List ℕ) (f : V → M) (decoding : C → Decoding M)
    (run : RunLines C V U) (printer : Printer C V U) (texts : List ℕ) (batch : List Record)
    (old new : Option (List ℕ)) (kept : List ℕ)
    → ((due : List ℕ) → IsDue (text printer.catalog.now) f texts run.given due
    → PutsFront old new (kept ++ due))
    → TakesFront (IsTaken text f decoding (Lines run printer) texts)
    (sink_text text decoding (Lines run printer)) batch old new kept
unfolding TakesFront IsTaken sink_text
lines_front text f decoding run printer texts batch old new kept puts = λ records written p.
    let q = puts p.due p.is_due in (
      take q.0 (kept ++ p.due),
      q.1,
      λ more. front_put written (kept ++ p.due) _ q.0
          (subst (λ rs. IsFront (written ++ (kept ++ p.due))
          (text_by text decoding run.participant.engine run.summary rs))
          (sym (append_assoc records batch more))
          (due_begins text f decoding run printer.catalog.now texts records (batch ++ more) written
          kept p)),
    )

-- what is due was said, and a part of it is kept back
due_said : {C V U M : Type 0} (text : C → M → List ℕ) (f : V → M) (decoding : C → Decoding M)
    (run : RunLines C V U) (catalog : C) (texts : List ℕ) (records : List Record)
    (written kept put left : List ℕ)
    → (p : IsPrinted text f decoding run catalog texts records (written ++ kept)) → kept ++ p.due
    ≡ put ++ left → HasSaid text decoding records ((written ++ put) ++ left)
    run.participant.engine
due_said text f decoding run catalog texts records written kept put left p e =
    subst (λ l. HasSaid text decoding records l run.participant.engine)
    (append_assoc written kept p.due ∙ ap (λ l. written ++ l) e
    ∙ sym (append_assoc written put left)) p.says

lines_finish : {C V U M : Type 0} (text : C → M → List ℕ) (f : V → M) (decoding : C → Decoding M)
    (run : RunLines C V U) (printer : Printer C V U) (texts : List ℕ)
    (old mid new : Option (List ℕ)) (kept left : List ℕ)
    → ((due : List ℕ) → IsDue (text printer.catalog.now) f texts run.given due
    → Moves old mid (kept ++ due) left)
    → Closes (λ records said. HasSaid text decoding records said run.participant.engine)
    (text_by text decoding run.participant.engine run.summary) mid new left
    → Finishes (IsTaken text f decoding (Lines run printer) texts)
    (sink_text text decoding (Lines run printer)) old new kept
unfolding Finishes IsTaken sink_text Closes
lines_finish text f decoding run printer texts old mid new kept left moves c = λ records written p.
    let m = moves p.due p.is_due in
    let said = due_said text f decoding run printer.catalog.now texts records written kept m.0 left
    p m.2 in (
      m.0 ++ c.0,
      Appends-trans _ _ _ _ _ m.1 c.1,
      c.2 records (written ++ m.0) said
          ∙ append_assoc written m.0 c.0,
    )

lines_stop : {C V U M : Type 0} (text : C → M → List ℕ) (f : V → M) (decoding : C → Decoding M)
    (run : RunLines C V U) (printer : Printer C V U) (texts : List ℕ) (late : Bool)
    (fault : RunFault) (old new : Option (List ℕ)) (kept : List ℕ)
    → ((due : List ℕ) → IsDue (text printer.catalog.now) f texts run.given due
    → PutsFront old new (kept ++ due))
    → FinishesFront late fault (IsTaken text f decoding (Lines run printer) texts)
    (sink_text text decoding (Lines run printer)) old new kept
unfolding FinishesFront IsTaken sink_text
lines_stop text f decoding run printer texts late fault old new kept puts = λ records written p.
    let q = puts p.due p.is_due in (
      take q.0 (kept ++ p.due),
      q.1,
      inl (λ more. front_put written (kept ++ p.due) _ q.0
          (due_begins text f decoding run printer.catalog.now texts records more written kept p)),
    )

lines_stop_closing : {C V U M : Type 0} (text : C → M → List ℕ) (f : V → M)
    (decoding : C → Decoding M) (run : RunLines C V U) (printer : Printer C V U) (texts : List ℕ)
    (late : Bool) (fault : RunFault) (old mid new : Option (List ℕ)) (kept left : List ℕ)
    → ((due : List ℕ) → IsDue (text printer.catalog.now) f texts run.given due
    → Moves old mid (kept ++ due) left)
    → ClosesNot fault (λ records said. HasSaid text decoding records said run.participant.engine)
    (text_by text decoding run.participant.engine run.summary) mid new left
    → FinishesFront late fault (IsTaken text f decoding (Lines run printer) texts)
    (sink_text text decoding (Lines run printer)) old new kept
unfolding FinishesFront IsTaken sink_text ClosesNot
lines_stop_closing text f decoding run printer texts late fault old mid new kept left moves c =
    λ records written p.
    let m = moves p.due p.is_due in
    let said = due_said text f decoding run printer.catalog.now texts records written kept m.0 left
    p m.2 in
    elim c [
      | inl none ↦ (
        m.0,
        Appends-kept _ _ _ _ m.1 none.1,
        inl (λ more. front_before (written ++ m.0) left _
            (fronts text decoding run.summary run.participant.engine records more
            ((written ++ m.0) ++ left) said)),
      )
      | inr cannot ↦
          let last = cannot.1.0 in
          let n = cannot.1.1.0 in
          let whole = text_by text decoding run.participant.engine run.summary records in
          let all : IsFront ((written ++ m.0) ++ last) whole = (
            [],
            cannot.1.2 records (written ++ m.0) said
                ∙ sym (append-nil ((written ++ m.0) ++ last)),
          ) in (
            m.0 ++ take n last,
            Appends-trans _ _ _ _ _ m.1 cannot.1.1.1,
            inr (
              inl cannot.0,
              subst (λ l. IsFront l whole) (append_assoc written m.0 (take n last))
                  (front_put (written ++ m.0) last whole n all),
            ),
          )
    ]

-- ---- caches

caches_had : {C V U M : Type 0} (text : C → M → List ℕ) (f : V → M) (decoding : C → Decoding M)
    (kept : RunCaches C V U) (texts : List ℕ) (left : List ℕ)
    → HasTaken text f decoding (Caches kept) texts left → (records : List Record)
    × (written : List ℕ) × IsKept f decoding kept records (written ++ left)
unfolding IsTaken
caches_had text f decoding kept texts left h = h

caches_same : {C V U M : Type 0} (text : C → M → List ℕ) (decoding : C → Decoding M)
    (kept next : RunCaches C V U) → IsSameRun kept.run next.run → next.keep ≡ kept.keep
    → (those : List Record) → sink_text text decoding (Caches next) those
    ≡ sink_text text decoding (Caches kept) those
unfolding sink_text
caches_same text decoding kept next same keep those =
    same_samples text decoding next.run.participant.engine kept.run.participant.engine
    next.run.summary kept.run.summary next.keep kept.keep same.catalog same.config same.summary
    keep those

caches_take : {C V U M : Type 0} (text : C → M → List ℕ) (f : V → M) (decoding : C → Decoding M)
    (kept next : RunCaches C V U) (texts made : List ℕ) (batch : List Record)
    (old : Option (List ℕ)) (left : List ℕ)
    → IsSameRun kept.run next.run
    → ((earlier : List Record) → AreKept f decoding kept.keep earlier kept.run.participant.engine
    kept.caches.by_rank.items → AreKept f decoding next.keep (earlier ++ batch)
    next.run.participant.engine next.caches.by_rank.items)
    → Takes (IsTaken text f decoding (Caches kept) texts)
    (IsTaken text f decoding (Caches next) made) batch old old left left
unfolding Takes IsTaken
caches_take text f decoding kept next texts made batch old left same takes = λ records written p. (
  [],
  Appends-nil old,
  record {
    none = ap (λ l. l ++ left) (append-nil written)
        ∙ p.none;
    are = takes records p.are;
    alone = same.alone p.alone;
  },
)

caches_front : {C V U M : Type 0} (text : C → M → List ℕ) (f : V → M) (decoding : C → Decoding M)
    (kept : RunCaches C V U) (texts : List ℕ) (whole : List Record → List ℕ) (batch : List Record)
    (old : Option (List ℕ)) (left : List ℕ)
    → TakesFront (IsTaken text f decoding (Caches kept) texts) whole batch old old left
unfolding TakesFront IsTaken
caches_front text f decoding kept texts whole batch old left = λ records written p. (
  [],
  Appends-nil old,
  λ more. (
    whole ((records ++ batch) ++ more),
    ap (λ w. w ++ whole ((records ++ batch) ++ more))
        (sym (append-nil written ∙ empty_left written left p.none)),
  ),
)

caches_finish : {C V U M : Type 0} (text : C → M → List ℕ) (f : V → M) (decoding : C → Decoding M)
    (kept : RunCaches C V U) (texts : List ℕ) (old new : Option (List ℕ)) (left : List ℕ)
    → ((records : List Record) → AreKept f decoding kept.keep records kept.run.participant.engine
    kept.caches.by_rank.items
    → Appends old new
    (samples_by text decoding kept.run.participant.engine kept.run.summary kept.keep records))
    → Finishes (IsTaken text f decoding (Caches kept) texts) (sink_text text decoding (Caches kept))
    old new left
unfolding Finishes IsTaken sink_text
caches_finish text f decoding kept texts old new left put = λ records written p.
    let whole = samples_by text decoding kept.run.participant.engine kept.run.summary kept.keep
    records in
    (whole, put records p.are, ap (λ w. w ++ whole) (sym (empty_left written left p.none)))

caches_stop : {C V U M : Type 0} (text : C → M → List ℕ) (f : V → M) (decoding : C → Decoding M)
    (kept : RunCaches C V U) (texts : List ℕ) (fault : RunFault) (old new : Option (List ℕ))
    (left : List ℕ)
    → (fault ≡ CannotWrite) ⊎ (fault ≡ NoMemory)
    → ((records : List Record) → AreKept f decoding kept.keep records kept.run.participant.engine
    kept.caches.by_rank.items
    → PutsFront old new
    (samples_by text decoding kept.run.participant.engine kept.run.summary kept.keep records))
    → FinishesFront (is_late (Caches kept)) fault (IsTaken text f decoding (Caches kept) texts)
    (sink_text text decoding (Caches kept)) old new left
unfolding FinishesFront IsTaken sink_text is_late
caches_stop text f decoding kept texts fault old new left cause puts = λ records written p.
    let whole = samples_by text decoding kept.run.participant.engine kept.run.summary kept.keep
    records in
    let q = puts records p.are in
    let all : IsFront (written ++ whole) whole = (
      [],
      ap (λ w. w ++ whole) (sym (empty_left written left p.none))
          ∙ sym (append-nil (written ++ whole)),
    ) in
    let comes : ComesLast (is_late (Caches kept)) fault = elim cause
    [ inl e ↦ inl e | inr e ↦ inr (e, refl) ] in
    (take q.0 whole, q.1, inr (comes, front_put written whole whole q.0 all))

-- ---- each kind of sink

pub lines_alone : {C V U M : Type 0} (text : C → M → List ℕ) (f : V → M) (decoding : C → Decoding M)
    (sink : Sink C V U) (run : RunLines C V U) (printer : Printer C V U) (texts : List ℕ)
    (left : List ℕ)
    → sink ≡ Lines run printer → HasTaken text f decoding sink texts left
    → NoneAttached run.participant.ports
lines_alone text f decoding sink run printer texts left is h =
    let had = lines_had text f decoding run printer texts left (rw is at h) in
    had.2.alone

pub lines_alike : {C V U M : Type 0} (text : C → M → List ℕ) (decoding : C → Decoding M)
    (sink : Sink C V U) (run next : RunLines C V U) (printer after : Printer C V U)
    → sink ≡ Lines run printer → IsSameRun run next → (those : List Record)
    → sink_text text decoding (Lines next after) those ≡ sink_text text decoding sink those
lines_alike text decoding sink run next printer after is same those = rw is
    (lines_same text decoding run next printer after same those)

pub lines_late : {C V U : Type 0} (sink : Sink C V U) (run next : RunLines C V U)
    (printer after : Printer C V U) → sink ≡ Lines run printer → is_late (Lines next after)
    ≡ is_late sink
unfolding is_late
lines_late sink run next printer after is = sym (ap is_late is)

pub lines_taken : {C V U M : Type 0} (text : C → M → List ℕ) (f : V → M) (decoding : C → Decoding M)
    (sink : Sink C V U) (run next : RunLines C V U) (printer after : Printer C V U)
    (texts made : List ℕ) (batch : List Record) (old new : Option (List ℕ)) (kept left : List ℕ)
    → sink ≡ Lines run printer → IsSameRun run next → after.catalog.now ≡ printer.catalog.now
    → TakesRecords f decoding batch run.participant.engine next.participant.engine next.given
    → ((due : List ℕ) → IsDue (text printer.catalog.now) f texts run.given due
    → Moves old new (kept ++ due) (left ++ made))
    → Takes (IsTaken text f decoding sink texts) (IsTaken text f decoding (Lines next after) made)
    batch old new kept left
lines_taken text f decoding sink run next printer after texts made batch old new kept left is same
    catalog takes moves =
    rw is (lines_take text f decoding run next printer after texts made batch old new kept left same
    catalog takes moves)

pub lines_broken : {C V U M : Type 0} (text : C → M → List ℕ) (f : V → M)
    (decoding : C → Decoding M) (sink : Sink C V U) (run : RunLines C V U) (printer : Printer C V U)
    (texts : List ℕ) (batch : List Record) (old new : Option (List ℕ)) (kept : List ℕ)
    → sink ≡ Lines run printer →
    ((due : List ℕ) → IsDue (text printer.catalog.now) f texts run.given due
    → PutsFront old new (kept ++ due))
    → TakesFront (IsTaken text f decoding sink texts) (sink_text text decoding sink) batch old new
    kept
lines_broken text f decoding sink run printer texts batch old new kept is puts = rw is
    (lines_front text f decoding run printer texts batch old new kept puts)

pub lines_finished : {T : Type 0} {C V U M : Type 0} (text : C → M → List ℕ) (f : V → M)
    (decoding : C → Decoding M) (sink : Sink C V U) (run : RunLines C V U) (printer : Printer C V U)
    (texts : List ℕ) (old mid new : Option (List ℕ)) (kept left : List ℕ) (r : Result T RunFault)
    → sink ≡ Lines run printer →
    ((due : List ℕ) → IsDue (text printer.catalog.now) f texts run.given due
    → Moves old mid (kept ++ due) left)
    → OnOk r (Closes (λ records said. HasSaid text decoding records said run.participant.engine)
    (text_by text decoding run.participant.engine run.summary) mid new left)
    → OnOk r (Finishes (IsTaken text f decoding sink texts) (sink_text text decoding sink) old new
    kept)
lines_finished text f decoding sink run printer texts old mid new kept left (Ok x) is moves c =
    rw is (lines_finish text f decoding run printer texts old mid new kept left moves c)
lines_finished text f decoding sink run printer texts old mid new kept left (Err e) is moves c = tt

pub lines_unprinted : {C V U M : Type 0} (text : C → M → List ℕ) (f : V → M)
    (decoding : C → Decoding M) (sink : Sink C V U) (run : RunLines C V U) (printer : Printer C V U)
    (texts : List ℕ) (late : Bool) (fault : RunFault) (old new : Option (List ℕ)) (kept : List ℕ)
    → sink ≡ Lines run printer →
    ((due : List ℕ) → IsDue (text printer.catalog.now) f texts run.given due
    → PutsFront old new (kept ++ due))
    → FinishesFront late fault (IsTaken text f decoding sink texts) (sink_text text decoding sink)
    old new kept
lines_unprinted text f decoding sink run printer texts late fault old new kept is puts = rw is
    (lines_stop text f decoding run printer texts late fault old new kept puts)

pub lines_unclosed : {T : Type 0} {C V U M : Type 0} (text : C → M → List ℕ) (f : V → M)
    (decoding : C → Decoding M) (sink : Sink C V U) (run : RunLines C V U) (printer : Printer C V U)
    (texts : List ℕ) (late : Bool) (old mid new : Option (List ℕ)) (kept left : List ℕ)
    (r : Result T RunFault)
    → sink ≡ Lines run printer →
    ((due : List ℕ) → IsDue (text printer.catalog.now) f texts run.given due
    → Moves old mid (kept ++ due) left)
    → IfErr r
    (λ fault. ClosesNot fault
    (λ records said. HasSaid text decoding records said run.participant.engine)
    (text_by text decoding run.participant.engine run.summary) mid new left)
    → IfErr r
    (λ fault. FinishesFront late fault (IsTaken text f decoding sink texts)
    (sink_text text decoding sink) old new kept)
lines_unclosed text f decoding sink run printer texts late old mid new kept left (Ok x) is moves c =
    tt
lines_unclosed text f decoding sink run printer texts late old mid new kept left (Err e) is moves
    c = rw is
    (lines_stop_closing text f decoding run printer texts late e old mid new kept left moves c)

-- the faults that may happen at the last lines
pub closing_faults : {T : Type 0} (said : List Record → List ℕ → Type 0)
    (text : List Record → List ℕ) (old new : Option (List ℕ)) (kept : List ℕ)
    (r : Result T RunFault)
    → IfErr r (λ fault. ClosesNot fault said text old new kept)
    → IfErr r (λ fault. (fault ≡ CannotWrite) ⊎ (fault ≡ NoMemory))
unfolding ClosesNot
closing_faults said text old new kept (Ok x) c = tt
closing_faults said text old new kept (Err e) c = elim c
    [ inl none ↦ inr none.0 | inr cannot ↦ inl cannot.0 ]

pub caches_kept : {C V U M : Type 0} (text : C → M → List ℕ) (f : V → M) (decoding : C → Decoding M)
    (sink : Sink C V U) (kept : RunCaches C V U) (texts : List ℕ) (left : List ℕ)
    → sink ≡ Caches kept → HasTaken text f decoding sink texts left → (records : List Record)
    × AreKept f decoding kept.keep records kept.run.participant.engine kept.caches.by_rank.items
caches_kept text f decoding sink kept texts left is h =
    let had = caches_had text f decoding kept texts left (rw is at h) in
    (had.0, had.2.are)

pub caches_alone : {C V U M : Type 0} (text : C → M → List ℕ) (f : V → M)
    (decoding : C → Decoding M) (sink : Sink C V U) (kept : RunCaches C V U) (texts : List ℕ)
    (left : List ℕ)
    → sink ≡ Caches kept → HasTaken text f decoding sink texts left
    → NoneAttached kept.run.participant.ports
caches_alone text f decoding sink kept texts left is h =
    let had = caches_had text f decoding kept texts left (rw is at h) in
    had.2.alone

-- a sink of caches keeps no text back
pub caches_silent : {C V U M : Type 0} (text : C → M → List ℕ) (f : V → M)
    (decoding : C → Decoding M) (sink : Sink C V U) (kept : RunCaches C V U) (texts : List ℕ)
    (left : List ℕ)
    → sink ≡ Caches kept → HasTaken text f decoding sink texts left → left ≡ []
caches_silent text f decoding sink kept texts left is h =
    let had = caches_had text f decoding kept texts left (rw is at h) in
    empty_right had.1 left had.2.none

pub caches_alike : {C V U M : Type 0} (text : C → M → List ℕ) (decoding : C → Decoding M)
    (sink : Sink C V U) (kept next : RunCaches C V U)
    → sink ≡ Caches kept → IsSameRun kept.run next.run → next.keep ≡ kept.keep
    → (those : List Record) → sink_text text decoding (Caches next) those
    ≡ sink_text text decoding sink those
caches_alike text decoding sink kept next is same keep those = rw is
    (caches_same text decoding kept next same keep those)

pub caches_late : {C V U : Type 0} (sink : Sink C V U) (kept next : RunCaches C V U) → sink
    ≡ Caches kept → is_late (Caches next) ≡ is_late sink
unfolding is_late
caches_late sink kept next is = sym (ap is_late is)

pub caches_taken : {C V U M : Type 0} (text : C → M → List ℕ) (f : V → M)
    (decoding : C → Decoding M) (sink : Sink C V U) (kept next : RunCaches C V U)
    (texts made : List ℕ) (batch : List Record) (old : Option (List ℕ)) (left : List ℕ)
    → sink ≡ Caches kept → IsSameRun kept.run next.run
    → ((earlier : List Record) → AreKept f decoding kept.keep earlier kept.run.participant.engine
    kept.caches.by_rank.items → AreKept f decoding next.keep (earlier ++ batch)
    next.run.participant.engine next.caches.by_rank.items)
    → Takes (IsTaken text f decoding sink texts) (IsTaken text f decoding (Caches next) made) batch
    old old left left
caches_taken text f decoding sink kept next texts made batch old left is same takes = rw is
    (caches_take text f decoding kept next texts made batch old left same takes)

pub caches_broken : {C V U M : Type 0} (text : C → M → List ℕ) (f : V → M)
    (decoding : C → Decoding M) (sink : Sink C V U) (kept : RunCaches C V U) (texts : List ℕ)
    (whole : List Record → List ℕ) (batch : List Record) (old : Option (List ℕ)) (left : List ℕ)
    → sink ≡ Caches kept → TakesFront (IsTaken text f decoding sink texts) whole batch old old left
caches_broken text f decoding sink kept texts whole batch old left is = rw is
    (caches_front text f decoding kept texts whole batch old left)

pub caches_finished : {T : Type 0} {C V U M : Type 0} (text : C → M → List ℕ) (f : V → M)
    (decoding : C → Decoding M) (sink : Sink C V U) (kept : RunCaches C V U) (texts : List ℕ)
    (old new : Option (List ℕ)) (left : List ℕ) (r : Result T RunFault)
    → sink ≡ Caches kept
    → ((records : List Record) → AreKept f decoding kept.keep records kept.run.participant.engine
    kept.caches.by_rank.items
    → OnOk r (Appends old new
    (samples_by text decoding kept.run.participant.engine kept.run.summary kept.keep records)))
    → OnOk r (Finishes (IsTaken text f decoding sink texts) (sink_text text decoding sink) old new
    left)
caches_finished text f decoding sink kept texts old new left (Ok x) is put = rw is
    (caches_finish text f decoding kept texts old new left put)
caches_finished text f decoding sink kept texts old new left (Err e) is put = tt

pub caches_unfinished : {T : Type 0} {C V U M : Type 0} (text : C → M → List ℕ) (f : V → M)
    (decoding : C → Decoding M) (sink : Sink C V U) (kept : RunCaches C V U) (texts : List ℕ)
    (old new : Option (List ℕ)) (left : List ℕ) (r : Result T RunFault)
    → sink ≡ Caches kept → IfErr r (λ fault. (fault ≡ CannotWrite) ⊎ (fault ≡ NoMemory))
    → ((records : List Record) → AreKept f decoding kept.keep records kept.run.participant.engine
    kept.caches.by_rank.items
    → OnErr r
    (PutsFront old new
    (samples_by text decoding kept.run.participant.engine kept.run.summary kept.keep records)))
    → IfErr r
    (λ fault. FinishesFront (is_late sink) fault (IsTaken text f decoding sink texts)
    (sink_text text decoding sink) old new left)
caches_unfinished text f decoding sink kept texts old new left (Ok x) is cause puts = tt
caches_unfinished text f decoding sink kept texts old new left (Err e) is cause puts = rw is
    (caches_stop text f decoding kept texts e old new left cause puts)

-- ---- whole runs

pub lines_wrote : {T C V U M : Type 0} (text : C → M → List ℕ) (decoding : C → Decoding M)
    (run : RunLines C V U) (printer : Printer C V U) (before old new : Option (List ℕ))
    (r : Result T RunFault)
    → OnOk r (WroteAll (sink_text text decoding (Lines run printer)) before old new None)
    → OnOk r (WroteAll (text_by text decoding run.participant.engine run.summary) before old new
    None)
unfolding sink_text
lines_wrote text decoding run printer before old new r h = h

pub lines_left : {T C V U M : Type 0} (text : C → M → List ℕ) (decoding : C → Decoding M)
    (run : RunLines C V U) (printer : Printer C V U) (before after old new : Option (List ℕ))
    (r : Result T RunFault)
    → IfErr r
    (λ fault. StopsBy (is_late (Lines run printer))
    (sink_text text decoding (Lines run printer)) fault before after old new)
    → IfErr r
    (λ fault. Stops (text_by text decoding run.participant.engine run.summary) fault before
    after old new)
unfolding sink_text is_late StopsBy
lines_left text decoding run printer before after old new r h = h

pub caches_begun : {C V U M : Type 0} (text : C → M → List ℕ) (f : V → M)
    (decoding : C → Decoding M) (kept : RunCaches C V U) (texts : List ℕ)
    → AreKept f decoding kept.keep [] kept.run.participant.engine kept.caches.by_rank.items
    → NoneAttached kept.run.participant.ports
    → IsTaken text f decoding (Caches kept) texts [] []
unfolding IsTaken
caches_begun text f decoding kept texts are alone = record { none = refl; are = are; alone = alone }

pub caches_wrote : {T C V U M : Type 0} (text : C → M → List ℕ) (decoding : C → Decoding M)
    (kept : RunCaches C V U) (before old new : Option (List ℕ)) (r : Result T RunFault)
    → OnOk r (WroteAll (sink_text text decoding (Caches kept)) before old new None)
    → OnOk r (WroteAll
    (samples_by text decoding kept.run.participant.engine kept.run.summary kept.keep) before old
    new None)
unfolding sink_text
caches_wrote text decoding kept before old new r h = h

pub caches_left : {T C V U M : Type 0} (text : C → M → List ℕ) (decoding : C → Decoding M)
    (kept : RunCaches C V U) (before after old new : Option (List ℕ)) (r : Result T RunFault)
    → IfErr r
    (λ fault. StopsBy (is_late (Caches kept)) (sink_text text decoding (Caches kept)) fault
    before after old new)
    → IfErr r
    (λ fault. StopsLate
    (samples_by text decoding kept.run.participant.engine kept.run.summary kept.keep) fault
    before after old new)
unfolding sink_text is_late StopsBy
caches_left text decoding kept before after old new r h = h
