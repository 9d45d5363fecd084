-- What is to be printed, while it is written part by part.
use Rattle.std.proofs.Common.{◌≡◌, ℕ, List, [], ◌++◌, Option, subst, sym, ap, ◌∙◌, map, length, drop, take, append_assoc, take-append-drop}
use Rattle.std.specs.List.{flat_map}
use Rattle.std.specs.Io.KnownBytes.{Appends}
use Rattle.std.proofs.KnownBytes.{Appends-trans}
use Rattle.std.proofs.Math.Seq.{take-append_seam}
use Rattle.std.specs.declared.alloc.Global.{Global}
use Rattle.rtps_records.specs.Runs.{Moves, PutsFront}
use Rattle.rtps_reader.specs.Notice.{answer_view}
use Rattle.dds_topic.specs.Decoding.{Decoding}
use Rattle.dds_participant.specs.Ports.{NoneAttached}
use Rattle.rtps_text.specs.Replayed.{HasSaid, put_lines}
use Rattle.rtps_text.specs.Sink.{IsTaken}
use Rattle.rtps_text.specs.declared.printer.Printer.{Printer}
use Rattle.rtps_text.specs.declared.running.RunLines.{RunLines}
use Rattle.rtps_text.specs.declared.sink.Sink.TheVariants.{Lines}
use Rattle.rtps_types.specs.declared.place.Place.{Place}
use Rattle.rtps_run.specs.Merged.{AreRising, answers_at, merged, notices_at}
use Rattle.rtps_run.specs.BatchOutput.{HoldsNothing, IsInOrder, parts_given, sent_in, told_in}
use Rattle.rtps_reader.specs.declared.notice.Output.{Output}
use Rattle.rtps_run.specs.declared.batch_output.BatchOutput.{BatchOutput}
use Rattle.rtps_text.specs.Batched.{IsDue, batch_lines}

-- more lines are to be written after these octets
moves_more : (old new : Option (List ℕ)) (kept made left lines : List ℕ)
    → Moves old new (kept ++ made) left → Moves old new (kept ++ (made ++ lines)) (left ++ lines)
moves_more old new kept made left lines m = (
  m.0,
  m.1,
  sym (append_assoc kept made lines) ∙ ap (λ l. l ++ lines) m.2
      ∙ append_assoc m.0 left lines,
)

-- a part of what was kept back was written too
pub moves_on : (old mid new : Option (List ℕ)) (octets here left : List ℕ)
    → Moves old mid octets here → Moves mid new here left → Moves old new octets left
moves_on old mid new octets here left m n = (
  m.0 ++ n.0,
  Appends-trans _ _ _ _ _ m.1 n.1,
  m.2 ∙ ap (λ l. m.0 ++ l) n.2
      ∙ sym (append_assoc m.0 n.0 left),
)

-- a prefix of what was kept back was written
pub front_on : (old mid new : Option (List ℕ)) (octets here : List ℕ) → Moves old mid octets here
    → PutsFront mid new here → PutsFront old new octets
front_on old mid new octets here m p =
    let front = take p.0 here in
    let back = drop p.0 here in
    let all : octets ≡ (m.0 ++ front) ++ back = m.2
    ∙ ap (λ l. m.0 ++ l) (sym (take-append-drop p.0 here))
    ∙ sym (append_assoc m.0 front back) in (
      length (m.0 ++ front),
      subst (Appends old new)
          (sym (ap (take (length (m.0 ++ front))) all ∙ take-append_seam (m.0 ++ front) back))
          (Appends-trans _ _ _ _ _ m.1 p.1),
    )

-- a prefix of octets is a prefix of these octets and more
front_longer : (old new : Option (List ℕ)) (octets lines : List ℕ) → PutsFront old new octets
    → PutsFront old new (octets ++ lines)
front_longer old new octets lines p =
    let front = take p.0 octets in
    let back = drop p.0 octets in
    let all : octets ++ lines ≡ front
    ++ (back ++ lines) = ap (λ l. l ++ lines) (sym (take-append-drop p.0 octets))
    ∙ append_assoc front back lines in (
      length front,
      subst (Appends old new)
          (sym (ap (take (length front)) all ∙ take-append_seam front (back ++ lines))) p.1,
    )

-- all that is due, if the text was written: the lines of the batch are left
pub due_next : {V M : Type 0} (text : M → List ℕ) (f : V → M) (made : List ℕ)
    (given : BatchOutput V) (due : List ℕ) (d : IsDue text f made given due)
    (old new : Option (List ℕ)) (kept here : List ℕ)
    → Moves old new (kept ++ made) here
    → Moves old new (kept ++ due) (here ++ batch_lines text f given)
due_next text f made given due d old new kept here m =
    subst (λ l. Moves old new (kept ++ l) (here ++ batch_lines text f given)) (sym d.is)
    (moves_more old new kept made here (batch_lines text f given) m)

-- if a prefix of the text was written, a prefix of all that is due was
pub due_begun : {V M : Type 0} (text : M → List ℕ) (f : V → M) (made : List ℕ)
    (given : BatchOutput V) (due : List ℕ) (d : IsDue text f made given due)
    (old new : Option (List ℕ)) (kept : List ℕ)
    → PutsFront old new (kept ++ made) → PutsFront old new (kept ++ due)
due_begun text f made given due d old new kept p =
    subst (PutsFront old new)
    (append_assoc kept made (batch_lines text f given) ∙ ap (λ l. kept ++ l) (sym d.is))
    (front_longer old new (kept ++ made) (batch_lines text f given) p)

-- the same is due for the same results
pub due_same : {V M : Type 0} (text : M → List ℕ) (f : V → M) (made : List ℕ)
    (given these : BatchOutput V) (due : List ℕ) → these ≡ given → IsDue text f made given due
    → IsDue text f made these due
due_same {V} text f made given these due is d = subst
    (λ (x : BatchOutput V). IsDue text f made x due) (sym is) d

-- empty lists are sorted by place, and have no line
pub nothing_in_order : {V M : Type 0} (f : V → M) (given : BatchOutput V) → HoldsNothing given
    → IsInOrder f given
nothing_in_order {V} f given h = record {
  rising = subst AreRising (sym h.places) tt;
  said = subst
      (λ (ps : List Place). flat_map (λ p. answers_at p (map answer_view given.answers.items)) ps
      ≡ map answer_view given.answers.items) (sym h.places) (sym (ap (map answer_view) h.answers));
  told = λ rank. subst
      (λ (ps : List Place). flat_map (λ p. notices_at p (told_in f given.outputs.items rank)) ps
      ≡ told_in f given.outputs.items rank) (sym h.places)
      (sym (ap (λ (os : List (Output V Global)). told_in f os rank) h.outputs));
  sent = λ rank. subst
      (λ (ps : List Place). flat_map (λ p. answers_at p (sent_in given.outputs.items rank)) ps
      ≡ sent_in given.outputs.items rank) (sym h.places)
      (sym (ap (λ (os : List (Output V Global)). sent_in os rank) h.outputs));
}

pub nothing_lines : {V M : Type 0} (text : M → List ℕ) (f : V → M) (given : BatchOutput V)
    → HoldsNothing given → batch_lines text f given ≡ []
nothing_lines text f given h = ap
    (λ (ps : List Place). put_lines text
    (merged (parts_given f given) (length given.outputs.items) ps)) h.places

-- before a run, nothing is due
pub lines_begun : {C V U M : Type 0} (text : C → M → List ℕ) (f : V → M) (decoding : C → Decoding M)
    (run : RunLines C V U) (printer : Printer C V U) (made : List ℕ) (catalog : C)
    → printer.catalog.now ≡ catalog → catalog ≡ run.participant.engine.catalog
    → NoneAttached run.participant.ports → HoldsNothing run.given
    → HasSaid text decoding [] [] run.participant.engine → made ≡ []
    → IsTaken text f decoding (Lines run printer) made [] []
unfolding IsTaken
lines_begun text f decoding run printer made catalog same own alone nothing fresh none = record {
  own = same ∙ own;
  alone = alone;
  due = [];
  is_due = record {
    in_order = nothing_in_order f run.given nothing;
    is = sym (ap (λ l. l ++ batch_lines (text printer.catalog.now) f run.given) none
        ∙ nothing_lines (text printer.catalog.now) f run.given nothing);
  };
  says = fresh;
}
