-- Outlets of readers.
use Rattle.std.proofs.Common.{◌≡◌, ◌<◌, ℕ, zero, suc, List, [], ◌∷◌, ◌++◌, length, take, get_or, Option, None, Some, is_some, true, false, arith, refl, subst, sym, ap, ◌∙◌, rules, map, Global}
use Rattle.std.proofs.lemmas.List.{length-map}
use Rattle.rtps_reader.specs.declared.notice.Notice.{Notice}
use Rattle.rtps_reader.specs.declared.notice.Output.{Output}
use Rattle.rtps_reader.specs.Notice as reader
use Rattle.rtps_run.specs.declared.outcome.Outcome.{Outcome}
use Rattle.rtps_run.specs.declared.outcome.Answer.{Answer}
use Rattle.rtps_run.specs.Outcome.{Adds, answer_view, notices_in}
use Rattle.rtps_run.specs.Seen.{answers_in, notices_by}
use Rattle.rtps_run.specs.World.{World}
use Rattle.rtps_run.specs.Merged.{merged}
use Rattle.rtps_run.specs.BatchOutput.{AreAnswersAlong, AreNoticesAlong, IsGiven, sent_in, told_in}
use Rattle.dds_participant.specs.Handing.{AreHandedOn, listed}
use Rattle.dds_participant.specs.Ports.{NoneAttached, PortView, left_of, port_with, ports_view}
use Rattle.rtps_run.specs.declared.batch_output.BatchOutput.{BatchOutput}
use Rattle.std.specs.declared.vec.Vec.{Vec}
use Rattle.dds_participant.specs.declared.ports.Port.{Port}

pub none_more : {V : Type 0} (ports : List (Option (Port V))) → NoneAttached (ports_view ports) → NoneAttached (ports_view (ports ++ None ∷ []))
none_more [] none = tt
none_more (None ∷ ports) none = none_more ports none
none_more (Some p ∷ ports) none = absurd none

-- whether it is so is found by looking at each
pub none_first : {V : Type 0} (ports : List (Option (Port V))) (n : ℕ) (p : Option (Port V)) → n < length ports → p ≡ get_or ports n p → is_some p ≡ false → NoneAttached (ports_view (take n ports)) → NoneAttached (ports_view (take (suc n) ports))
none_first [] n p below here free none = absurd (omega (arith, below))
none_first (None ∷ ports) zero p below here free none = tt
none_first (Some x ∷ ports) zero p below here free none = absurd (search rules)
none_first (None ∷ ports) (suc n) p below here free none = none_first ports n p (omega (arith, below)) here free none
none_first (Some x ∷ ports) (suc n) p below here free none = absurd none

pub some_there : {V : Type 0} (ports : List (Option (Port V))) (n : ℕ) (p : Option (Port V)) → n < length ports → p ≡ get_or ports n p → is_some p ≡ true → NoneAttached (ports_view ports) → ⊥
some_there [] n p below here there none = absurd (omega (arith, below))
some_there (None ∷ ports) zero p below here there none = absurd (search rules)
some_there (Some x ∷ ports) n p below here there none = absurd none
some_there (None ∷ ports) (suc n) p below here there none = some_there ports n p (omega (arith, below)) here there none

-- where none is attached, nothing is handed on
none_at : {V : Type 0} (ports : List (Option (PortView V))) (rank : ℕ) (port : Option (PortView V)) → NoneAttached ports → rank < length ports → get_or ports rank port ≡ None
none_at [] rank port none below = absurd (omega (arith, below))
none_at (None ∷ ports) zero port none below = refl
none_at (None ∷ ports) (suc rank) port none below = none_at ports rank port none (omega (arith, below))
none_at (Some p ∷ ports) rank port none below = absurd none

pub alone_on : {V : Type 0} (ports : List (Option (PortView V))) (notices : List (List (Notice V))) → length notices ≡ length ports → NoneAttached ports → AreHandedOn ports notices ports notices
alone_on {V} ports notices readers none = record {
  readers = readers;
  count = refl;
  lists = refl;
  ports = λ rank port below.
      let at = none_at ports rank port none below in
      at ∙ ap (λ (v : Option (PortView V)). port_with v (get_or notices rank [])) (sym at);
  given = λ rank port below. ap (λ (v : Option (PortView V)). left_of v (get_or notices rank [])) (sym (none_at ports rank port none below));
}

-- so there nothing is handed on, and nothing is attached afterwards
alike_lists : {X : Type 0} (d : X) (xs ys : List X) → length xs ≡ length ys → ((i : ℕ) → i < length ys → get_or xs i d ≡ get_or ys i d) → xs ≡ ys
alike_lists d [] [] same each = refl
alike_lists d [] (y ∷ ys) same each = absurd (omega (arith, same))
alike_lists d (x ∷ xs) [] same each = absurd (omega (arith, same))
alike_lists {X} d (x ∷ xs) (y ∷ ys) same each =
    ap (λ (z : X). z ∷ xs) (each 0 (omega arith)) ∙ ap (λ (l : List X). y ∷ l) (alike_lists d xs ys (omega (arith, same)) (λ i below. each (suc i) (omega (arith, below))))

pub lists_alone : {V : Type 0} (old new : List (Option (PortView V))) (whole left : List (List (Notice V))) → NoneAttached old → AreHandedOn old whole new left → left ≡ whole
lists_alone old new whole left none on =
    alike_lists [] left whole on.lists (λ rank below.
    let within : rank < length old = omega (arith, below, on.readers) in
    on.given rank None within ∙ ap (λ (v : Option (PortView _)). left_of v (get_or whole rank [])) (none_at old rank None none within))

pub ports_alone : {V : Type 0} (old new : List (Option (PortView V))) (whole left : List (List (Notice V))) → NoneAttached old → AreHandedOn old whole new left → NoneAttached new
ports_alone {V} old new whole left none on =
    subst NoneAttached (sym (alike_lists None new old on.count (λ rank below.
    let at = none_at old rank None none below in
    on.ports rank None below ∙ ap (λ (v : Option (PortView V)). port_with v (get_or whole rank [])) at ∙ sym at))) none

pub none_added : {V : Type 0} (ports : List (Option (PortView V))) → NoneAttached ports → NoneAttached (ports ++ None ∷ [])
none_added [] none = tt
none_added (None ∷ ports) none = none_added ports none
none_added (Some p ∷ ports) none = absurd none

-- the same lists are given
pub given_same : {V M : Type 0} (f : V → M) (before after : World M) (whole : BatchOutput V) (outputs : Vec (Output V Global) Global) → outputs.items ≡ whole.outputs.items → IsGiven f before after whole
    → IsGiven f before after (record { places = whole.places; answers = whole.answers; outputs = outputs })
given_same {V} f before after whole outputs e h = record {
  readers = ap length e ∙ h.readers;
  put = h.put
      ∙ ap (λ (os : List (Output V Global)). before.put ++ merged (record { answers = map reader.answer_view whole.answers.items; told = told_in f os; sent = sent_in os }) (length os) whole.places.items) (sym e);
  told = λ rank below. h.told rank (subst (λ (os : List (Output V Global)). rank < length os) e below) ∙ ap (λ (os : List (Output V Global)). notices_by rank before.put ++ told_in f os rank) (sym e);
  in_order = record {
    rising = h.in_order.rising;
    said = h.in_order.said;
    told = λ rank. subst (λ (os : List (Output V Global)). AreNoticesAlong whole.places.items (told_in f os rank)) (sym e) (h.in_order.told rank);
    sent = λ rank. subst (λ (os : List (Output V Global)). AreAnswersAlong whole.places.items (sent_in os rank)) (sym e) (h.in_order.sent rank);
  };
}

pub outcome_same : {V M : Type 0} (f : V → M) (before after : World M) (whole outcome : Outcome V Global) → outcome.notices.items ≡ whole.notices.items → outcome.answers ≡ whole.answers → Adds f before after whole → Adds f before after outcome
outcome_same {V} f before after whole outcome notices answers h = record {
  readers = ap length notices ∙ h.readers;
  notices = λ rank other below. h.notices rank other below ∙ ap (λ (ls : List (Vec (Notice V) Global)). notices_by rank before.put ++ notices_in f (get_or ls rank other)) (sym notices);
  answers = h.answers ∙ ap (λ (sent : Vec (Answer Global) Global). answers_in before.put ++ map answer_view sent.items) (sym answers);
}

list_at : {V : Type 0} (lists : List (Vec (Notice V) Global)) (i : ℕ) (other : Vec (Notice V) Global) → i < length lists → (get_or lists i other).items ≡ get_or (listed lists) i []
list_at [] i other below = absurd (omega (arith, below))
list_at (l ∷ lists) zero other below = refl
list_at (l ∷ lists) (suc i) other below = list_at lists i other (omega (arith, below))

-- the same notices, in other lists
pub outcome_alone : {V M : Type 0} (f : V → M) (before after : World M) (whole outcome : Outcome V Global) → listed outcome.notices.items ≡ listed whole.notices.items → outcome.answers ≡ whole.answers
    → Adds f before after whole → Adds f before after outcome
outcome_alone {V} f before after whole outcome notices answers h = record {
  readers = count ∙ h.readers;
  notices = λ rank other below.
      let inside : rank < length whole.notices.items = omega (arith, below, h.readers) in
      let within : rank < length outcome.notices.items = omega (arith, inside, count) in
      h.notices rank other below
      ∙ ap (λ (l : List (Notice V)). notices_by rank before.put ++ map (reader.notice_view f) l)
      (list_at whole.notices.items rank other inside ∙ ap (λ (l : List (List (Notice V))). get_or l rank []) (sym notices) ∙ sym (list_at outcome.notices.items rank other within));
  answers = h.answers ∙ ap (λ (sent : Vec (Answer Global) Global). answers_in before.put ++ map answer_view sent.items) (sym answers);
}
  where
    count : length outcome.notices.items ≡ length whole.notices.items
    count = sym (length-map outcome.notices.items (λ (l : Vec (Notice V) Global). l.items)) ∙ ap length notices ∙ length-map whole.notices.items (λ (l : Vec (Notice V) Global). l.items)
