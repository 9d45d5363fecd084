-- The results of a batch, in lists by rank and by place (DDSI-RTPS 8.3.4, 8.4.10).
use Rattle.std.specs.Prelude.{◌≡◌, ℕ, zero, suc, ◌<◌, List, [], ◌∷◌, ◌++◌, length, map}
use Rattle.std.specs.List.{flat_map}
use Rattle.std.specs.declared.alloc.Global.{Global}
use Rattle.rtps_types.specs.declared.place.Place.{Place}
use Rattle.rtps_proxy.specs.Replies.{ReplyView}
use Rattle.rtps_reader.specs.declared.notice.Notice.{Notice}
use Rattle.rtps_reader.specs.declared.notice.Output.{Output}
use Rattle.rtps_reader.specs.Notice as reader
use Rattle.rtps_run.specs.Seen.{notices_by, reader_count}
use Rattle.rtps_run.specs.World.{ReportView, World}
use Rattle.rtps_run.specs.Merged.{AreRising, PartsByRank, answers_at, merged, notices_at}
use Rattle.rtps_run.specs.declared.batch_output.BatchOutput.{BatchOutput}

-- the notices of the reader of a rank; none if there is no such reader
abbrev pub told_in : {V M : Type 0} → (V → M) → List (Output V Global) → ℕ → List (Notice M)
told_in f [] rank = []
told_in f (o ∷ os) zero = map (reader.notice_view f) o.notices.items
told_in f (o ∷ os) (suc rank) = told_in f os rank

-- the answers of the reader of a rank, in a list of outputs by rank; none if there is no such
-- reader
abbrev pub sent_in : {V A : Type 0} → List (Output V A) → ℕ → List (Place × ReplyView)
sent_in [] rank = []
sent_in (o ∷ os) zero = map reader.answer_view o.answers.items
sent_in (o ∷ os) (suc rank) = sent_in os rank

-- the parts of a batch: discovery's answers, and the notices and the answers of each reader
abbrev pub parts_given : {V M : Type 0} → (V → M) → BatchOutput V → PartsByRank M
parts_given f given = record {
  answers = map reader.answer_view given.answers.items;
  told = told_in f given.outputs.items;
  sent = sent_in given.outputs.items;
}

-- what a batch puts out, in the order of the run
abbrev pub given_puts : {V M : Type 0} → (V → M) → BatchOutput V → List (ReportView M)
given_puts f given =
    merged (parts_given f given) (length given.outputs.items) given.places.items

-- the parts of a batch without its notices
abbrev pub answers_given : {V : Type 0} → BatchOutput V → PartsByRank V
answers_given given = record {
  answers = map reader.answer_view given.answers.items;
  told = λ rank. [];
  sent = sent_in given.outputs.items;
}

-- the answers of a batch, in the order of the run
abbrev pub given_answers : {V : Type 0} → BatchOutput V → List (ReportView V)
given_answers given =
    merged (answers_given given) (length given.outputs.items) given.places.items

-- a list is sorted by place: collecting its items place by place gives the same list
abbrev pub AreNoticesAlong : {M : Type 0} → List Place → List (Notice M) → Type 0
AreNoticesAlong places notices = flat_map (λ p. notices_at p notices) places ≡ notices

abbrev pub AreAnswersAlong : List Place → List (Place × ReplyView) → Type 0
AreAnswersAlong places answers = flat_map (λ p. answers_at p answers) places ≡ answers

-- the lists of a batch are sorted by place, and its places rise
pub record AreByPlace {M : Type 0} (places : List Place) (parts : PartsByRank M) : Type 0 where
  pub rising : AreRising places
  pub said : AreAnswersAlong places parts.answers
  pub told : (rank : ℕ) → AreNoticesAlong places (parts.told rank)
  pub sent : (rank : ℕ) → AreAnswersAlong places (parts.sent rank)

-- so are the lists that a batch gives
abbrev pub IsInOrder : {V M : Type 0} → (V → M) → BatchOutput V → Type 0
IsInOrder f given = AreByPlace given.places.items (parts_given f given)

-- so are its answers
pub record AreAnswersInOrder {V : Type 0} (given : BatchOutput V) : Type 0 where
  pub rising : AreRising given.places.items
  pub said : AreAnswersAlong given.places.items (map reader.answer_view given.answers.items)
  pub sent : (rank : ℕ) → AreAnswersAlong given.places.items (sent_in given.outputs.items rank)

-- The results of a batch are all that was put out between two worlds: its parts, merged by its
-- places; and each reader's list has all notices of that reader. The lists are sorted by place.
pub record IsGiven {V M : Type 0} (f : V → M) (before after : World M) (given : BatchOutput V)
    : Type 0 where
  pub readers : length given.outputs.items ≡ reader_count after
  pub put : after.put ≡ before.put ++ given_puts f given
  pub told : (rank : ℕ) → rank < length given.outputs.items → notices_by rank after.put
      ≡ notices_by rank before.put ++ told_in f given.outputs.items rank
  pub in_order : IsInOrder f given

-- the lists are empty
pub record HoldsNothing {V : Type 0} (given : BatchOutput V) : Type 0 where
  pub places : given.places.items ≡ []
  pub answers : given.answers.items ≡ []
  pub outputs : given.outputs.items ≡ []
