-- The result of a read.
use Rattle.std.specs.Prelude.{ℕ, List, map, Option, Some, None, slice_get}
use Rattle.std.specs.Borrow.{Bor}
use Rattle.std.specs.Map.{lookup}
use Rattle.std.specs.Option.{option_map}
use Rattle.dds_cache.specs.declared.answers.Answers.{Answers}
use Rattle.dds_cache.specs.declared.choose.Chosen.{Chosen}
use Rattle.dds_cache.specs.declared.entry.Content.{Content}
use Rattle.dds_cache.specs.declared.entry.Content.TheVariants as content
use Rattle.dds_cache.specs.declared.entry.Entry.{Entry}
use Rattle.dds_cache.specs.declared.entry.Sample.{Sample}
use Rattle.dds_cache.specs.Effects.{shown_as}
use Rattle.dds_cache.specs.Standing.{is_number}

-- the content of an entry whose value is borrowed, with the value itself
abbrev pub lent_content : {M : Type 0} → Content (Bor M) → Content M
lent_content (content.Value v) = content.Value v.now
lent_content content.Disposed = content.Disposed

-- a sample whose value is borrowed, with the value itself
abbrev pub lent_sample : {M : Type 0} → Sample (Bor M) → Sample M
lent_sample s = record {
  place = s.place;
  writer = s.writer;
  number = s.number;
  time = s.time;
  key = s.key;
  body = lent_content s.body;
  sample = s.sample;
  view = s.view;
  instance = s.instance;
}

-- the answer for a chosen entry: the entry of its number, with the states it was chosen with
abbrev pub answer_at : {M : Type 0} → List (ℕ × Entry M) → Chosen → Option (Sample M)
answer_at es c = option_map (λ e. shown_as e c) (lookup (is_number c.number) es)

-- the answers in order
abbrev pub answers_in : {M A : Type 0} → Answers M A → List (Option (Sample M))
answers_in a = map (answer_at a.entries.entries) a.answered.items

-- nothing, for a place out of bounds as for an empty one
abbrev pub joined : {X : Type 0} → Option (Option X) → Option X
joined None = None
joined (Some o) = o

-- the answer at an index, if there is one
abbrev pub nth_answer : {X : Type 0} → List (Option X) → ℕ → Option X
nth_answer answers at = joined (slice_get answers at)
