-- The line of an entry of a reader's cache (DDS 1.4, 2.2.2.5.1).
use Rattle.std.specs.Prelude.{ℕ, List, ◌++◌, codes}
use Rattle.std.specs.Fmt.{decimal}
use Rattle.rtps_types.specs.declared.identity.KeyHash.{KeyHash}
use Rattle.rtps_types.specs.Number.{value_of}
use Rattle.dds_cache.specs.declared.entry.Content.{Content}
use Rattle.dds_cache.specs.declared.entry.Content.TheVariants as content
use Rattle.dds_cache.specs.declared.entry.Sample.{Sample}
use Rattle.dds_cache.specs.declared.state.InstanceState.{InstanceState}
use Rattle.dds_cache.specs.declared.state.InstanceState.TheVariants as instance
use Rattle.dds_cache.specs.declared.state.SampleState.{SampleState}
use Rattle.dds_cache.specs.declared.state.SampleState.TheVariants as sample
use Rattle.dds_cache.specs.declared.state.ViewState.{ViewState}
use Rattle.dds_cache.specs.declared.state.ViewState.TheVariants as view
use Rattle.rtps_ascii.specs.Hex.{hex_text}
use Rattle.rtps_events.specs.Line.{◌then◌, time_text}
use Rattle.rtps_lines.specs.Guid.{guid_text}

-- the words of the states (DDS 1.4, 2.2.2.5.1)
abbrev pub sample_word : SampleState → List ℕ
sample_word sample.Read = codes "Read"
sample_word sample.NotRead = codes "NotRead"

abbrev pub view_word : ViewState → List ℕ
view_word view.New = codes "New"
view_word view.NotNew = codes "NotNew"

abbrev pub instance_word : InstanceState → List ℕ
instance_word instance.Alive = codes "Alive"
instance_word instance.Disposed = codes "Disposed"
instance_word instance.NoWriters = codes "NoWriters"

abbrev pub states_text : SampleState → ViewState → InstanceState → List ℕ
states_text s v i = sample_word s then view_word v then instance_word i

-- the content of an entry: a value, or the disposal of an instance with the hash of its key
abbrev pub content_text : {M : Type 0} → (M → List ℕ) → KeyHash → Content M → List ℕ
content_text text k (content.Value m) = codes "value" then text m
content_text text k content.Disposed = codes "disposed" then hex_text k.0

-- the reader's rank, and the writer, number and time of the change
abbrev pub change_text : {M : Type 0} → ℕ → Sample M → List ℕ
change_text rank s =
    codes "entry" then decimal rank then guid_text s.writer then decimal (value_of s.number)
    then time_text s.time

-- the line of an entry of the reader of a rank, given the texts of values
abbrev pub entry_line : {M : Type 0} → (M → List ℕ) → ℕ → Sample M → List ℕ
entry_line text rank s =
    change_text rank s then states_text s.sample s.view s.instance
    then (content_text text s.key s.body ++ codes "\n")

-- the view of the content of an entry
abbrev pub content_view : {V M : Type 0} → (V → M) → Content V → Content M
content_view f (content.Value v) = content.Value (f v)
content_view f content.Disposed = content.Disposed

-- the view of an entry as a call returns it
abbrev pub sample_view : {V M : Type 0} → (V → M) → Sample V → Sample M
sample_view f s = record {
  place = s.place;
  writer = s.writer;
  number = s.number;
  time = s.time;
  key = s.key;
  body = content_view f s.body;
  sample = s.sample;
  view = s.view;
  instance = s.instance;
}
