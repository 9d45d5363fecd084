-- The text of a presented change (DDS 1.4, 2.2.2.5.1.3).
use Rattle.std.specs.Prelude.{ℕ, List, codes}
use Rattle.std.specs.Fmt.{decimal}
use Rattle.dds_topic.specs.Answer.{code_of}
use Rattle.rtps_reader.specs.declared.body.Body.{Body}
use Rattle.rtps_reader.specs.declared.body.Body.TheVariants as body
use Rattle.rtps_ascii.specs.Hex.{hex_text}
use Rattle.rtps_events.specs.Line.{◌then◌}

-- the body of a presented change (DDS 1.4, 2.2.2.5.1.3): a value, the end of an instance with the
-- hash of its key, or why the payload is unread
abbrev pub sample_text : {M : Type 0} → (M → List ℕ) → Body M → List ℕ
sample_text text (body.Value h m) = codes "value" then text m
sample_text text (body.Disposed h) = codes "disposed" then hex_text h.0
sample_text text (body.Unregistered h) = codes "unregistered" then hex_text h.0
sample_text text (body.Unread u) = codes "unread" then decimal (code_of u)
