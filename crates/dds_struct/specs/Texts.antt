-- A string can be written as part of a key (CORBA CDR 9.3.2.7).
use Rattle.std.specs.Prelude.{ℕ, List}
use Rattle.std.specs.String.{string_bytes}
use Rattle.std.proofs.lemmas.Str.{IsUtf8-from_is_utf8}
use Rattle.rtps_cdr.specs.Cdr.{Text as TextType}
use Rattle.rtps_cdr.specs.Writing.{Fits}
use Rattle.dds_struct.specs.declared.text.Text.{Text}

-- the octets of a string
abbrev pub text_view : Text → List ℕ
text_view t = string_bytes t.text

-- a string can be written as a value of its type
pub text_fits : (t : Text) → Fits TextType (text_view t)
text_fits t = (t.short, IsUtf8-from_is_utf8 (string_bytes t.text) t.utf8)
