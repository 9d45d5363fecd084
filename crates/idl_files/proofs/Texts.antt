-- The texts of files, and the type that they declare.
use Rattle.std.proofs.Common.{◌≡◌, ◌≢◌, ◌<◌, ◌∙◌, ◌++◌, ◌+◌, ◌-◌, ℕ, List, [], ◌∷◌, length, map, Option, Result, Ok, Err, OnOk, IfErr, IfOk, IfSome, IsUtf8, Some, get_or, take, ap, ap₂, arith, inl, inr, subst, sym, append_assoc}
use Rattle.std.specs.Prelude.{All}
use Rattle.std.specs.BTreeMap.{get_by_text}
use Rattle.std.proofs.lemmas.List.{length-map, map_more, map_push}
use Rattle.std.proofs.lemmas.List.Elements.{All-map}
use Rattle.std.proofs.Math.ListN.{get_or-map}
use Rattle.dds_idl.specs.declared.declarations.Declarations.{Declarations}
use Rattle.dds_idl.specs.declared.declarations.Meaning.TheVariants.{Described}
use Rattle.dds_idl.specs.declared.source.Source.{Source}
use Rattle.dds_xcdr.specs.TopicType.{topic_type}
use Rattle.dds_xcdr.specs.declared.member.TypeId.{TypeId}
use Rattle.dds_xcdr.specs.declared.topic_type.TopicType.{TopicType}
use Rattle.idl_files.specs.Parts.{Text}
use Rattle.idl_files.specs.Parts.{parts_of}
use Rattle.idl_files.specs.Types.{AddsTexts, AreSources, Declare, IsDeclared, IsDeclaredCause, IsTextsCause, IsUndeclared, IsUnread, named, said}
use Rattle.idl_files.specs.declared.fault.TypesFault.{TypesFault}
use Rattle.idl_files.specs.declared.files.FileText.{FileText}
use Rattle.idl_files.specs.declared.fault.TypesFault.TheVariants.{CannotRead, Idl, NoMemory, NoType, TooManyFiles}

-- what a file of this name holds, as far as it is known
abbrev Holds : (List ℕ → Option (List ℕ)) → Text → FileText → Type 0
Holds holds name text = (text.name.now ≡ name) × IfSome (holds name) (λ octets. text.octets.items ≡ octets)

-- the first file is the only one
pub texts_last : (holds : List ℕ → Option (List ℕ)) (names first : Text) (most : ℕ) (old new : List FileText) (text : FileText)
    → parts_of names ≡ first ∷ [] → Holds holds first text → new ≡ old ++ text ∷ [] → 0 < most → AddsTexts holds names most old new
texts_last holds names first most old new text e held added some = (text ∷ [], added, rw e (held.0, held.1, tt), rw e some)

texts_more : (holds : List ℕ → Option (List ℕ)) (names first rest : Text) (most : ℕ) (old pushed new : List FileText) (text : FileText)
    → parts_of names ≡ first ∷ parts_of rest → Holds holds first text → pushed ≡ old ++ text ∷ [] → 0 < most
    → AddsTexts holds rest (most - 1) pushed new → AddsTexts holds names most old new
texts_more holds names first rest most old pushed new text e held added some h = (
  text ∷ h.0,
  h.1 ∙ ap (λ l. l ++ h.0) added ∙ append_assoc old (text ∷ []) h.0,
  rw e (held.0, held.1, h.2),
  rw e (omega (arith, h.3)),
)

-- or others follow it
pub texts_all : (holds : List ℕ → Option (List ℕ)) (names first rest : Text) (most : ℕ) (old pushed new : List FileText) (text : FileText) (r : Result (Unit {0}) TypesFault)
    → parts_of names ≡ first ∷ parts_of rest → Holds holds first text → pushed ≡ old ++ text ∷ [] → 0 < most
    → OnOk r (AddsTexts holds rest (most - 1) pushed new) → OnOk r (AddsTexts holds names most old new)
texts_all holds names first rest most old pushed new text (Ok u) e held added some h = texts_more holds names first rest most old pushed new text e held added some h
texts_all holds names first rest most old pushed new text (Err fault) e held added some h = tt

-- the first file can't be read
pub unread_first : (names first : Text) (others : List Text) (most : ℕ) (fault : TypesFault) → parts_of names ≡ first ∷ others → IsUnread first fault → IsTextsCause names most fault
unread_first names first others most (CannotRead name) e h = rw e (inl h)
unread_first names first others most NoMemory e h = h
unread_first names first others most TooManyFiles e h = absurd h
unread_first names first others most (Idl error) e h = absurd h
unread_first names first others most (NoType name) e h = absurd h

cause_more : (names first rest : Text) (most : ℕ) (fault : TypesFault) → parts_of names ≡ first ∷ parts_of rest → 0 < most
    → IsTextsCause rest (most - 1) fault → IsTextsCause names most fault
cause_more names first rest most TooManyFiles e some h = rw e (omega (arith, h, some))
cause_more names first rest most (CannotRead name) e some h = rw e (inr h)
cause_more names first rest most NoMemory e some h = h
cause_more names first rest most (Idl error) e some h = absurd h
cause_more names first rest most (NoType name) e some h = absurd h

-- or others can't be had
pub texts_cause : (names first rest : Text) (most : ℕ) (r : Result (Unit {0}) TypesFault) → parts_of names ≡ first ∷ parts_of rest → 0 < most
    → IfErr r (IsTextsCause rest (most - 1)) → IfErr r (IsTextsCause names most)
texts_cause names first rest most (Ok u) e some h = tt
texts_cause names first rest most (Err fault) e some h = cause_more names first rest most fault e some h

-- ---- what they declare

-- one more source
pub sources_more : (texts : List FileText) (sources pushed : List Source) (k : ℕ) (d : FileText) (source : Source) → k < length texts
    → AreSources (take k texts) sources → pushed ≡ sources ++ source ∷ [] → said source ≡ named (get_or texts k d) → AreSources (take (k + 1) texts) pushed
sources_more texts sources pushed k d source lt h added same =
    ap (map said) added ∙ map_push said sources source ∙ ap₂ (λ xs x. xs ++ x ∷ []) h same ∙ sym (map_more named texts k d lt)

-- what is UTF-8 as a source is so as the text of a file
pub utf8_texts : (texts : List FileText) (sources : List Source) → AreSources texts sources → All (λ source. IsUtf8 source.text.now) sources
    → All (λ text. IsUtf8 text.octets.items) texts
utf8_texts texts sources e all k d lt =
    let Is : Text × Text → Type 0 = λ p. IsUtf8 p.1 in
    let each : All Is (map named texts) = subst (All Is) e (All-map Is said sources all) in
    subst Is (get_or-map named texts k d) (each k (named d) (rw (length-map texts named) lt))

-- no type of the name is declared
pub declares_none : (texts : List FileText) (name : Text) (declared : Declarations) (fault : TypesFault)
    → ((id : TypeId) → id.0 < length declared.types → get_by_text declared.names name ≢ Some (Described id)) → IsUndeclared name fault
    → IsDeclaredCause texts name fault
declares_none texts name declared (NoType other) none h = (h, (declared, none))
declares_none texts name declared NoMemory none h = h
declares_none texts name declared TooManyFiles none h = absurd h
declares_none texts name declared (CannotRead file) none h = absurd h
declares_none texts name declared (Idl error) none h = absurd h

-- the type of a name in files is the one that their texts declare
pub declared_all : (holds : List ℕ → Option (List ℕ)) (names name : Text) (old texts : List FileText) (r : Result TopicType TypesFault) → old ≡ []
    → AddsTexts holds names 16 old texts → IfOk r (λ t. Declare texts name (topic_type t)) → IfOk r (λ t. IsDeclared holds names name (topic_type t))
declared_all holds names name old texts (Err fault) none h declared = tt
declared_all holds names name old texts (Ok topic) none h declared =
    let all : texts ≡ h.0 = h.1 ∙ ap (λ l. l ++ h.0) none in
    (texts, rw all h.2, h.3, declared)
