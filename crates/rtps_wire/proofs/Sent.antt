-- The octets of answers are written field by field, and read again.
use Rattle.std.proofs.Common.{◌≡◌, ℕ, zero, suc, ◌+◌, ◌-◌, ◌*◌, ◌/◌, ◌%◌, ◌^◌, ◌≤◌, ◌<◌, ℤ, pos, Bool, true, false, leb, ltb, List, [], ◌∷◌, ◌++◌, length, take, drop, map, filter, Some, None, Ok, refl, sym, ap, ◌∙◌, arith}
use Rattle.std.specs.Prelude.{FitsSigned, MatchBool, replicate, slice_index, ◌==◌, if◌then◌else◌}
use Rattle.std.specs.Int.{w64}
use Rattle.std.specs.Option.{option_map}
use Rattle.std.specs.List.{range_with_len}
use Rattle.std.proofs.lemmas.Bool.{le-leb, le-ltb}
use Rattle.std.proofs.lemmas.List.{append-nil, append_assoc, drop_at, get_or-take, get_or_append_left, length-append, length-take-le, take_all, take_at}
use Rattle.rtps_types.specs.declared.field.Endian.TheVariants.{Little}
use Rattle.rtps_types.specs.declared.identity.EntityId.{EntityId}
use Rattle.rtps_types.specs.declared.identity.GuidPrefix.{GuidPrefix}
use Rattle.rtps_types.specs.Number.{value_of}
use Rattle.rtps_types.specs.Field.{number, number_at, octets_at, put_at, sequence_number_at, encoded, encoded_sn}
use Rattle.rtps_types.specs.NumberSet.{NumberSet, members, names}
use Rattle.rtps_types.specs.Sets.{frag_view, sn_view}
use Rattle.rtps_types.proofs.Puts.{length-encoded, number-encoded, put_number, put_sn_reads}
use Rattle.rtps_wire.specs.AckNack.{TellsAckNack, acknack_body, acknack_flags, acknack_octets}
use Rattle.rtps_wire.specs.Answering.{answer_items, answering, opened, our_header, read_set, read_words, sent_words, encoded_words, word_count}
use Rattle.rtps_wire.specs.NackFrag.{TellsNackFrag, nack_frag_body, nack_frag_octets}
use Rattle.rtps_wire.specs.declared.acknack.AckNack.{AckNack}
use Rattle.rtps_wire.specs.declared.nack_frag.NackFrag.{NackFrag}
use Rattle.rtps_wire.specs.Fields.{endian_of, entity_at, positive}
use Rattle.rtps_wire.specs.MessageHeader.{header_of}
use Rattle.rtps_wire.specs.Message.{IsFramed, IsMessage, IsReading}
use Rattle.rtps_wire.specs.NumberSet.{sn_set_at, words_at, words_in}
use Rattle.rtps_wire.specs.OneReading.{IsOnly}
use Rattle.rtps_wire.specs.Reading.{runs_to_end}
use Rattle.rtps_wire.specs.Submessage.{InfoDestination, Skipped, parts_of}
use Rattle.rtps_wire.proofs.OneReading.{message_is_only}

-- ---- words

length-encoded_words : (words : List ℕ) → length (encoded_words words) ≡ 4 * length words
length-encoded_words [] = refl
length-encoded_words (w ∷ ws) = let l = length-encoded_words ws in let f = length-append (encoded Little 4 w) (encoded_words ws) in omega (arith, l, f)

cons_is : (x y : ℕ) (xs ys : List ℕ) → x ≡ y → xs ≡ ys → x ∷ xs ≡ y ∷ ys
cons_is x y xs ys a b = cc

-- words that were written are read again
pub words_again : (words rest : List ℕ) → ((k : ℕ) → k < length words → slice_index words k < 2 ^ 32) → words_in Little (length words) (encoded_words words ++ rest) ≡ words
words_again [] rest small = refl
words_again (w ∷ ws) rest small =
    let first = number-encoded Little 4 w (encoded_words ws ++ rest) (small 0 (omega arith)) in
    cons_is _ w _ ws first (words_again ws rest (λ k h. small (suc k) (omega arith)))

-- ---- fields at their places

-- octets stay as they are where a field is put in that is there already
put_self : (at : ℕ) (front field rest : List ℕ) → length front ≡ at → put_at at field (front ++ (field ++ rest)) ≡ front ++ (field ++ rest)
put_self at front field rest h =
    let place : length (front ++ field) ≡ at + length field = omega (arith, length-append front field) in
    let behind : drop (at + length field) (front ++ (field ++ rest)) ≡ rest = ap (drop (at + length field)) (sym (append_assoc front field rest)) ∙ drop_at (front ++ field) rest (at + length field) place in
    rw (take_at front (field ++ rest) at h, behind) refl

number_there : (at n x : ℕ) (front rest : List ℕ) → length front ≡ at → x < 256 ^ n → number_at Little n (front ++ (encoded Little n x ++ rest)) at ≡ Some x
number_there at n x front rest h small =
    let octets = front ++ (encoded Little n x ++ rest) in
    let len = length-encoded Little n x in
    let count = length-append front (encoded Little n x ++ rest) in
    let more = length-append (encoded Little n x) rest in
    ap (λ (o : List ℕ). number_at Little n o at) (sym (put_self at front (encoded Little n x) rest h)) ∙ put_number at n Little x octets small (omega arith)

length-encoded_sn : (z : ℤ) → length (encoded_sn Little z) ≡ 8
length-encoded_sn z = refl

sn_there : (at : ℕ) (z : ℤ) (front rest : List ℕ) → length front ≡ at → FitsSigned w64 z → sequence_number_at Little (front ++ (encoded_sn Little z ++ rest)) at ≡ Some z
sn_there at z front rest h fits =
    let octets = front ++ (encoded_sn Little z ++ rest) in
    let len = length-encoded_sn z in
    let count = length-append front (encoded_sn Little z ++ rest) in
    let more = length-append (encoded_sn Little z) rest in
    ap (λ (o : List ℕ). sequence_number_at Little o at) (sym (put_self at front (encoded_sn Little z) rest h)) ∙ put_sn_reads at Little z octets fits (omega arith)

octets_there : (at n : ℕ) (front field rest : List ℕ) → length front ≡ at → length field ≡ n → octets_at n (front ++ (field ++ rest)) at ≡ Some field
octets_there at n front field rest h len =
    let count = length-append front (field ++ rest) in
    let more = length-append field rest in
    let test : leb (at + n) (length (front ++ (field ++ rest))) ≡ true = le-leb _ _ (omega arith) in
    rw (test, drop_at front (field ++ rest) at h, take_at field rest n len) refl

words_there : (at n : ℕ) (front words rest : List ℕ) → length front ≡ at → length words ≡ n → words_in Little n (encoded_words words ++ rest) ≡ words → words_at Little n (front ++ (encoded_words words ++ rest)) at ≡ Some (words ++ replicate (8 - n) 0)
words_there at n front words rest h len again =
    let size = length-encoded_words words in
    let count = length-append front (encoded_words words ++ rest) in
    let more = length-append (encoded_words words) rest in
    let test : leb (at + 4 * n) (length (front ++ (encoded_words words ++ rest))) ≡ true = le-leb _ _ (omega arith) in
    rw (test, drop_at front (encoded_words words ++ rest) at h, again) refl

-- ---- the members of a set whose words after the last bit are zeros

same_offsets : (p q : ℕ → Bool) (k n : ℕ) → ((j : ℕ) → j < k + n → p j ≡ q j) → filter p (range_with_len k n) ≡ filter q (range_with_len k n)
same_offsets p q k zero h = refl
same_offsets p q k (suc n) h = rw (h k (omega arith), same_offsets p q (k + 1) n (λ j l. h j (omega arith))) refl

same_names : (s : NumberSet) (k : ℕ) → length s.words ≡ 8 → s.bits ≤ 256 → k < s.bits → names (read_words s) k ≡ names s.words k
same_names s k len few h =
    let taken : length (sent_words s) ≡ word_count s = length-take-le (word_count s) s.words (omega arith) in
    rw (get_or_append_left (sent_words s) (replicate (8 - word_count s) 0) 0 (k / 32) (omega arith), get_or-take (word_count s) s.words (k / 32) 0 (omega arith)) refl

pub same_members : (s : NumberSet) → length s.words ≡ 8 → s.bits ≤ 256 → members (read_set s) ≡ members s
same_members s len few = ap (map (λ offset. s.base + offset)) (same_offsets (names (read_words s)) (names s.words) 0 s.bits (λ j h. same_names s j len few (omega arith)))

-- as many words as hold the bits are read again
pub sent_again : (s : NumberSet) (n : ℕ) (rest : List ℕ) → n ≡ word_count s → length s.words ≡ 8 → s.bits ≤ 256 → words_in Little (length (take n s.words)) (encoded_words (take n s.words) ++ rest) ≡ take n s.words → words_in Little (word_count s) (encoded_words (sent_words s) ++ rest) ≡ sent_words s
sent_again s n rest e len few h =
    let count : length (take n s.words) ≡ n = length-take-le n s.words (omega arith) in
    rw (← e) (rw count at h)

-- ---- the message

submessage : ℕ → ℕ → List ℕ → List ℕ
submessage id flags body = id ∷ flags ∷ (encoded Little 2 (length body) ++ body)

length-opened : (own to : GuidPrefix) → length own.0 ≡ 12 → length to.0 ≡ 12 → length (opened own to) ≡ 36
length-opened own to o t = simp length-append (omega arith)

answering_is : (own to : GuidPrefix) (id flags : ℕ) (body : List ℕ) → answering own to id flags body ≡ opened own to ++ submessage id flags body
unfolding submessage
answering_is own to id flags body = simp append_assoc

either_way : (b : Bool) (left : List ℕ) (n m : ℕ) → left ≡ [] → m ≡ n → MatchBool b (left ≡ []) (m ≡ n)
either_way true left n m none h = none
either_way false left n m none h = h

framed_alone : (id flags : ℕ) (body : List ℕ) → endian_of flags ≡ Little → length body < 65536 → IsFramed id flags (submessage id flags body) body []
unfolding submessage
framed_alone id flags body e small =
    let n = length body in
    let again : n ≡ number (endian_of flags) 2 (encoded Little 2 n) = rw e (sym (number-encoded Little 2 n [] small)) in
    record {
      third = n % 256;
      fourth = n / 256 % 256;
      text = ap (λ (b : List ℕ). id ∷ flags ∷ (encoded Little 2 n ++ b)) (sym (append-nil body));
      size = either_way (runs_to_end id (number (endian_of flags) 2 (encoded Little 2 n))) [] (number (endian_of flags) 2 (encoded Little 2 n)) n refl again;
    }

pub framed_behind : (own to : GuidPrefix) (id flags : ℕ) (body : List ℕ) → length own.0 ≡ 12 → length to.0 ≡ 12 → endian_of flags ≡ Little → length body < 65536 → IsFramed id flags (drop 36 (answering own to id flags body)) body []
framed_behind own to id flags body o t e small =
    let is : drop 36 (answering own to id flags body) ≡ submessage id flags body = ap (drop 36) (answering_is own to id flags body) ∙ drop_at (opened own to) (submessage id flags body) 36 (length-opened own to o t) in
    rw is (framed_alone id flags body e small)

to_is : (to : GuidPrefix) → length to.0 ≡ 12 → parts_of 0x0e 1 to.0 ≡ Some (InfoDestination to)
unfolding parts_of
to_is to t =
    let test : leb 12 (length to.0) ≡ true = le-leb _ _ (omega arith) in
    rw (test, take_all 12 to.0 (omega arith)) refl

-- the octets after the header are the two submessages
two_items : (to : GuidPrefix) (id flags : ℕ) (body : List ℕ) → length to.0 ≡ 12 → endian_of flags ≡ Little → length body < 65536 → parts_of id flags body ≡ Some Skipped → IsReading (0x0e ∷ 1 ∷ 12 ∷ 0 ∷ (to.0 ++ submessage id flags body)) (answer_items to id flags) None
two_items to id flags body t e small skipped = (
  submessage id flags body,
  record { body = to.0; framed = record { third = 12; fourth = 0; text = refl; size = t }; valid = to_is to t },
  ([], record { body = body; framed = framed_alone id flags body e small; valid = skipped }, refl),
)

header_is : (own : GuidPrefix) (behind : List ℕ) → length own.0 ≡ 12 → header_of (82 ∷ 84 ∷ 80 ∷ 83 ∷ 2 ∷ 5 ∷ 0 ∷ 0 ∷ (own.0 ++ behind)) ≡ Ok (our_header own)
header_is own behind o =
    let count = length-append own.0 behind in
    let test : ltb (length (82 ∷ 84 ∷ 80 ∷ 83 ∷ 2 ∷ 5 ∷ 0 ∷ 0 ∷ (own.0 ++ behind))) 20 ≡ false = le-ltb _ _ (omega arith) in
    rw (test, take_at own.0 behind 12 o) refl

pub is_message : (own to : GuidPrefix) (id flags : ℕ) (body : List ℕ) → length own.0 ≡ 12 → length to.0 ≡ 12 → endian_of flags ≡ Little → length body < 65536 → parts_of id flags body ≡ Some Skipped → IsMessage (answering own to id flags body) (our_header own) (answer_items to id flags) None
is_message own to id flags body o t e small skipped =
    let behind = 0x0e ∷ 1 ∷ 12 ∷ 0 ∷ (to.0 ++ submessage id flags body) in
    let is : answering own to id flags body ≡ 82 ∷ 84 ∷ 80 ∷ 83 ∷ 2 ∷ 5 ∷ 0 ∷ 0 ∷ (own.0 ++ behind) = answering_is own to id flags body ∙ simp append_assoc in
    let all : IsMessage (82 ∷ 84 ∷ 80 ∷ 83 ∷ 2 ∷ 5 ∷ 0 ∷ 0 ∷ (own.0 ++ behind)) (our_header own) (answer_items to id flags) None = record {
      opening = header_is own behind o;
      behind = rw (drop_at own.0 behind 12 o) (two_items to id flags body t e small skipped);
    } in
    rw is all

-- ---- the fields

positive_is : (n : ℕ) → 1 ≤ n → positive (pos n) ≡ Some n
positive_is zero h = absurd (omega arith)
positive_is (suc n) h = refl

set_again : (body words : List ℕ) (base bits : ℕ) → 1 ≤ base → bits ≤ 256 → sequence_number_at Little body 8 ≡ Some (pos base) → number_at Little 4 body 16 ≡ Some bits → words_at Little ((bits + 31) / 32) body 20 ≡ Some words → sn_set_at Little body 8 ≡ Some (record { base = base; bits = bits; words = words })
unfolding sn_set_at
set_again body words base bits least few b c w =
    let test : leb bits 256 ≡ true = le-leb _ _ few in
    rw (b, positive_is base least, c, test, w) refl

-- what the written values are known to be
pub record AckNackIsSized (a : AckNack) : Type 0 where
  pub own : length a.reader.prefix.0 ≡ 12
  pub to : length a.writer.prefix.0 ≡ 12
  pub reader : length a.reader.entity.0 ≡ 4
  pub writer : length a.writer.entity.0 ≡ 4
  pub least : 1 ≤ a.missing.base
  pub signed : a.missing.base < 2 ^ 63
  pub few : a.missing.bits ≤ 256
  pub words : length a.missing.words ≡ 8
  pub again : (rest : List ℕ) → words_in Little (word_count (sn_view a.missing)) (encoded_words (sent_words (sn_view a.missing)) ++ rest) ≡ sent_words (sn_view a.missing)
  pub count : a.count < 2 ^ 32

-- six and seven fields, split at each place
six_1 : (a b c d e f : List ℕ) → a ++ b ++ c ++ d ++ e ++ f ≡ a ++ (b ++ (c ++ (d ++ (e ++ f))))
six_1 a b c d e f = simp append_assoc

six_2 : (a b c d e f : List ℕ) → a ++ b ++ c ++ d ++ e ++ f ≡ (a ++ b) ++ (c ++ (d ++ (e ++ f)))
six_2 a b c d e f = simp append_assoc

six_3 : (a b c d e f : List ℕ) → a ++ b ++ c ++ d ++ e ++ f ≡ (a ++ b ++ c) ++ (d ++ (e ++ f))
six_3 a b c d e f = simp append_assoc

six_4 : (a b c d e f : List ℕ) → a ++ b ++ c ++ d ++ e ++ f ≡ (a ++ b ++ c ++ d) ++ (e ++ f)
six_4 a b c d e f = simp append_assoc

six_5 : (a b c d e f : List ℕ) → a ++ b ++ c ++ d ++ e ++ f ≡ (a ++ b ++ c ++ d ++ e) ++ (f ++ [])
six_5 a b c d e f = simp (append_assoc, append-nil)

length_2 : (a b : List ℕ) (m n : ℕ) → length a ≡ m → length b ≡ n → length (a ++ b) ≡ m + n
length_2 a b m n h k = omega (arith, length-append a b)

entity_there : (at : ℕ) (front rest body : List ℕ) (id : EntityId) → body ≡ front ++ (id.0 ++ rest) → length front ≡ at → length id.0 ≡ 4 → entity_at body at ≡ Some id
entity_there at front rest body id is h len =
    ap (λ (o : List ℕ). entity_at o at) is ∙ ap (option_map (λ (field : List ℕ). let id : EntityId = record { 0 = field } in id)) (octets_there at 4 front id.0 rest h len)

-- the fields of an ACKNACK's body
pub record AckNackFields (a : AckNack) (body : List ℕ) : Type 0 where
  pub length : length body ≡ 24 + 4 * word_count (sn_view a.missing)
  pub reader : entity_at body 0 ≡ Some a.reader.entity
  pub writer : entity_at body 4 ≡ Some a.writer.entity
  pub missing : sn_set_at Little body 8 ≡ Some (read_set (sn_view a.missing))
  pub count : number_at Little 4 body (20 + 4 * word_count (sn_view a.missing)) ≡ Some a.count

acknack_fields : (a : AckNack) → AckNackIsSized a → AckNackFields a (acknack_body a)
acknack_fields a h =
    let s = sn_view a.missing in
    let n = word_count s in
    let r = a.reader.entity.0 in
    let w = a.writer.entity.0 in
    let sn = encoded_sn Little (pos s.base) in
    let bits = encoded Little 4 s.bits in
    let words = encoded_words (sent_words s) in
    let count = encoded Little 4 a.count in
    let two = length_2 r w 4 4 h.reader h.writer in
    let three = length_2 (r ++ w) sn 8 8 two refl in
    let four = length_2 (r ++ w ++ sn) bits 16 4 three refl in
    let taken : length (sent_words s) ≡ n = length-take-le n s.words (omega (arith, h.words, h.few)) in
    let size : length words ≡ 4 * n = length-encoded_words (sent_words s) ∙ ap (λ (m : ℕ). 4 * m) taken in
    let five = length_2 (r ++ w ++ sn ++ bits) words 20 (4 * n) four size in
    let all = length_2 (r ++ w ++ sn ++ bits ++ words) count (20 + 4 * n) 4 five refl in
    let fits : FitsSigned w64 (pos s.base) = record { sfits = h.signed } in
    let few : s.bits < 256 ^ 4 = omega (arith, h.few) in
    let base_is = ap (λ (o : List ℕ). sequence_number_at Little o 8) (six_2 r w sn bits words count) ∙ sn_there 8 (pos s.base) (r ++ w) (bits ++ (words ++ count)) two fits in
    let bits_are = ap (λ (o : List ℕ). number_at Little 4 o 16) (six_3 r w sn bits words count) ∙ number_there 16 4 s.bits (r ++ w ++ sn) (words ++ count) three few in
    let words_are = ap (λ (o : List ℕ). words_at Little n o 20) (six_4 r w sn bits words count) ∙ words_there 20 n (r ++ w ++ sn ++ bits) (sent_words s) count four taken (h.again count) in
    record {
      length = all ∙ omega arith;
      reader = entity_there 0 [] (w ++ (sn ++ (bits ++ (words ++ count)))) (acknack_body a) a.reader.entity (six_1 r w sn bits words count) refl h.reader;
      writer = entity_there 4 r (sn ++ (bits ++ (words ++ count))) (acknack_body a) a.writer.entity (six_1 r w sn bits words count) h.reader h.writer;
      missing = set_again (acknack_body a) (read_words s) s.base s.bits h.least h.few base_is bits_are words_are;
      count = ap (λ (o : List ℕ). number_at Little 4 o (20 + 4 * n)) (six_5 r w sn bits words count) ∙ number_there (20 + 4 * n) 4 a.count (r ++ w ++ sn ++ bits ++ words) [] five h.count;
    }

acknack_order : (s : NumberSet) → endian_of (acknack_flags s) ≡ Little
acknack_order s = by (s.bits == 0)
  where
    by : (b : Bool) → endian_of (if b then 3 else 1) ≡ Little
    by true = refl
    by false = refl

acknack_skipped : (flags : ℕ) (body : List ℕ) → parts_of 0x06 flags body ≡ Some Skipped
unfolding parts_of
acknack_skipped flags body = refl

-- an ACKNACK's octets are one message, of which a writer reads what was meant
pub acknack_tells : (a : AckNack) → AckNackIsSized a → IsOnly (acknack_octets a) (our_header a.reader.prefix) (answer_items a.writer.prefix 0x06 (acknack_flags (sn_view a.missing))) None × TellsAckNack a (acknack_octets a)
unfolding acknack_octets
acknack_tells a h =
    let s = sn_view a.missing in
    let f = acknack_fields a h in
    let small : length (acknack_body a) < 65536 = omega (arith, f.length, h.few) in
    let message = is_message a.reader.prefix a.writer.prefix 0x06 (acknack_flags s) (acknack_body a) h.own h.to (acknack_order s) small (acknack_skipped (acknack_flags s) (acknack_body a)) in (
      message_is_only (acknack_octets a) (our_header a.reader.prefix) (answer_items a.writer.prefix 0x06 (acknack_flags s)) None message,
      record {
        body = acknack_body a;
        framed = framed_behind a.reader.prefix a.writer.prefix 0x06 (acknack_flags s) (acknack_body a) h.own h.to (acknack_order s) small;
        reader = f.reader;
        writer = f.writer;
        missing = f.missing;
        members = same_members s h.words h.few;
        count = f.count;
      },
    )

regrouped : (front a b c d e f : List ℕ) → front ++ a ++ b ++ c ++ d ++ e ++ f ≡ front ++ (a ++ b ++ c ++ d ++ e ++ f)
regrouped front a b c d e f = simp append_assoc

-- the fields one after the other are the datagram
pub acknack_built : (a : AckNack) (n flags : ℕ) (words : List ℕ) → AckNackIsSized a → n ≡ 24 + 4 * word_count (sn_view a.missing) → flags ≡ acknack_flags (sn_view a.missing) → words ≡ sent_words (sn_view a.missing) → opened a.reader.prefix a.writer.prefix ++ (6 ∷ flags ∷ []) ++ encoded Little 2 n ++ a.reader.entity.0 ++ a.writer.entity.0 ++ encoded_sn Little (pos a.missing.base) ++ encoded Little 4 a.missing.bits ++ encoded_words words ++ encoded Little 4 a.count ≡ acknack_octets a
unfolding acknack_octets
acknack_built a n flags words h size f ws =
    let len : n ≡ length (acknack_body a) = size ∙ sym (acknack_fields a h).length in
    rw (f, ws, len) (regrouped (opened a.reader.prefix a.writer.prefix ++ (6 ∷ acknack_flags (sn_view a.missing) ∷ []) ++ encoded Little 2 (length (acknack_body a))) a.reader.entity.0 a.writer.entity.0 (encoded_sn Little (pos a.missing.base)) (encoded Little 4 a.missing.bits) (encoded_words (sent_words (sn_view a.missing))) (encoded Little 4 a.count))

-- ---- NACK_FRAG

seven_1 : (a b c d e f g : List ℕ) → a ++ b ++ c ++ d ++ e ++ f ++ g ≡ a ++ (b ++ (c ++ (d ++ (e ++ (f ++ g)))))
seven_1 a b c d e f g = simp append_assoc

seven_2 : (a b c d e f g : List ℕ) → a ++ b ++ c ++ d ++ e ++ f ++ g ≡ (a ++ b) ++ (c ++ (d ++ (e ++ (f ++ g))))
seven_2 a b c d e f g = simp append_assoc

seven_3 : (a b c d e f g : List ℕ) → a ++ b ++ c ++ d ++ e ++ f ++ g ≡ (a ++ b ++ c) ++ (d ++ (e ++ (f ++ g)))
seven_3 a b c d e f g = simp append_assoc

seven_4 : (a b c d e f g : List ℕ) → a ++ b ++ c ++ d ++ e ++ f ++ g ≡ (a ++ b ++ c ++ d) ++ (e ++ (f ++ g))
seven_4 a b c d e f g = simp append_assoc

seven_5 : (a b c d e f g : List ℕ) → a ++ b ++ c ++ d ++ e ++ f ++ g ≡ (a ++ b ++ c ++ d ++ e) ++ (f ++ g)
seven_5 a b c d e f g = simp append_assoc

seven_6 : (a b c d e f g : List ℕ) → a ++ b ++ c ++ d ++ e ++ f ++ g ≡ (a ++ b ++ c ++ d ++ e ++ f) ++ (g ++ [])
seven_6 a b c d e f g = simp (append_assoc, append-nil)

-- what the written values are known to be
pub record NackFragIsSized (a : NackFrag) : Type 0 where
  pub own : length a.reader.prefix.0 ≡ 12
  pub to : length a.writer.prefix.0 ≡ 12
  pub reader : length a.reader.entity.0 ≡ 4
  pub writer : length a.writer.entity.0 ≡ 4
  pub signed : value_of a.number < 2 ^ 63
  pub base : a.missing.base < 2 ^ 32
  pub few : a.missing.bits ≤ 256
  pub words : length a.missing.words ≡ 8
  pub again : (rest : List ℕ) → words_in Little (word_count (frag_view a.missing)) (encoded_words (sent_words (frag_view a.missing)) ++ rest) ≡ sent_words (frag_view a.missing)
  pub count : a.count < 2 ^ 32

-- the fields of a NACK_FRAG's body
pub record NackFragFields (a : NackFrag) (body : List ℕ) : Type 0 where
  pub length : length body ≡ 28 + 4 * word_count (frag_view a.missing)
  pub reader : entity_at body 0 ≡ Some a.reader.entity
  pub writer : entity_at body 4 ≡ Some a.writer.entity
  pub number : sequence_number_at Little body 8 ≡ Some (pos (value_of a.number))
  pub base : number_at Little 4 body 16 ≡ Some a.missing.base
  pub bits : number_at Little 4 body 20 ≡ Some a.missing.bits
  pub words : words_at Little (word_count (frag_view a.missing)) body 24 ≡ Some (read_words (frag_view a.missing))
  pub count : number_at Little 4 body (24 + 4 * word_count (frag_view a.missing)) ≡ Some a.count

nack_frag_fields : (a : NackFrag) → NackFragIsSized a → NackFragFields a (nack_frag_body a)
nack_frag_fields a h =
    let s = frag_view a.missing in
    let n = word_count s in
    let r = a.reader.entity.0 in
    let w = a.writer.entity.0 in
    let sn = encoded_sn Little (pos (value_of a.number)) in
    let base = encoded Little 4 s.base in
    let bits = encoded Little 4 s.bits in
    let words = encoded_words (sent_words s) in
    let count = encoded Little 4 a.count in
    let two = length_2 r w 4 4 h.reader h.writer in
    let three = length_2 (r ++ w) sn 8 8 two refl in
    let four = length_2 (r ++ w ++ sn) base 16 4 three refl in
    let five = length_2 (r ++ w ++ sn ++ base) bits 20 4 four refl in
    let taken : length (sent_words s) ≡ n = length-take-le n s.words (omega (arith, h.words, h.few)) in
    let size : length words ≡ 4 * n = length-encoded_words (sent_words s) ∙ ap (λ (m : ℕ). 4 * m) taken in
    let six = length_2 (r ++ w ++ sn ++ base ++ bits) words 24 (4 * n) five size in
    let all = length_2 (r ++ w ++ sn ++ base ++ bits ++ words) count (24 + 4 * n) 4 six refl in
    let fits : FitsSigned w64 (pos (value_of a.number)) = record { sfits = h.signed } in
    let few : s.bits < 256 ^ 4 = omega (arith, h.few) in
    record {
      length = all ∙ omega arith;
      reader = entity_there 0 [] (w ++ (sn ++ (base ++ (bits ++ (words ++ count))))) (nack_frag_body a) a.reader.entity (seven_1 r w sn base bits words count) refl h.reader;
      writer = entity_there 4 r (sn ++ (base ++ (bits ++ (words ++ count)))) (nack_frag_body a) a.writer.entity (seven_1 r w sn base bits words count) h.reader h.writer;
      number = ap (λ (o : List ℕ). sequence_number_at Little o 8) (seven_2 r w sn base bits words count) ∙ sn_there 8 (pos (value_of a.number)) (r ++ w) (base ++ (bits ++ (words ++ count))) two fits;
      base = ap (λ (o : List ℕ). number_at Little 4 o 16) (seven_3 r w sn base bits words count) ∙ number_there 16 4 s.base (r ++ w ++ sn) (bits ++ (words ++ count)) three h.base;
      bits = ap (λ (o : List ℕ). number_at Little 4 o 20) (seven_4 r w sn base bits words count) ∙ number_there 20 4 s.bits (r ++ w ++ sn ++ base) (words ++ count) four few;
      words = ap (λ (o : List ℕ). words_at Little n o 24) (seven_5 r w sn base bits words count) ∙ words_there 24 n (r ++ w ++ sn ++ base ++ bits) (sent_words s) count five taken (h.again count);
      count = ap (λ (o : List ℕ). number_at Little 4 o (24 + 4 * n)) (seven_6 r w sn base bits words count) ∙ number_there (24 + 4 * n) 4 a.count (r ++ w ++ sn ++ base ++ bits ++ words) [] six h.count;
    }

nack_frag_skipped : (flags : ℕ) (body : List ℕ) → parts_of 0x12 flags body ≡ Some Skipped
unfolding parts_of
nack_frag_skipped flags body = refl

-- a NACK_FRAG's octets are one message, of which a writer reads what was meant
pub nack_frag_tells : (a : NackFrag) → NackFragIsSized a → IsOnly (nack_frag_octets a) (our_header a.reader.prefix) (answer_items a.writer.prefix 0x12 1) None × TellsNackFrag a (nack_frag_octets a)
unfolding nack_frag_octets
nack_frag_tells a h =
    let s = frag_view a.missing in
    let f = nack_frag_fields a h in
    let small : length (nack_frag_body a) < 65536 = omega (arith, f.length, h.few) in
    let message = is_message a.reader.prefix a.writer.prefix 0x12 1 (nack_frag_body a) h.own h.to refl small (nack_frag_skipped 1 (nack_frag_body a)) in (
      message_is_only (nack_frag_octets a) (our_header a.reader.prefix) (answer_items a.writer.prefix 0x12 1) None message,
      record {
        body = nack_frag_body a;
        framed = framed_behind a.reader.prefix a.writer.prefix 0x12 1 (nack_frag_body a) h.own h.to refl small;
        reader = f.reader;
        writer = f.writer;
        number = f.number;
        base = f.base;
        bits = f.bits;
        words = f.words;
        members = same_members s h.words h.few;
        count = f.count;
      },
    )

regrouped_more : (front a b c d e f g : List ℕ) → front ++ a ++ b ++ c ++ d ++ e ++ f ++ g ≡ front ++ (a ++ b ++ c ++ d ++ e ++ f ++ g)
regrouped_more front a b c d e f g = simp append_assoc

-- the fields one after the other are the datagram
pub nack_frag_built : (a : NackFrag) (n : ℕ) (words : List ℕ) → NackFragIsSized a → n ≡ 28 + 4 * word_count (frag_view a.missing) → words ≡ sent_words (frag_view a.missing) → opened a.reader.prefix a.writer.prefix ++ (0x12 ∷ 1 ∷ []) ++ encoded Little 2 n ++ a.reader.entity.0 ++ a.writer.entity.0 ++ encoded_sn Little (pos (value_of a.number)) ++ encoded Little 4 a.missing.base ++ encoded Little 4 a.missing.bits ++ encoded_words words ++ encoded Little 4 a.count ≡ nack_frag_octets a
unfolding nack_frag_octets
nack_frag_built a n words h size ws =
    let len : n ≡ length (nack_frag_body a) = size ∙ sym (nack_frag_fields a h).length in
    rw (ws, len) (regrouped_more (opened a.reader.prefix a.writer.prefix ++ (0x12 ∷ 1 ∷ []) ++ encoded Little 2 (length (nack_frag_body a))) a.reader.entity.0 a.writer.entity.0 (encoded_sn Little (pos (value_of a.number))) (encoded Little 4 a.missing.base) (encoded Little 4 a.missing.bits) (encoded_words (sent_words (frag_view a.missing))) (encoded Little 4 a.count))
