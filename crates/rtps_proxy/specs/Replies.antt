-- The datagram with an ACKNACK or a NACK_FRAG for a writer (DDSI-RTPS 8.3.7.1, 8.3.7.11, 9.4.5.2,
-- 9.4.5.13).
use Rattle.std.specs.Prelude.{◌≡◌, ℕ, pos, ◌+◌, Bool, not, ◌&&◌, ◌==◌, nat_le, nat_lt, List, ◌++◌, replicate, if◌then◌else◌, Option, None}
use Rattle.std.specs.List.{list_any}
use Rattle.std.specs.Option.{option_map}
use Rattle.rtps_types.specs.declared.field.Endian.TheVariants.{Little}
use Rattle.rtps_types.specs.declared.locator.Locator.{Locator}
use Rattle.rtps_types.specs.declared.traffic.Reply.{Reply}
use Rattle.rtps_types.specs.Field.{encoded, encoded_sn}
use Rattle.rtps_types.specs.Named.{with_bits}
use Rattle.rtps_types.specs.NumberSet.{NumberSet, members}
use Rattle.rtps_receiver.specs.EventBody.{EventBodyView, Whole, Fragment, Heartbeat, Gap, HeartbeatFrag}
use Rattle.rtps_wire.specs.Answering.{answering, sent_words, encoded_words}
use Rattle.rtps_proxy.specs.Answer.{Acknack, acknack_by, answer}
use Rattle.rtps_proxy.specs.History.{MatchEvent}
use Rattle.rtps_proxy.specs.NackFrag.{Nack, nack}
use Rattle.rtps_proxy.specs.Kept.{Pairing}

-- a datagram and its destinations
pub record ReplyView : Type 0 where
  pub to : List Locator
  pub octets : List ℕ

-- what contracts see of a reply
abbrev pub reply_view : {A : Type 0} → Reply A → ReplyView
reply_view r = record { to = r.to; octets = r.octets }

-- the set of the missing numbers, in eight words
abbrev pub set_of : Acknack → NumberSet
set_of a =
    record { base = a.base; bits = a.bits; words = with_bits a.base (replicate 8 0) a.members }

-- readerId, writerId, readerSNState, count
abbrev pub acknack_body : Pairing → Acknack → List ℕ
acknack_body w a =
    w.reader.0 ++ w.writer.entity.0 ++ encoded_sn Little (pos a.base) ++ encoded Little 4 a.bits
    ++ encoded_words (sent_words (set_of a)) ++ encoded Little 4 a.count

-- an ACKNACK to the writer's locators, with flag E (1), and with flag F (2) if it is final
unfoldable pub reply_of : Pairing → Acknack → ReplyView
reply_of w a =
    record {
      to = w.locators;
      octets = answering w.own w.writer.prefix 0x06 (if a.final then 3 else 1) (acknack_body w a);
    }

-- an ACKNACK names exactly the missing numbers up to the announced one, of the 256 that begin at
-- its base
abbrev pub NamesWhatIsMissing : Type 0
NamesWhatIsMissing =
    (settled : ℕ → Bool) (base announced earlier n : ℕ)
    → list_any (λ m. m == n) (members (set_of (acknack_by settled base announced earlier)))
    ≡ ((nat_le base n && (nat_lt n (base + 256) && nat_le n announced)) && not (settled n))

-- readerId, writerId, writerSN, fragmentNumberState, count
abbrev pub nack_body : Pairing → Nack → List ℕ
nack_body w a =
    w.reader.0 ++ w.writer.entity.0 ++ encoded_sn Little (pos a.number)
    ++ encoded Little 4 a.missing.base ++ encoded Little 4 a.missing.bits
    ++ encoded_words (sent_words a.missing) ++ encoded Little 4 a.count

-- a NACK_FRAG to the writer's locators, with flag E
unfoldable pub nack_of : Pairing → Nack → ReplyView
nack_of w a =
    record { to = w.locators; octets = answering w.own w.writer.prefix 0x12 1 (nack_body w a) }

-- the reply of a reliable reader to an event, if there is one
abbrev pub reply : Pairing → List MatchEvent → MatchEvent → Option ReplyView
reply w past e = by_body e.body
  where
    by_body : EventBodyView → Option ReplyView
    by_body (Whole c) = None
    by_body (Fragment f) = None
    by_body (Heartbeat h) = option_map (reply_of w) (answer past e)
    by_body (Gap g) = None
    by_body (HeartbeatFrag h) = option_map (nack_of w) (nack past h)
