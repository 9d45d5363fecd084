-- A run after which memory was refused: what it left is what such a run may leave.
use Rattle.std.proofs.Common.{◌≡◌, ◌∙◌, ◌⊎◌, ℕ, List, [], Option, Result, Ok, Err, inl, inr, sym, refl}
use Rattle.std.proofs.lemmas.List.{append-nil}
use Rattle.rtps_records.specs.Text.{IsFront}
use Rattle.rtps_records.specs.Traffic.{Traffic, failures_in, heard_in, sent_in}
use Rattle.rtps_records.specs.declared.fault.RunFault.TheVariants.{CannotRead, NotRecordFile, CutRecord, RecordTooLong, TooManyRecords, CannotWrite, CannotReadNorWrite, NoMemory}
use Rattle.rtps_text.specs.Listened.{IsDone, IsOver, Leaves, Limits, Listened, LiveRun, SentAt}
use Rattle.rtps_text.specs.declared.live_fault.LiveFault.{LiveFault}
use Rattle.rtps_text.specs.declared.live_fault.LiveFault.TheVariants as live_fault
use Rattle.rtps_listen.specs.Domain.{ListensBy}
use Rattle.rtps_listen.specs.declared.fault.ListenFault.{ListenFault}
use Rattle.rtps_listen.specs.declared.fault.ListenFault.TheVariants.{NoText, BadPrefix, BadWriter, BadAddress, BadPeers, OnlyAnnounced, TooLong, NoPorts, Socket, Run}

whole : {X : Type 0} (said text : List X) → said ≡ text → IsFront said text
whole said text same = ([], sym same ∙ sym (append-nil said))

done_front : (made : LiveRun) (limits : Limits) (calls : List Traffic) (old new : Option (List ℕ)) → IsDone made calls old new
    → IsOver limits calls ⊎ (failures_in calls ≡ 1) → Leaves made limits (Err (live_fault.Run NoMemory)) calls old new
unfolding Leaves SentAt
done_front made limits calls old new done why = (
  whole (sent_in calls) (made.sends (heard_in calls)) done.sent,
  (made.text (heard_in calls), done.wrote, inr (why, whole (made.text (heard_in calls)) (made.text (heard_in calls)) refl)),
)

leaves_front : (made : LiveRun) (limits : Limits) (r : Result (Unit {0}) LiveFault) (calls : List Traffic) (old new : Option (List ℕ))
    → Leaves made limits r calls old new → Leaves made limits (Err (live_fault.Run NoMemory)) calls old new
unfolding Leaves SentAt
leaves_front made limits (Ok u) calls old new h = done_front made limits calls old new h.0 (inl h.2)
leaves_front made limits (Err live_fault.Socket) calls old new h = done_front made limits calls old new h.0 (inr h.1)
leaves_front made limits (Err (live_fault.Run CannotWrite)) calls old new h = (whole (sent_in calls) (made.sends (heard_in calls)) h.0, h.1)
leaves_front made limits (Err (live_fault.Run NoMemory)) calls old new h = h
leaves_front made limits (Err (live_fault.Run CannotRead)) calls old new h = absurd h.0
leaves_front made limits (Err (live_fault.Run CannotReadNorWrite)) calls old new h = absurd h.0
leaves_front made limits (Err (live_fault.Run NotRecordFile)) calls old new h = absurd h.0
leaves_front made limits (Err (live_fault.Run (CutRecord n))) calls old new h = absurd h.0
leaves_front made limits (Err (live_fault.Run (RecordTooLong n))) calls old new h = absurd h.0
leaves_front made limits (Err (live_fault.Run TooManyRecords)) calls old new h = absurd h.0

listened_front : (made : LiveRun) (limits : Limits) (r : Result (Unit {0}) LiveFault) (before after : Option (List Traffic)) (old new : Option (List ℕ))
    → Listened made limits r before after old new → Listened made limits (Err (live_fault.Run NoMemory)) before after old new
listened_front made limits r before after old new h = record {
  calls = h.calls;
  grows = h.grows;
  few = h.few;
  turns = h.turns;
  in_turn = h.in_turn;
  leaves = leaves_front made limits r h.calls old new h.leaves;
}

-- however the run ended
pub by_memory : (made : LiveRun) (limits : Limits) (before after : Option (List Traffic)) (old new : Option (List ℕ)) (r : Result (Unit {0}) ListenFault)
    → ListensBy made limits before after old new r → ListensBy made limits before after old new (Err (Run NoMemory))
unfolding ListensBy
by_memory made limits before after old new (Ok u) h = listened_front made limits (Ok u) before after old new h
by_memory made limits before after old new (Err Socket) h = listened_front made limits (Err live_fault.Socket) before after old new h
by_memory made limits before after old new (Err (Run fault)) h = listened_front made limits (Err (live_fault.Run fault)) before after old new h
by_memory made limits before after old new (Err NoText) h = absurd h
by_memory made limits before after old new (Err BadPrefix) h = absurd h
by_memory made limits before after old new (Err BadWriter) h = absurd h
by_memory made limits before after old new (Err BadAddress) h = absurd h
by_memory made limits before after old new (Err BadPeers) h = absurd h
by_memory made limits before after old new (Err OnlyAnnounced) h = absurd h
by_memory made limits before after old new (Err TooLong) h = absurd h
by_memory made limits before after old new (Err (NoPorts first last)) h = absurd h
