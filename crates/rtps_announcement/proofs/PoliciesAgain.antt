-- The values of policies are read again.
use Rattle.std.proofs.Common.{◌≡◌, Bool, true, false, [], Some, refl}
use Rattle.std.specs.Int.{w32, cast_signed, cast_unsigned}
use Rattle.rtps_types.specs.declared.field.Endian.TheVariants.{Little}
use Rattle.rtps_types.specs.declared.time.Duration.{Duration}
use Rattle.rtps_types.specs.Field.{encoded, number}
use Rattle.rtps_types.proofs.Puts.{number-encoded}
use Rattle.rtps_cdr.specs.Reading.{start}
use Rattle.dds_qos.specs.declared.policies.AccessScope.{AccessScope}
use Rattle.dds_qos.specs.declared.policies.AccessScope.TheVariants.{Group, Instance, Topic}
use Rattle.dds_qos.specs.declared.policies.DestinationOrder.{DestinationOrder}
use Rattle.dds_qos.specs.declared.policies.DestinationOrder.TheVariants.{ByReceptionTimestamp, BySourceTimestamp}
use Rattle.dds_qos.specs.declared.policies.Durability.{Durability}
use Rattle.dds_qos.specs.declared.policies.Durability.TheVariants.{Persistent, Transient, TransientLocal, Volatile}
use Rattle.dds_qos.specs.declared.policies.Liveliness.{Liveliness}
use Rattle.dds_qos.specs.declared.policies.LivelinessKind.{LivelinessKind}
use Rattle.dds_qos.specs.declared.policies.LivelinessKind.TheVariants.{Automatic, ManualByParticipant, ManualByTopic}
use Rattle.dds_qos.specs.declared.policies.Ownership.{Ownership}
use Rattle.dds_qos.specs.declared.policies.Ownership.TheVariants.{Exclusive, Shared}
use Rattle.dds_qos.specs.declared.policies.Presentation.{Presentation}
use Rattle.dds_qos.specs.declared.policies.Reliability.{Reliability}
use Rattle.dds_qos.specs.declared.policies.Reliability.TheVariants.{BestEffort, Reliable}
use Rattle.dds_qos.specs.Values.{duration_in, durability_in, liveliness_in, order_in, ownership_in, presentation_in, reliability_in}
use Rattle.rtps_announcement.specs.Policies.{durability_kind, liveliness_value, order_kind, ownership_kind, presentation_value, reliability_value}
use Rattle.rtps_announcement.specs.Values.{IsDuration, kind_value}
use Rattle.rtps_announcement.proofs.ValuesAgain.{signed_again}

pub durability_reads : (d : Durability) → durability_in (start Little (kind_value (durability_kind d))) ≡ Some d
durability_reads Volatile = refl
durability_reads TransientLocal = refl
durability_reads Transient = refl
durability_reads Persistent = refl

pub ownership_reads : (o : Ownership) → ownership_in (start Little (kind_value (ownership_kind o))) ≡ Some o
ownership_reads Shared = refl
ownership_reads Exclusive = refl

pub order_reads : (o : DestinationOrder) → order_in (start Little (kind_value (order_kind o))) ≡ Some o
order_reads ByReceptionTimestamp = refl
order_reads BySourceTimestamp = refl

pub reliability_reads : (r : Reliability) → reliability_in (start Little (reliability_value r)) ≡ Some r
unfolding reliability_in duration_in
reliability_reads BestEffort = refl
reliability_reads Reliable = refl

lively : (k : LivelinessKind) (d : Duration) → IsDuration d → liveliness_in (start Little (liveliness_value (record { kind = k; lease_duration = d }))) ≡ Some (record { kind = k; lease_duration = d })
unfolding liveliness_in duration_in
lively Automatic d h =
    let seconds : cast_signed w32 (number Little 4 (encoded Little 4 (cast_unsigned w32 d.seconds))) ≡ d.seconds = signed_again d.seconds h.seconds in
    let fraction : number Little 4 (encoded Little 4 d.fraction) ≡ d.fraction = number-encoded Little 4 d.fraction [] h.fraction in
    rw (seconds, fraction) refl
lively ManualByParticipant d h =
    let seconds : cast_signed w32 (number Little 4 (encoded Little 4 (cast_unsigned w32 d.seconds))) ≡ d.seconds = signed_again d.seconds h.seconds in
    let fraction : number Little 4 (encoded Little 4 d.fraction) ≡ d.fraction = number-encoded Little 4 d.fraction [] h.fraction in
    rw (seconds, fraction) refl
lively ManualByTopic d h =
    let seconds : cast_signed w32 (number Little 4 (encoded Little 4 (cast_unsigned w32 d.seconds))) ≡ d.seconds = signed_again d.seconds h.seconds in
    let fraction : number Little 4 (encoded Little 4 d.fraction) ≡ d.fraction = number-encoded Little 4 d.fraction [] h.fraction in
    rw (seconds, fraction) refl

pub liveliness_reads : (l : Liveliness) → IsDuration l.lease_duration → liveliness_in (start Little (liveliness_value l)) ≡ Some l
liveliness_reads l h = lively l.kind l.lease_duration h

presented : (s : AccessScope) (c o : Bool) → presentation_in (start Little (presentation_value (record { access_scope = s; coherent_access = c; ordered_access = o }))) ≡ Some (record { access_scope = s; coherent_access = c; ordered_access = o })
unfolding presentation_in
presented Instance true true = refl
presented Instance true false = refl
presented Instance false true = refl
presented Instance false false = refl
presented Topic true true = refl
presented Topic true false = refl
presented Topic false true = refl
presented Topic false false = refl
presented Group true true = refl
presented Group true false = refl
presented Group false true = refl
presented Group false false = refl

pub presentation_reads : (p : Presentation) → presentation_in (start Little (presentation_value p)) ≡ Some p
presentation_reads p = presented p.access_scope p.coherent_access p.ordered_access
