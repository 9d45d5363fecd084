-- The values of parameters: each is read as CDR, aligned from its first octet; octets after it are
-- ignored (DDSI-RTPS 9.4.2.11).
use Rattle.std.specs.Prelude.{ℕ, ◌==◌, nat_le, ◌&&◌, List, Option, Some, None, option_and_then, if◌then◌else◌, Ok, Err}
use Rattle.std.specs.Option.{option_map}
use Rattle.std.specs.Int.{w32}
use Rattle.rtps_types.specs.Field.{octets_at}
use Rattle.rtps_types.specs.declared.identity.Guid.{Guid}
use Rattle.rtps_types.specs.declared.locator.Locator.{Locator}
use Rattle.rtps_types.specs.declared.time.Duration.{Duration}
use Rattle.rtps_cdr.specs.Reading.{Cursor, Read, placed, number_in, signed_in, bool_in, octets_in, text_in, texts_in}
use Rattle.dds_qos.specs.declared.policies.Presentation.{Presentation}
use Rattle.dds_qos.specs.declared.policies.Liveliness.{Liveliness}
use Rattle.dds_qos.specs.declared.policies.Durability.{Durability}
use Rattle.dds_qos.specs.declared.policies.Durability.TheVariants as durability
use Rattle.dds_qos.specs.declared.policies.AccessScope.{AccessScope}
use Rattle.dds_qos.specs.declared.policies.AccessScope.TheVariants as scope
use Rattle.dds_qos.specs.declared.policies.Ownership.{Ownership}
use Rattle.dds_qos.specs.declared.policies.Ownership.TheVariants as ownership
use Rattle.dds_qos.specs.declared.policies.LivelinessKind.{LivelinessKind}
use Rattle.dds_qos.specs.declared.policies.LivelinessKind.TheVariants as liveliness
use Rattle.dds_qos.specs.declared.policies.Reliability.{Reliability}
use Rattle.dds_qos.specs.declared.policies.Reliability.TheVariants as reliability
use Rattle.dds_qos.specs.declared.policies.DestinationOrder.{DestinationOrder}
use Rattle.dds_qos.specs.declared.policies.DestinationOrder.TheVariants as order

-- reads a value, and then what follows it; None if the value can't be read
abbrev pub then_read : {X Y : Type 0} → Cursor → Read X → (X → Cursor → Option Y) → Option Y
then_read c (Ok x) f = f x.0 (placed c x.1)
then_read c (Err fault) f = None

-- reads a value and nothing after it
abbrev pub only : {X : Type 0} → Read X → Option X
only (Ok x) = Some x.0
only (Err fault) = None

-- reads a kind as a number of 32 bits, and then what follows it; None if no kind has the number
abbrev pub kind_then : {X Y : Type 0} → Cursor → (ℕ → Option X) → (X → Cursor → Option Y) → Option Y
kind_then c kinds f =
    then_read c (number_in 4 c) (λ n after. option_and_then (λ x. f x after) (kinds n))

-- reads a kind as a number of 32 bits; None if no kind has the number
abbrev pub kind_in : {X : Type 0} → Cursor → (ℕ → Option X) → Option X
kind_in c kinds = option_and_then kinds (only (number_in 4 c))

-- ---- the kinds, by their numbers (DDSI-RTPS 9.6.3)

-- the kind of durability with this number, if there is one
abbrev pub durability_of : ℕ → Option Durability
durability_of n =
    if n == 0 then Some durability.Volatile else
    if n == 1 then Some durability.TransientLocal else
    if n == 2 then Some durability.Transient else
    if n == 3 then Some durability.Persistent else
    None

-- the scope of access with this number, if there is one
abbrev pub scope_of : ℕ → Option AccessScope
scope_of n =
    if n == 0 then Some scope.Instance else
    if n == 1 then Some scope.Topic else
    if n == 2 then Some scope.Group else
    None

-- the kind of ownership with this number, if there is one
abbrev pub ownership_of : ℕ → Option Ownership
ownership_of n =
    if n == 0 then Some ownership.Shared else
    if n == 1 then Some ownership.Exclusive else
    None

-- the kind of liveliness with this number, if there is one
abbrev pub liveliness_of : ℕ → Option LivelinessKind
liveliness_of n =
    if n == 0 then Some liveliness.Automatic else
    if n == 1 then Some liveliness.ManualByParticipant else
    if n == 2 then Some liveliness.ManualByTopic else
    None

-- the kind of reliability with this number, if there is one
abbrev pub reliability_of : ℕ → Option Reliability
reliability_of n =
    if n == 1 then Some reliability.BestEffort else
    if n == 2 then Some reliability.Reliable else
    None

-- the kind of destination order with this number, if there is one
abbrev pub order_of : ℕ → Option DestinationOrder
order_of n =
    if n == 0 then Some order.ByReceptionTimestamp else
    if n == 1 then Some order.BySourceTimestamp else
    None

-- the kind of durability in a value
abbrev pub durability_in : Cursor → Option Durability
durability_in c = kind_in c durability_of

-- the kind of ownership in a value
abbrev pub ownership_in : Cursor → Option Ownership
ownership_in c = kind_in c ownership_of

-- the kind of destination order in a value
abbrev pub order_in : Cursor → Option DestinationOrder
order_in c = kind_in c order_of

-- ---- texts, numbers and octets

-- a topic, or a type
abbrev pub topic_in : Cursor → Option (List ℕ)
topic_in c = only (text_in c)

-- the names of partitions
abbrev pub names_in : Cursor → Option (List (List ℕ))
names_in c = only (texts_in c)

-- a number of 32 bits
abbrev pub number_of : Cursor → Option ℕ
number_of c = only (number_in 4 c)

-- a key hash, and a status info
abbrev pub hash_in : Cursor → Option (List ℕ)
hash_in c = only (octets_in 16 c)

abbrev pub status_in : Cursor → Option (List ℕ)
status_in c = only (octets_in 4 c)

-- ---- values of several parts

-- seconds, with a sign, and a fraction (DDSI-RTPS 9.3.2.3)
unfoldable pub duration_in : Cursor → Option Duration
duration_in c =
    then_read c (signed_in w32 c)
    (λ s after. option_map (λ f. record { seconds = s; fraction = f })
    (only (number_in 4 after)))

-- the kind, and the longest time that a write may block, which is checked and not used
-- (DDS 1.4, 2.2.3.14)
unfoldable pub reliability_in : Cursor → Option Reliability
reliability_in c =
    kind_then c reliability_of (λ k after. option_map (λ blocking. k) (duration_in after))

-- the kind, and the lease (DDS 1.4, 2.2.3.11)
unfoldable pub liveliness_in : Cursor → Option Liveliness
liveliness_in c =
    kind_then c liveliness_of
    (λ k after. option_map (λ lease. record { kind = k; lease_duration = lease })
    (duration_in after))

-- the scope, and two booleans (DDS 1.4, 2.2.3.6)
unfoldable pub presentation_in : Cursor → Option Presentation
presentation_in c =
    kind_then c scope_of
    (λ s after_scope. then_read after_scope (bool_in after_scope) (λ coherent after.
    option_map
    (λ ordered. record
    { access_scope = s; coherent_access = coherent; ordered_access = ordered })
    (only (bool_in after))))

-- a locator of UDP over IPv4, kind 1, with a port of 16 bits that isn't 0; its address is the last
-- four of sixteen octets. Any other locator is dropped (DDSI-RTPS 9.3.2.4).
abbrev pub kept_locator : ℕ → ℕ → List ℕ → Option Locator
kept_locator kind port octets =
    if kind == 1 && (nat_le 1 port && nat_le port 65535)
    then option_map (λ (address : List ℕ). record { port = port; address = address })
    (octets_at 4 octets 12)
    else None

-- a kind, a port and sixteen octets: the locator, if it is one that is kept
unfoldable pub locator_in : Cursor → Option (Option Locator)
locator_in c =
    then_read c (number_in 4 c)
    (λ kind after_kind. then_read after_kind (number_in 4 after_kind) (λ port after.
    option_map (λ octets. kept_locator kind port octets) (only (octets_in 16 after))))

-- twelve octets of the participant, and four of its endpoint (DDSI-RTPS 9.3.1)
abbrev pub guid_of : List ℕ → Option Guid
guid_of octets =
    option_and_then
    (λ (prefix : List ℕ). option_map
    (λ (entity : List ℕ). record { prefix = record { 0 = prefix }; entity = record { 0 = entity } })
    (octets_at 4 octets 12))
    (octets_at 12 octets 0)

-- the guid that sixteen octets encode
unfoldable pub guid_in : Cursor → Option Guid
guid_in c = option_and_then guid_of (only (octets_in 16 c))
