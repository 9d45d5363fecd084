-- What is read of a body has the bounds that its kind sets.
use Rattle.std.proofs.Common.{◌≡◌, ℕ, zero, suc, ◌+◌, ◌-◌, ◌/◌, ◌≤◌, ℤ, pos, negsuc, Bool, true, false, List, filter, Option, Some, None, refl, subst, arith}
use Rattle.std.specs.Prelude.{All, IfSome, option_and_then, ◌==◌, if◌then◌else◌, nat_lt, nat_le}
use Rattle.std.specs.Option.{option_map}
use Rattle.std.specs.List.{range_with_len}
use Rattle.std.proofs.lemmas.Bool.{leb-true, ltb-false}
use Rattle.std.proofs.lemmas.Grind.{common_steps}
use Rattle.std.proofs.lemmas.List.Elements.{All-filter, All-map}
use Rattle.std.proofs.lemmas.List.FromFn.{get_or-range_with_len, length-range_with_len}
use Rattle.rtps_types.specs.declared.field.Endian.{Endian}
use Rattle.rtps_types.specs.declared.identity.EntityId.{EntityId}
use Rattle.rtps_types.specs.Field.{number_at, sequence_number_at}
use Rattle.rtps_types.specs.NumberSet.{NumberSet, names}
use Rattle.rtps_wire.specs.Bounds.{HasBounds, IsSet}
use Rattle.rtps_wire.specs.Data.{data_of, form_of, payload_of, qos_of}
use Rattle.rtps_wire.specs.DataFrag.{data_frag_of}
use Rattle.rtps_wire.specs.Fields.{◌>>=◌, count_at, endian_of, entity_at, from, natural_at, positive, positive_at, prefix_at}
use Rattle.rtps_wire.specs.Gap.{gap_of}
use Rattle.rtps_wire.specs.Heartbeat.{heartbeat_of}
use Rattle.rtps_wire.specs.HeartbeatFrag.{heartbeat_frag_of}
use Rattle.rtps_wire.specs.Info.{source_of, time_of}
use Rattle.rtps_wire.specs.NumberSet.{sn_set_at, words_at}
use Rattle.rtps_wire.specs.Submessage.{PartsView, Pad, Heartbeat, Gap, InfoTimestamp, InfoSource, InfoDestination, HeartbeatFrag, Data, DataFrag, Skipped, parts_of}

-- ---- steps that may find nothing

-- what holds of all that is read may use what each step found
if_then : {A B : Type 0} (o : Option A) (f : A → Option B) (P : B → Type 0) → ((x : A) → o ≡ Some x → IfSome (f x) P) → IfSome (o >>= f) P
if_then None f P h = tt
if_then (Some x) f P h = h x refl

if_not : {B : Type 0} (b : Bool) (o : Option B) (P : B → Type 0) → (b ≡ false → IfSome o P) → IfSome (if b then None else o) P
if_not true o P h = tt
if_not false o P h = h refl

if_so : {B : Type 0} (b : Bool) (o : Option B) (P : B → Type 0) → (b ≡ true → IfSome o P) → IfSome (if b then o else None) P
if_so true o P h = h refl
if_so false o P h = tt

either : {B : Type 0} (b : Bool) (x y : Option B) (P : B → Type 0) → IfSome x P → IfSome y P → IfSome (if b then x else y) P
either true x y P hx hy = hx
either false x y P hx hy = hy

mapped : {A B : Type 0} (o : Option A) (f : A → B) (P : B → Type 0) → IfSome o (λ x. P (f x)) → IfSome (option_map f o) P
mapped None f P h = tt
mapped (Some x) f P h = h

any : {A B : Type 0} (o : Option A) (f : A → B) (P : B → Type 0) → ((x : A) → P (f x)) → IfSome (option_map f o) P
any None f P h = tt
any (Some x) f P h = h x

-- ---- numbers and sets

positive_bound : (o : Option ℤ) (n : ℕ) → option_and_then positive o ≡ Some n → 1 ≤ n
positive_bound None n h = absurd cc
positive_bound (Some (pos zero)) n h = absurd cc
positive_bound (Some (pos (suc m))) n h = let same : suc m ≡ n = cc in omega arith
positive_bound (Some (negsuc m)) n h = absurd cc

positive_at_bound : (e : Endian) (octets : List ℕ) (at n : ℕ) → positive_at e octets at ≡ Some n → 1 ≤ n
positive_at_bound e octets at n h = positive_bound (sequence_number_at e octets at) n h

offsets : (base bits : ℕ) → bits ≤ 256 → All (λ offset. (base ≤ base + offset) × (base + offset ≤ base + 255)) (range_with_len 0 bits)
offsets base bits few = λ k d below.
    let len = length-range_with_len 0 bits in
    let is = get_or-range_with_len 0 bits k d (omega arith) in
    (omega arith, omega arith)

is_set : (base bits : ℕ) (words : List ℕ) → 1 ≤ base → bits ≤ 256 → IsSet (record { base = base; bits = bits; words = words })
is_set base bits words least few = record {
  base = least;
  bits = few;
  members =
      All-map (λ n. (base ≤ n) × (n ≤ base + 255)) (λ offset. base + offset) (filter (names words) (range_with_len 0 bits))
      (All-filter (names words) (λ offset. (base ≤ base + offset) × (base + offset ≤ base + 255)) (range_with_len 0 bits) (offsets base bits few));
}

set_bounds : (e : Endian) (octets : List ℕ) (at : ℕ) → IfSome (sn_set_at e octets at) IsSet
unfolding sn_set_at
set_bounds e octets at =
    if_then (positive_at e octets at) _ IsSet (λ base b. if_then (number_at e 4 octets (at + 8)) _ IsSet (λ bits _. if_so (nat_le bits 256) _ IsSet (λ few. if_then (words_at e ((bits + 31) / 32) octets (at + 12)) _ IsSet (λ words _. is_set base bits words (positive_at_bound e octets at base b) (leb-true bits 256 few)))))

-- ---- kinds

heartbeat_bounds : (flags : ℕ) (e : Endian) (body : List ℕ) → IfSome (heartbeat_of flags e body) (λ h. HasBounds (Heartbeat h))
unfolding heartbeat_of
heartbeat_bounds flags e body =
    if_then (entity_at body 0) _ _ (λ reader _. if_then (entity_at body 4) _ _ (λ writer _. if_then (positive_at e body 8) _ _ (λ first f. if_then (natural_at e body 16) _ _ (λ last _. if_then (count_at e body 24) _ _ (λ count _. if_not (nat_lt last (first - 1)) _ _ (λ above. let least = positive_at_bound e body 8 first f in let so = ltb-false last (first - 1) above in (omega arith, omega arith)))))))

gap_bounds : (e : Endian) (body : List ℕ) → IfSome (gap_of e body) (λ g. HasBounds (Gap g))
unfolding gap_of
gap_bounds e body =
    if_then (entity_at body 0) _ _ (λ reader _. if_then (entity_at body 4) _ _ (λ writer _. if_then (positive_at e body 8) _ _ (λ start s. mapped_set e body start (positive_at_bound e body 8 start s) reader writer)))
  where
    mapped_set : (e : Endian) (body : List ℕ) (start : ℕ) → 1 ≤ start → (reader writer : EntityId) → IfSome (sn_set_at e body 16 >>= (λ list. Some (record { reader = reader; writer = writer; start = start; list = list }))) (λ g. HasBounds (Gap g))
    mapped_set e body start s reader writer = by (sn_set_at e body 16) (set_bounds e body 16)
      where
        by : (o : Option NumberSet) → IfSome o IsSet → IfSome (o >>= (λ list. Some (record { reader = reader; writer = writer; start = start; list = list }))) (λ g. HasBounds (Gap g))
        by None h = tt
        by (Some list) h = (s, h)

heartbeat_frag_bounds : (e : Endian) (body : List ℕ) → IfSome (heartbeat_frag_of e body) (λ h. HasBounds (HeartbeatFrag h))
unfolding heartbeat_frag_of
heartbeat_frag_bounds e body =
    if_then (entity_at body 0) _ _ (λ reader _. if_then (entity_at body 4) _ _ (λ writer _. if_then (positive_at e body 8) _ _ (λ number n. if_then (number_at e 4 body 16) _ _ (λ last _. if_then (count_at e body 20) _ _ (λ count _. if_not (last == 0) _ _ (λ some. (positive_at_bound e body 8 number n, grind (arith, common_steps))))))))

data_bounds : (flags : ℕ) (e : Endian) (body : List ℕ) → IfSome (data_of flags e body) (λ c. HasBounds (Data c))
unfolding data_of
data_bounds flags e body =
    if_then (number_at e 2 body 2) _ _ (λ offset _. if_then (entity_at body 4) _ _ (λ reader _. if_then (entity_at body 8) _ _ (λ writer _. if_then (positive_at e body 12) _ _ (λ number n. if_then (if nat_lt offset 16 then None else from body (4 + offset)) _ _ (λ rest _. if_then (qos_of flags e rest) _ _ (λ qos _. if_then (form_of flags) _ _ (λ form _. if_then (payload_of flags rest qos.used) _ _ (λ payload _. positive_at_bound e body 12 number n))))))))

data_frag_bounds : (flags : ℕ) (e : Endian) (body : List ℕ) → IfSome (data_frag_of flags e body) (λ f. HasBounds (DataFrag f))
unfolding data_frag_of
data_frag_bounds flags e body =
    if_then (number_at e 2 body 2) _ _ (λ offset _. if_then (entity_at body 4) _ _ (λ reader _. if_then (entity_at body 8) _ _ (λ writer _. if_then (positive_at e body 12) _ _ (λ number n. if_then (number_at e 4 body 20) _ _ (λ start _. if_then (number_at e 2 body 24) _ _ (λ count _. if_then (number_at e 2 body 26) _ _ (λ size _. if_then (number_at e 4 body 28) _ _ (λ sample _. if_then (if start == 0 then None else if nat_lt offset 28 then None else from body (4 + offset)) _ _ (λ rest r. if_then (qos_of flags e rest) _ _ (λ qos _. if_then (from rest qos.used) _ _ (λ payload _. (positive_at_bound e body 12 number n, is_there start _ rest r))))))))))))
  where
    is_there : (start : ℕ) (o : Option (List ℕ)) (rest : List ℕ) → (if start == 0 then None else o) ≡ Some rest → 1 ≤ start
    is_there zero o rest h = absurd cc
    is_there (suc n) o rest h = omega arith

-- ---- the table

parts_bounds : (id flags : ℕ) (body : List ℕ) → IfSome (parts_of id flags body) HasBounds
unfolding parts_of
parts_bounds id flags body =
    let e = endian_of flags in
    either (id == 0x01) (Some Pad) _ HasBounds tt
    (either (id == 0x07) (option_map Heartbeat (heartbeat_of flags e body)) _ HasBounds (mapped (heartbeat_of flags e body) Heartbeat HasBounds (heartbeat_bounds flags e body))
    (either (id == 0x08) (option_map Gap (gap_of e body)) _ HasBounds (mapped (gap_of e body) Gap HasBounds (gap_bounds e body))
    (either (id == 0x09) (option_map InfoTimestamp (time_of flags e body)) _ HasBounds (any (time_of flags e body) InfoTimestamp HasBounds (λ t. tt))
    (either (id == 0x0c) (option_map InfoSource (source_of body)) _ HasBounds (any (source_of body) InfoSource HasBounds (λ s. tt))
    (either (id == 0x0e) (option_map InfoDestination (prefix_at body 0)) _ HasBounds (any (prefix_at body 0) InfoDestination HasBounds (λ p. tt))
    (either (id == 0x13) (option_map HeartbeatFrag (heartbeat_frag_of e body)) _ HasBounds (mapped (heartbeat_frag_of e body) HeartbeatFrag HasBounds (heartbeat_frag_bounds e body))
    (either (id == 0x15) (option_map Data (data_of flags e body)) _ HasBounds (mapped (data_of flags e body) Data HasBounds (data_bounds flags e body))
    (either (id == 0x16) (option_map DataFrag (data_frag_of flags e body)) (Some Skipped) HasBounds (mapped (data_frag_of flags e body) DataFrag HasBounds (data_frag_bounds flags e body)) tt))))))))

-- whatever a body is read as has the bounds of its kind
pub content_bounds : (id flags : ℕ) (body : List ℕ) (content : PartsView) → parts_of id flags body ≡ Some content → HasBounds content
content_bounds id flags body content h =
    let P : Option PartsView → Type 0 = λ o. IfSome o HasBounds in
    subst P h (parts_bounds id flags body)
