-- Inline QoS, one parameter after the other.
use Rattle.std.proofs.Common.{◌≡◌, ℕ, ◌-◌, Bool, true, false, cond, List, [], ◌∷◌, length, filter, Option, Some, None, Result, Ok, Err, refl, ◌∙◌, slice_index, arith}
use Rattle.std.specs.Prelude.{◌==◌, if◌then◌else◌}
use Rattle.std.specs.Option.{option_map, option_map_or}
use Rattle.std.specs.List.{list_all}
use Rattle.std.proofs.lemmas.Grind.{common_steps}
use Rattle.rtps_types.specs.declared.field.Endian.{Endian}
use Rattle.rtps_types.specs.declared.identity.KeyHash.{KeyHash}
use Rattle.rtps_params.specs.declared.front.ParamFault.{ParamFault}
use Rattle.rtps_params.specs.Reading.{Parameter, answer, front_of, is_shown, reading}
use Rattle.rtps_params.proofs.Steps.{reading_end, reading_fault, reading_step}
use Rattle.rtps_wire.specs.declared.inline_qos.InlineQos.{InlineQos}
use Rattle.rtps_wire.specs.declared.inline_qos.Seen.{Seen}
use Rattle.rtps_wire.specs.InlineSeen.{nothing_seen, seen_next, seen_with}
use Rattle.rtps_wire.specs.InlineQos.{inline_from, inline_of, is_sound, key_hash, last_value, or_else}

-- what is known once all that are left were seen, unless one of them is bad
unfoldable pub gathered : Seen → List Parameter → Option Seen
gathered s [] = Some s
gathered s (p ∷ ps) = if is_sound p then gathered (seen_next s p) ps else None

abbrev pub seen_then : Option Seen → (Seen → Option InlineQos) → Option InlineQos
seen_then None others = None
seen_then (Some s) others = others s

-- what is answered of what was gathered, by how the list ends
abbrev pub ends : ℕ → Option Seen → Result (List ℕ) ParamFault → Option InlineQos
ends total seen (Err f) = None
ends total seen (Ok rest) = option_map (λ s. record { hash = s.hash; status = s.status; used = total - length rest }) seen

-- what is answered once the parameters of rest were seen too
unfoldable pub whole : ℕ → Endian → Seen → List ℕ → Option InlineQos
whole total e s rest = ends total (gathered s (reading e rest).parameters) (reading e rest).outcome

ends_none : (total : ℕ) (o : Result (List ℕ) ParamFault) → ends total None o ≡ None
ends_none total (Ok x) = refl
ends_none total (Err x) = refl

whole_by : (total : ℕ) (e : Endian) (s : Seen) (rest after : List ℕ) (p : Parameter) (b : Bool) → is_sound p ≡ b → front_of e rest ≡ Ok (Some p, after) → whole total e s rest ≡ seen_then (seen_with s p) (λ t. whole total e t after)
unfolding whole gathered
whole_by total e s rest after p true sound h = rw (reading_step e rest after p h, sound) refl
whole_by total e s rest after p false bad h = rw (reading_step e rest after p h, bad) (ends_none total (reading e after).outcome)

-- one more parameter was seen, or was bad
whole_param : (total : ℕ) (e : Endian) (s : Seen) (rest after : List ℕ) (p : Parameter) → front_of e rest ≡ Ok (Some p, after) → whole total e s rest ≡ seen_then (seen_with s p) (λ t. whole total e t after)
whole_param total e s rest after p h = whole_by total e s rest after p (is_sound p) refl h

pub whole_goes : (total : ℕ) (e : Endian) (s t : Seen) (rest after : List ℕ) (p : Parameter) → front_of e rest ≡ Ok (Some p, after) → seen_with s p ≡ Some t → whole total e s rest ≡ whole total e t after
whole_goes total e s t rest after p h w = whole_param total e s rest after p h ∙ rw w refl

pub whole_bad : (total : ℕ) (e : Endian) (s : Seen) (rest after : List ℕ) (p : Parameter) → front_of e rest ≡ Ok (Some p, after) → seen_with s p ≡ None → whole total e s rest ≡ None
whole_bad total e s rest after p h w = whole_param total e s rest after p h ∙ rw w refl

pub whole_end : (total : ℕ) (e : Endian) (s : Seen) (rest after : List ℕ) → front_of e rest ≡ Ok (None, after) → whole total e s rest ≡ Some (record { hash = s.hash; status = s.status; used = total - length after })
unfolding whole gathered
whole_end total e s rest after h = rw (reading_end e rest after h) refl

pub whole_fault : (total : ℕ) (e : Endian) (s : Seen) (rest : List ℕ) (f : ParamFault) → front_of e rest ≡ Err f → whole total e s rest ≡ None
unfolding whole
whole_fault total e s rest f h = rw (reading_fault e rest f h) refl

-- ---- the last of each kind counts

abbrev pub known : Seen → List Parameter → Seen
known s ps = record { hash = or_else (option_map key_hash (last_value 112 ps)) s.hash; status = option_map_or (λ v. slice_index v 3) (last_value 113 ps) s.status }

hash_more : (o : Option (List ℕ)) (b : Bool) (v : List ℕ) (h : Option KeyHash) → or_else (option_map key_hash (or_else o (cond b (Some v) None))) h ≡ or_else (option_map key_hash o) (cond b (Some (key_hash v)) h)
hash_more (Some x) b v h = refl
hash_more None true v h = refl
hash_more None false v h = refl

status_more : (o : Option (List ℕ)) (b : Bool) (v : List ℕ) (s : ℕ) → option_map_or (λ v. slice_index v 3) (or_else o (cond b (Some v) None)) s ≡ option_map_or (λ v. slice_index v 3) o (cond b (slice_index v 3) s)
status_more (Some x) b v s = refl
status_more None true v s = refl
status_more None false v s = refl

known_more : (s : Seen) (p : Parameter) (ps : List Parameter) → known s (p ∷ ps) ≡ known (seen_next s p) ps
known_more s p ps = rw (hash_more (last_value 112 ps) (p.id == 112) p.value s.hash, status_more (last_value 113 ps) (p.id == 113) p.value s.status) refl

-- the last parameter with an id is the one that counts
gathered_is : (s : Seen) (ps : List Parameter) → gathered s ps ≡ (if list_all is_sound ps then Some (known s ps) else None)
unfolding gathered
gathered_is s [] = refl
gathered_is s (p ∷ ps) = by (is_sound p) refl (gathered_is (seen_next s p) ps)
  where
    by : (b : Bool) → is_sound p ≡ b → gathered (seen_next s p) ps ≡ (if list_all is_sound ps then Some (known (seen_next s p) ps) else None) → gathered s (p ∷ ps) ≡ (if list_all is_sound (p ∷ ps) then Some (known s (p ∷ ps)) else None)
    by true h ih = rw (h, ih, known_more s p ps) refl
    by false h ih = rw h refl

or_else_none : {A : Type 0} (o : Option A) → or_else o None ≡ o
or_else_none (Some x) = refl
or_else_none None = refl

gathered_all : (ps : List Parameter) → gathered nothing_seen ps ≡ (if list_all is_sound ps then Some (record { hash = option_map key_hash (last_value 112 ps); status = option_map_or (λ v. slice_index v 3) (last_value 113 ps) 0 }) else None)
gathered_all ps = rw (gathered_is nothing_seen ps, or_else_none (option_map key_hash (last_value 112 ps))) refl

-- padding says nothing
pad_or_not : (s : Seen) (p : Parameter) (ps : List Parameter) (b : Bool) → is_shown p ≡ b → ((t : Seen) → gathered t (filter is_shown ps) ≡ gathered t ps) → gathered s (filter is_shown (p ∷ ps)) ≡ gathered s (p ∷ ps)
unfolding gathered
pad_or_not s p ps true h ih = rw (h, ih (seen_next s p)) refl
pad_or_not s p ps false h ih =
    let pad : p.id ≡ 0 = grind (arith, common_steps) in
    rw (h, pad) (ih s)

gathered_shown : (ps : List Parameter) (s : Seen) → gathered s (filter is_shown ps) ≡ gathered s ps
gathered_shown [] s = refl
gathered_shown (p ∷ ps) s = pad_or_not s p ps (is_shown p) refl (λ t. gathered_shown ps t)

chosen : (b : Bool) (s : Seen) (n : ℕ) → option_map (λ (x : Seen). let q : InlineQos = record { hash = x.hash; status = x.status; used = n } in q) (cond b (Some s) None) ≡ cond b (Some (record { hash = s.hash; status = s.status; used = n })) None
chosen true s n = refl
chosen false s n = refl

ends_is : (e : Endian) (octets : List ℕ) (ps : List Parameter) (o : Result (List ℕ) ParamFault) → ends (length octets) (gathered nothing_seen ps) o ≡ inline_from (answer e octets ps o)
ends_is e octets ps (Err f) = refl
ends_is e octets ps (Ok rest) =
    let shown = filter is_shown ps in
    rw (← gathered_shown ps nothing_seen, gathered_all shown) (chosen (list_all is_sound shown) (record { hash = option_map key_hash (last_value 112 shown); status = option_map_or (λ v. slice_index v 3) (last_value 113 shown) 0 }) (length octets - length rest))

-- the inline QoS is what is answered once all parameters were seen
pub whole_is : (e : Endian) (octets : List ℕ) → whole (length octets) e nothing_seen octets ≡ inline_of e octets
unfolding whole inline_of
whole_is e octets = ends_is e octets (reading e octets).parameters (reading e octets).outcome
