-- A change of one place, as clauses see it.
use Rattle.std.proofs.Common.{◌≡◌, Global, ℕ, zero, suc, ◌<◌, ◌≤◌, List, [], ◌∷◌, length, set, Option, Some, None, option_map, Result, Ok, Err, MatchOption, MatchResult, IsSome, is_some, false, true, slice_index_or, slice_set, refl, sym, ap, ◌∙◌, arith, rules}
use Rattle.std.proofs.lemmas.List.{map-set, get_or-map}
use Rattle.std.proofs.Math.Seq.{map-set_same}
use Rattle.rtps_reader.specs.declared.status.Status.{Status}
use Rattle.dds_outlet.specs.Ring.{Sending}
use Rattle.dds_participant.specs.Ports.{Delivers, PortView, fault_at, fault_of, new_port, port_view, ports_view}
use Rattle.dds_participant.specs.declared.ports.Port.{Port}
use Rattle.dds_participant.specs.declared.ports.AttachFault.{AttachFault}
use Rattle.dds_participant.specs.declared.ports.AttachFault.TheVariants.{NoReader, Attached}

-- at an index in range the default doesn't matter
default_free : {X : Type 0} (xs : List X) (i : ℕ) (d e : X) → i < length xs → slice_index_or xs i d ≡ slice_index_or xs i e
default_free [] i d e h = absurd (omega arith)
default_free (x ∷ xs) zero d e h = refl
default_free (x ∷ xs) (suc i) d e h = default_free xs i d e (omega arith)

-- a reader went, or is there
pub gone_none : (statuses : List (Option Status)) (rank : ℕ) (s : Option Status) → s ≡ slice_index_or statuses rank s → is_some s ≡ false → slice_index_or statuses rank None ≡ None
gone_none statuses rank None at e = sym at
gone_none statuses rank (Some s) at e = absurd cc

pub there_some : (statuses : List (Option Status)) (rank : ℕ) (s : Option Status) → rank < length statuses → s ≡ slice_index_or statuses rank s → is_some s ≡ true → is_some (slice_index_or statuses rank None) ≡ true
there_some statuses rank s below at e = ap (λ (o : Option Status). is_some o) (sym (at ∙ default_free statuses rank s None below)) ∙ e

pub past_none : (statuses : List (Option Status)) (rank : ℕ) → length statuses ≤ rank → slice_index_or statuses rank None ≡ None
past_none [] rank past = refl
past_none (s ∷ statuses) zero past = absurd (omega (arith, past))
past_none (s ∷ statuses) (suc rank) past = past_none statuses rank (omega (arith, past))

module _ {V : Type 0} where
  at_view : (ports : List (Option (Port V))) (rank : ℕ) → rank < length ports → slice_index_or (ports_view ports) rank None ≡ option_map port_view (slice_index_or ports rank None)
  at_view ports rank h = get_or-map (option_map port_view) ports rank None None h

  -- at a rank that wasn't given, or whose reader went
  pub fault_past : (statuses : List (Option Status)) (ports : List (Option (PortView V))) (rank : ℕ) → slice_index_or statuses rank None ≡ None → fault_at statuses ports rank ≡ Some NoReader
  fault_past statuses ports rank none = ap (λ (s : Option Status). fault_of s (slice_index_or ports rank None)) none

  fault_free : (s : Option Status) (p : Option (PortView V)) → is_some s ≡ true → p ≡ None → fault_of s p ≡ None
  fault_free None p there e = absurd cc
  fault_free (Some s) p there e = ap (fault_of (Some s)) e

  fault_taken : (s : Option Status) (p : Option (PortView V)) → is_some s ≡ true → IsSome p → fault_of s p ≡ Some Attached
  fault_taken None p there h = absurd cc
  fault_taken (Some s) None there h = absurd (search rules)
  fault_taken (Some s) (Some p) there h = refl

  pub attach_view : (statuses : List (Option Status)) (ports : List (Option (Port V))) (rank : ℕ) (place place' : Option (Port V)) (outlet : Sending V Global) (result : Result Unit (Sending V Global × AttachFault))
      → is_some (slice_index_or statuses rank None) ≡ true → rank < length ports → place ≡ slice_index_or ports rank place
      → MatchResult result (λ _. (option_map port_view place ≡ None) × (option_map port_view place' ≡ Some (new_port outlet))) (λ e. (e.0 ≡ outlet) × (e.1 ≡ Attached) × (place' ≡ place) × IsSome (option_map port_view place))
      → MatchResult result (λ _. (fault_at statuses (ports_view ports) rank ≡ None) × (ports_view (set ports rank place') ≡ slice_set (ports_view ports) rank (Some (new_port outlet))))
      (λ e. (fault_at statuses (ports_view ports) rank ≡ Some e.1) × (ports_view (set ports rank place') ≡ ports_view ports) × (e.0 ≡ outlet))
  attach_view statuses ports rank place place' outlet (Ok u) there h at m =
      let is : place ≡ slice_index_or ports rank None = at ∙ default_free ports rank place None h in (
        fault_free (slice_index_or statuses rank None) (slice_index_or (ports_view ports) rank None) there (at_view ports rank h ∙ ap (option_map port_view) (sym is) ∙ m.0),
        map-set (option_map port_view) ports rank place' ∙ ap (set (ports_view ports) rank) m.1,
      )
  attach_view statuses ports rank place place' outlet (Err e) there h at m =
      let is : place ≡ slice_index_or ports rank None = at ∙ default_free ports rank place None h in (
        fault_taken (slice_index_or statuses rank None) (slice_index_or (ports_view ports) rank None) there (rw (at_view ports rank h, ← is) m.3) ∙ ap Some (sym m.1),
        map-set_same (option_map port_view) ports rank place' None (ap (option_map port_view) (m.2 ∙ is)),
        m.0,
      )

  pub deliver_view : (ports : List (Option (Port V))) (rank : ℕ) (place place' : Option (Port V)) (n : ℕ) → rank < length ports → place ≡ slice_index_or ports rank place
      → MatchOption (option_map port_view place) ((place' ≡ place) × (n ≡ 0)) (λ port. (after : PortView V) × Delivers port after × (option_map port_view place' ≡ Some after) × (n ≡ length after.backlog))
      → MatchOption (slice_index_or (ports_view ports) rank None) ((ports_view (set ports rank place') ≡ ports_view ports) × (n ≡ 0))
      (λ port. (after : PortView V) × Delivers port after × (ports_view (set ports rank place') ≡ slice_set (ports_view ports) rank (Some after)) × (n ≡ length after.backlog))
  deliver_view ports rank None place' n h is m =
      rw (at_view ports rank h, ← is) (map-set_same (option_map port_view) ports rank place' None (ap (option_map port_view) (m.0 ∙ is)), m.1)
  deliver_view ports rank (Some p) place' n h at m =
      let is : Some p ≡ slice_index_or ports rank None = at ∙ default_free ports rank (Some p) None h in
      rw (at_view ports rank h, ← is) (m.0, m.1, map-set (option_map port_view) ports rank place' ∙ ap (set (ports_view ports) rank) m.2, m.3)

  pub detach_view : (ports : List (Option (Port V))) (rank : ℕ) (p : Port V) → rank < length ports → Some p ≡ slice_index_or ports rank (Some p)
      → (slice_index_or (ports_view ports) rank None ≡ Some (port_view p)) × (ports_view (set ports rank None) ≡ slice_set (ports_view ports) rank None)
  detach_view ports rank p h at = let is : Some p ≡ slice_index_or ports rank None = at ∙ default_free ports rank (Some p) None h in (at_view ports rank h ∙ ap (option_map port_view) (sym is), map-set (option_map port_view) ports rank None)
