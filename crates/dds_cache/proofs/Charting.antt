-- The states of an instance follow the state chart.
use Rattle.std.proofs.Common.{◌≡◌, Bool, true, false, List, ◌∷◌, refl, sym, ap, ◌∙◌}
use Rattle.std.proofs.Math.Path.{fun_ext}
use Rattle.std.specs.Prelude.{not, ◌&&◌, ◌||◌}
use Rattle.std.specs.List.{list_any}
use Rattle.rtps_types.specs.declared.identity.Guid.{Guid}
use Rattle.rtps_types.specs.declared.identity.KeyHash.{KeyHash}
use Rattle.rtps_types.specs.Order.{guid_order}
use Rattle.rtps_proxy.specs.Matches.{same_guid}
use Rattle.rtps_reader.specs.declared.notice.Notice.{Notice}
use Rattle.dds_cache.specs.Calls.{Done, Accepted, WasRead, WasTaken}
use Rattle.dds_cache.specs.Chart.{has_other, state_after, without_writer}
use Rattle.dds_cache.specs.Instances.{About, AValue, ADisposal, AnUnregistration, Nothing, brought, disposed_by, has_live, is_disposed, is_end, is_live, is_value, live_by, state_by, state_of, told_about}
use Rattle.dds_cache.proofs.Keys.{guid_tie, guid_total, itself}
use Rattle.dds_cache.proofs.Lists.{any_from}

-- the writers that are live once a notice says this
abbrev live_then : {M : Type 0} → List (Done M) → KeyHash → Guid → About → Bool → Guid → Bool
live_then past k w a ended v = live_by a (same_guid w v) ended (is_live past k v)

-- and whether one of them has a value in the instance
abbrev has_then : {M : Type 0} → List (Done M) → KeyHash → Guid → About → Bool → Bool
has_then past k w a ended = (is_value a && live_then past k w a ended w) || list_any (brought (live_then past k w a ended) k) past

module _ {M : Type 0} (past : List (Done M)) (k : KeyHash) (w : Guid) where
  -- those that are live besides this one are live
  fewer : has_other past k w ≡ true → has_live past k ≡ true
  fewer h = any_from (brought (λ v. not (same_guid w v) && is_live past k v) k) (brought (is_live past k) k) by_done past h
    where
      both : (a b c : Bool) → (a && (b && c)) ≡ true → (a && c) ≡ true
      both true true c h = h
      both true false c h = absurd cc
      both false b c h = absurd cc

      by_done : (d : Done M) → brought (λ v. not (same_guid w v) && is_live past k v) k d ≡ true → brought (is_live past k) k d ≡ true
      by_done (Accepted n) e = both (is_value (told_about k n.what)) (not (same_guid w n.writer)) (is_live past k n.writer) e
      by_done (WasRead max c) e = absurd cc
      by_done (WasTaken max c) e = absurd cc

  left_state : (gone others live : Bool) → (others ≡ true → live ≡ true) → state_by gone others ≡ without_writer others (state_by gone live)
  left_state true others live so = refl
  left_state false true true so = refl
  left_state false false true so = refl
  left_state false true false so = let bad : false ≡ true = so refl in absurd cc
  left_state false false false so = refl

  leaving : state_by (is_disposed past k) (has_other past k w) ≡ without_writer (has_other past k w) (state_of past k)
  leaving = left_state (is_disposed past k) (has_other past k w) (has_live past k) fewer

  -- by what the notice says
  pub after : (a : About) (ended : Bool) → state_by (disposed_by a (is_disposed past k)) (has_then past k w a ended) ≡ state_after a ended (has_other past k w) (state_of past k)
  after AValue ended = ap (λ b. state_by false ((b || is_live past k w) || list_any (brought (live_then past k w AValue ended) k) past)) (sym (guid_tie w w) ∙ itself guid_order guid_total w)
  after ADisposal ended = refl
  after AnUnregistration ended = leaving
  after Nothing true = ap (λ t. state_by (is_disposed past k) (list_any (brought t k) past)) (fun_ext (λ v. ending (same_guid w v) (is_live past k v))) ∙ leaving
    where
      ending : (b r : Bool) → (not (b && true) && r) ≡ (not b && r)
      ending true r = refl
      ending false r = refl
  after Nothing false = ap (λ t. state_by (is_disposed past k) (list_any (brought t k) past)) (fun_ext (λ v. staying (same_guid w v) (is_live past k v)))
    where
      staying : (b r : Bool) → (not (b && false) && r) ≡ r
      staying true r = refl
      staying false r = refl

pub states_follow : {M : Type 0} (past : List (Done M)) (n : Notice M) (k : KeyHash) → state_of (Accepted n ∷ past) k ≡ state_after (told_about k n.what) (is_end n.what) (has_other past k n.writer) (state_of past k)
states_follow past n k = after past k n.writer (told_about k n.what) (is_end n.what)
