-- Batches of what is heard.
use Rattle.std.specs.Prelude.{◌≡◌, List, [], ◌∷◌, ◌++◌}
use Rattle.std.specs.List.{flat_map}
use Rattle.rtps_announcer.specs.declared.hearing.Hearing.{Hearing}
use Rattle.rtps_announcer.specs.declared.rules.Rules.{Rules}
use Rattle.rtps_announcer.specs.declared.said.Sending.{Sending}
use Rattle.rtps_announcer.specs.Announcing.{State, sends_run, state_run}

-- what is sent batch by batch, and the state after them
abbrev pub batches_send : Rules → State → List (List Hearing) → List Sending
batches_send r s [] = []
batches_send r s (b ∷ bs) = sends_run r s b ++ batches_send r (state_run r s b) bs

abbrev pub batches_state : Rules → State → List (List Hearing) → State
batches_state r s [] = s
batches_state r s (b ∷ bs) = batches_state r (state_run r s b) bs

-- batches send what all that is heard sends, and end in the same state
pub record EveryCut : Type 0 where
  pub sends : (r : Rules) (s : State) (batches : List (List Hearing))
      → batches_send r s batches ≡ sends_run r s (flat_map (λ b. b) batches)
  pub state : (r : Rules) (s : State) (batches : List (List Hearing))
      → batches_state r s batches ≡ state_run r s (flat_map (λ b. b) batches)
