-- What is known of the networks that a host takes part in.
use Rattle.std.specs.Prelude.{List, Option, ℕ}
use Rattle.rtps_types.specs.declared.locator.Locator.{Locator}
use Rattle.rtps_discovery.specs.declared.config.Config.{Config}
use Rattle.rtps_records.specs.Speech.{Speech}
use Rattle.rtps_records.specs.Traffic.{Traffic}
use Rattle.rtps_udp.specs.declared.binding.Binding.{Binding}
use Rattle.rtps_listen.specs.declared.reach.Reach.{Reach}

-- hosts, networks where nothing is announced, and networks by which a participant announces itself
pub record Networks (H J A : Type 0) : Type 1 where
  -- what a host becomes as it joins one that is bound so, and which one that is
  pub joins : H → Binding → H → J → Type 0
  -- the calls so far, where they are known
  pub traffic : J → Option (List Traffic)
  -- the times in nanoseconds that the clock of a host may read
  pub reads : H → ℕ → Type 0
  -- what a host becomes by a participant that is to be found so and has this configuration, and by
  -- which network that announces itself
  pub appears : H → Reach → Config → H → A → Type 0
  -- the calls so far, what is said by them, and what was announced
  pub heard : A → Option (List Traffic)
  pub speech : A → Speech
  pub announced : A → Option (List (Locator × List ℕ))
