-- The steps of a reader, which gets only events that are addressed to it (DDSI-RTPS 8.4.10.4).
use Rattle.std.specs.Prelude.{Bool}
use Rattle.rtps_types.specs.declared.identity.EntityId.{EntityId}
use Rattle.rtps_types.specs.declared.identity.Guid.{Guid}
use Rattle.rtps_types.specs.declared.identity.GuidPrefix.{GuidPrefix}
use Rattle.rtps_types.specs.MatchChange.{MatchChange, match_change_view}
use Rattle.rtps_receiver.specs.Events.{EventView}
use Rattle.rtps_proxy.specs.Effects.{match_event}
use Rattle.rtps_proxy.specs.History.{MatchEvent}
use Rattle.rtps_reader.specs.declared.step.StepKind.{StepKind}
use Rattle.rtps_reader.specs.declared.step.StepKind.TheVariants as code

-- a step handles an event of a writer, or a change of the match with a writer; or the reader
-- starts, or stops
pub data StepView : Type 0 where
  Takes : Guid → MatchEvent → StepView
  Changes : MatchChange → StepView
  -- without matches, as a reader of this participant with this entity id, reliable or not
  Starts : GuidPrefix → EntityId → Bool → StepView
  -- all its matches are removed
  Stops : StepView

-- what contracts see of a step
abbrev pub asked : {A : Type 0} → StepKind A → StepView
asked (code.Event writer time body) = Takes writer (match_event time body.now)
asked (code.Change change) = Changes (match_change_view change.now)

-- the step for each reader that an event is addressed to
abbrev pub asks_of : EventView → StepView
asks_of h =
    Takes (record { prefix = h.source; entity = h.writer })
    (record { time = h.time; body = h.body })
