-- The results of jobs that are taken off a board.
use Rattle.std.specs.Prelude.{◌≡◌, ℕ, ◌+◌, List, [], ◌++◌, All, IfOk, length}
use Rattle.std.specs.List.{AllZip}
use Rattle.std.specs.List.Sorted.{IsPermutation}
use Rattle.std.specs.declared.alloc.Global.{Global}
use Rattle.std.specs.declared.vec.Vec.{Vec}
use Rattle.rtps_receiver.specs.Events.{EventView}
use Rattle.dds_topic.specs.Decoding.{Decoding}
use Rattle.rtps_shards.specs.Board.{hand}
use Rattle.rtps_shards.specs.Ends.{IsNewThiefOf, IsSameThief, IsThiefOf, thief_hand}
use Rattle.rtps_shards.specs.Results.{IsResultOf}
use Rattle.rtps_shards.specs.declared.board.Board.{Board}
use Rattle.rtps_shards.specs.declared.board.Hand.{Hand}
use Rattle.rtps_shards.specs.declared.board.Thief.{Thief}
use Rattle.rtps_shards.specs.declared.jobs.JobResult.{JobResult}
use Rattle.rtps_shards.specs.declared.jobs.Posted.{Posted}
use Rattle.rtps_shards.specs.declared.work.Worked.{Worked}

-- the results are those of the jobs, one by one and in order
unfoldable pub AreDone : {V M : Type 0} → (V → M) → Decoding M → List EventView → List (Posted V)
    → List (JobResult V) → Type 0
AreDone f decoding es jobs results = AllZip (IsResultOf f decoding es) jobs results

-- the results are those of the jobs, one by one, each job as often as it is there
pub record AreResultsOf {V M : Type 0} (f : V → M) (decoding : Decoding M) (es : List EventView)
    (jobs : List (Posted V)) (results : List (JobResult V)) : Type 0 where
  pub order : List (Posted V)
  pub same : IsPermutation jobs order
  pub done : AreDone f decoding es order results

-- an end has taken some more items
pub record TakesSome {T : Type 0} (v w : Hand T) : Type 0 where
  pub items : List T
  pub view : w ≡ hand v.parts v.put (v.taken ++ items)

-- an end has taken some more jobs, and these are their results, in order
pub record Works {V M : Type 0} (f : V → M) (decoding : Decoding M) (es : List EventView)
    (v w : Hand (Posted V)) (results : List (JobResult V)) : Type 0 where
  pub jobs : List (Posted V)
  pub done : AreDone f decoding es jobs results
  pub view : w ≡ hand v.parts v.put (v.taken ++ jobs)

-- what a thief has done in its work
pub record HasWorked {V M : Type 0} (f : V → M) (decoding : Decoding M) (es : List EventView)
    (before : Thief (Posted V)) (after : Worked V) : Type 0 where
  pub board : IsSameThief before after.thief
  pub works : IfOk after.results
      (λ rs. Works f decoding es (thief_hand before) (thief_hand after.thief) rs.items)

-- a thief of this board that had taken nothing before: its results are those of the jobs it took
abbrev pub HasDone : {V M : Type 0} → (V → M) → Decoding M → List EventView → Board (Posted V)
    → Worked V → Type 0
HasDone f decoding es board w =
    IsThiefOf board w.thief
    × IfOk w.results (λ rs. Works f decoding es (hand 1 [] []) (thief_hand w.thief) rs.items)

-- all thieves have worked: if they were new thieves of a board, each has the results of the jobs it
-- took
abbrev pub HaveAllDone : {V M : Type 0} → (V → M) → Decoding M → List EventView
    → List (Thief (Posted V)) → List (Worked V) → Type 0
HaveAllDone f decoding es thieves crew =
    (length crew ≡ length thieves)
    × ((board : Board (Posted _)) → All (IsNewThiefOf board) thieves
    → All (HasDone f decoding es board) crew)

-- `crew` thieves came back: the results are those of all jobs taken so far
pub record IsBack {V M : Type 0} (f : V → M) (decoding : Decoding M) (es : List EventView)
    (v : Hand (Posted V)) (crew : ℕ) (w : Hand (Posted V)) (results : Vec (JobResult V) Global)
    : Type 0 where
  pub parts : w.parts ≡ v.parts + crew
  pub put : w.put ≡ v.put
  pub done : AreDone f decoding es w.taken results.items
