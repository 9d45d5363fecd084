-- What contracts see of the ends of a board.
use Rattle.std.specs.Prelude.{◌≡◌, ℕ, ◌-◌, []}
use Rattle.crossbeam_deque.specs.Handles.{view, stealer_deque, worker_capacity, worker_deque, worker_index, worker_view}
use Rattle.rtps_shards.specs.Board.{hand}
use Rattle.rtps_shards.specs.declared.board.Board.{Board}
use Rattle.rtps_shards.specs.declared.board.Hand.{Hand}
use Rattle.rtps_shards.specs.declared.board.Thief.{Thief}

-- the view of the owner
abbrev pub owner_hand : {T : Type 0} → Board T → Hand T
owner_hand board = worker_view board.owner

-- the view of a thief
abbrev pub thief_hand : {T : Type 0} → Thief T → Hand T
thief_hand thief = view thief.pass

-- the number of pushes that are sure to find room
abbrev pub room : {T : Type 0} → Board T → ℕ
room board = worker_capacity board.owner - worker_index board.owner

-- these are two states of one board
abbrev pub IsSameBoard : {T : Type 0} → Board T → Board T → Type 0
IsSameBoard old new = worker_deque new.owner ≡ worker_deque old.owner

-- the thief steals from this board
abbrev pub IsThiefOf : {T : Type 0} → Board T → Thief T → Type 0
IsThiefOf board thief = stealer_deque thief.robber ≡ worker_deque board.owner

-- these are two states of a thief, which steals from the same board in both
abbrev pub IsSameThief : {T : Type 0} → Thief T → Thief T → Type 0
IsSameThief old new = stealer_deque new.robber ≡ stealer_deque old.robber

-- the thief steals from this board, has one part, and has taken nothing yet
abbrev pub IsNewThiefOf : {T : Type 0} → Board T → Thief T → Type 0
IsNewThiefOf board thief = IsThiefOf board thief × (thief_hand thief ≡ hand 1 [] [])
