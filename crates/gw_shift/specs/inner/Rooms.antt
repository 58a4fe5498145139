-- What a row of calls needs before the lock is taken.
use Rattle.std.specs.Prelude.{◌≡◌, ◌≤◌, ℕ, List, [], length, vec_capacity}
use Rattle.gw_answer.specs.declared.step.Step.{Step}
use Rattle.gw_shift.specs.declared.row.Room.{Room}
use Rattle.gw_shift.specs.declared.row.Row.{Row}

-- a row in which no call was made, with room for so many
pub record IsEmptyCallRow (count : ℕ) (row : Row) : Type 0 where
  pub none : (row.entries.items ≡ []) × (row.held.items ≡ []) × (row.answers.items ≡ [])
  pub entries : count ≤ vec_capacity row.entries
  pub held : count ≤ vec_capacity row.held
  pub answers : count ≤ vec_capacity row.answers

-- shares of these calls, and room for their answers
pub record IsRoomForCalls (steps : List Step) (room : Room) : Type 0 where
  pub shares : room.shares.items ≡ steps
  pub replies : (room.replies.items ≡ []) × (length steps ≤ vec_capacity room.replies)
  pub row : IsEmptyCallRow (length steps) room.row
