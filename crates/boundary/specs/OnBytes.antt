-- Runs on byte lists: the host keeps one state list, and every call of the rack finds it as the call before left it.
use Rattle.std.specs.Prelude.{ℕ, pred, ◌+◌, ◌*◌, ◌≤◌, ◌≡◌, cond, List, [], ◌∷◌, eqb, length}
use Rattle.words.specs.Words.{word}
use Rattle.table.specs.Table.{first_row}
use Rattle.promise.specs.Promise.{Call, last_row}
use Rattle.rack.specs.Layouts.{state_bytes, table_in}
use Rattle.rack.specs.RackCalls.{StateOutcome, rack_fresh, rack_arrive, rack_tick}

-- What a call on byte lists comes to: its answer, and the state list as it then is.
unfoldable pub rack_outcome : List ℕ → List ℕ → Call → StateOutcome
rack_outcome table state (Call.arrival task) = rack_arrive table state task
rack_outcome table state (Call.clock_tick done released) = (rack_tick table state done released).outcome

-- The state list after a list of calls, refused ones included.
unfoldable pub rack_after : List ℕ → List ℕ → List Call → List ℕ
rack_after table state [] = state
rack_after table state (call ∷ calls) = rack_after table (rack_outcome table state call).state calls

-- 1 for a tick that is answered with number 0, and 0 for any other call.
unfoldable pub rack_ticks_by : List ℕ → List ℕ → Call → ℕ
rack_ticks_by table state (Call.arrival task) = 0
rack_ticks_by table state (Call.clock_tick done released) = cond (eqb (rack_tick table state done released).outcome.answer.number 0) 1 0

-- The number of ticks taken in a list of calls.
unfoldable pub rack_ticks : List ℕ → List ℕ → List Call → ℕ
rack_ticks table state [] = 0
rack_ticks table state (call ∷ calls) = rack_ticks_by table state call + rack_ticks table (rack_outcome table state call).state calls

-- The words of a state list that say of row r, counted from 0, how many instances it has released and completed.
abbrev pub released_of : List ℕ → ℕ → ℕ
released_of state r = word state (1 + 4 * r)

abbrev pub completed_of : List ℕ → ℕ → ℕ
completed_of state r = word state (2 + 4 * r)

-- Every instance of the task, by its number, ends within so many ticks. Start afresh on any state list, make any calls, and
-- let an arrival of the task be taken; make any calls again. Once so many ticks have been taken among them, the state list
-- says that the chain's last row has completed as many instances as its first row had released at the arrival.
abbrev pub RackEndsWithin : List ℕ → ℕ → ℕ → Type 0
RackEndsWithin table task ticks =
    (any : List ℕ) → length any ≡ state_bytes → (before afterwards : List Call)
    → let found = rack_after table (rack_fresh table any).state before in
    let left = rack_arrive table found task in
    left.answer.number ≡ 0 → ticks ≤ rack_ticks table left.state afterwards
    → released_of left.state (first_row (table_in table) (pred task))
    ≤ completed_of (rack_after table left.state afterwards) (last_row (table_in table) (pred task))
