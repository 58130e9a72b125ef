-- The promise at work: document 01's plan and a lighter one, with runs of both, all by computation.
use Rattle.std.specs.Prelude.{ℕ, List, [], ◌∷◌, pos}
use Rattle.table.specs.Table.{Table, at}
use Rattle.bounds.specs.Bounds.{Numbers, Lists}
use Rattle.guards.specs.declared.state.State.{State}
use Rattle.guards.specs.Calls.{fresh_start, arrive}
use Rattle.promise.specs.Promise.{Call, after}

-- Document 01's plan.
unfoldable pub paper_plan : Table
paper_plan = record {
  processors = 2;
  tasks = 3;
  period = 4 ∷ 6 ∷ 6 ∷ [];
  deadline = 0 ∷ 0 ∷ 0 ∷ [];
  steps = 1 ∷ 2 ∷ 1 ∷ [];
  processor = 1 ∷ 1 ∷ 2 ∷ 2 ∷ [];
  priority = 2 ∷ 1 ∷ 2 ∷ 1 ∷ [];
  time = 2 ∷ 2 ∷ 2 ∷ 3 ∷ [];
}

-- A lighter one: longer periods for tasks 1 and 2, less time for rows 1 and 3.
unfoldable pub lighter_plan : Table
lighter_plan = record {
  processors = 2;
  tasks = 3;
  period = 5 ∷ 7 ∷ 6 ∷ [];
  deadline = 0 ∷ 0 ∷ 0 ∷ [];
  steps = 1 ∷ 2 ∷ 1 ∷ [];
  processor = 1 ∷ 1 ∷ 2 ∷ 2 ∷ [];
  priority = 2 ∷ 1 ∷ 2 ∷ 1 ∷ [];
  time = 1 ∷ 2 ∷ 1 ∷ 3 ∷ [];
}

-- A state to start afresh on: its rows say nothing yet.
unfoldable pub left_over : State
left_over = record { clock = 17; released = []; completed = []; used = []; guard = [] }

-- A tick with these two done bytes.
abbrev pub done : ℕ → ℕ → Call
done a b = Call.clock_tick (a ∷ b ∷ []) (9 ∷ 9 ∷ 9 ∷ 9 ∷ [])

-- Document 01's plan at full times, for five ticks after tasks 1 and 2 have arrived together.
unfoldable pub full_times : List Call
full_times = done 0 0 ∷ done 1 0 ∷ done 0 0 ∷ done 1 0 ∷ Call.arrival 1 ∷ done 0 0 ∷ []

-- On the lighter plan: task 1 arrives; there is no task 9; a done list of one byte, and a tick that takes more than row 1's
-- time, are refused; row 1 ends at clock 1, and task 3 arrives.
unfoldable pub calls_before : List Call
calls_before =
    Call.arrival 1 ∷ Call.arrival 9 ∷ Call.clock_tick (0 ∷ []) [] ∷ done 0 0 ∷ done 1 0 ∷ Call.arrival 3 ∷ []

-- Task 2 has arrived, and again is too soon; row 4 ends after one tick of its three; a done byte where nothing runs is
-- refused; row 2 ends, row 3 is released and takes no more than its time; nothing runs for the last three ticks.
unfoldable pub calls_afterwards : List Call
calls_afterwards =
    Call.arrival 2 ∷ done 0 1 ∷ done 1 1 ∷ done 1 0 ∷ done 0 0 ∷ done 0 1 ∷ done 0 0 ∷ done 0 0 ∷ done 0 0 ∷ []

-- The state in which the arrival of task 2 finds the rack after these calls, and the one that it leaves.
abbrev pub found_after : Table → List Call → State
found_after T before = after T (fresh_start T left_over).state before

abbrev pub left_after : Table → List Call → State
left_after T before = (arrive T (found_after T before) 2).state

-- The bounds of document 01's plan, as its report has them.
unfoldable pub paper_numbers : Numbers
paper_numbers = record {
  busy = at (2 ∷ 4 ∷ 2 ∷ 5 ∷ []);
  instances = at (1 ∷ 1 ∷ 1 ∷ 1 ∷ []);
  bound = at (2 ∷ 4 ∷ 2 ∷ 5 ∷ []);
}

-- Lists lent for them.
unfoldable pub lent : Lists
lent = record {
  busy = 0 ∷ 0 ∷ 0 ∷ 0 ∷ [];
  instances = 0 ∷ 0 ∷ 0 ∷ 0 ∷ [];
  bound = 0 ∷ 0 ∷ 0 ∷ 0 ∷ [];
  chain = 0 ∷ 0 ∷ 0 ∷ [];
  slack = pos 0 ∷ pos 0 ∷ pos 0 ∷ [];
}
