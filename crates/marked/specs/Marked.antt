-- Document 01's marked examples, P1 to P6 and P8 to P12, as one list, and when an example holds: by the outcomes that the
-- contracts of the report, the bounds and the guards name.
use Rattle.std.specs.Prelude.{ℕ, ◌*◌, ◌-◌, ◌≤◌, ◌<◌, ◌≡◌, true, cond, List, [], ◌∷◌, length, get_or, replicate, Err, Ok}
use Prim.Native.String.{String}
use Rattle.facts.specs.Least.{Least}
use Rattle.facts.specs.Filled.{laid}
use Rattle.table.specs.Table.{Table, at, rows}
use Rattle.table.specs.Refusals.{number_of, place_of}
use Rattle.table.specs.declared.refusal.Refusal.{Refusal}
use Rattle.planfile.specs.Reading.{table, held}
use Rattle.equations.specs.Row.{Row, work_to}
use Rattle.bounds.specs.Bounds.{equations, Numbers, accepted, Lists, needed, filled_in, Bounding}
use Rattle.report.specs.Reporting.{FileReported}
use Rattle.guards.specs.declared.state.State.{State}
use Rattle.guards.specs.Calls.{fresh_start}
use Rattle.marked.specs.Text.{text_of}
use Rattle.marked.specs.Run.{Call, arrival, clock_tick, lent_to, outcome_of, steps, after, all_taken, told_released, counted_released, RowRun, row_runs, Arrivals, at_full_times}

-- What is expected of a row: D, M, the bounds of its instances from 1 on, and its bound.
pub record RowNumbers : Type 0 where
  pub busy : ℕ
  pub instances : ℕ
  pub instance_bounds : List ℕ
  pub bound : ℕ

abbrev pub numbers : ℕ → ℕ → List ℕ → ℕ → RowNumbers
numbers busy instances instance_bounds bound = record { busy = busy; instances = instances; instance_bounds = instance_bounds; bound = bound }

-- What an example shows.
pub data Example : Type 0 where
  -- A plan file, the plan that it holds, and its whole report; both texts as lines.
  reported : List String → Table → List String → Example
  -- A plan and the numbers of all its rows.
  bounded : Table → List RowNumbers → Example
  -- A plan without bounds: the refusal's number and place.
  unbounded : Table → ℕ → ℕ → Example
  -- A plan, calls from a fresh start, and when each row is released and completes.
  ran : Table → List Call → List RowRun → Example
  -- A plan, calls from a fresh start, and one call more that is refused: its number and place.
  refused : Table → List Call → Call → ℕ → ℕ → Example

-- B is the bound of instance m = k + 1: C(m) − (m − 1) × p.
pub record InstanceBound (q : Row) (k B : ℕ) : Type 0 where
  pub end : ℕ
  pub ends : Least (work_to q k) end
  pub bound : B ≡ end - k * q.period

-- What is expected of row r, counted from 0.
unfoldable pub expected_of : List RowNumbers → ℕ → RowNumbers
expected_of expected r = get_or expected r (numbers 0 0 [] 0)

-- The numbers expected.
unfoldable pub numbers_of : List RowNumbers → Numbers
numbers_of expected = record {
  busy = λ r. (expected_of expected r).busy;
  instances = λ r. (expected_of expected r).instances;
  bound = λ r. (expected_of expected r).bound;
}

-- The plan has the numbers expected: they are filled into whatever lists are lent that are long enough, and each instance
-- of a row has its bound.
pub record HasBounds (T : Table) (expected : List RowNumbers) : Type 0 where
  pub outcome :
      (lent : Lists) → needed T lent ≡ 0
      → Bounding T lent (filled_in T (numbers_of expected) lent) (Ok (cond (accepted T (numbers_of expected)) 1 0))
  pub counted : (r : ℕ) → r < rows T → length (expected_of expected r).instance_bounds ≡ (expected_of expected r).instances
  pub each :
      (r : ℕ) → r < rows T → (k : ℕ) → k < (expected_of expected r).instances
      → InstanceBound (equations T r) k (at (expected_of expected r).instance_bounds k)

-- There is a refusal of this number and place with the property.
pub record RefusalOf (number place : ℕ) (property : Refusal → Type 0) : Type 0 where
  pub refusal : Refusal
  pub has_number : number_of refusal ≡ number
  pub has_place : place_of refusal ≡ place
  pub holds : property refusal

-- Each entry of the list has the property.
abbrev pub Every : {A : Type 0} → (A → Type 0) → List A → Type 0
Every property [] = Unit {0}
Every property (x ∷ xs) = property x × Every property xs

-- When an example holds. A report is delivered to every output with room for it; bounds are filled into, or refused on, all
-- lists that are long enough; and a run starts afresh on any state.
abbrev pub Holds : Example → Type 0
Holds (reported file T report) =
    (held (text_of file) ≡ table T)
    × ((out : List ℕ) → length (text_of report) ≤ length out
    → FileReported (text_of file) out (record { answer = Ok (length (text_of report)); out = laid (text_of report) out }))
Holds (bounded T expected) = HasBounds T expected
Holds (unbounded T number place) =
    (lent : Lists) → needed T lent ≡ 0 → RefusalOf number place (λ r. Bounding T lent lent (Err r))
Holds (ran T calls rows) =
    (any : State)
    → let run = steps T (fresh_start T any).state calls in
    (all_taken run ≡ true) × (row_runs told_released T run ≡ rows) × (row_runs counted_released T run ≡ rows)
Holds (refused T calls call number place) =
    (any : State)
    → let found = after T (fresh_start T any).state calls in
    (all_taken (steps T (fresh_start T any).state calls) ≡ true)
    × RefusalOf number place (λ r. outcome_of T found call ≡ record { outcome = record { answer = Err r; state = found }; released = lent_to T call })

-- Document 01's plan, as a file and as a table.
unfoldable pub paper_file : List String
paper_file =
    "plan=1"
    ∷ "processors=2"
    ∷ "tasks=3"
    ∷ "task=1"
    ∷ "period=4"
    ∷ "deadline=0"
    ∷ "steps=1"
    ∷ "processor=1"
    ∷ "priority=2"
    ∷ "time=2"
    ∷ "task=2"
    ∷ "period=6"
    ∷ "deadline=0"
    ∷ "steps=2"
    ∷ "processor=1"
    ∷ "priority=1"
    ∷ "time=2"
    ∷ "processor=2"
    ∷ "priority=2"
    ∷ "time=2"
    ∷ "task=3"
    ∷ "period=6"
    ∷ "deadline=0"
    ∷ "steps=1"
    ∷ "processor=2"
    ∷ "priority=1"
    ∷ "time=3"
    ∷ []

unfoldable pub paper_plan : Table
paper_plan = record {
  processors = 2;
  tasks = 3;
  period = 4 ∷ 6 ∷ 6 ∷ [];
  deadline = 0 ∷ 0 ∷ 0 ∷ [];
  steps = 1 ∷ 2 ∷ 1 ∷ [];
  processor = 1 ∷ 1 ∷ 2 ∷ 2 ∷ [];
  priority = 2 ∷ 1 ∷ 2 ∷ 1 ∷ [];
  time = 2 ∷ 2 ∷ 2 ∷ 3 ∷ [];
}

-- Its report.
unfoldable pub paper_report : List String
paper_report =
    "report=1"
    ∷ "row=1"
    ∷ "busy=2"
    ∷ "instances=1"
    ∷ "bound=2"
    ∷ "row=2"
    ∷ "busy=4"
    ∷ "instances=1"
    ∷ "bound=4"
    ∷ "row=3"
    ∷ "busy=2"
    ∷ "instances=1"
    ∷ "bound=2"
    ∷ "row=4"
    ∷ "busy=5"
    ∷ "instances=1"
    ∷ "bound=5"
    ∷ "task=1"
    ∷ "bound=2"
    ∷ "deadline=4"
    ∷ "slack=2"
    ∷ "task=2"
    ∷ "bound=6"
    ∷ "deadline=6"
    ∷ "slack=0"
    ∷ "task=3"
    ∷ "bound=5"
    ∷ "deadline=6"
    ∷ "slack=1"
    ∷ "processor=1"
    ∷ "load=833"
    ∷ "processor=2"
    ∷ "load=833"
    ∷ "accepted=1"
    ∷ []

-- A plan of one processor, in which each row is a chain of its own: its rows' periods, priorities and times.
unfoldable pub own_chains : List ℕ → List ℕ → List ℕ → Table
own_chains period priority time = record {
  processors = 1;
  tasks = length period;
  period = period;
  deadline = replicate (length period) 0;
  steps = replicate (length period) 1;
  processor = replicate (length period) 1;
  priority = priority;
  time = time;
}

-- A task, by its number, arrives at these clocks.
abbrev task : ℕ → List ℕ → Arrivals
task number clocks = record { task = number; clocks = clocks }

-- A row, by its number, is released and completes at these clocks.
abbrev row : ℕ → List ℕ → List ℕ → RowRun
row number released completed = record { row = number; released = released; completed = completed }

-- A tick with done 0 on both processors.
abbrev none_done : Call
none_done = clock_tick (λ σ. 0 ∷ 0 ∷ [])

-- P1: the report of document 01's plan.
unfoldable pub p1 : Example
p1 = reported paper_file paper_plan paper_report

-- P2: one row, period 5, time 5.
unfoldable pub p2 : Example
p2 = bounded (own_chains (5 ∷ []) (1 ∷ []) (5 ∷ [])) (numbers 5 1 (5 ∷ []) 5 ∷ [])

-- P3: time 6.
unfoldable pub p3 : Example
p3 = unbounded (own_chains (5 ∷ []) (1 ∷ []) (6 ∷ [])) 6 1

-- P4: row 1, of period 70 and time 26, is more urgent than row 2, of period 100 and time 62.
unfoldable pub p4 : Example
p4 =
    bounded (own_chains (70 ∷ 100 ∷ []) (2 ∷ 1 ∷ []) (26 ∷ 62 ∷ []))
    (numbers 26 1 (26 ∷ []) 26
    ∷ numbers 694 7 (114 ∷ 102 ∷ 116 ∷ 104 ∷ 118 ∷ 106 ∷ 94 ∷ []) 118
    ∷ [])

-- P5: equal priorities, period 10, times 3 and 4.
unfoldable pub p5 : Example
p5 =
    bounded (own_chains (10 ∷ 10 ∷ []) (1 ∷ 1 ∷ []) (3 ∷ 4 ∷ []))
    (numbers 7 1 (7 ∷ []) 7 ∷ numbers 7 1 (7 ∷ []) 7 ∷ [])

-- P6: the same with row 1 more urgent.
unfoldable pub p6 : Example
p6 =
    bounded (own_chains (10 ∷ 10 ∷ []) (2 ∷ 1 ∷ []) (3 ∷ 4 ∷ []))
    (numbers 3 1 (3 ∷ []) 3 ∷ numbers 7 1 (7 ∷ []) 7 ∷ [])

-- P8: period 1,000,000 and time 500,000 above period 999,998 and time 499,999.
unfoldable pub p8 : Example
p8 = unbounded (own_chains (1000000 ∷ 999998 ∷ []) (2 ∷ 1 ∷ []) (500000 ∷ 499999 ∷ [])) 6 2

-- P9: document 01's plan at full times for 12 ticks: row 3 is released at 4 and 9, and row 4 completes at 9.
unfoldable pub p9 : Example
p9 =
    ran paper_plan
    (at_full_times paper_plan 12 (task 1 (0 ∷ 4 ∷ 8 ∷ []) ∷ task 2 (0 ∷ 6 ∷ []) ∷ task 3 (4 ∷ []) ∷ []))
    (row 1 (0 ∷ 4 ∷ 8 ∷ []) (2 ∷ 6 ∷ 10 ∷ [])
    ∷ row 2 (0 ∷ 6 ∷ []) (4 ∷ 8 ∷ [])
    ∷ row 3 (4 ∷ 9 ∷ []) (6 ∷ 11 ∷ [])
    ∷ row 4 (4 ∷ []) (9 ∷ [])
    ∷ [])

-- P10: the same without task 3.
unfoldable pub p10 : Example
p10 =
    ran paper_plan
    (at_full_times paper_plan 12 (task 1 (0 ∷ 4 ∷ 8 ∷ []) ∷ task 2 (0 ∷ 6 ∷ []) ∷ []))
    (row 1 (0 ∷ 4 ∷ 8 ∷ []) (2 ∷ 6 ∷ 10 ∷ [])
    ∷ row 2 (0 ∷ 6 ∷ []) (4 ∷ 8 ∷ [])
    ∷ row 3 (4 ∷ 8 ∷ []) (6 ∷ 10 ∷ [])
    ∷ row 4 [] []
    ∷ [])

-- P11: task 1 arrives at 0 and again at 3.
unfoldable pub p11 : Example
p11 = refused paper_plan (at_full_times paper_plan 3 (task 1 (0 ∷ []) ∷ [])) (arrival 1) 9 4

-- P12: task 1 arrives at 0, and of two ticks with done 0 the second is refused.
unfoldable pub p12 : Example
p12 = refused paper_plan (arrival 1 ∷ none_done ∷ []) none_done 12 1

-- All of them.
unfoldable pub examples : List Example
examples = p1 ∷ p2 ∷ p3 ∷ p4 ∷ p5 ∷ p6 ∷ p8 ∷ p9 ∷ p10 ∷ p11 ∷ p12 ∷ []
