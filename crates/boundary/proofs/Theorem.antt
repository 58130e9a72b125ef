-- Demand 3 and "fits is kept", for the state list that the host keeps.
use Rattle.std.specs.Prelude.{ℕ, suc, pred, ◌+◌, ◌*◌, ◌≤◌, ◌<◌, ◌≡◌, refl, true, List, length, Ok}
use Rattle.std.proofs.Common.{sym, ◌∙◌, ap, arith, eq-eqb, eqb-true}
use Rattle.facts.specs.TestsLaws.{clash}
use Rattle.words.specs.Words.{word}
use Rattle.table.specs.Table.{Table, at, first_row, rows, is_plan}
use Rattle.table.specs.TableLaws.{Checked, checked}
use Rattle.table.specs.Plan.{plan_of, in_force}
use Rattle.table.specs.PlanLaws.{first_row_mono}
use Rattle.bounds.specs.Bounds.{Lists, Bounding}
use Rattle.bounds.specs.NoHarder.{NoHarder}
use Rattle.guards.specs.declared.state.State.{State}
use Rattle.guards.specs.Outcome.{Outcome}
use Rattle.guards.specs.Moment.{moment_of}
use Rattle.guards.specs.Fits.{fits}
use Rattle.guards.specs.Calls.{fresh_start, arrive}
use Rattle.guards.specs.TakenLaws.{task_first, Arriving, arrive_is}
use Rattle.promise.specs.Promise.{Call, outcome_of, is_taken, after, ticks_taken, last_row, EndsWithin}
use Rattle.promise.proofs.Theorem.{promise}
use Rattle.rack.specs.Layouts.{table_bytes, state_bytes, table_in, rows_in, state_in}
use Rattle.rack.specs.RackCalls.{rack_fresh, rack_arrive}
use Rattle.boundary.specs.OnBytes.{rack_outcome, rack_after, rack_ticks, released_of, completed_of, RackEndsWithin}
use Rattle.boundary.specs.StateHeld.{released_word, completed_word}
use Rattle.boundary.proofs.CallsHeld.{rows_in_table, Holds, fresh_held, call_held, arrival_answered, calls_held, calls_ticks}

-- The first and the last row of a task are rows of the plan.
first_inside : (T : Table) → Checked T → (i : ℕ) → i < T.tasks → first_row T i < rows T
first_inside T ok i l = (task_first T ok i l).0

last_row_is : (T : Table) (i : ℕ) → last_row T i ≡ pred (first_row T (suc i))
unfolding last_row
last_row_is T i = refl

last_inside : (T : Table) → Checked T → (i : ℕ) → i < T.tasks → last_row T i < rows T
unfolding rows
last_inside T ok i l = omega (arith, last_row_is T i, first_row_mono T (suc i) T.tasks l, first_inside T ok i l)

-- An arrival that is taken is one of a task of the plan.
known : (T : Table) (σ : State) (task : ℕ) → is_taken (arrive T σ task).answer ≡ true → pred task < T.tasks
unfolding is_taken
known T σ task = go (arrive_is T σ task)
  where
    go : {o : Outcome} → Arriving T σ task o → is_taken o.answer ≡ true → pred task < T.tasks
    go (Arriving.refused why) e = absurd (clash e refl)
    go (Arriving.taken may) e = may.known

module _ (table : List ℕ) (size : length table ≡ table_bytes) (plan : is_plan (table_in table) ≡ true) where
  abbrev T : Table
  T = table_in table

  few : rows_in table ≤ 128
  few = omega (arith, rows_in_table table plan, (checked T plan).rows_most)

  -- The words of a list that holds a state are the state's entries.
  released_is : {state : List ℕ} {σ : State} → Holds table state σ → (r : ℕ) → r < rows T → word state (1 + 4 * r) ≡ at σ.released r
  released_is {state} {σ} h r l =
      sym (released_word (rows_in table) few state h.size r (omega (arith, rows_in_table table plan)))
      ∙ ap (λ (x : State). at x.released r) h.held

  completed_is : {state : List ℕ} {σ : State} → Holds table state σ → (r : ℕ) → r < rows T → word state (2 + 4 * r) ≡ at σ.completed r
  completed_is {state} {σ} h r l =
      sym (completed_word (rows_in table) few state h.size r (omega (arith, rows_in_table table plan)))
      ∙ ap (λ (x : State). at x.completed r) h.held

  -- An arrival between calls before and afterwards, on a state list and by value.
  module _ (any : List ℕ) (length_is : length any ≡ state_bytes) (before afterwards : List Call) (task : ℕ) where
    abbrev list : List ℕ
    list = rack_after table (rack_fresh table any).state before

    abbrev found : State
    found = after T (fresh_start T (state_in (rows_in table) any)).state before

    list_holds : Holds table list found
    list_holds = calls_held table size plan (fresh_held table size plan any length_is) before

    left_holds : Holds table (rack_arrive table list task).state (arrive T found task).state
    unfolding rack_outcome outcome_of
    left_holds = call_held table size plan list_holds (Call.arrival task)

    -- It is answered with number 0 exactly where it is taken, and as many ticks are taken after it.
    taken_by : (rack_arrive table list task).answer.number ≡ 0 → is_taken (arrive T found task).answer ≡ true
    taken_by answered = sym (arrival_answered table size plan list_holds task) ∙ eq-eqb _ _ answered

    answered_by : is_taken (arrive T found task).answer ≡ true → (rack_arrive table list task).answer.number ≡ 0
    answered_by taken = eqb-true _ _ (arrival_answered table size plan list_holds task ∙ taken)

    ticks_are : rack_ticks table (rack_arrive table list task).state afterwards ≡ ticks_taken T (arrive T found task).state afterwards
    ticks_are = calls_ticks table size plan left_holds afterwards

    -- Where it is taken, the words of its first and its last row are the state's entries.
    module _ (taken : is_taken (arrive T found task).answer ≡ true) where
      first_word : released_of (rack_arrive table list task).state (first_row T (pred task)) ≡ at (arrive T found task).state.released (first_row T (pred task))
      first_word = released_is left_holds (first_row T (pred task)) (first_inside T (checked T plan) (pred task) (known T found task taken))

      last_word :
          completed_of (rack_after table (rack_arrive table list task).state afterwards) (last_row T (pred task))
          ≡ at (after T (arrive T found task).state afterwards).completed (last_row T (pred task))
      last_word =
          completed_is (calls_held table size plan left_holds afterwards) (last_row T (pred task))
          (last_inside T (checked T plan) (pred task) (known T found task taken))

  -- What is promised of states holds of the words of the list that holds them,
  pub ends_on_bytes : (task ticks : ℕ) → EndsWithin (table_in table) task ticks → RackEndsWithin table task ticks
  ends_on_bytes task ticks ends any length_is before afterwards answered late =
      let taken = taken_by any length_is before afterwards task answered in
      omega (
        arith,
        first_word any length_is before afterwards task taken,
        last_word any length_is before afterwards task taken,
        ends (state_in (rows_in table) any) before afterwards taken (omega (arith, ticks_are any length_is before afterwards task)),
      )

  -- and what is promised of the words holds of the states.
  pub bytes_end :
      (task ticks : ℕ) → RackEndsWithin table task ticks
      → (any : List ℕ) → length any ≡ state_bytes → (before afterwards : List Call)
      → let found = after (table_in table) (fresh_start (table_in table) (state_in (rows_in table) any)).state before in
      let left = arrive (table_in table) found task in
      is_taken left.answer ≡ true → ticks ≤ ticks_taken (table_in table) left.state afterwards
      → at left.state.released (first_row (table_in table) (pred task))
      ≤ at (after (table_in table) left.state afterwards).completed (last_row (table_in table) (pred task))
  bytes_end task ticks ends any length_is before afterwards taken late =
      let answered = answered_by any length_is before afterwards task taken in
      omega (
        arith,
        first_word any length_is before afterwards task taken,
        last_word any length_is before afterwards task taken,
        ends any length_is before afterwards answered (omega (arith, ticks_are any length_is before afterwards task)),
      )

  -- Calls on one state list are a run: after them it holds the state that the same calls leave by value.
  pub rack_run :
      (any : List ℕ) → length any ≡ state_bytes → (calls : List Call)
      → state_in (rows_in table) (rack_after table (rack_fresh table any).state calls)
      ≡ after (table_in table) (fresh_start (table_in table) (state_in (rows_in table) any)).state calls
  rack_run any length_is calls = (calls_held table size plan (fresh_held table size plan any length_is) calls).held

  -- Every state list that calls reach from a fresh start holds a state that fits the plan.
  pub rack_fits :
      (any : List ℕ) → length any ≡ state_bytes → (calls : List Call)
      → fits (plan_of (table_in table)) (moment_of (state_in (rows_in table) (rack_after table (rack_fresh table any).state calls))) ≡ true
  rack_fits any length_is calls =
      let h = calls_held table size plan (fresh_held table size plan any length_is) calls in
      rw h.held h.fitting

-- Demand 3 on byte lists: the table list holds a plan that is no harder than table P, whose bounds are given.
pub rack_promise :
    (P : Table) (table : List ℕ) → length table ≡ table_bytes → is_plan (table_in table) ≡ true → NoHarder P (table_in table)
    → (before after : Lists) (answer : ℕ) → Bounding P before after (Ok answer)
    → (task : ℕ) → RackEndsWithin table task (at after.chain (pred task))
rack_promise P table size plan easier before after answer bounds task =
    ends_on_bytes table size plan task (at after.chain (pred task))
    ((promise P (table_in table) plan easier before after answer bounds).in_time task)

-- So where P is accepted, every instance of a task ends within its deadline in force.
pub rack_deadline :
    (P : Table) (table : List ℕ) → length table ≡ table_bytes → is_plan (table_in table) ≡ true → NoHarder P (table_in table)
    → (before after : Lists) → Bounding P before after (Ok 1)
    → (task : ℕ) → RackEndsWithin table task (in_force (table_in table) (pred task))
rack_deadline P table size plan easier before after bounds task =
    ends_on_bytes table size plan task (in_force (table_in table) (pred task))
    ((promise P (table_in table) plan easier before after 1 bounds).by_deadline refl task)
