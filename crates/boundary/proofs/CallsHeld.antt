-- Each call on byte lists leaves a list that holds the very state which the call on the held state leaves.
use Rattle.std.specs.Prelude.{ℕ, min, ◌≤◌, ◌≡◌, Bool, true, false, length, Err, Ok, Result}
use Rattle.std.proofs.Math.Path.{refl, ap, subst}
use Rattle.std.proofs.Common.{sym, ◌∙◌, arith}
use Rattle.std.proofs.Math.Bool.{cond}
use mathlib.Core.List.{List, [], ◌∷◌}
use Rattle.std.proofs.Math.Dec.{eqb}
use Rattle.facts.specs.Sums.{sum}
use Rattle.table.specs.Table.{Table, at, first_row, rows, is_plan}
use Rattle.table.specs.TableLaws.{Checked, checked}
use Rattle.table.specs.Plan.{plan_of}
use Rattle.table.specs.PlanLaws.{Small, small_of}
use Rattle.table.specs.Refusals.{number_of}
use Rattle.table.specs.declared.refusal.Refusal.{Refusal}
use Rattle.table.specs.declared.refusal.Refusal.TheVariants.{
  FileTooLong,
  NotTheLineDue,
  OutOfRange,
  TooManyRows,
  NotAPlan,
  NoBusyLength,
  TooShort,
  NoSuchTask,
  TooSoon,
  WrongDoneLength,
  WrongDoneByte,
  TimeUsedUp,
  ClockAtEnd,
  StateDoesNotFit,
}
use Rattle.guards.specs.declared.state.State.{State}
use Rattle.guards.specs.Outcome.{Outcome}
use Rattle.guards.specs.Moment.{Moment, moment_of, state_with}
use Rattle.guards.specs.Machine.{start}
use Rattle.guards.specs.Fits.{fits}
use Rattle.guards.specs.FitsLaws.{Fits, fits_of}
use Rattle.guards.specs.Calls.{fresh_start, arrive, tick, TickOutcome}
use Rattle.guards.specs.TakenLaws.{Arriving, arrive_is, Ticking, tick_is}
use Rattle.guards.specs.CallsFit.{fresh_start_fits, arrive_fits, tick_fits}
use Rattle.promise.specs.Promise.{Call, outcome_of, is_taken, after, ticks_by, ticks_taken}
use Rattle.rack.specs.Layouts.{table_bytes, state_bytes, table_in, rows_in, state_in}
use Rattle.rack.specs.RackCalls.{StateOutcome, refused_as, answered_as, list_after, kept_in, guarded, called, called_in, rack_call, rack_fresh, rack_arrive, rack_tick}
use Rattle.rack.specs.LayoutsLaws.{rows_held_in}
use Rattle.rack.specs.GuardedLaws.{right_lengths}
use Rattle.boundary.specs.OnBytes.{rack_outcome, rack_after, rack_ticks_by, rack_ticks}
use Rattle.boundary.specs.StateHeld.{Words, state_held, length_held}

-- A table list that holds a plan has the plan's rows.
pub rows_in_table : (table : List ℕ) → is_plan (table_in table) ≡ true → rows_in table ≡ rows (table_in table)
unfolding rows first_row
rows_in_table table plan = sym (rows_held_in table refl) ∙ all (checked (table_in table) plan)
  where
    T : Table
    T = table_in table

    all : Checked T → min (sum (min T.tasks 32) (at T.steps)) 128 ≡ sum T.tasks (at T.steps)
    all ok =
        let e : min T.tasks 32 ≡ T.tasks = omega (arith, ok.tasks_most) in
        rw e (omega (arith, ok.rows_most))

-- A state that fits a plan has numbers of 64 bits in the plan's rows.
pub fits_words : (T : Table) → is_plan T ≡ true → (σ : State) → fits (plan_of T) (moment_of σ) ≡ true → Words (rows T) σ
unfolding plan_of moment_of
fits_words T plan σ fitting = record {
  clock = omega (arith, f.clock);
  released = λ r l. omega (arith, f.clock, (f.row r l).few);
  completed = λ r l. omega (arith, f.clock, (f.row r l).few, (f.row r l).order);
  used = λ r l. omega (arith, (f.row r l).within, s.cost_most r l);
  guard = λ r l. omega (arith, f.clock, (f.row r l).near, s.period_most r l);
}
  where
    f : Fits (plan_of T) (moment_of σ)
    f = fits_of (plan_of T) (moment_of σ) fitting

    s : Small (plan_of T)
    s = small_of T (checked T plan)

-- No refusal has the number 0,
pub refusal_number : (refusal : Refusal) → eqb (number_of refusal) 0 ≡ false
refusal_number FileTooLong = refl
refusal_number (NotTheLineDue line) = refl
refusal_number (OutOfRange line) = refl
refusal_number (TooManyRows line) = refl
refusal_number NotAPlan = refl
refusal_number (NoBusyLength row) = refl
refusal_number (TooShort needed) = refl
refusal_number (NoSuchTask given) = refl
refusal_number (TooSoon allowed) = refl
refusal_number (WrongDoneLength processors) = refl
refusal_number (WrongDoneByte processor) = refl
refusal_number (TimeUsedUp processor) = refl
refusal_number ClockAtEnd = refl
refusal_number StateDoesNotFit = refl

-- so the number 0 says that a call was taken.
pub number_taken : (answer : Result ℕ Refusal) → eqb (answered_as answer).number 0 ≡ is_taken answer
unfolding answered_as refused_as is_taken
number_taken (Ok value) = refl
number_taken (Err refusal) = refusal_number refusal

-- What a call leaves: the state as it was, or its clock and first n rows made anew.
data Left (n : ℕ) (σ : State) : Outcome → Type 0 where
  refused : (refusal : Refusal) → Left n σ (record { answer = Err refusal; state = σ })
  taken : (value : ℕ) (m : Moment) → Left n σ (record { answer = Ok value; state = state_with n m σ })

-- A state list of the layout's length that holds the state σ, which fits the plan.
pub record Holds (table state : List ℕ) (σ : State) : Type 0 where
  pub size : length state ≡ state_bytes
  pub held : state_in (rows_in table) state ≡ σ
  pub fitting : fits (plan_of (table_in table)) (moment_of σ) ≡ true

module _ (table : List ℕ) (length_is : length table ≡ table_bytes) (plan : is_plan (table_in table) ≡ true) where
  abbrev T : Table
  T = table_in table

  -- The call's list holds its state.
  kept :
      (state : List ℕ) → length state ≡ state_bytes → {o : Outcome} → Left (rows_in table) (state_in (rows_in table) state) o
      → fits (plan_of T) (moment_of o.state) ≡ true → Holds table (kept_in (rows_in table) state o).state o.state
  unfolding kept_in list_after
  kept state size (refused refusal) fitting = record { size = size; held = refl; fitting = fitting }
  kept state size (taken value m) fitting = record {
    size = length_held (rows_in table) few state size m small;
    held = state_held (rows_in table) few state size m small;
    fitting = fitting;
  }
    where
      few : rows_in table ≤ 128
      few = omega (arith, rows_in_table table plan, (checked T plan).rows_most)

      small : Words (rows_in table) (state_with (rows_in table) m (state_in (rows_in table) state))
      small = subst (λ (k : ℕ). Words k (state_with (rows_in table) m (state_in (rows_in table) state))) (sym (rows_in_table table plan)) (fits_words T plan _ fitting)

  -- A call on lists of the layouts' lengths is tried.
  outcome_is : (state : List ℕ) → length state ≡ state_bytes → (o : StateOutcome) → guarded table state o ≡ o
  unfolding guarded
  outcome_is state size o = rw (right_lengths table state length_is size ∙ plan)

  fresh_is : (state : List ℕ) → length state ≡ state_bytes → rack_fresh table state ≡ kept_in (rows_in table) state (fresh_start T (state_in (rows_in table) state))
  unfolding rack_fresh rack_call called_in called
  fresh_is state size = outcome_is state size _

  arrived_is : (state : List ℕ) → length state ≡ state_bytes → (task : ℕ)
      → rack_arrive table state task ≡ kept_in (rows_in table) state (arrive T (state_in (rows_in table) state) task)
  unfolding rack_arrive rack_call called_in called
  arrived_is state size task = outcome_is state size _

  ticked_is : (state : List ℕ) → length state ≡ state_bytes → (done released : List ℕ)
      → (rack_tick table state done released).outcome ≡ kept_in (rows_in table) state (tick T (state_in (rows_in table) state) done released).outcome
  unfolding rack_tick rack_call called_in called
  ticked_is state size done released = outcome_is state size _

  -- A fresh start is taken, and an arrival and a tick are taken or leave the state.
  left_rows : {σ : State} {o : Outcome} → Left (rows T) σ o → Left (rows_in table) σ o
  left_rows {σ} {o} left = subst (λ (k : ℕ). Left k σ o) (sym (rows_in_table table plan)) left

  fresh_left : (σ : State) → Left (rows_in table) σ (fresh_start T σ)
  unfolding fresh_start
  fresh_left σ = left_rows (rw plan (Left.taken 0 start))

  arrive_left : (σ : State) (task : ℕ) → Left (rows_in table) σ (arrive T σ task)
  arrive_left σ task = left_rows (go (arrive_is T σ task))
    where
      go : {o : Outcome} → Arriving T σ task o → Left (rows T) σ o
      go (Arriving.refused why) = Left.refused why
      go (Arriving.taken may) = Left.taken _ _

  tick_left : (σ : State) (done released : List ℕ) → Left (rows_in table) σ (tick T σ done released).outcome
  tick_left σ done released = left_rows (go (tick_is T σ done released))
    where
      go : {o : TickOutcome} → Ticking T σ done released o → Left (rows T) σ o.outcome
      go (Ticking.refused why) = Left.refused why
      go (Ticking.taken may) = Left.taken _ _

  -- After a fresh start on any list,
  pub fresh_held :
      (any : List ℕ) → length any ≡ state_bytes
      → Holds table (rack_fresh table any).state (fresh_start T (state_in (rows_in table) any)).state
  fresh_held any size = rw (fresh_is any size) (kept any size (fresh_left _) (fresh_start_fits T plan _))

  -- and after each call on a list that holds a state, the list holds the state that the call leaves,
  pub call_held :
      {state : List ℕ} {σ : State} → Holds table state σ → (call : Call)
      → Holds table (rack_outcome table state call).state (outcome_of T σ call).state
  unfolding rack_outcome outcome_of
  call_held {state} {σ} h (Call.arrival task) =
      subst (λ (x : State). Holds table (rack_arrive table state task).state (arrive T x task).state) h.held
      (rw (arrived_is state h.size task)
      (kept state h.size (arrive_left _ task) (arrive_fits T plan _ (rw h.held h.fitting) task)))
  call_held {state} {σ} h (Call.clock_tick done released) =
      subst (λ (x : State). Holds table (rack_tick table state done released).outcome.state (tick T x done released).outcome.state) h.held
      (rw (ticked_is state h.size done released)
      (kept state h.size (tick_left _ done released) (tick_fits T plan _ (rw h.held h.fitting) done released)))

  -- with the answer of that call.
  pub arrival_answered :
      {state : List ℕ} {σ : State} → Holds table state σ → (task : ℕ)
      → eqb (rack_arrive table state task).answer.number 0 ≡ is_taken (arrive T σ task).answer
  unfolding kept_in
  arrival_answered {state} {σ} h task =
      ap (λ (o : StateOutcome). eqb o.answer.number 0) (arrived_is state h.size task)
      ∙ number_taken (arrive T (state_in (rows_in table) state) task).answer
      ∙ ap (λ (x : State). is_taken (arrive T x task).answer) h.held

  tick_answered :
      {state : List ℕ} {σ : State} → Holds table state σ → (done released : List ℕ)
      → eqb (rack_tick table state done released).outcome.answer.number 0 ≡ is_taken (tick T σ done released).outcome.answer
  unfolding kept_in
  tick_answered {state} {σ} h done released =
      ap (λ (o : StateOutcome). eqb o.answer.number 0) (ticked_is state h.size done released)
      ∙ number_taken (tick T (state_in (rows_in table) state) done released).outcome.answer
      ∙ ap (λ (x : State). is_taken (tick T x done released).outcome.answer) h.held

  call_ticks : {state : List ℕ} {σ : State} → Holds table state σ → (call : Call) → rack_ticks_by table state call ≡ ticks_by T σ call
  unfolding rack_ticks_by ticks_by
  call_ticks h (Call.arrival task) = refl
  call_ticks h (Call.clock_tick done released) = ap (λ (b : Bool). cond b 1 0) (tick_answered h done released)

  -- So calls on one list are a run: the list holds the state after them, and as many ticks were taken.
  pub calls_held :
      {state : List ℕ} {σ : State} → Holds table state σ → (calls : List Call)
      → Holds table (rack_after table state calls) (after T σ calls)
  unfolding rack_after after
  calls_held h [] = h
  calls_held {state = state} {σ = σ} h (call ∷ calls) =
      calls_held {state = (rack_outcome table state call).state} {σ = (outcome_of T σ call).state} (call_held h call) calls

  pub calls_ticks :
      {state : List ℕ} {σ : State} → Holds table state σ → (calls : List Call) → rack_ticks table state calls ≡ ticks_taken T σ calls
  unfolding rack_ticks ticks_taken
  calls_ticks h [] = refl
  calls_ticks {state = state} {σ = σ} h (call ∷ calls) =
      omega (arith, call_ticks h call, calls_ticks {state = (rack_outcome table state call).state} {σ = (outcome_of T σ call).state} (call_held h call) calls)
