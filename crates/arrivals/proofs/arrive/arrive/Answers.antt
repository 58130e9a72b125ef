use Rattle.std.proofs.Common.{arith}
use Rattle.arrivals.proofs.CameLemmas.{Here, here_allowed, came_soon, came_taken}
use Rattle.arrivals.proofs.arrive.arrive.Given.{Over}
use Rattle.arrivals.proofs.arrive.arrive.Goals.{In_ok-row}
use Rattle.arrivals.proofs.arrive.arrive.Goals as goal
use Rattle.std.proofs.Common.{◌-◌}

-- Past the refusals of the table, the state and the task the row has its place.
place : (g : Over) (c : In_ok-row g) → Here (g.T.TableView.table c.args.table.now) (g.S.StateView.state c.args.state.now) c.args.task (c.args.task - 1) c.in_ok-row.row
place g c = here_allowed _ _ _ _ c.in_ok-row.ensures.allowed

pub guard-due-requires : goal.guard-due-requires
guard-due-requires g c = (place g (goal.at.guard-due-requires g c).In_ok-row).at_row.guard_long

pub returns-then-clock-due-clause-outcome : goal.returns-then-clock-due-clause-outcome
returns-then-clock-due-clause-outcome g c =
    let a = c.in_ok-row.ensures.allowed in
    rw c.guard-due.ensures (came_soon _ _ c.args.task a.plan a.fits a.task_is c.in_ok-row.row a.row_is (omega (arith, c.clock-clock.ensures, c.guard-due.ensures)))

pub released-released-requires : goal.released-released-requires
released-released-requires g c = (place g (goal.at.released-released-requires g c).In_ok-row).at_row.released_long

pub overflow_add-released : goal.overflow_add-released
overflow_add-released g c =
    let h = (place g (goal.at.overflow_add-released g c).In_ok-row).at_row in
    omega (arith, h.released_most, h.clock_most, c.released-released.ensures)

pub set_released-requires : goal.set_released-requires
set_released-requires g c = (place g (goal.at.set_released-requires g c).In_ok-row).at_row.released_long

pub period-requires : goal.period-requires
period-requires g c = (place g (goal.at.period-requires g c).In_ok-row).period_long

pub overflow_add-clock : goal.overflow_add-clock
overflow_add-clock g c =
    let h = (place g (goal.at.overflow_add-clock g c).In_ok-row).at_row in
    omega (arith, h.clock_most, h.period_most, c.clock-clock.ensures, c.period.ensures)

pub set_guard-requires : goal.set_guard-requires
set_guard-requires g c = rw c.set_released.ensures.state (place g (goal.at.set_guard-requires g c).In_ok-row).at_row.guard_long

pub overflow_add-result : goal.overflow_add-result
overflow_add-result g c = omega (arith, (place g (goal.at.overflow_add-result g c).In_ok-row).at_row.row_most)

pub returns-clause-outcome : goal.returns-clause-outcome
returns-clause-outcome g c =
    let a = c.in_ok-row.ensures.allowed in
    let m = came_taken _ _ c.args.task a.plan a.fits a.task_is c.in_ok-row.row a.row_is (omega (arith, c.clock-clock.ensures, c.guard-due.ensures)) in
    rw (c.set_guard.ensures.state, c.set_released.ensures.state, c.released-released.ensures, c.clock-clock.ensures, c.period.ensures) m
