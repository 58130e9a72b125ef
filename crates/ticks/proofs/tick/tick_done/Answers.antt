use Rattle.std.proofs.Common.{◌≡◌, suc, Err, sym, ◌∙◌, arith}
use Rattle.guards.specs.Moment.{moment_of}
use Rattle.guards.specs.Rows.{plan_from}
use Rattle.guards.specs.InRows.{rows_of}
use Rattle.ticks.specs.Numbers.{numbers}
use Rattle.ticks.specs.SameLaws.{with_long}
use Rattle.ticks.specs.Steps.{stepped, readied}
use Rattle.ticks.specs.StepsLaws.{steps_made, bytes_made, releasing}
use Rattle.ticks.specs.TickingLaws.{list_long, timely, stepping, clock_end}
use Rattle.ticks.proofs.TickedLaws.{list_wrong, list_up, list_made}
use Rattle.ticks.proofs.tick.tick_done.Goals as goal

pub returns-then-clock-eq-LAST_CLOCK-clause-outcome : goal.returns-then-clock-eq-LAST_CLOCK-clause-outcome
returns-then-clock-eq-LAST_CLOCK-clause-outcome g c =
    let T = g.T.TableView.table c.args.table.now in
    let r = c.args.rows.now in
    clock_end T.processors (plan_from r.count r.periods.now r.firsts.now T.processor T.priority T.time) (g.S.StateView.state c.args.state.now) c.args.done.now c.args.released.now (sym c.clock-clock.ensures ∙ c.if-clock-eq-LAST_CLOCK.true)

pub returns-in_err-check_bytes-clause-outcome : goal.returns-in_err-check_bytes-clause-outcome
returns-in_err-check_bytes-clause-outcome g c =
    let T = g.T.TableView.table c.args.table.now in
    let passed : c.from_residual.result ≡ Err c.in_err-check_bytes.field-0.0 = grind arith in
    rw passed (list_wrong (rows_of c.args.rows.now) T.processors T.processor T.priority T.time (g.S.StateView.state c.args.state.now) c.running_rows-running.ensures c.args.done.now c.args.released.now c.requires (λ e. c.if-clock-eq-LAST_CLOCK.false (c.clock-clock.ensures ∙ e)) (sym c.check_bytes.ensures ∙ c.in_err-check_bytes.was))

pub check_ends-requires : goal.check_ends-requires
check_ends-requires g c =
    let T = g.T.TableView.table c.args.table.now in
    let σ = g.S.StateView.state c.args.state.now in
    let r = c.requires.ready in
    let e = c.running_rows-running.ensures in (
      record { done_long = omega arith; running_long = omega (arith, c.requires.done_long, r.listed.processors_most, list_long (rows_of c.args.rows.now) T.processor T.priority T.time σ e) },
      λ i l. timely (rows_of c.args.rows.now) T.processor T.priority T.time σ e r (suc i) (omega (arith, c.requires.done_long, r.listed.processors_most)),
    )

pub returns-in_err-check_ends-clause-outcome : goal.returns-in_err-check_ends-clause-outcome
returns-in_err-check_ends-clause-outcome g c =
    let T = g.T.TableView.table c.args.table.now in
    let passed : c.from_residual-in_err-check_ends.result ≡ Err c.in_err-check_ends.field-0.0 = grind arith in
    rw passed (list_up (rows_of c.args.rows.now) T.processors T.processor T.priority T.time (g.S.StateView.state c.args.state.now) c.running_rows-running.ensures c.args.done.now c.args.released.now c.requires (λ e. c.if-clock-eq-LAST_CLOCK.false (c.clock-clock.ensures ∙ e)) (sym c.check_bytes.ensures ∙ c.in_ok-check_bytes.was) (sym c.check_ends.ensures ∙ c.in_err-check_ends.was))

pub ready-requires-clause-reads : goal.ready-requires-clause-reads
ready-requires-clause-reads g c =
    let T = g.T.TableView.table c.args.table.now in
    (stepping (rows_of c.args.rows.now) T.processor T.priority T.time (g.S.StateView.state c.args.state.now) c.running_rows-running.ensures c.requires.ready c.args.done.now c.args.released.now c.requires (λ e. c.if-clock-eq-LAST_CLOCK.false (c.clock-clock.ensures ∙ e))).working

pub ready-requires-clause-clock_below : goal.ready-requires-clause-clock_below
ready-requires-clause-clock_below g c =
    let T = g.T.TableView.table c.args.table.now in
    (stepping (rows_of c.args.rows.now) T.processor T.priority T.time (g.S.StateView.state c.args.state.now) c.running_rows-running.ensures c.requires.ready c.args.done.now c.args.released.now c.requires (λ e. c.if-clock-eq-LAST_CLOCK.false (c.clock-clock.ensures ∙ e))).clock_below

pub let_go-requires-clause-reads : goal.let_go-requires-clause-reads
let_go-requires-clause-reads g c =
    let T = g.T.TableView.table c.args.table.now in
    let σ = g.S.StateView.state c.args.state.now in
    releasing (rows_of c.args.rows.now) T.processor (numbers c.running_rows-running.result) c.args.done.now σ c.args.released.now
    (stepping (rows_of c.args.rows.now) T.processor T.priority T.time σ c.running_rows-running.ensures c.requires.ready c.args.done.now c.args.released.now c.requires (λ e. c.if-clock-eq-LAST_CLOCK.false (c.clock-clock.ensures ∙ e)))
    c.ready.ensures.state

pub let_go-requires-clause-long : goal.let_go-requires-clause-long
let_go-requires-clause-long g c =
    let T = g.T.TableView.table c.args.table.now in
    let σ = g.S.StateView.state c.args.state.now in
    rw c.ready.ensures.state (with_long c.args.rows.now.count (readied (rows_of c.args.rows.now) T.processor (numbers c.running_rows-running.result) c.args.done.now σ) σ c.requires.ready.long)

pub overflow_add-result : goal.overflow_add-result
unfolding moment_of
overflow_add-result g c = omega (arith, c.requires.ready.bounded.clock, c.clock-clock.ensures)

pub returns-clause-outcome : goal.returns-clause-outcome
unfolding stepped
returns-clause-outcome g c =
    let T = g.T.TableView.table c.args.table.now in
    let σ = g.S.StateView.state c.args.state.now in
    let R = rows_of c.args.rows.now in
    let w = readied R T.processor (numbers c.running_rows-running.result) c.args.done.now σ in
    let z = c.requires.ready.long in
    rw c.clock-clock.ensures
    (list_made R T.processors T.processor T.priority T.time σ c.running_rows-running.ensures c.args.done.now c.args.released.now c.requires (λ e. c.if-clock-eq-LAST_CLOCK.false (c.clock-clock.ensures ∙ e)) (sym c.check_bytes.ensures ∙ c.in_ok-check_bytes.was) (sym c.check_ends.ensures ∙ c.in_ok-check_ends.was)
    (steps_made R T.processor w σ z c.ready.ensures.state c.let_go.ensures.state)
    (bytes_made R T.processor w σ z c.ready.ensures.state c.args.released.now c.let_go.ensures.bytes))
