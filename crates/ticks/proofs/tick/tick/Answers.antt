use Rattle.std.proofs.Common.{◌≡◌, Err, refl, arith}
use Rattle.guards.specs.ViewedLaws.{view_plan, view_none}
use Rattle.ticks.specs.TableLaws.{listing, tick_none, tick_made}
use Rattle.ticks.proofs.tick.tick.Goals as goal

pub returns-in_err-count-clause-outcome : goal.returns-in_err-count-clause-outcome
returns-in_err-count-clause-outcome g c =
    let T = g.T.TableView.table c.args.table.now in
    let σ = g.S.StateView.state c.args.state.now in
    let none = view_none T _ _ c.view_rows.ensures refl refl _ c.in_err-count.was in
    let passed : c.from_residual.result ≡ Err c.in_err-count.field-0.0 = grind arith in
    rw (passed, none.1) (tick_none T σ c.args.done.now c.args.released.now none.0)

pub tick_rows-requires : goal.tick_rows-requires
tick_rows-requires g c =
    let T = g.T.TableView.table c.args.table.now in
    listing (view_plan T _ _ c.view_rows.ensures refl refl _ c.in_ok-count.was)

pub returns-clause-outcome : goal.returns-clause-outcome
returns-clause-outcome g c =
    let T = g.T.TableView.table c.args.table.now in
    let σ = g.S.StateView.state c.args.state.now in
    tick_made T σ c.args.done.now c.args.released.now (view_plan T _ _ c.view_rows.ensures refl refl _ c.in_ok-count.was) c.tick_rows.ensures.outcome
