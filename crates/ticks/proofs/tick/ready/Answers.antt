use Rattle.guards.specs.Moment.{moment_of}
use Rattle.guards.specs.InRows.{rows_of}
use Rattle.ticks.specs.Numbers.{numbers}
use Rattle.ticks.specs.SameLaws.{with_long}
use Rattle.ticks.specs.Steps.{ran, runs_in, ends_in, readied}
use Rattle.ticks.specs.StepsLaws.{four_made}
use Rattle.ticks.proofs.tick.ready.Goals as goal

pub busy_processors-busy-requires : goal.busy_processors-busy-requires
busy_processors-busy-requires g c =
    let T = g.T.TableView.table c.args.table.now in
    let σ = g.S.StateView.state c.args.state.now in
    let z = with_long c.args.rows.now.count (ran (runs_in T.processor (numbers c.args.running.now)) (ends_in T.processor c.args.done.now) (moment_of σ)) σ c.requires.long in
    rw c.work.ensures.state (c.requires.placed.0, z.released, z.completed)

pub open_guards-requires-clause-long : goal.open_guards-requires-clause-long
open_guards-requires-clause-long g c =
    let T = g.T.TableView.table c.args.table.now in
    let σ = g.S.StateView.state c.args.state.now in
    rw c.work.ensures.state (with_long c.args.rows.now.count (ran (runs_in T.processor (numbers c.args.running.now)) (ends_in T.processor c.args.done.now) (moment_of σ)) σ c.requires.long)

pub returns-clause-state : goal.returns-clause-state
unfolding readied
returns-clause-state g c =
    let T = g.T.TableView.table c.args.table.now in
    let σ = g.S.StateView.state c.args.state.now in
    four_made (rows_of c.args.rows.now) T.processor c.requires.placed.0 (ran (runs_in T.processor (numbers c.args.running.now)) (ends_in T.processor c.args.done.now) (moment_of σ)) σ c.requires.long
    c.work.ensures.state c.busy_processors-busy.ensures c.open_guards.ensures.state
