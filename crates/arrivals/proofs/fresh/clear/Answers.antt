use Rattle.std.proofs.Common.{arith}
use Rattle.guards.specs.Lent.{Long}
use Rattle.guards.specs.Machine.{start}
use Rattle.guards.specs.Moment.{state_with}
use Rattle.arrivals.proofs.RowLemmas.{cleared_long}
use Rattle.arrivals.proofs.fresh.clear.Goals as goal

pub set_released-requires : goal.set_released-requires
set_released-requires g c = let σ = g.S.StateView.state c.args.state.now in
    let l = c.loop-row in
    let z : Long c.args.count (state_with l.row start σ) = cleared_long σ l.row c.args.count (omega arith) c.requires in
    rw l.invariant.state (omega (arith, z.released))

pub set_completed-requires : goal.set_completed-requires
set_completed-requires g c = let σ = g.S.StateView.state c.args.state.now in
    let l = c.loop-row in
    let z : Long c.args.count (state_with l.row start σ) = cleared_long σ l.row c.args.count (omega arith) c.requires in
    rw (c.set_released.ensures.state, l.invariant.state) (omega (arith, z.completed))

pub set_used-requires : goal.set_used-requires
set_used-requires g c = let σ = g.S.StateView.state c.args.state.now in
    let l = c.loop-row in
    let z : Long c.args.count (state_with l.row start σ) = cleared_long σ l.row c.args.count (omega arith) c.requires in
    rw (c.set_completed.ensures.state, c.set_released.ensures.state, l.invariant.state) (omega (arith, z.used))

pub set_guard-requires : goal.set_guard-requires
set_guard-requires g c = let σ = g.S.StateView.state c.args.state.now in
    let l = c.loop-row in
    let z : Long c.args.count (state_with l.row start σ) = cleared_long σ l.row c.args.count (omega arith) c.requires in
    rw (c.set_used.ensures.state, c.set_completed.ensures.state, c.set_released.ensures.state, l.invariant.state) (omega (arith, z.guard))
