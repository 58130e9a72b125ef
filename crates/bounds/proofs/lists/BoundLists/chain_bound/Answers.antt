use Rattle.std.proofs.Common.{◌+◌, ◌≡◌, sym, arith}
use Rattle.facts.specs.SumsLaws.{sum_none, sum_more}
use Rattle.bounds.proofs.lists.BoundLists.chain_bound.Goals as goal

pub loop-step-init : goal.loop-step-init
loop-step-init c = (sym (sum_none _), omega arith)

pub overflow_add-all : goal.overflow_add-all
overflow_add-all c =
    let l = c.loop-step in
    omega (arith, l.invariant.1, c.requires.3 (c.args.first + l.step) (omega arith))

pub loop-step-preserved : goal.loop-step-preserved
loop-step-preserved c =
    let l = c.loop-step in
    (rw l.invariant.0 (sym (sum_more l.step _)), omega (arith, l.invariant.1, c.requires.3 (c.args.first + l.step) (omega arith)))

pub returns : goal.returns
returns c =
    let l = c.loop-step in
    let e : l.step ≡ c.args.steps = omega arith in
    (rw (← e) l.invariant.0, omega (arith, l.invariant.1))
