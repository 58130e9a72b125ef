use Rattle.std.proofs.Common.{◌+◌, ◌≡◌, sym, arith}
use Rattle.table.specs.Table.{at}
use Rattle.facts.specs.SumsLaws.{sum_none, sum_more, sum_part}
use Rattle.rack.proofs.tables.rows_with_room.Goals as goal

pub loop-i-init : goal.loop-i-init
loop-i-init c = record { summed = sym (sum_none _); most = omega arith }

pub returns-then-rows-steps : goal.returns-then-rows-steps
returns-then-rows-steps c =
    let l = c.loop-i in
    let a = c.args in
    omega (arith, sum_part (at a.steps.now) (l.i + 1) a.tasks (omega (arith, c.loop-i-test.true)), sum_more l.i (at a.steps.now), l.invariant.summed, c.if-rows-steps.true)

pub loop-i-preserved : goal.loop-i-preserved
loop-i-preserved c =
    let l = c.loop-i in
    record { summed = omega (arith, sum_more l.i (at c.args.steps.now), l.invariant.summed); most = omega (arith, c.if-rows-steps.false) }

pub returns : goal.returns
returns c =
    let l = c.loop-i in
    let e : l.i ≡ c.args.tasks = omega (arith, c.loop-i-test.false, l.auto.i-end) in
    rw (← e) (omega (arith, l.invariant.summed, l.invariant.most))
