use Rattle.std.proofs.Common.{◌≡◌, refl, sym, arith, length, ◌<◌}
use Rattle.table.specs.Table.{at}
use Rattle.facts.specs.SumsLaws.{sum_none, sum_more}
use Rattle.facts.specs.FilledLaws.{filled_none, filled_more}
use Rattle.busy.proofs.clock.Clock.start.Goals.{then-level-i-gt0, else-level-i-gt0}
use Rattle.busy.proofs.clock.Clock.start.Goals as goal

pub loop-i-init : goal.loop-i-init
loop-i-init c = (filled_none _ _, filled_none _ _, sym (sum_none (at c.args.level.now.cost)), omega arith)

pub overflow_add-work : goal.overflow_add-work
overflow_add-work c = omega (arith, c.loop-i.invariant.3, c.args.level.now.ranged.cost_most c.loop-i.i c.loop-i-test.true, c.args.level.now.ranged.few)

pub loop-i-preserved : goal.loop-i-preserved
loop-i-preserved c =
    let l = c.loop-i in
    let less = c.loop-i-test.true in
    let ok = c.args.level.now.ranged in
    let d : l.i < length c.args.self.now.due = omega (arith, ok.few) in
    let e : l.i < length c.args.self.now.later = omega (arith, ok.few) in
    elim c.if-level-i-gt0.branch [
      | then-level-i-gt0 w ↦ (
        rw (w.self-is, l.invariant.0) (filled_more _ _ _ _ d refl),
        rw (w.self-is, l.invariant.1) (filled_more _ _ _ _ e refl),
        omega (arith, w.work-is, sum_more l.i (at c.args.level.now.cost), l.invariant.2),
        omega (arith, w.work-is, l.invariant.3, ok.cost_most l.i less),
      )
      | else-level-i-gt0 w ↦ absurd (omega (arith, w.if-level-i-gt0.false, ok.cost_least l.i less))
    ]

pub returns : goal.returns
returns c =
    let l = c.loop-i in
    let e : l.i ≡ c.args.level.now.count = omega arith in
    record {
      due_is = rw (← e) l.invariant.0;
      later_is = rw (← e) l.invariant.1;
      work_is = rw (← e) l.invariant.2;
    }
