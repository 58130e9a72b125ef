use Rattle.std.proofs.Common.{◌≤◌, refl, ap, length, arith}
use Rattle.busy.specs.declared.clock.Clock.{Clock}
use Rattle.busy.specs.General.{gap_some, gap_most}
use Rattle.busy.specs.ClimbLaws.{advanced_none, advanced_all, advancing_yes, advancing_no, came_fits, due_fits, later_fits_word, fresh_fits}
use Rattle.busy.proofs.clock.Clock.advance.Goals.{then-was-t, else-was-t}
use Rattle.busy.proofs.clock.Clock.advance.Goals as goal

pub loop-i-init : goal.loop-i-init
loop-i-init c = (omega arith, refl, refl, advanced_none _ _ _ _ _, omega arith)

pub periods_in-came-requires : goal.periods_in-came-requires
periods_in-came-requires c =
    let ok = c.args.level.now.ranged in
    (gap_some c.if-was-t.true, gap_most c.if-was-t.true c.requires.within, ok.period_least c.loop-i.i c.loop-i-test.true, ok.period_most c.loop-i.i c.loop-i-test.true)

pub overflow_mul-work : goal.overflow_mul-work
overflow_mul-work c =
    let ok = c.args.level.now.ranged in
    came_fits c.periods_in-came.ensures (ok.period_least c.loop-i.i c.loop-i-test.true) (gap_most c.if-was-t.true c.requires.within) (ok.cost_most c.loop-i.i c.loop-i-test.true)

pub overflow_mul-self : goal.overflow_mul-self
overflow_mul-self c =
    let ok = c.args.level.now.ranged in
    came_fits c.periods_in-came.ensures (ok.period_least c.loop-i.i c.loop-i-test.true) (gap_most c.if-was-t.true c.requires.within) (ok.period_most c.loop-i.i c.loop-i-test.true)

pub overflow_add-self : goal.overflow_add-self
overflow_add-self c =
    let ok = c.args.level.now.ranged in
    due_fits c.periods_in-came.ensures c.if-was-t.true c.requires.within (ok.period_least c.loop-i.i c.loop-i-test.true) (ok.period_most c.loop-i.i c.loop-i-test.true)

pub overflow_add-self-then-was-t : goal.overflow_add-self-then-was-t
overflow_add-self-then-was-t c =
    let ok = c.args.level.now.ranged in
    later_fits_word ok c.requires.within (omega (arith, ok.few)) (omega (arith, ok.few)) c.loop-i-test.true c.loop-i.invariant c.requires.by_index c.periods_in-came.ensures

pub overflow_add-fresh : goal.overflow_add-fresh
overflow_add-fresh c =
    let ok = c.args.level.now.ranged in
    fresh_fits ok c.requires.within (omega (arith, ok.few)) (omega (arith, ok.few)) c.loop-i-test.true c.loop-i.invariant c.periods_in-came.ensures

pub loop-i-preserved : goal.loop-i-preserved
loop-i-preserved c =
    let ok = c.args.level.now.ranged in
    let d : c.args.level.now.count ≤ length c.args.self.now.due = omega (arith, ok.few) in
    let l : c.args.level.now.count ≤ length c.args.self.now.later = omega (arith, ok.few) in
    elim c.if-was-t.branch [
      | then-was-t w ↦ advancing_yes ok c.requires.within d l c.loop-i-test.true c.loop-i.invariant w.periods_in-came.ensures (ap (λ (s : Clock). s.due) w.self-is) (ap (λ (s : Clock). s.later) w.self-is) w.fresh-is
      | else-was-t w ↦ advancing_no ok c.requires.within d l c.loop-i-test.true c.loop-i.invariant w.if-was-t.false (ap (λ (s : Clock). s.due) w.self-is) (ap (λ (s : Clock). s.later) w.self-is) w.fresh-is
    ]

pub returns : goal.returns
returns c = advanced_all c.loop-i-test.false c.loop-i.invariant
