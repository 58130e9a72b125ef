use Rattle.std.proofs.Common.{◌≤◌, refl, arith}
use Rattle.busy.specs.ClimbLaws.{climb_on, climb_found, climb_past, climb_small, span_first, span_next}
use Rattle.busy.specs.General.{unanswered_ext}
use Rattle.busy.specs.LevelLaws.{partly_laid}
use Rattle.busy.proofs.numbers.Numbers.solve_all.Goals as goal

pub loop-work-init : goal.loop-work-init
loop-work-init g c =
    let sound = c.gather_for.ensures.sound in
    let one : 1 ≤ 10000000 = omega arith in
    (one, span_first sound.ranged sound.any c.start-work.ensures)

pub advance-work-requires-clause-by_index : goal.advance-work-requires-clause-by_index
advance-work-requires-clause-by_index g c =
    let l = c.loop-work.invariant in
    (climb_small c.gather_for.ensures.sound.ranged l.1 l.0).1

pub overflow_add-work : goal.overflow_add-work
overflow_add-work g c =
    let sound = c.gather_for.ensures.sound in
    let next = span_next sound.ranged sound.any c.loop-work.invariant.1 c.advance-work.ensures in
    omega (arith, (climb_small sound.ranged next (omega arith)).0)

pub loop-work-smaller : goal.loop-work-smaller
loop-work-smaller g c =
    let sound = c.gather_for.ensures.sound in
    let l = c.loop-work.invariant in
    omega (arith, (climb_on sound.ranged sound.any l.1).order, c.loop-work-test.true, l.0)

pub loop-work-preserved : goal.loop-work-preserved
loop-work-preserved g c =
    let sound = c.gather_for.ensures.sound in
    (omega arith, span_next sound.ranged sound.any c.loop-work.invariant.1 c.advance-work.ensures)

pub loop-row-preserved : goal.loop-row-preserved
loop-row-preserved g c =
    let few = c.args.rows.now.usable.few in
    let level = c.gather_for.ensures in
    let l = c.loop-work.invariant in
    partly_laid c.loop-row-test.true (omega (arith, few)) (omega (arith, few)) (omega (arith, few)) level
    (climb_found level.sound.ranged level.sound.any l.1 c.loop-work-test.false) l.0 c.find.ensures c.lay.ensures c.loop-row.invariant

pub returns-then-work-gt-LIMIT-clause-stuck : goal.returns-then-work-gt-LIMIT-clause-stuck
returns-then-work-gt-LIMIT-clause-stuck g c =
    let level = c.gather_for.ensures in
    let row = c.loop-row-test.true in
    record {
      row = c.loop-row.row;
      refusal = refl;
      in_plan = row;
      analysed = record {
        most = omega arith;
        solved = c.loop-row.invariant.done;
        stuck = λ _. unanswered_ext level.work_is (climb_past level.sound.ranged level.sound.any c.loop-work.invariant.1 c.if-work-gt-LIMIT.true);
      };
    }
