use Rattle.std.proofs.Common.{◌≡◌, refl, arith, length, ◌<◌}
use Rattle.facts.specs.FilledLaws.{filled_none, filled_more}
use Rattle.busy.proofs.ends.Ends.seek_first.Goals.{then-level-i-gt0, else-level-i-gt0}
use Rattle.busy.proofs.ends.Ends.seek_first.Goals as goal

pub loop-i-init : goal.loop-i-init
loop-i-init c = (filled_none _ _, filled_none _ _)

pub loop-i-preserved : goal.loop-i-preserved
loop-i-preserved c =
    let l = c.loop-i in
    let b : l.i < length c.args.self.now.begin = omega (arith, c.args.level.now.tied_in, c.args.level.now.ranged.few) in
    let m : l.i < length c.args.self.now.best = omega (arith, c.args.level.now.tied_in, c.args.level.now.ranged.few) in
    elim c.if-level-i-gt0.branch [
      | then-level-i-gt0 w ↦ (
        rw (w.self-is, l.invariant.0) (filled_more _ _ _ _ b refl),
        rw (w.self-is, l.invariant.1) (filled_more _ _ _ _ m refl),
      )
      | else-level-i-gt0 w ↦ absurd (omega (arith, w.if-level-i-gt0.false, c.args.level.now.ranged.period_least l.i (omega (arith, c.args.level.now.tied_in))))
    ]

pub returns : goal.returns
returns c =
    let l = c.loop-i in
    let e : l.i ≡ c.args.level.now.tied = omega arith in
    (rw (← e) l.invariant.0, rw (← e) l.invariant.1)
