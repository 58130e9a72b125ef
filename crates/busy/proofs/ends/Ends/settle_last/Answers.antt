use Rattle.std.proofs.Common.{◌≡◌, refl, ◌∙◌, arith}
use Rattle.busy.specs.General.{filled_turn}
use Rattle.facts.specs.FilledLaws.{filled_none}
use Rattle.busy.proofs.ends.Ends.settle_last.Goals as goal

pub loop-i-init : goal.loop-i-init
loop-i-init c = (refl, filled_none _ _)

pub overflow_sub-span : goal.overflow_sub-span
overflow_sub-span c = rw c.loop-i.invariant.0 (c.requires c.loop-i.i (omega arith))

pub returns : goal.returns
returns c =
    let l = c.loop-i in
    let e : l.i ≡ c.args.level.now.tied = omega arith in
    rw (← e) l.invariant.1

pub loop-i-preserved : goal.loop-i-preserved
loop-i-preserved c =
    let l = c.loop-i in
    (l.invariant.0, filled_turn _ _ _ _ l.invariant.1 _ (omega (arith, c.args.level.now.tied_in, c.args.level.now.ranged.few)) (λ e. c.max.ensures ∙ rw (e, l.invariant.0)))
