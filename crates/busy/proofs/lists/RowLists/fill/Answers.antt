use Rattle.std.proofs.Common.{refl, arith}
use Rattle.facts.specs.FilledLaws.{filled_none, filled_more}
use Rattle.busy.proofs.lists.RowLists.fill.Goals as goal

pub loop-i-init : goal.loop-i-init
loop-i-init c = (refl, filled_none _ _, filled_none _ _, filled_none _ _)

pub loop-i-preserved : goal.loop-i-preserved
loop-i-preserved c =
    let l = c.loop-i in
    let room = c.requires.room in (
      l.invariant.0,
      rw l.invariant.1 (filled_more _ _ _ _ (omega (arith, room.0)) refl),
      rw l.invariant.2 (filled_more _ _ _ _ (omega (arith, room.1)) refl),
      rw l.invariant.3 (filled_more _ _ _ _ (omega (arith, room.2)) refl),
    )
