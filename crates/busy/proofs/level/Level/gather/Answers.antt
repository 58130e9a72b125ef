use Rattle.std.proofs.Common.{◌≡◌, arith}
use Rattle.busy.specs.LevelLaws.{chosen_read, gathered_none, gathered_room, gathered_yes, gathered_no}
use Rattle.busy.proofs.level.Level.gather.Goals.{then-is_chosen, else-is_chosen}
use Rattle.busy.proofs.level.Level.gather.Goals as goal

pub loop-k-init : goal.loop-k-init
loop-k-init g c = gathered_none _ _ _ _

pub push-requires-clause-room : goal.push-requires-clause-room
push-requires-clause-room g c =
    let t = chosen_read _ c.is_chosen.ensures c.processor-processor.ensures c.priority.ensures c.processor-place.ensures c.priority-rank.ensures c.if-is_chosen.true in
    gathered_room _ _ _ _ _ _ c.loop-k-test.true c.requires.room t _ c.loop-k.invariant

pub loop-k-preserved : goal.loop-k-preserved
loop-k-preserved g c =
    elim c.if-is_chosen.branch [
      | then-is_chosen w ↦ rw (w.self-is, w.push.ensures, w.time.ensures) (gathered_yes _ _ _ _ _ _ c.loop-k.invariant (chosen_read _ c.is_chosen.ensures c.processor-processor.ensures c.priority.ensures c.processor-place.ensures c.priority-rank.ensures w.if-is_chosen.true))
      | else-is_chosen w ↦ rw w.self-is (gathered_no _ _ _ _ _ _ c.loop-k.invariant (chosen_read _ c.is_chosen.ensures c.processor-processor.ensures c.priority.ensures c.processor-place.ensures c.priority-rank.ensures w.if-is_chosen.false))
    ]

pub returns : goal.returns
returns g c =
    let e : c.loop-k.k ≡ c.args.rows.now.count = omega arith in
    rw (← e) c.loop-k.invariant
