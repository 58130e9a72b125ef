use Rattle.std.proofs.Common.{◌≡◌, ◌<◌, length, arith}
use Rattle.busy.specs.ClimbLaws.{Turned, ranged_part, settled_none, unsettled_rises, unsettled_begun, unsettled_whole, turned_yes, turned_no}
use Rattle.busy.proofs.ends.Ends.settle.Goals.{Joined-work-later, then-work-later, else-work-later}
use Rattle.busy.proofs.ends.Ends.settle.Goals as goal

-- <defs>
-- After the `if`: row i is settled, whichever the arm.
turned :
    (c : Joined-work-later)
    → Turned c.args.t c.args.work c.args.level.now.period c.args.level.now.cost c.args.later.now c.args.self.now.begin c.args.self.now.best c.if-work-later.later c.if-work-later.self.begin c.if-work-later.self.best c.loop-i.next c.loop-i.i
turned c =
    let l = c.loop-i in
    let less = c.loop-i-test.true in
    let q = c.requires.sought in
    let ok = ranged_part c.args.level.now.tied_in c.args.level.now.ranged in
    let ll : l.i < length c.args.later.now = omega (arith, ok.few) in
    let lb : l.i < length c.args.self.now.begin = omega (arith, ok.few) in
    let lm : l.i < length c.args.self.now.best = omega (arith, ok.few) in
    elim c.if-work-later.branch [
      | then-work-later w ↦ rw (w.later-is, w.self-is) (turned_yes _ _ _ _ _ _ _ less q ll lb lm l.invariant (ok.cost_least l.i less) w.if-work-later.true _ w.max.ensures)
      | else-work-later w ↦ rw (w.later-is, w.self-is) (turned_no _ _ _ _ _ _ _ less q ll lb lm l.invariant w.if-work-later.false)
    ]

-- </defs>
pub loop-i-init : goal.loop-i-init
loop-i-init c = settled_none _ _ _ _ _ _ _ c.requires.sought.past

pub overflow_sub-work : goal.overflow_sub-work
overflow_sub-work c =
    let ok = ranged_part c.args.level.now.tied_in c.args.level.now.ranged in
    omega (arith, unsettled_rises _ _ _ _ _ _ _ c.loop-i-test.true c.requires.sought (omega (arith, ok.few)) (omega (arith, ok.few)) (omega (arith, ok.few)) c.loop-i.invariant)

pub overflow_sub-t : goal.overflow_sub-t
overflow_sub-t c =
    let ok = ranged_part c.args.level.now.tied_in c.args.level.now.ranged in
    omega (arith, unsettled_begun _ _ _ _ _ _ _ c.loop-i-test.true c.requires.sought (omega (arith, ok.few)) (omega (arith, ok.few)) (omega (arith, ok.few)) c.loop-i.invariant)

pub overflow_add-self : goal.overflow_add-self
overflow_add-self c =
    let ok = ranged_part c.args.level.now.tied_in c.args.level.now.ranged in
    omega (arith, unsettled_begun _ _ _ _ _ _ _ c.loop-i-test.true c.requires.sought (omega (arith, ok.few)) (omega (arith, ok.few)) (omega (arith, ok.few)) c.loop-i.invariant, ok.period_most c.loop-i.i c.loop-i-test.true)

pub overflow_sub-later : goal.overflow_sub-later
overflow_sub-later c =
    let ok = ranged_part c.args.level.now.tied_in c.args.level.now.ranged in
    unsettled_whole _ _ _ _ _ _ _ c.loop-i-test.true c.requires.sought (omega (arith, ok.few)) (omega (arith, ok.few)) (omega (arith, ok.few)) c.loop-i.invariant c.if-work-later.true

pub overflow_sub-work-in-loop-i : goal.overflow_sub-work-in-loop-i
overflow_sub-work-in-loop-i c = (turned (goal.at.overflow_sub-work-in-loop-i c).Joined-work-later).within

pub loop-i-preserved : goal.loop-i-preserved
loop-i-preserved c = (turned (goal.at.loop-i-preserved c).Joined-work-later).turn _ c.min-next.ensures

pub returns : goal.returns
returns c =
    let l = c.loop-i in
    let e : l.i ≡ c.args.level.now.tied = omega arith in
    rw (← e) l.invariant
