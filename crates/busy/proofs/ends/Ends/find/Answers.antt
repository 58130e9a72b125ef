use Rattle.std.proofs.Common.{le_of_lt}
use Rattle.facts.specs.FilledLaws.{get_d_filled}
use Rattle.busy.specs.ClimbLaws.{climb_first, climb_ends, turn_sought, turn_within, turn_clock, turn_falls, turn_later, turn_next, turn_fits}
use Rattle.busy.specs.General.{as_many, all_of}
use Rattle.busy.proofs.ends.Ends.find.Goals as goal

pub loop-t-init : goal.loop-t-init
loop-t-init c =
    let none = c.seek_first.ensures in
    let level = c.args.level.now in
    (c.requires.busy.0.pos, climb_first level.ranged c.args.level.now.tied level.tied_in c.start-work.ensures (λ i g. rw none.0 (get_d_filled (λ j. 0) c.args.level.now.tied i 0 _ g)) (λ i g. rw none.1 (get_d_filled (λ j. 0) c.args.level.now.tied i 0 _ g)))

pub settle-t-requires-clause-sought : goal.settle-t-requires-clause-sought
settle-t-requires-clause-sought c =
    let s = c.args.level.now in
    let d = c.requires.busy in
    turn_sought s.ranged s.tied_in c.requires.any d.0 d.1 c.loop-t.invariant.1 c.loop-t-test.true

pub advance-work-requires-clause-within : goal.advance-work-requires-clause-within
advance-work-requires-clause-within c =
    let s = c.args.level.now in
    let d = c.requires.busy in
    turn_clock s.ranged s.tied_in c.requires.any d.0 d.1 c.loop-t.invariant.1 c.loop-t-test.true c.settle-t.ensures

pub advance-work-requires-clause-by_index : goal.advance-work-requires-clause-by_index
advance-work-requires-clause-by_index c =
    let s = c.args.level.now in
    let d = c.requires.busy in
    turn_later s.ranged s.tied_in c.requires.any d.0 d.1 c.loop-t.invariant.1 c.loop-t-test.true c.settle-t.ensures

pub overflow_add-work : goal.overflow_add-work
overflow_add-work c =
    let s = c.args.level.now in
    let d = c.requires.busy in
    turn_fits s.ranged s.tied_in c.requires.any d.0 d.1 c.loop-t.invariant.1 c.loop-t-test.true c.settle-t.ensures c.advance-work.ensures

pub loop-t-smaller : goal.loop-t-smaller
loop-t-smaller c =
    let s = c.args.level.now in
    let d = c.requires.busy in
    turn_falls s.ranged s.tied_in c.requires.any d.0 d.1 c.loop-t.invariant.1 c.loop-t-test.true c.settle-t.ensures

pub loop-t-preserved : goal.loop-t-preserved
loop-t-preserved c =
    let s = c.args.level.now in
    let d = c.requires.busy in
    let i = c.loop-t.invariant.1 in
    let less = c.loop-t-test.true in
    (turn_within s.ranged s.tied_in c.requires.any d.0 d.1 i less c.settle-t.ensures, turn_next s.ranged s.tied_in c.requires.any d.0 d.1 i less c.settle-t.ensures c.advance-work.ensures)

pub settle_last-requires : goal.settle_last-requires
settle_last-requires c = λ i g. as_many (le_of_lt (c.loop-t.invariant.1.each i g).came) c.loop-t.invariant.0

pub returns : goal.returns
returns c =
    let s = c.args.level.now in
    let l = c.loop-t in
    record { each = climb_ends s.ranged s.tied_in l.invariant.1 c.requires.busy.0 (all_of l.invariant.0 c.loop-t-test.false) c.settle_last.ensures }
