use Rattle.std.proofs.Common.{sym}
use Rattle.busy.specs.CollectedLaws.{scattered_none, scattered_more}
use Rattle.busy.proofs.numbers.Numbers.lay.Goals as goal

pub loop-i-init : goal.loop-i-init
loop-i-init c = record {
  busy_is = sym (scattered_none _ _ _);
  instances_is = sym (scattered_none _ _ _);
  bound_is = sym (scattered_none _ _ _);
}

pub loop-i-preserved : goal.loop-i-preserved
loop-i-preserved c = let l = c.loop-i in record {
  busy_is = rw l.invariant.busy_is (sym (scattered_more _ _ l.i _));
  instances_is = rw (l.invariant.instances_is, c.periods_in.ensures) (sym (scattered_more _ _ l.i _));
  bound_is = rw l.invariant.bound_is (sym (scattered_more _ _ l.i _));
}
