use Rattle.std.proofs.Common.{true, ◌≡◌}
use Rattle.table.specs.TableLaws.{Long}
use Rattle.table.specs.Keys.{period_key}
use Rattle.facts.specs.Tests.{all}
use Rattle.table.specs.Table.{at, long_enough, entry_right}
use Rattle.planned.proofs.check.tasks_right.Given as goal

abbrev pub invariant-loop-i : goal.invariant-loop-i
invariant-loop-i g l = let T = g.T.TableView.table l.table in
    (long_enough l.n T.period T.deadline T.steps ≡ true) × Long l.n T.period T.deadline T.steps
    × (all l.i (λ k. entry_right period_key 0 (at T.period k) (at T.deadline k) (at T.steps k)) ≡ true)
