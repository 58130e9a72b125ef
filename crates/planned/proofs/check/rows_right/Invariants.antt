use Rattle.std.proofs.Common.{true, ◌≡◌}
use Rattle.table.specs.TableLaws.{Long}
use Rattle.table.specs.Keys.{processor_key}
use Rattle.facts.specs.Tests.{all}
use Rattle.table.specs.Table.{at, long_enough, entry_right}
use Rattle.planned.proofs.check.rows_right.Given as goal

abbrev pub invariant-loop-i : goal.invariant-loop-i
invariant-loop-i g l = let T = g.T.TableView.table l.table in
    (long_enough l.n T.processor T.priority T.time ≡ true) × Long l.n T.processor T.priority T.time
    × (all l.i (λ k. entry_right processor_key l.processors (at T.processor k) (at T.priority k) (at T.time k)) ≡ true)
