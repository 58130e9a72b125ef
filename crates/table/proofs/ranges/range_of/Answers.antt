-- `table::ranges::range_of` meets its contract: the plan's own, none past the keys, the table's else.
use Rattle.std.proofs.Common.{eq-eqb, ne_eqb, arith}
use lib.ListN.{get_or-eq_default}
use Rattle.table.specs.Ranges.{range_of, ranges}
use Rattle.facts.specs.ListLaws.{get_d_within}
use Rattle.table.proofs.ranges.range_of.Goals as goal

pub returns-then-key-eq-TASK : goal.returns-then-key-eq-TASK
unfolding range_of
returns-then-key-eq-TASK c = simp (eq-eqb _ _ c.if-key-eq-TASK.true)

pub returns-then-key-eq-PROCESSOR : goal.returns-then-key-eq-PROCESSOR
unfolding range_of
returns-then-key-eq-PROCESSOR c = simp (ne_eqb _ _ c.if-key-eq-TASK.false, eq-eqb _ _ c.if-key-eq-PROCESSOR.true)

pub returns-then-key-ge-KEYS : goal.returns-then-key-ge-KEYS
unfolding range_of ranges
returns-then-key-ge-KEYS c =
    simp (ne_eqb _ _ c.if-key-eq-TASK.false, ne_eqb _ _ c.if-key-eq-PROCESSOR.false, get_or-eq_default ranges (record { least = 1; most = 0 }) {n = c.args.key} c.if-key-ge-KEYS.true)

pub returns : goal.returns
unfolding range_of ranges
returns c = simp (ne_eqb _ _ c.if-key-eq-TASK.false, ne_eqb _ _ c.if-key-eq-PROCESSOR.false) (get_d_within ranges c.args.key _ _ (omega arith))
