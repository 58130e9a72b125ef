use Rattle.std.proofs.Common.{sym, ◌∙◌, le-leb, arith}
use borrow.Author.Tests.{lt-leb}
use Rattle.table.specs.RangesLaws.{within_of}
use Rattle.table.specs.Ranges.{range_of, ranges}
use Rattle.table.specs.TableLaws.{tasks_within}
use Rattle.table.specs.Table.{is_plan, rows}
use Rattle.planned.proofs.check.is_plan.Goals as goal

pub returns-then-not-in_range : goal.returns-then-not-in_range
unfolding is_plan
returns-then-not-in_range g c = rw (← c.processors-processors.ensures, sym c.in_range.ensures ∙ c.if-not-in_range.true)

pub returns-then-not-in_range-2 : goal.returns-then-not-in_range-2
unfolding is_plan
returns-then-not-in_range-2 g c = rw (← c.processors-processors.ensures, ← c.tasks-tasks.ensures, sym c.in_range.ensures ∙ c.if-not-in_range.false, sym c.in_range-2.ensures ∙ c.if-not-in_range-2.true)

pub returns-then-not-tasks_right : goal.returns-then-not-tasks_right
unfolding is_plan
returns-then-not-tasks_right g c = rw (← c.processors-processors.ensures, ← c.tasks-tasks.ensures, sym c.in_range.ensures ∙ c.if-not-in_range.false, sym c.in_range-2.ensures ∙ c.if-not-in_range-2.false, sym c.tasks_right.ensures ∙ c.if-not-tasks_right.true)

pub first_row-rows-requires : goal.first_row-rows-requires
unfolding range_of ranges
first_row-rows-requires g c =
    let few = within_of _ _ _ (sym c.in_range-2.ensures ∙ c.if-not-in_range-2.false) in
    let right = tasks_within _ _ _ _ (sym c.tasks_right.ensures ∙ c.if-not-tasks_right.false) in
    record { few = few.most; long = right.long.three; most = λ i l. (right.each i l).steps_most }

pub returns-then-rows-gt-MOST_ROWS : goal.returns-then-rows-gt-MOST_ROWS
unfolding is_plan rows
returns-then-rows-gt-MOST_ROWS g c =
    rw (← c.processors-processors.ensures, ← c.tasks-tasks.ensures, sym c.in_range.ensures ∙ c.if-not-in_range.false, sym c.in_range-2.ensures ∙ c.if-not-in_range-2.false, sym c.tasks_right.ensures ∙ c.if-not-tasks_right.false)
    (rw (← c.first_row-rows.ensures, lt-leb c.first_row-rows.result 128 (omega arith)))

pub returns : goal.returns
unfolding is_plan rows
returns g c =
    rw (← c.processors-processors.ensures, ← c.tasks-tasks.ensures, sym c.in_range.ensures ∙ c.if-not-in_range.false, sym c.in_range-2.ensures ∙ c.if-not-in_range-2.false, sym c.tasks_right.ensures ∙ c.if-not-tasks_right.false)
    (rw (← c.first_row-rows.ensures, le-leb c.first_row-rows.result 128 (omega arith)) c.rows_right.ensures)
