use Rattle.std.proofs.Common.{◌≤◌, length, subst, sym}
use Rattle.facts.specs.Sums.{sum}
use Rattle.table.specs.Table.{Table, at, rows, first_row}
use Rattle.rack.specs.TableLaws.{TablePut, list_short, read_kept, refusal_kept, read_plan}
use Rattle.rack.proofs.rack_table.Goals as goal

pub returns-then-table-lt-TABLE_BYTES : goal.returns-then-table-lt-TABLE_BYTES
returns-then-table-lt-TABLE_BYTES c = list_short _ _ c.if-table-lt-TABLE_BYTES.true c.into.ensures

pub put_table-requires : goal.put_table-requires
unfolding rows first_row
put_table-requires c =
    let plan = read_plan _ _ _ _ c.read.ensures.outcome c.in-Ok.is in
    subst (λ (T : Table). (T.tasks ≤ length T.steps) × (sum T.tasks (at T.steps) ≤ 128)) (sym c.table.ensures) (plan.tasks.long.three, plan.rows_most)

pub returns-in-Err : goal.returns-in-Err
returns-in-Err c = refusal_kept _ _ c.if-table-lt-TABLE_BYTES.false _ c.read.ensures.outcome _ c.in-Err.is c.into-in-Err.ensures

pub returns-in-Ok : goal.returns-in-Ok
returns-in-Ok c =
    read_kept _ _ c.if-table-lt-TABLE_BYTES.false _ c.read.ensures.outcome _ c.in-Ok.is
    (subst (λ (T : Table). TablePut T c.args.table.now c.put_table.result c.put_table.new.list) c.table.ensures c.put_table.ensures)
