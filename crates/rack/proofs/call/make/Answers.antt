use Rattle.std.proofs.Common.{◌∙◌, ap}
use Rattle.table.specs.Table.{Table, is_plan}
use Rattle.rack.specs.GuardedLaws.{refused_table, refused_state, other_table, other_state}
use Rattle.rack.specs.CallLaws.{call_untried, call_made, called_on_is}
use Rattle.rack.proofs.call.make.Goals as goal

pub returns-then-table-ne-TABLE_BYTES : goal.returns-then-table-ne-TABLE_BYTES
returns-then-table-ne-TABLE_BYTES c = call_untried _ _ _ _ _ (other_table _ _ c.if-table-ne-TABLE_BYTES.true) (refused_table _ _ _ c.if-table-ne-TABLE_BYTES.true c.into.ensures)

pub returns-then-state-ne-STATE_BYTES : goal.returns-then-state-ne-STATE_BYTES
returns-then-state-ne-STATE_BYTES c =
    call_untried _ _ _ _ _ (other_state _ _ c.if-state-ne-STATE_BYTES.true)
    (refused_state _ _ _ c.if-table-ne-TABLE_BYTES.false c.if-state-ne-STATE_BYTES.true (c.is_plan.ensures ∙ ap (λ (T : Table). is_plan T) c.table_in-rows.ensures.0) c.untried.ensures)

pub returns : goal.returns
returns c =
    call_made _ _ _ _ _ c.if-table-ne-TABLE_BYTES.false c.if-state-ne-STATE_BYTES.false c.table_in-rows.ensures.1 c.table_in-rows.ensures.0
    (called_on_is _ _ _ _ _ _ c.state_in.ensures c.called-answer.ensures c.put_called.ensures)
