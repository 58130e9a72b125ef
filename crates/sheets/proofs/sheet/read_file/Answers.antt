use Rattle.std.proofs.Common.{◌∙◌, ap}
use Rattle.planfile.specs.Reading.{read}
use Rattle.columns.specs.declared.columns.Columns.{Columns}
use Rattle.sheets.specs.Sheet.{lists_in}
use Rattle.sheets.specs.SheetLaws.{file_refused, file_read}
use Rattle.sheets.proofs.sheet.read_file.Goals as goal

pub returns-in-Err : goal.returns-in-Err
returns-in-Err c =
    file_refused _ _ (c.read.ensures.outcome ∙ ap (λ (k : Columns). read c.args.file.now (lists_in k)) c.blank-columns.ensures) _ c.in-Err.is c.unread.ensures

pub returns-in-Ok : goal.returns-in-Ok
returns-in-Ok c =
    file_read _ _ (c.read.ensures.outcome ∙ ap (λ (k : Columns). read c.args.file.now (lists_in k)) c.blank-columns.ensures) _ c.in-Ok.is c.rows_to_lay.ensures
