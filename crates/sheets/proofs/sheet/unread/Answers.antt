use Rattle.sheets.specs.SheetLaws.{unread_made}
use Rattle.sheets.proofs.sheet.unread.Goals as goal

pub returns : goal.returns
returns c = unread_made _ c.blank.ensures
