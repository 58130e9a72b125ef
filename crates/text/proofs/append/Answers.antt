-- `text::append` meets its contract: where the bytes reach past the list, those that it has room for are stored.
use Rattle.std.proofs.Common.{◌-◌, length, arith}
use Rattle.text.specs.TextLaws.{appended_cut}
use Rattle.text.proofs.append.Goals as goal

pub returns : goal.returns
returns c =
    let a = c.args in
    appended_cut a.bytes.now a.out.now a.at (length a.out.now - a.at) (omega arith) (omega arith) (omega arith) c.store-2.ensures
