-- `planfile::read::read_line` meets its contract: the lines behind the line due say what the whole file holds, or it is refused.
use Rattle.std.proofs.Common.{◌≡◌, sym, Ok, arith}
use Rattle.std.proofs.lemmas.Result.{err_from_is_err_and}
use Rattle.lines.specs.Line.{line_at}
use Rattle.planfile.specs.Reader.{judgement}
use Rattle.planfile.specs.ReaderLaws.{reached_same, reached_few, reached_slots, reached_behind, reached_value, reached_refused, reached_next, found_refused}
use Rattle.planfile.proofs.read.read_line.Goals as goal

pub judge-requires : goal.judge-requires
judge-requires g c = (reached_few c.requires.reached, c.requires.key.0)

pub returns-in_err-value-clause-next : goal.returns-in_err-value-clause-next
returns-in_err-value-clause-next g c =
    let s = c.requires.reached in
    let p = err_from_is_err_and c.from_residual.result c.from_residual.ensures.1 in
    rw (p.1, p.2) (found_refused _ (reached_refused s (omega arith) (sym c.in_err-value.ensures)))

pub store-requires : goal.store-requires
store-requires g c = (reached_slots c.requires.reached, c.requires.key.0)

pub advance-requires : goal.advance-requires
advance-requires g c =
    let s = c.requires.reached in
    let at = c.args.stand.now in
    let right : judgement at.number at.due (line_at c.args.file.now at.place at.due.key) ≡ Ok (c.in_ok-value.value, c.in_ok-value.behind) =
    sym c.in_ok-value.ensures in
    (reached_few s, reached_value s right, c.requires.key.0)

pub returns-clause-next : goal.returns-clause-next
returns-clause-next g c =
    let s = c.requires.reached in
    let at = c.args.stand.now in
    let right : judgement at.number at.due (line_at c.args.file.now at.place at.due.key) ≡ Ok (c.in_ok-value.value, c.in_ok-value.behind) =
    sym c.in_ok-value.ensures in
    ((reached_behind s right).0, reached_same c.advance.ensures c.store.ensures.lists (reached_next s (omega arith) right))
