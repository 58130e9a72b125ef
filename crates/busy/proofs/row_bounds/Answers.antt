use Rattle.std.proofs.Common.{◌≡◌, refl, ap, not, Err, arith}
use Rattle.table.specs.TableLaws.{long_of}
use Rattle.busy.specs.Held.{row_lists_in}
use Rattle.busy.specs.NumberingLaws.{viewed_ready, viewed_refused, answer_short, answer_stuck, answer_found}
use Rattle.busy.proofs.row_bounds.Goals as goal

pub returns-in_err-answer-clause-outcome : goal.returns-in_err-answer-clause-outcome
returns-in_err-answer-clause-outcome g c =
    let T = g.T.TableView.table c.args.table.now in
    let passed : c.from_residual.result ≡ Err c.in_err-answer.field-0.0 = grind arith in
    rw passed (viewed_refused T _ _ refl refl c.view_rows.ensures c.in_err-answer.was (row_lists_in c.args.out.now), refl)

pub returns-then-not-hold-clause-outcome : goal.returns-then-not-hold-clause-outcome
returns-then-not-hold-clause-outcome g c =
    let T = g.T.TableView.table c.args.table.now in
    let q = viewed_ready T _ _ refl refl c.view_rows.ensures c.in_ok-answer.was in
    (answer_short T q (row_lists_in c.args.out.now) c.hold.ensures (ap not c.if-not-hold.true), refl)

pub invariant_of-rows : goal.invariant_of-rows
invariant_of-rows g c =
    let T = g.T.TableView.table c.args.table.now in
    record { usable = (viewed_ready T _ _ refl refl c.view_rows.ensures c.in_ok-answer.was).usable }

pub returns-in_err-solve_all-clause-outcome : goal.returns-in_err-solve_all-clause-outcome
returns-in_err-solve_all-clause-outcome g c =
    let T = g.T.TableView.table c.args.table.now in
    let q = viewed_ready T _ _ refl refl c.view_rows.ensures c.in_ok-answer.was in
    let passed : c.from_residual-in_err-solve_all.result ≡ Err c.in_err-solve_all.field-0.0 = grind arith in
    let s = c.in_err-solve_all.ensures.stuck in
    rw (passed, s.refusal) (answer_stuck T q (row_lists_in c.args.out.now) c.hold.ensures (ap not c.if-not-hold.false) s.analysed s.in_plan, refl)

pub fill-requires-clause-room : goal.fill-requires-clause-room
fill-requires-clause-room g c =
    let l = c.args.out.now in
    let room = long_of _ l.busy.now l.instances.now l.bounds.now (grind arith) in
    (room.one, room.two, room.three)

pub returns-clause-outcome : goal.returns-clause-outcome
returns-clause-outcome g c =
    let T = g.T.TableView.table c.args.table.now in
    let q = viewed_ready T _ _ refl refl c.view_rows.ensures c.in_ok-answer.was in
    rw c.fill.ensures.filled (answer_found T q (row_lists_in c.args.out.now) c.hold.ensures (ap not c.if-not-hold.false) c.in_ok-solve_all.ensures.solved (omega arith) (refl, refl, refl))
