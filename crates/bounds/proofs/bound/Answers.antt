use Rattle.std.proofs.Common.{◌≡◌, Bool, true, false, ◌∙◌, Err, cond, refl, arith}
use mir.Val.{bool_byte}
use Rattle.bounds.specs.Bounds.{accepted}
use Rattle.bounds.specs.Chains.{bounds_of}
use Rattle.bounds.specs.Held.{lists_in}
use Rattle.bounds.specs.Room.{needed_for}
use Rattle.bounds.specs.BoundingLaws.{refusing_needed, none_needed, room, refused, chained, given}
use Rattle.bounds.proofs.bound.Goals as goal

-- <defs>
one_or_zero : (x : Bool) → bool_byte x ≡ cond x 1 0
one_or_zero true = refl
one_or_zero false = refl

-- </defs>
pub returns-in_err-check_room-clause-outcome : goal.returns-in_err-check_room-clause-outcome
returns-in_err-check_room-clause-outcome g c =
    let T = g.T.TableView.table c.args.table.now in
    let plan = c.in_ok-rows.ensures in
    let passed : c.from_residual-in_err-check_room.result ≡ Err c.in_err-check_room.field-0.0 = grind arith in
    let short = rw c.tasks.ensures at c.in_err-check_room.ensures.short in
    rw passed (refusing_needed T plan.0 plan.1 (lists_in c.args.out.now) short.0 short.1, refl)

pub returns-in_err-fill_rows-clause-outcome : goal.returns-in_err-fill_rows-clause-outcome
returns-in_err-fill_rows-clause-outcome g c =
    let T = g.T.TableView.table c.args.table.now in
    let plan = c.in_ok-rows.ensures in
    let none : needed_for c.in_ok-rows.rows T.tasks (lists_in c.args.out.now) ≡ 0 = rw c.tasks.ensures at c.in_ok-check_room.ensures.room in
    let passed : c.from_residual-in_err-fill_rows.result ≡ Err c.in_err-fill_rows.field-0.0 = grind arith in
    let stay = c.fill_rows.ensures.stay in
    rw (passed, stay.0, stay.1) (refused T plan.0 plan.1 (lists_in c.args.out.now) none _ _ c.fill_rows.ensures.outcome _ c.in_err-fill_rows.was)

pub fill_chains-requires : goal.fill_chains-requires
fill_chains-requires g c =
    let T = g.T.TableView.table c.args.table.now in
    let plan = c.in_ok-rows.ensures in
    let none : needed_for c.in_ok-rows.rows T.tasks (lists_in c.args.out.now) ≡ 0 = rw c.tasks.ensures at c.in_ok-check_room.ensures.room in
    let left = room T plan.0 plan.1 (lists_in c.args.out.now) none in
    let stay = c.fill_rows.ensures.stay in record {
      chained = chained T plan.0 plan.1 (lists_in c.args.out.now) none _ _ c.fill_rows.ensures.outcome c.in_ok-fill_rows.was;
      room = rw (stay.0, stay.1) (left.chain, left.slack);
    }

pub returns-clause-outcome : goal.returns-clause-outcome
returns-clause-outcome g c =
    let T = g.T.TableView.table c.args.table.now in
    let plan = c.in_ok-rows.ensures in
    let none : needed_for c.in_ok-rows.rows T.tasks (lists_in c.args.out.now) ≡ 0 = rw c.tasks.ensures at c.in_ok-check_room.ensures.room in
    let stay = c.fill_rows.ensures.stay in
    let says : c.from.result ≡ cond (accepted T (bounds_of c.fill_rows.new.self.bounds.now)) 1 0 = c.from.ensures ∙ one_or_zero _ ∙ rw c.fill_chains.ensures.accepted in
    (plan.0, none_needed T plan.0 plan.1 (lists_in c.args.out.now) none, rw (c.fill_chains.ensures.lists, stay.0, stay.1) (given T plan.0 plan.1 (lists_in c.args.out.now) none _ _ c.fill_rows.ensures.outcome c.in_ok-fill_rows.was refl refl says))
