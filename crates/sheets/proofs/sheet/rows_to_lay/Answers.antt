use Rattle.std.proofs.Common.{◌≡◌, ℕ, Bool, true, false, sym, ◌∙◌, arith}
use Rattle.sheets.proofs.sheet.rows_to_lay.Goals as goal

pub returns-in_default : goal.returns-in_default
returns-in_default c = λ plan.
    let z : ◌≡◌ {A = Bool} true false = sym plan ∙ (c.in_default.ensures).1 in
    let clash : ◌≡◌ {A = ℕ} 0 1 = cc in
    absurd (omega arith)

pub returns : goal.returns
returns c = λ plan. (c.in-Ok.ensures).1
