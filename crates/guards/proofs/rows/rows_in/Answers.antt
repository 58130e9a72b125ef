use Rattle.std.specs.Prelude.{ℕ, ◌≡◌, refl, Result, Ok, Err}
use Rattle.std.specs.Result.{result_unwrap_or}
use Rattle.std.proofs.Common.{◌∙◌, ap}
use Rattle.table.specs.declared.refusal.Refusal.{Refusal}
use Rattle.planned.specs.View.{Viewed}
use Rattle.guards.specs.Rows.{count_of, rows_in}
use Rattle.guards.proofs.rows.rows_in.Goals as goal

counted : (r : Result ℕ Refusal) → result_unwrap_or r 0 ≡ count_of r
counted (Ok n) = refl
counted (Err refusal) = refl

pub returns : goal.returns
unfolding rows_in
returns g c =
    let e = c.view_rows.ensures in
    λ i. record { count = (c.unwrap_or.ensures ∙ counted c.view_rows.result ∙ ap (λ (w : Viewed). count_of w.answer) e) i; period = (e i).period; first = (e i).first }
