-- Any two outcomes of reporting are equal.
use Rattle.std.specs.Prelude.{ℕ, suc, ◌≤◌, ◌≡◌, List, ◌++◌, length, take, drop}
use Rattle.std.proofs.Common.{sym, ◌∙◌, ap, arith, take-append-drop}
use Rattle.facts.specs.Filled.{laid}
use Rattle.facts.specs.TestsLaws.{clash}
use Rattle.table.specs.declared.refusal.Refusal.TheVariants.{NoBusyLength}
use Rattle.table.specs.Table.{Table}
use Rattle.text.specs.Text.{Written, appended}
use Rattle.text.specs.TextLaws.{Placed, appended_fits}
use Rattle.bounds.specs.BoundsLaws.{never_stuck, stuck_one}
use Rattle.report.specs.FiguresLaws.{report_one}
use Rattle.report.specs.Reporting.{ReportOutcome, refused, delivered, Reported, no_plan, no_busy_length, given}

written : {w : Written} {l : List ℕ} {n : ℕ} → w.list ≡ l → w.end ≡ n → w ≡ record { list = l; end = n }
written {w} a b = rw (← a, ← b)

-- A text appended at the start of a list with room is laid over it.
pub appended_laid :
    (bs l : List ℕ) → length bs ≤ length l → appended bs l 0 ≡ record { list = laid bs l; end = length bs }
appended_laid bs l h =
    let w = appended bs l 0 in
    let p : Placed bs l 0 w = appended_fits bs l 0 (omega arith) in
    let e : w.end ≡ length bs = omega (arith, p.end) in
    let front : take w.end w.list ≡ bs = p.front in
    let rest : drop w.end w.list ≡ drop (length bs) l = p.rest ∙ ap (λ (n : ℕ). drop n l) e in
    let whole : w.list ≡ laid bs l =
    sym (take-append-drop w.end w.list) ∙ ap (λ (t : List ℕ). t ++ drop w.end w.list) front
    ∙ ap (λ (t : List ℕ). bs ++ t) rest in
    written whole e

-- The outcome of reporting a table is determined by the table and the output.
pub reporting_one :
    {T : Table} {out : List ℕ} {w w' : ReportOutcome} → Reported T out w → Reported T out w' → w ≡ w'
reporting_one (no_plan n e) (no_plan n' e') = e ∙ sym e'
reporting_one (no_plan n e) (no_busy_length p s e') = absurd (clash p n)
reporting_one (no_plan n e) (given p a e') = absurd (clash p n)
reporting_one (no_busy_length p s e) (no_plan n e') = absurd (clash p n)
reporting_one {T} {out} (no_busy_length p s e) (no_busy_length p' s' e') =
    e ∙ ap (λ (r : ℕ). refused (NoBusyLength (suc r)) out) (stuck_one s s') ∙ sym e'
reporting_one (no_busy_length p s e) (given p' a e') = absurd (never_stuck a s)
reporting_one (given p a e) (no_plan n e') = absurd (clash p n)
reporting_one (given p a e) (no_busy_length p' s e') = absurd (never_stuck a s)
reporting_one {T} {out} (given p a e) (given p' a' e') =
    e ∙ ap (λ (t : List ℕ). delivered t out) (report_one a a') ∙ sym e'
