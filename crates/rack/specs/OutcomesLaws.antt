-- Any two outcomes that a contract of this crate allows for one input are equal.
use Rattle.std.specs.Prelude.{ℕ, ◌≡◌, List}
use Rattle.std.proofs.Common.{sym, ◌∙◌, ap}
use Rattle.facts.specs.OutcomesLaws.{equation_one}
use Rattle.rack.specs.RackCalls.{StateOutcome, TableOutcome, RackTickOutcome, PlanReported, rack_table, rack_fresh, rack_arrive, rack_tick, reported_as}
use Rattle.rack.specs.declared.answer.RackAnswer.{RackAnswer}
use Rattle.report.specs.Reporting.{ReportOutcome}
use Rattle.report.specs.FileReportLaws.{file_reporting_one}

pub rack_table_one : (file list : List ℕ) {x y : TableOutcome} → x ≡ rack_table file list → y ≡ rack_table file list → x ≡ y
rack_table_one file list = equation_one

pub rack_fresh_one : (table state : List ℕ) {x y : StateOutcome} → x ≡ rack_fresh table state → y ≡ rack_fresh table state → x ≡ y
rack_fresh_one table state = equation_one

pub rack_arrive_one : (table state : List ℕ) (task : ℕ) {x y : StateOutcome} → x ≡ rack_arrive table state task → y ≡ rack_arrive table state task → x ≡ y
rack_arrive_one table state task = equation_one

pub rack_tick_one : (table state done released : List ℕ) {x y : RackTickOutcome}
    → x ≡ rack_tick table state done released → y ≡ rack_tick table state done released → x ≡ y
rack_tick_one table state done released = equation_one

pub plan_report_one : (file before : List ℕ) {a b : RackAnswer} {l m : List ℕ}
    → PlanReported file before a l → PlanReported file before b m → (a ≡ b) × (l ≡ m)
plan_report_one file before p q =
    let same = file_reporting_one p.reported q.reported in
    (p.answered ∙ ap (λ (o : ReportOutcome). reported_as o.answer) same ∙ sym q.answered, ap (λ (o : ReportOutcome). o.out) same)
