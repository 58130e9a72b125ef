-- Laws of what the plan program prints.
use Rattle.std.specs.Prelude.{ℕ, suc, ◌≤◌, ◌≡◌, true, List, length, take, drop, Err, Ok}
use Rattle.std.proofs.Common.{sym, ◌∙◌, ap, subst, arith, le-ltb, length-append, length-take-le}
use Rattle.std.proofs.Math.Seq.{take-append_seam}
use Rattle.io.specs.Counts.{IsPrefixLen}
use Rattle.facts.specs.Filled.{laid}
use Rattle.facts.specs.TestsLaws.{clash}
use Rattle.table.specs.declared.refusal.Refusal.{Refusal}
use Rattle.table.specs.declared.refusal.Refusal.TheVariants.{NoBusyLength}
use Rattle.table.specs.Refusals.{number_of, place_of}
use Rattle.table.specs.Table.{Table, is_plan}
use Rattle.table.specs.TableLaws.{checked}
use Rattle.text.specs.Text.{bytes_of, line}
use Rattle.text.specs.TextLaws.{length_line}
use Rattle.text.specs.NumeralLaws.{decimal_most}
use Rattle.planfile.specs.RoundTrip.{held_most, read_is}
use Rattle.bounds.specs.Bounds.{Numbers, Analysis, Stuck}
use Rattle.bounds.specs.BoundsLaws.{never_stuck, stuck_one}
use Rattle.report.specs.Report.{report_text, figures}
use Rattle.report.specs.AnswersLaws.{value_same, refusal_same, differ}
use Rattle.report.specs.ReportLaws.{report_few}
use Rattle.report.specs.FiguresLaws.{figures_small, report_one}
use Rattle.report.specs.FileReportLaws.{held_refusal, held_table, held_either}
use Rattle.report.specs.Reporting as reporting
use Rattle.report.specs.Reporting.{ReportOutcome, delivered, FileReported}
use Rattle.plan.specs.Printed.{refusal_text, Printed, too_long, unread, no_busy_length, given}

-- The same of equal tables.
stuck_as : {S T : Table} {row : ℕ} → S ≡ T → Stuck S row → Stuck T row
stuck_as {S} {T} {row} q s = subst (λ (X : Table). Stuck X row) q s

report_as :
    {S T : Table} {M N : Numbers} → S ≡ T → Analysis S M → Analysis T N → report_text S M ≡ report_text T N
report_as {S} {T} {M} q a b =
    ap (λ (X : Table). report_text X M) q ∙ report_one (subst (λ (X : Table). Analysis X M) q a) b

-- The text printed is determined by the file.
pub printed_one : {file s t : List ℕ} → Printed file s → Printed file t → s ≡ t
printed_one (too_long l e) (too_long l' e') = e ∙ sym e'
printed_one (too_long l e) (unread l' h e') = absurd (omega arith)
printed_one {file} (too_long l e) (no_busy_length {T} h s e') = absurd (omega (arith, held_most file T h))
printed_one {file} (too_long l e) (given {T} h a e') = absurd (omega (arith, held_most file T h))
printed_one (unread l h e) (too_long l' e') = absurd (omega arith)
printed_one (unread l h e) (unread l' h' e') = e ∙ ap refusal_text (held_refusal h h') ∙ sym e'
printed_one (unread l h e) (no_busy_length h' s e') = absurd (held_either h' h)
printed_one (unread l h e) (given h' a e') = absurd (held_either h' h)
printed_one {file} (no_busy_length {T} h s e) (too_long l e') = absurd (omega (arith, held_most file T h))
printed_one (no_busy_length h s e) (unread l h' e') = absurd (held_either h h')
printed_one (no_busy_length h s e) (no_busy_length h' s' e') =
    e ∙ ap (λ (r : ℕ). refusal_text (NoBusyLength (suc r))) (stuck_one (stuck_as (held_table h h') s) s') ∙ sym e'
printed_one (no_busy_length h s e) (given h' a e') = absurd (never_stuck a (stuck_as (held_table h h') s))
printed_one {file} (given {T} h a e) (too_long l e') = absurd (omega (arith, held_most file T h))
printed_one (given h a e) (unread l h' e') = absurd (held_either h h')
printed_one (given h a e) (no_busy_length h' s e') = absurd (never_stuck a (stuck_as (held_table h' h) s))
printed_one (given h a e) (given h' a' e') = e ∙ report_as (held_table h h') a a' ∙ sym e'

-- As many bytes as a list has can be taken from it.
pub counts : {n : ℕ} (l : List ℕ) → n ≤ length l → IsPrefixLen n l
counts {n} l h = (h, sym (length-take-le n l h))

-- A refusal's two lines have at most 53 bytes.
pub refusal_few : (r : Refusal) → length (refusal_text r) ≤ 53
unfolding refusal_text
refusal_few r =
    omega (
      arith,
      length-append (line (bytes_of "refused") (number_of r)) (line (bytes_of "at") (place_of r)),
      length_line (bytes_of "refused") (number_of r),
      length_line (bytes_of "at") (place_of r),
      decimal_most (number_of r),
      decimal_most (place_of r),
    )

answer_is : {v w : ReportOutcome} → w ≡ v → w.answer ≡ v.answer
answer_is e = ap (λ (o : ReportOutcome). o.answer) e

-- An output of 9,604 bytes has room for any report.
room_for :
    {T : Table} {N : Numbers} (out : List ℕ) → 9604 ≤ length out → is_plan T ≡ true → Analysis T N
    → delivered (report_text T N) out
    ≡ record { answer = Ok (length (report_text T N)); out = laid (report_text T N) out }
unfolding delivered report_text
room_for {T} {N} out room plan a =
    let few = report_few (figures T N) (figures_small T (checked T plan) a) in
    rw (le-ltb (length out) (length (report_text T N)) (omega arith))

-- What stands at the front of an output over which a text is laid.
front_of :
    (text out : List ℕ) {w : ReportOutcome} {n : ℕ} → w ≡ record { answer = Ok (length text); out = laid text out }
    → w.answer ≡ Ok n → (n ≤ length w.out) × (take n w.out ≡ text)
front_of text out {w} {n} e s =
    let m : length text ≡ n = value_same (answer_is e) s in
    let behind = drop (length text) out in
    rw (← m, e) (omega (arith, length-append text behind), take-append_seam text behind)

-- The bytes reported to such an output are the text printed,
module _ {file out : List ℕ} {w : ReportOutcome} (room : 9604 ≤ length out) where
  pub bytes_printed :
      {n : ℕ} → FileReported file out w → w.answer ≡ Ok n → (n ≤ length w.out) × Printed file (take n w.out)
  bytes_printed (reporting.too_long l e) s = absurd (differ s (answer_is e))
  bytes_printed (reporting.unread l h e) s = absurd (differ s (answer_is e))
  bytes_printed (reporting.read l h (reporting.no_plan n e)) s = absurd (differ s (answer_is e))
  bytes_printed (reporting.read l h (reporting.no_busy_length p k e)) s = absurd (differ s (answer_is e))
  bytes_printed (reporting.read {T} l h (reporting.given {N} p a e)) s =
      let text = front_of (report_text T N) out (e ∙ room_for out room p a) s in
      (text.0, given h a text.1)

  -- and a refusal is printed as its two lines.
  pub refusal_printed : {r : Refusal} → FileReported file out w → w.answer ≡ Err r → Printed file (refusal_text r)
  refusal_printed (reporting.too_long l e) s = too_long l (ap refusal_text (refusal_same s (answer_is e)))
  refusal_printed (reporting.unread l h e) s = unread l h (ap refusal_text (refusal_same s (answer_is e)))
  refusal_printed (reporting.read {T} l h (reporting.no_plan n e)) s = absurd (clash (read_is file T h).0 n)
  refusal_printed (reporting.read l h (reporting.no_busy_length p k e)) s =
      no_busy_length h k (ap refusal_text (refusal_same s (answer_is e)))
  refusal_printed (reporting.read l h (reporting.given p a e)) s =
      absurd (differ (answer_is (e ∙ room_for out room p a)) s)
