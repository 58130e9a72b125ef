-- From a report to the runs on byte lists: what the report of a plan's file says of its chains is kept.
use Rattle.std.specs.Prelude.{ℕ, zero, suc, pred, ◌≤◌, ◌<◌, ◌≡◌, refl, Bool, true, false, cond, List, ltb, pos, length, replicate, Ok}
use Rattle.std.proofs.Common.{sym, ◌∙◌, ap, arith}
use Rattle.std.proofs.Math.Decide.{dec_lt}
use borrow.Author.Tests.{eq-eqb, le-leb}
use Rattle.std.proofs.Math.ListN.{length-replicate}
use Rattle.facts.specs.TestsLaws.{clash}
use Rattle.facts.specs.Filled.{filled, laid}
use Rattle.facts.specs.FilledLaws.{get_d_filled, get_d_rest}
use Rattle.table.specs.Table.{Table, at, rows, is_plan}
use Rattle.table.specs.TableLaws.{long_true}
use Rattle.table.specs.declared.refusal.Refusal.{Refusal}
use Rattle.table.specs.declared.refusal.Refusal.TheVariants.{TooShort}
use Rattle.planfile.specs.Reading.{Held, held}
use Rattle.bounds.specs.Bounds.{Numbers, Analysis, chain_bound, accepted, Lists, needed, filled_in, Bounding}
use Rattle.report.specs.Report.{report_text}
use Rattle.report.specs.Reporting.{ReportOutcome, refused, delivered, Reported, FileReported}
use Rattle.promise.proofs.Theorem.{no_harder_self, within_deadline}
use Rattle.rack.specs.declared.answer.RackAnswer.{RackAnswer}
use Rattle.rack.specs.Layouts.{table_bytes}
use Rattle.rack.specs.RackCalls.{refused_as, reported_as, PlanReported}
use Rattle.boundary.specs.OnBytes.{RackEndsWithin}
use Rattle.boundary.proofs.CallsHeld.{refusal_number}
use Rattle.boundary.specs.FromFile.{list_read, ReportKept}
use Rattle.boundary.proofs.FilePromise.{file_promise}

-- So many ticks are enough, and so are more.
ends_more : (table : List ℕ) (task few more : ℕ) → few ≤ more → RackEndsWithin table task few → RackEndsWithin table task more
ends_more table task few more h ends any size before afterwards taken late = ends any size before afterwards taken (omega arith)

module _ (T : Table) (N : Numbers) where
  -- Lists of zeros with room for the bounds.
  room : Lists
  room = record {
    busy = replicate (rows T) 0;
    instances = replicate (rows T) 0;
    bound = replicate (rows T) 0;
    chain = replicate T.tasks 0;
    slack = replicate T.tasks (pos 0);
  }

  no_more_needed : needed T room ≡ 0
  unfolding needed room
  no_more_needed =
      rw (long_true (rows T) (replicate (rows T) 0) (replicate (rows T) 0) (replicate (rows T) 0) (omega (arith, length-replicate {A = ℕ} (rows T) 0)), length-replicate {A = ℕ} T.tasks 0, length-replicate T.tasks (pos 0), le-leb T.tasks T.tasks (omega arith))

  bounding : is_plan T ≡ true → Analysis T N → Bounding T room (filled_in T N room) (Ok (cond (accepted T N) 1 0))
  bounding plan analysis = (plan, no_more_needed, record { numbers = N; analysis = analysis; lists = refl; says = refl })

  -- An entry of a list of zeros is 0.
  zero_at : (n i : ℕ) → at (replicate n 0) i ≡ 0
  zero_at zero i = refl
  zero_at (suc n) zero = refl
  zero_at (suc n) (suc i) = zero_at n i

  -- The list of chain bounds holds them, and zeros past them.
  chain_within : (i ticks : ℕ) → (i < T.tasks → chain_bound T N i ≤ ticks) → at (filled_in T N room).chain i ≤ ticks
  unfolding filled_in room
  chain_within i ticks enough = go (dec_lt i T.tasks)
    where
      go : Dec (i < T.tasks) → at (filled (chain_bound T N) T.tasks (replicate T.tasks 0)) i ≤ ticks
      go (yes l) = omega (arith, enough l, get_d_filled (chain_bound T N) T.tasks i 0 (replicate T.tasks 0) l)
      go (no l) =
          omega (arith, get_d_rest (chain_bound T N) T.tasks i 0 (replicate T.tasks 0) (omega arith), zero_at T.tasks i)

-- A file holds a plan with these numbers: runs on byte lists with the table list that the file is read into keep them.
pub bounds_kept :
    (file list : List ℕ) → length list ≡ table_bytes → (T : Table) → held file ≡ Held.table T → (N : Numbers)
    → is_plan T ≡ true → Analysis T N → (task ticks : ℕ) → (pred task < T.tasks → chain_bound T N (pred task) ≤ ticks)
    → RackEndsWithin (list_read file list) task ticks
bounds_kept file list size T holds N plan analysis task ticks enough =
    ends_more (list_read file list) task (at (filled_in T N (room T N)).chain (pred task)) ticks (chain_within T N (pred task) ticks enough)
    (file_promise file list size T holds T (no_harder_self T) (room T N) (filled_in T N (room T N)) _ (bounding T N plan analysis) task)

-- A refusal has no number 0.
not_refused : {w : ReportOutcome} {refusal : Refusal} {out : List ℕ} → (reported_as w.answer).number ≡ 0 → w ≡ refused refusal out → ⊥
unfolding reported_as refused_as
not_refused {w} {refusal} {out} z e =
    clash (eq-eqb _ _ (sym (ap (λ (x : ReportOutcome). (reported_as x.answer).number) e) ∙ z)) (refusal_number refusal)

-- A text that was delivered stands in the output.
delivers : {w : ReportOutcome} (text out : List ℕ) → (reported_as w.answer).number ≡ 0 → w ≡ delivered text out → w.out ≡ laid text out
unfolding delivered
delivers {w} text out z e = go (ltb (length out) (length text)) refl
  where
    go : (b : Bool) → ltb (length out) (length text) ≡ b → w.out ≡ laid text out
    go true q =
        let d : w ≡ refused (TooShort (length text)) out = e ∙ rw q in
        absurd (not_refused z d)
    go false q =
        let d : w ≡ record { answer = Ok (length text); out = laid text out } = e ∙ rw q in
        ap (λ (x : ReportOutcome). x.out) d

-- Where the rack reports a file with number 0, its report is kept.
pub report_kept :
    (file out after : List ℕ) (answer : RackAnswer) → PlanReported file out answer after → answer.number ≡ 0
    → (list : List ℕ) → length list ≡ table_bytes → ReportKept file out after list
report_kept file out after answer p z list size = go p.reported (sym (ap (λ (a : RackAnswer). a.number) p.answered) ∙ z)
  where
    go : {w : ReportOutcome} → FileReported file out w → (reported_as w.answer).number ≡ 0 → ReportKept file out w.out list
    go (FileReported.too_long long e) zero_is = absurd (not_refused zero_is e)
    go (FileReported.unread short h e) zero_is = absurd (not_refused zero_is e)
    go (FileReported.read short h (Reported.no_plan none e)) zero_is = absurd (not_refused zero_is e)
    go (FileReported.read short h (Reported.no_busy_length plan stuck e)) zero_is = absurd (not_refused zero_is e)
    go (FileReported.read {T} short h (Reported.given {N} plan analysis e)) zero_is = record {
      plan = T;
      numbers = N;
      holds = h;
      analysis = analysis;
      reported = delivers (report_text T N) out zero_is e;
      in_time = λ task. bounds_kept file list size T h N plan analysis task _ (λ l. omega arith);
      by_deadline = λ yes task. bounds_kept file list size T h N plan analysis task _ (within_deadline T N yes (pred task));
    }
