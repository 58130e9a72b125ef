-- What the bounds leave is what the report prints.
use Rattle.std.specs.Prelude.{ℕ, ◌≤◌, ◌≡◌, refl, true, List, pos, length, Err, Ok, Result}
use Rattle.std.proofs.Common.{◌∙◌, ap, arith}
use borrow.Author.Tests.{le-leb}
use Rattle.facts.specs.Filled.{filled}
use Rattle.facts.specs.FilledLaws.{get_d_filled, length_filled}
use Rattle.facts.specs.TestsLaws.{clash}
use Rattle.table.specs.declared.refusal.Refusal.{Refusal}
use Rattle.table.specs.Table.{Table, rows, is_plan}
use Rattle.table.specs.TableLaws.{checked, Long, long_true}
use Rattle.table.specs.Plan.{plan_of, in_force}
use Rattle.table.specs.PlanLaws.{right_of}
use Rattle.bounds.specs.Bounds.{chain_bound, slack_of, Lists, needed, filled_in, Given, Refusing, Bounding, no_plan, too_short, no_busy_length}
use Rattle.report.specs.LoadLaws.{load_is}
use Rattle.report.specs.Listed.{Listing, listing, listed, Filled}
use Rattle.report.specs.Report.{figures, report_of, report_text}
use Rattle.report.specs.ReportLaws.{Alike, report_alike, report_few}
use Rattle.report.specs.FiguresLaws.{figures_small}
use Rattle.report.specs.Reporting as reporting
use Rattle.report.specs.Reporting.{ReportOutcome, refused, delivered, Reported}
use Rattle.report.specs.ViewedLaws.{Viewed}

-- The lists have room for the numbers of any plan.
pub record Roomy (l : Lists) : Type 0 where
  pub rows : Long 128 l.busy l.instances l.bound
  pub chain : 32 ≤ length l.chain
  pub slack : 32 ≤ length l.slack

-- What the report prints: the table's own lists, the periods of its n rows and what the bounds leave.
abbrev pub bounded : Table → ℕ → List ℕ → Lists → ℕ → Listing
bounded T n periods l answer =
    listing n T.tasks T.processors l.busy l.instances l.bound l.chain l.slack
    T.period T.deadline T.processor T.time periods answer

-- The first n entries of a list that is filled so far are there.
still_long : {A : Type 0} (f : ℕ → A) (n m : ℕ) (l : List A) → n ≤ m → m ≤ length l → n ≤ length (filled f n l)
still_long f n m l h g = omega (arith, length_filled f n l (omega arith))

module _ (T : Table) (plan : is_plan T ≡ true) where
  -- Roomy lists are never too short,
  needed_none : (l : Lists) → Roomy l → needed T l ≡ 0
  unfolding needed
  needed_none l room =
      let ok = checked T plan in
      let long = long_true (rows T) l.busy l.instances l.bound (omega (arith, room.rows, ok.rows_most)) in
      let chain = le-leb T.tasks (length l.chain) (omega (arith, room.chain, ok.tasks_most)) in
      let slack = le-leb T.tasks (length l.slack) (omega (arith, room.slack, ok.tasks_most)) in
      rw (long, chain, slack)

  -- so a plan is refused its bounds with 6 alone, and its report with them.
  refusing_reported :
      {l : Lists} {r : Refusal} {out : List ℕ} → Roomy l → Refusing T l r → Reported T out (refused r out)
  refusing_reported room (no_plan e n) = absurd (clash plan n)
  refusing_reported {l} room (too_short e p s) = absurd (omega (arith, needed_none l room))
  refusing_reported {l} {r} {out} room (no_busy_length e p z s) =
      reporting.no_busy_length plan s (ap (λ (x : Refusal). refused x out) e)

module _ (T : Table) {n : ℕ} {periods : List ℕ} (seen : Viewed T n periods) {before after : Lists} (room : Roomy before) {answer : ℕ} (g : Given T before after answer) where
  -- What the bounds leave is a plan's figures,
  bounded_alike : Alike (listed (bounded T n periods after answer)) (figures T g.numbers)
  unfolding listed figures filled_in in_force
  bounded_alike =
      let N = g.numbers in
      rw (seen.count, g.lists)
      (record {
        rows = refl;
        tasks = refl;
        processors = refl;
        busy = λ r l. get_d_filled N.busy (rows T) r 0 before.busy l;
        instances = λ r l. get_d_filled N.instances (rows T) r 0 before.instances l;
        bound = λ r l. get_d_filled N.bound (rows T) r 0 before.bound l;
        chain = λ i l. get_d_filled (chain_bound T N) T.tasks i 0 before.chain l;
        deadline = λ i l. refl;
        slack = λ i l. get_d_filled (slack_of T N) T.tasks i (pos 0) before.slack l;
        load = load_is T periods seen.each;
        accepted = g.says;
      })

  -- which the report prints,
  bounded_text : report_of (listed (bounded T n periods after answer)) ≡ report_text T g.numbers
  unfolding report_text
  bounded_text = report_alike bounded_alike

  -- in at most 9,604 bytes,
  bounded_few : length (report_of (listed (bounded T n periods after answer))) ≤ 9604
  unfolding report_text
  bounded_few =
      rw bounded_text (report_few (figures T g.numbers) (figures_small T (checked T seen.plan) g.analysis))

  -- and every entry that it reads is there.
  bounded_filled : Filled (bounded T n periods after answer)
  unfolding filled_in plan_of
  bounded_filled =
      let ok = checked T seen.plan in
      let N = g.numbers in
      rw (seen.count, g.lists)
      (record {
        of_rows = record {
          one = still_long N.busy (rows T) 128 before.busy ok.rows_most room.rows.one;
          two = still_long N.instances (rows T) 128 before.instances ok.rows_most room.rows.two;
          three = still_long N.bound (rows T) 128 before.bound ok.rows_most room.rows.three;
        };
        of_tasks = record {
          one = ok.tasks.long.one;
          two = ok.tasks.long.two;
          three = still_long (chain_bound T N) T.tasks 32 before.chain ok.tasks_most room.chain;
        };
        slacks = still_long (slack_of T N) T.tasks 32 before.slack ok.tasks_most room.slack;
        loads = record {
          few = ok.rows_most;
          processors = ok.row_lists.one;
          costs = ok.row_lists.three;
          periods = seen.long;
          cost_most = λ r l. (ok.row r l).time_most;
          period_pos = λ r l. omega (arith, seen.each r l, (right_of T ok).period_pos r l);
        };
        few = ok.processors_most;
      })

-- What a call of the bounds left, on a plan and in lists with room for any.
module _ (T : Table) {n : ℕ} {periods : List ℕ} (seen : Viewed T n periods) (before after : Lists) (room : Roomy before) {b : Result ℕ Refusal} (left : Bounding T before after b) where
  giving : {answer : ℕ} → b ≡ Ok answer → Given T before after answer
  giving e = (rw e at left).2

  refusing : {r : Refusal} → b ≡ Err r → Refusing T before r
  refusing e = (rw e at left).0

  pub bound_refuses : {r : Refusal} (out : List ℕ) → b ≡ Err r → Reported T out (refused r out)
  bound_refuses out e = refusing_reported T seen.plan room (refusing e)

  module _ {answer : ℕ} (e : b ≡ Ok answer) where
    pub bound_filled : Filled (bounded T n periods after answer)
    bound_filled = bounded_filled T seen room (giving e)

    pub bound_few : length (report_of (listed (bounded T n periods after answer))) ≤ 9604
    bound_few = bounded_few T seen room (giving e)

    -- The text delivered is the plan's report.
    pub bound_gives :
        (out : List ℕ) {w : ReportOutcome} → w ≡ delivered (report_of (listed (bounded T n periods after answer))) out
        → Reported T out w
    bound_gives out d =
        reporting.given seen.plan (giving e).analysis
        (d ∙ ap (λ (t : List ℕ). delivered t out) (bounded_text T seen room (giving e)))
