-- The figures of a report as the lists that hold them.
use Rattle.std.specs.Prelude.{ℕ, ◌≤◌, List, ℤ, pos, length, get_or}
use Rattle.table.specs.Table.{at}
use Rattle.table.specs.TableLaws.{Long}
use Rattle.table.specs.Plan.{deadline_from}
use Rattle.report.specs.Load.{load_of}
use Rattle.report.specs.LoadLaws.{Loads}
use Rattle.report.specs.Report.{Figures}

-- Three counts; the lists of busy lengths, instances and bounds, of chains and slacks, of periods and deadlines of tasks,
-- and of processors, costs and periods of rows; and whether the plan is accepted.
pub record Listing : Type 0 where
  pub rows : ℕ
  pub tasks : ℕ
  pub processors : ℕ
  pub busy : List ℕ
  pub instances : List ℕ
  pub bound : List ℕ
  pub chains : List ℕ
  pub slack : List ℤ
  pub period : List ℕ
  pub deadline : List ℕ
  pub processor : List ℕ
  pub cost : List ℕ
  pub periods : List ℕ
  pub accepted : ℕ

-- The listing of these.
abbrev pub listing :
    ℕ → ℕ → ℕ → List ℕ → List ℕ → List ℕ → List ℕ → List ℤ → List ℕ → List ℕ → List ℕ → List ℕ → List ℕ → ℕ → Listing
listing rows tasks processors busy instances bound chains slack period deadline processor cost periods accepted = record {
  rows = rows;
  tasks = tasks;
  processors = processors;
  busy = busy;
  instances = instances;
  bound = bound;
  chains = chains;
  slack = slack;
  period = period;
  deadline = deadline;
  processor = processor;
  cost = cost;
  periods = periods;
  accepted = accepted;
}

-- The slack of task i, counted from 0, in a list of them.
abbrev pub slack_at : List ℤ → ℕ → ℤ
slack_at l i = get_or l i (pos 0)

-- The figures that the lists hold.
unfoldable pub listed : Listing → Figures
listed L = record {
  rows = L.rows;
  tasks = L.tasks;
  processors = L.processors;
  busy = at L.busy;
  instances = at L.instances;
  bound = at L.bound;
  chain = at L.chains;
  deadline = λ i. deadline_from (at L.period i) (at L.deadline i);
  slack = slack_at L.slack;
  load = load_of L.rows (at L.processor) (at L.cost) (at L.periods);
  accepted = L.accepted;
}

-- The lists have an entry for each row and each task, and sums of loads fit.
pub record Filled (L : Listing) : Type 0 where
  pub of_rows : Long L.rows L.busy L.instances L.bound
  pub of_tasks : Long L.tasks L.period L.deadline L.chains
  pub slacks : L.tasks ≤ length L.slack
  pub loads : Loads L.rows L.processor L.cost L.periods
  pub few : L.processors ≤ 16
