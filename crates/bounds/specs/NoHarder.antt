-- The first half of demand 3: a plan that is no harder has bounds, none larger.
use Rattle.std.specs.Prelude.{◌≡◌, ℕ, ◌≤◌, ◌<◌, get_or, pos, ◌≤ℤ◌}
use Rattle.table.specs.Table.{Table, at, rows}
use Rattle.table.specs.Plan.{cost, in_force}
use Rattle.bounds.specs.Bounds.{Lists}

-- Table S is no harder than table T: the same chains, processors and priorities, no time longer, no period and no
-- deadline in force shorter. What a list holds past the rows and tasks says nothing.
pub record NoHarder (T S : Table) : Type 0 where
  pub tasks : S.tasks ≡ T.tasks
  pub steps : (i : ℕ) → i < T.tasks → at S.steps i ≡ at T.steps i
  pub processor : (r : ℕ) → r < rows T → at S.processor r ≡ at T.processor r
  pub priority : (r : ℕ) → r < rows T → at S.priority r ≡ at T.priority r
  pub cost : (r : ℕ) → r < rows T → cost S r ≤ cost T r
  pub period : (i : ℕ) → i < T.tasks → at T.period i ≤ at S.period i
  pub deadline : (i : ℕ) → i < T.tasks → in_force T i ≤ in_force S i

-- Of table T's rows and tasks, the second lists have no larger number than the first, and no smaller slack.
pub record NoLarger (T : Table) (first second : Lists) : Type 0 where
  pub busy : (r : ℕ) → r < rows T → at second.busy r ≤ at first.busy r
  pub instances : (r : ℕ) → r < rows T → at second.instances r ≤ at first.instances r
  pub bound : (r : ℕ) → r < rows T → at second.bound r ≤ at first.bound r
  pub chain : (i : ℕ) → i < T.tasks → at second.chain i ≤ at first.chain i
  pub slack : (i : ℕ) → i < T.tasks → get_or first.slack i (pos 0) ≤ℤ get_or second.slack i (pos 0)
