-- Laws shown key by key: no number past the keys has a value in its range, and no range goes far.
use Rattle.std.specs.Prelude.{ℕ, zero, suc, ◌+◌, ◌≤◌, ◌≡◌, true, false, ◌&&◌, leb, eqb, get_or}
use Rattle.std.proofs.Common.{arith, leb-true, ne_eqb}
use Rattle.std.proofs.Math.ListN.{get_or-eq_default}
use Rattle.facts.specs.TestsLaws.{and_left, and_right}
use Rattle.table.specs.Keys.{plan_key, processors_key, tasks_key, task_key, period_key, deadline_key, steps_key, processor_key, priority_key, time_key, no_key}
use Rattle.table.specs.Ranges.{in_range, range_of, ranges}
use Rattle.table.specs.RangesLaws.{within_of}

-- What is shown of each key by itself, and of every number past them.
pub record EachKey (P : ℕ → Type 0) : Type 0 where
  pub plan : P plan_key
  pub processors : P processors_key
  pub tasks : P tasks_key
  pub task : P task_key
  pub period : P period_key
  pub deadline : P deadline_key
  pub steps : P steps_key
  pub processor : P processor_key
  pub priority : P priority_key
  pub time : P time_key
  pub none : (key : ℕ) → no_key ≤ key → P key

-- It holds of each number.
pub by_key : {P : ℕ → Type 0} → EachKey P → (key : ℕ) → P key
by_key e zero = e.plan
by_key e (suc zero) = e.processors
by_key e (suc (suc zero)) = e.tasks
by_key e (suc (suc (suc zero))) = e.task
by_key e (suc (suc (suc (suc zero)))) = e.period
by_key e (suc (suc (suc (suc (suc zero))))) = e.deadline
by_key e (suc (suc (suc (suc (suc (suc zero)))))) = e.steps
by_key e (suc (suc (suc (suc (suc (suc (suc zero))))))) = e.processor
by_key e (suc (suc (suc (suc (suc (suc (suc (suc zero)))))))) = e.priority
by_key e (suc (suc (suc (suc (suc (suc (suc (suc (suc zero))))))))) = e.time
by_key e (suc (suc (suc (suc (suc (suc (suc (suc (suc (suc more)))))))))) = e.none _ (omega arith)

-- A number that is none of the keys below k is k or more.
abbrev pub NoneBelow : ℕ → ℕ → Type 0
NoneBelow zero key = Unit
NoneBelow (suc k) key = NoneBelow k key × (key ≡ k → ⊥)

pub none_below : (k key : ℕ) → NoneBelow k key → k ≤ key
none_below zero key n = omega arith
none_below (suc k) key n = omega (arith, none_below k key n.0, n.1)

past_ranges : (key : ℕ) → no_key ≤ key → get_or ranges key (record { least = 1; most = 0 }) ≡ record { least = 1; most = 0 }
unfolding ranges
past_ranges key h = get_or-eq_default ranges _ h

-- A number that is no key's has no value in its range.
pub none_in_range : (key n v : ℕ) → no_key ≤ key → in_range key n v ≡ true → ⊥
unfolding in_range range_of
none_in_range key n v h e =
    let no_task : eqb key task_key ≡ false = ne_eqb key task_key (λ q. omega arith) in
    let no_processor : eqb key processor_key ≡ false = ne_eqb key processor_key (λ q. omega arith) in
    let empty = past_ranges key h in
    let none : leb 1 v && leb v 0 ≡ true = simp (no_task, no_processor, empty) at e in
    omega (arith, leb-true 1 v (and_left (leb 1 v) _ none), leb-true v 0 (and_right (leb 1 v) _ none))

-- A value in its range is at most the greatest of all ranges and the plan's own number.
value_keys : EachKey (λ key. (n v : ℕ) → in_range key n v ≡ true → v ≤ 160000000 + n)
unfolding range_of ranges
value_keys = record {
  plan = λ n v e. omega (arith, within_of plan_key n v e);
  processors = λ n v e. omega (arith, within_of processors_key n v e);
  tasks = λ n v e. omega (arith, within_of tasks_key n v e);
  task = λ n v e. omega (arith, within_of task_key n v e);
  period = λ n v e. omega (arith, within_of period_key n v e);
  deadline = λ n v e. omega (arith, within_of deadline_key n v e);
  steps = λ n v e. omega (arith, within_of steps_key n v e);
  processor = λ n v e. omega (arith, within_of processor_key n v e);
  priority = λ n v e. omega (arith, within_of priority_key n v e);
  time = λ n v e. omega (arith, within_of time_key n v e);
  none = λ key h n v e. absurd (none_in_range key n v h e);
}

pub value_most : (key n v : ℕ) → in_range key n v ≡ true → v ≤ 160000000 + n
value_most key n v e = by_key value_keys key n v e
