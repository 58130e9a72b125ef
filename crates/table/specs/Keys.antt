-- The keys of a plan file by number, in the order in which a plan gives them (document 01, "The plan on paper").
use Rattle.std.specs.Prelude.{ℕ}

abbrev pub plan_key : ℕ
plan_key = 0

abbrev pub processors_key : ℕ
processors_key = 1

abbrev pub tasks_key : ℕ
tasks_key = 2

abbrev pub task_key : ℕ
task_key = 3

abbrev pub period_key : ℕ
period_key = 4

abbrev pub deadline_key : ℕ
deadline_key = 5

abbrev pub steps_key : ℕ
steps_key = 6

abbrev pub processor_key : ℕ
processor_key = 7

abbrev pub priority_key : ℕ
priority_key = 8

abbrev pub time_key : ℕ
time_key = 9

-- The number that is no key's.
abbrev pub no_key : ℕ
no_key = 10
