-- The bounds of a plan: what is answered, and what the lent lists then hold (document 01, "Bounds" and "Numbers that say no").
use Rattle.std.specs.Prelude.{◌≡◌, Bool, true, false, cond, ◌&&◌, List, ℕ, suc, ◌+◌, ◌<◌, leb, length, ℤ, pos, ◌-ℤ◌, Err, Ok, Result}
use Rattle.std.specs.Int.Signed.{le_z}
use Rattle.facts.specs.Sums.{sum}
use Rattle.facts.specs.Tests.{all}
use Rattle.facts.specs.Filled.{filled}
use Rattle.table.specs.declared.refusal.Refusal.{Refusal}
use Rattle.table.specs.declared.refusal.Refusal.TheVariants.{NotAPlan, NoBusyLength, TooShort}
use Rattle.table.specs.Table.{Table, at, first_row, rows, long_enough, is_plan}
use Rattle.table.specs.Plan.{in_force}
pub use Rattle.busy.specs.Busy.{limit, equations, Numbers, Analysis, Stuck}

-- "A chain's bound is the sum of its rows' bounds." Tasks are counted from 0.
unfoldable pub chain_bound : Table → Numbers → ℕ → ℕ
chain_bound T N i = sum (at T.steps i) (λ s. N.bound (first_row T i + s))

-- "Its slack is the deadline in force less the bound, and may be below zero."
unfoldable pub slack_of : Table → Numbers → ℕ → ℤ
slack_of T N i = pos (in_force T i) -ℤ pos (chain_bound T N i)

-- "A plan is accepted exactly if every slack is zero or more."
unfoldable pub accepted : Table → Numbers → Bool
accepted T N = all T.tasks (λ i. le_z (pos 0) (slack_of T N i))

-- The five lent lists: three with an entry for each row, and two with an entry for each task.
pub record Lists : Type 0 where
  pub busy : List ℕ
  pub instances : List ℕ
  pub bound : List ℕ
  pub chain : List ℕ
  pub slack : List ℤ

abbrev pub lists_of : List ℕ → List ℕ → List ℕ → List ℕ → List ℤ → Lists
lists_of busy instances bound chain slack = record {
  busy = busy;
  instances = instances;
  bound = bound;
  chain = chain;
  slack = slack;
}

-- What the first short list needs, row lists before task lists; 0 where none is short.
unfoldable pub needed : Table → Lists → ℕ
needed T l =
    cond (long_enough (rows T) l.busy l.instances l.bound)
    (cond (leb T.tasks (length l.chain) && leb T.tasks (length l.slack)) 0 T.tasks)
    (rows T)

-- The lists with the plan's entries filled in; the rest of each stays.
unfoldable pub filled_in : Table → Numbers → Lists → Lists
filled_in T N l = record {
  busy = filled N.busy (rows T) l.busy;
  instances = filled N.instances (rows T) l.instances;
  bound = filled N.bound (rows T) l.bound;
  chain = filled (chain_bound T N) T.tasks l.chain;
  slack = filled (slack_of T N) T.tasks l.slack;
}

-- The plan has bounds: the lists are filled with its numbers, and the answer is 1 if it is accepted, else 0.
pub record Given (T : Table) (before after : Lists) (answer : ℕ) : Type 0 where
  pub numbers : Numbers
  pub analysis : Analysis T numbers
  pub lists : after ≡ filled_in T numbers before
  pub says : answer ≡ cond (accepted T numbers) 1 0

-- When each refusal is given, in the order 5, 7, 6; there is no other.
pub data Refusing (T : Table) (before : Lists) (r : Refusal) : Type 0 where
  no_plan : r ≡ NotAPlan → is_plan T ≡ false → Refusing T before r
  too_short : r ≡ TooShort (needed T before) → is_plan T ≡ true → 0 < needed T before → Refusing T before r
  no_busy_length :
      {row : ℕ} → r ≡ NoBusyLength (suc row) → is_plan T ≡ true → needed T before ≡ 0 → Stuck T row → Refusing T before r

-- The whole outcome of the bounds of table T on the lent lists: a refusal leaves them as they were.
abbrev pub Bounding : Table → Lists → Lists → Result ℕ Refusal → Type 0
Bounding T before after (Ok answer) = (is_plan T ≡ true) × (needed T before ≡ 0) × Given T before after answer
Bounding T before after (Err r) = Refusing T before r × (after ≡ before)
