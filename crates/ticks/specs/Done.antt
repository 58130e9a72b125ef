-- What is wrong with a done byte, given the row that runs: 0 for none, suc j for row j.
use Rattle.std.specs.Prelude.{ℕ, pred, ◌+◌, ◌≤◌, ◌<◌, Bool, cond, ◌&&◌, ◌||◌, List, ltb, eqb, length, Result, Ok, Err, ⊤}
use Rattle.facts.specs.Tests.{lowest}
use Rattle.table.specs.Table.{at}
use Rattle.table.specs.declared.refusal.Refusal.{Refusal}

-- It is above 1, or 1 where nothing runs.
unfoldable pub wrong_here : ℕ → ℕ → Bool
wrong_here done running = ltb 1 done || (eqb done 1 && eqb running 0)

-- It is 0, and the row that runs has used all but one tick of its time.
unfoldable pub up_here : List ℕ → List ℕ → ℕ → ℕ → Bool
up_here used time done running =
    eqb done 0 && (ltb 0 running && eqb (at used (pred running) + 1) (at time (pred running)))

-- There is a done byte and a row or none for each processor.
pub record Marked (processors : ℕ) (done running : List ℕ) : Type 0 where
  pub done_long : processors ≤ length done
  pub running_long : processors < length running

-- The row that runs, if there is one, has its used ticks and its time, and these are few.
pub record Timely (running : ℕ) (used time : List ℕ) : Type 0 where
  pub used_long : running ≤ length used
  pub time_long : running ≤ length time
  pub used_most : 0 < running → at used (pred running) ≤ 1000000

-- The lowest of n processors that the test finds is refused, by its number from 1.
unfoldable pub refusing : ℕ → (ℕ → Bool) → (ℕ → Refusal) → Result ⊤ Refusal
refusing n test refusal = cond (ltb (lowest n test) n) (Err (refusal (lowest n test + 1))) (Ok tt)
