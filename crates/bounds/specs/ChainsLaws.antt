-- Laws of the walk over the chains.
use Rattle.std.proofs.Math.Path.{◌≡◌, refl}
use Rattle.std.proofs.Common.{◌∙◌, arith, add-one}
use Rattle.std.specs.Prelude.{Bool, ◌&&◌, List, ℕ, ◌+◌, ◌≤◌, ◌<◌, eqb, ℤ, pos, ◌-ℤ◌}
use Rattle.std.proofs.Math.Bool.{true, false, cond}
use Rattle.std.specs.Int.Signed.{le_z, lt_z}
use Rattle.facts.specs.Sums.{sum}
use Rattle.facts.specs.SumsLaws.{sum_more, sum_part}
use Rattle.facts.specs.Tests.{all}
use Rattle.table.specs.Table.{Table, at, first_row, rows}
use Rattle.table.specs.Plan.{in_force}
use Rattle.table.proofs.FirstRows.{first_row_zero, first_row_more}
use Rattle.bounds.specs.Bounds.{Numbers, chain_bound, slack_of, accepted}
use Rattle.bounds.specs.SlackLaws.{negative}
use Rattle.bounds.specs.Chains.{Chained}

-- Whether the first n slacks are zero or more.
unfoldable pub accepted_to : Table → Numbers → ℕ → Bool
accepted_to T N n = all n (λ i. le_z (pos 0) (slack_of T N i))

module _ (T : Table) (N : Numbers) where
  pub accepted_none : accepted_to T N 0 ≡ true
  unfolding accepted_to all
  accepted_none = refl

  -- A negative slack settles it,
  pub accepted_late : (i : ℕ) → lt_z (slack_of T N i) (pos 0) ≡ true → accepted_to T N (i + 1) ≡ false
  unfolding accepted_to all
  accepted_late i t =
      rw (add-one i, negative (slack_of T N i), t) (go (all i (λ j. le_z (pos 0) (slack_of T N j))))
    where
      go : (x : Bool) → (x && false) ≡ false
      go true = refl
      go false = refl

  -- and one that is not leaves it.
  pub accepted_kept : (i : ℕ) → lt_z (slack_of T N i) (pos 0) ≡ false → accepted_to T N (i + 1) ≡ accepted_to T N i
  unfolding accepted_to all
  accepted_kept i t =
      rw (add-one i, negative (slack_of T N i), t) (go (all i (λ j. le_z (pos 0) (slack_of T N j))))
    where
      go : (x : Bool) → (x && true) ≡ x
      go true = refl
      go false = refl

  pub accepted_all : accepted_to T N T.tasks ≡ accepted T N
  unfolding accepted_to accepted
  accepted_all = refl

-- Whether the first n slacks are zero or more, as 1 or 0.
unfoldable pub verdict_to : Table → Numbers → ℕ → ℕ
verdict_to T N n = cond (all n (λ i. le_z (pos 0) (slack_of T N i))) 1 0

module _ (T : Table) (N : Numbers) where
  pub verdict_none : verdict_to T N 0 ≡ 1
  unfolding verdict_to all
  verdict_none = refl

  -- A negative slack settles it,
  pub verdict_late : (i : ℕ) → lt_z (slack_of T N i) (pos 0) ≡ true → verdict_to T N (i + 1) ≡ 0
  unfolding verdict_to all
  verdict_late i t =
      rw (add-one i, negative (slack_of T N i), t) (go (all i (λ j. le_z (pos 0) (slack_of T N j))))
    where
      go : (x : Bool) → ◌≡◌ {A = ℕ} (cond (x && false) 1 0) 0
      go true = refl
      go false = refl

  -- and one that is not leaves it.
  pub verdict_kept : (i : ℕ) → lt_z (slack_of T N i) (pos 0) ≡ false → verdict_to T N (i + 1) ≡ verdict_to T N i
  unfolding verdict_to all
  verdict_kept i t =
      rw (add-one i, negative (slack_of T N i), t) (go (all i (λ j. le_z (pos 0) (slack_of T N j))))
    where
      go : (x : Bool) → ◌≡◌ {A = ℕ} (cond (x && true) 1 0) (cond x 1 0)
      go true = refl
      go false = refl

  pub verdict_all : verdict_to T N T.tasks ≡ cond (accepted T N) 1 0
  unfolding verdict_to accepted
  verdict_all = refl

-- Where the rows of the next task begin: the table's `first_row_zero` and `first_row_more`, by the names that laws have here.
pub first_none : (T : Table) → first_row T 0 ≡ 0
first_none T = first_row_zero T

pub first_more : (T : Table) (i : ℕ) → first_row T (i + 1) ≡ first_row T i + at T.steps i
first_more T i = first_row_more T i

module _ {T : Table} {bound : List ℕ} (ok : Chained T bound) where
  -- A task's rows are rows,
  pub chain_rows : (i : ℕ) → i < T.tasks → first_row T i + at T.steps i ≤ rows T
  unfolding rows first_row
  chain_rows i l = omega (arith, sum_more i (at T.steps), sum_part (at T.steps) (i + 1) T.tasks (omega arith))

  -- and its deadline in force is small.
  pub in_force_small : (i : ℕ) → i < T.tasks → in_force T i ≤ 160000000
  unfolding in_force
  in_force_small i l = go (eqb (at T.deadline i) 0)
    where
      go : (x : Bool) → cond x (at T.period i) (at T.deadline i) ≤ 160000000
      go true = omega (arith, ok.period_most i l)
      go false = ok.deadline_most i l

-- What the code computes of a chain is its bound and its slack.
module _ (T : Table) (N : Numbers) (i : ℕ) where
  pub chain_is : {first r : ℕ} → first ≡ first_row T i → r ≡ sum (at T.steps i) (λ s. N.bound (first + s)) → r ≡ chain_bound T N i
  unfolding chain_bound
  chain_is e h = h ∙ rw e

  pub slack_is : {d r : ℕ} {z : ℤ} → d ≡ in_force T i → r ≡ chain_bound T N i → z ≡ pos d -ℤ pos r → z ≡ slack_of T N i
  unfolding slack_of
  slack_is e f h = h ∙ rw (e, f)
