-- Laws of the load.
use Rattle.std.specs.Prelude.{ℕ, ◌+◌, ◌*◌, ◌≤◌, ◌<◌, ◌≡◌, cond, List, length}
use Rattle.std.proofs.Common.{◌∙◌, ap, div-le_self, arith, eq-eqb, ne_eqb}
use Rattle.std.proofs.Math.Dec.{eqb}
use Rattle.facts.specs.Sums.{sum_if}
use Rattle.facts.specs.SumsLaws.{sum_ext, sum_if_none, sum_if_more, sum_if_bound}
use Rattle.table.specs.Table.{Table, at, rows}
use Rattle.table.specs.Plan.{plan_of, cost}
use Rattle.report.specs.Load.{row_load, load_of, load}

-- What the sum over n rows reads: lists long enough, costs that are small and periods above 0.
pub record Loads (n : ℕ) (processor cost period : List ℕ) : Type 0 where
  pub few : n ≤ 128
  pub processors : n ≤ length processor
  pub costs : n ≤ length cost
  pub periods : n ≤ length period
  pub cost_most : (r : ℕ) → r < n → at cost r ≤ 1000000
  pub period_pos : (r : ℕ) → r < n → 0 < at period r

-- A row of cost up to 1,000,000 has a load of at most 1,000,000,000.
pub row_load_most : (c p : ℕ) → c ≤ 1000000 → row_load c p ≤ 1000000000
unfolding row_load
row_load_most c p h = omega (arith, div-le_self (1000 * c) p)

module _ (on cost period : ℕ → ℕ) (processor : ℕ) where
  pub load_none : load_of 0 on cost period processor ≡ 0
  unfolding load_of
  load_none = sum_if_none (λ r. eqb (on r) processor) (λ r. row_load (cost r) (period r))

  pub load_more :
      (n : ℕ) → load_of (n + 1) on cost period processor
      ≡ load_of n on cost period processor + cond (eqb (on n) processor) (row_load (cost n) (period n)) 0
  unfolding load_of
  load_more n = sum_if_more n (λ r. eqb (on r) processor) (λ r. row_load (cost r) (period r))

  -- A row of the processor adds its load, and one of another adds nothing.
  pub load_own :
      (n : ℕ) → on n ≡ processor
      → load_of (n + 1) on cost period processor ≡ load_of n on cost period processor + row_load (cost n) (period n)
  load_own n e = load_more n ∙ rw (eq-eqb (on n) processor e)

  pub load_other :
      (n : ℕ) → (on n ≡ processor → ⊥) → load_of (n + 1) on cost period processor ≡ load_of n on cost period processor
  load_other n e = load_more n ∙ rw (ne_eqb (on n) processor e) (omega arith)

  -- Of n rows of such cost, at most n times as much.
  pub load_most :
      (n : ℕ) → ((r : ℕ) → r < n → cost r ≤ 1000000) → load_of n on cost period processor ≤ n * 1000000000
  unfolding load_of
  load_most n h =
      sum_if_bound n (λ r. eqb (on r) processor) (λ r. row_load (cost r) (period r)) 1000000000
      (λ r l. row_load_most (cost r) (period r) (h r l))

-- A plan's loads, where the list has each row's period.
pub load_is :
    (T : Table) (period : List ℕ) → ((r : ℕ) → r < rows T → at period r ≡ (plan_of T).period r)
    → (q : ℕ) → load_of (rows T) (at T.processor) (at T.time) (at period) q ≡ load (plan_of T) q
unfolding load_of load sum_if plan_of cost
load_is T period same q =
    sum_ext (rows T) (λ r l. ap (λ (p : ℕ). cond (eqb (at T.processor r) q) (row_load (at T.time r) p) 0) (same r l))
