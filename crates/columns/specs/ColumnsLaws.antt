-- Laws of the columns: a place past their end.
use Rattle.std.specs.Prelude.{ℕ, ◌≤◌, ◌≡◌, length}
use Rattle.std.proofs.Common.{arith, sym}
use Rattle.std.proofs.Math.ListN.{get_or-eq_default}
use Rattle.facts.specs.ListLaws.{set_past}
use Rattle.columns.specs.declared.columns.Columns.{Columns}
use Rattle.columns.specs.declared.columns.Chain.{Chain}
use Rattle.columns.specs.declared.columns.Row.{Row}
use Rattle.columns.specs.Columns.{with_chain, with_row, chain_of, row_of}

-- The lengths of the columns.
pub record Sizes (c : Columns) : Type 0 where
  pub period : length c.period ≡ 32
  pub deadline : length c.deadline ≡ 32
  pub steps : length c.steps ≡ 32
  pub processor : length c.processor ≡ 128
  pub priority : length c.priority ≡ 128
  pub time : length c.time ≡ 128

pub chain_past : (c : Columns) (i : ℕ) (chain : Chain) → Sizes c → 32 ≤ i → c ≡ with_chain c i chain
chain_past c i chain z h = rw (sym (set_past c.period i chain.period (omega arith)), sym (set_past c.deadline i chain.deadline (omega arith)), sym (set_past c.steps i chain.steps (omega arith)))

pub row_past : (c : Columns) (i : ℕ) (row : Row) → Sizes c → 128 ≤ i → c ≡ with_row c i row
row_past c i row z h = rw (sym (set_past c.processor i row.processor (omega arith)), sym (set_past c.priority i row.priority (omega arith)), sym (set_past c.time i row.time (omega arith)))

pub no_chain_beyond : (c : Columns) (i : ℕ) → Sizes c → 32 ≤ i → ◌≡◌ {A = Chain} (record { period = 0; deadline = 0; steps = 0 }) (chain_of c i)
no_chain_beyond c i z h = rw (get_or-eq_default c.period 0 {n = i} (omega arith), get_or-eq_default c.deadline 0 {n = i} (omega arith), get_or-eq_default c.steps 0 {n = i} (omega arith))

pub no_row : (c : Columns) (i : ℕ) → Sizes c → 128 ≤ i → ◌≡◌ {A = Row} (record { processor = 0; priority = 0; time = 0 }) (row_of c i)
no_row c i z h = rw (get_or-eq_default c.processor 0 {n = i} (omega arith), get_or-eq_default c.priority 0 {n = i} (omega arith), get_or-eq_default c.time 0 {n = i} (omega arith))
