-- A state whose first rows are written, one row more.
use Rattle.std.specs.Prelude.{ℕ, ◌+◌, ◌≤◌, ◌<◌, ◌≡◌, refl, true, false}
use Rattle.std.proofs.Common.{sym, ◌∙◌, arith}
use Rattle.facts.specs.FilledLaws.{filled_none, filled_more, length_filled}
use Rattle.table.specs.Table.{Table, rows, is_plan}
use Rattle.table.specs.declared.refusal.Refusal.TheVariants.{NotAPlan, StateDoesNotFit}
use Rattle.guards.specs.declared.state.State.{State}
use Rattle.guards.specs.Moment.{Moment, state_with}
use Rattle.guards.specs.Machine.{start}
use Rattle.guards.specs.Calls.{refused, taken, fresh_start}
use Rattle.guards.specs.Lent.{Long, on_lists, refused_at}
use Rattle.guards.specs.LentLaws.{held, lent_held}
use Rattle.guards.specs.LentCalls.{fresh_none, fresh_short}
use Rattle.guards.specs.Stored.{with_clock, with_released, with_completed, with_used, with_guard}

module _ (m : Moment) (σ : State) where
  pub rows_none : with_clock σ m.clock ≡ state_with 0 m σ
  unfolding state_with
  rows_none =
      let a = filled_none m.released σ.released in
      let b = filled_none m.completed σ.completed in
      let c = filled_none m.used σ.used in
      let d = filled_none m.guard σ.guard in
      λ i. record { clock = m.clock; released = a i; completed = b i; used = c i; guard = d i }

  pub rows_more :
      (n : ℕ) → Long (n + 1) σ
      → with_guard (with_used (with_completed (with_released (state_with n m σ) n (m.released n)) n (m.completed n)) n (m.used n)) n (m.guard n)
      ≡ state_with (n + 1) m σ
  unfolding state_with
  rows_more n z =
      let a = filled_more m.released n (m.released n) σ.released (omega (arith, z.released)) refl in
      let b = filled_more m.completed n (m.completed n) σ.completed (omega (arith, z.completed)) refl in
      let c = filled_more m.used n (m.used n) σ.used (omega (arith, z.used)) refl in
      let d = filled_more m.guard n (m.guard n) σ.guard (omega (arith, z.guard)) refl in
      λ i. record { clock = m.clock; released = a i; completed = b i; used = c i; guard = d i }

  pub rows_long : (n k : ℕ) → n ≤ k → Long k σ → Long k (state_with n m σ)
  unfolding state_with
  rows_long n k l z = record {
    released = omega (arith, z.released, length_filled m.released n σ.released (omega (arith, z.released)));
    completed = omega (arith, z.completed, length_filled m.completed n σ.completed (omega (arith, z.completed)));
    used = omega (arith, z.used, length_filled m.used n σ.used (omega (arith, z.used)));
    guard = omega (arith, z.guard, length_filled m.guard n σ.guard (omega (arith, z.guard)));
  }

-- The same for a fresh start.
pub cleared_none : (σ : State) → with_clock σ 0 ≡ state_with 0 start σ
unfolding start
cleared_none σ = rows_none start σ

pub cleared_more : (σ : State) (n k : ℕ) → n < k → Long k σ → with_guard (with_used (with_completed (with_released (state_with n start σ) n 0) n 0) n 0) n 0 ≡ state_with (n + 1) start σ
unfolding start
cleared_more σ n k l z = rows_more start σ n (record { released = omega (arith, z.released); completed = omega (arith, z.completed); used = omega (arith, z.used); guard = omega (arith, z.guard) })

pub cleared_long : (σ : State) (n k : ℕ) → n ≤ k → Long k σ → Long k (state_with n start σ)
cleared_long σ n k l z = rows_long start σ n k l z

-- What fresh start comes to, answer by answer.
module _ (T : Table) (σ : State) where
  pub fresh_unplanned : is_plan T ≡ false → refused NotAPlan σ ≡ on_lists T σ (fresh_start T σ)
  fresh_unplanned p = fresh_none T σ {o = refused_at NotAPlan σ.clock} refl p

  pub fresh_unheld : is_plan T ≡ true → held (rows T) σ ≡ false → refused StateDoesNotFit σ ≡ on_lists T σ (fresh_start T σ)
  fresh_unheld p h = fresh_short T σ {o = refused_at StateDoesNotFit σ.clock} refl p h

  pub fresh_taken : is_plan T ≡ true → held (rows T) σ ≡ true → taken 0 (state_with (rows T) start σ) ≡ on_lists T σ (fresh_start T σ)
  unfolding fresh_start
  fresh_taken p h = sym (lent_held T σ (fresh_start T σ) h ∙ rw p)
