-- A state whose first rows a step has made, one row more.
use Rattle.std.specs.Prelude.{ℕ, pred, ◌+◌, ◌≤◌, ◌<◌, ◌≡◌, refl, Bool, cond, not, ◌&&◌, ltb, leb}
use Rattle.std.proofs.Common.{sym, ◌∙◌, ap, subst, arith}
use Rattle.facts.specs.FilledLaws.{filled_none, filled_more, filled_keep, length_filled, get_d_rest}
use Rattle.table.specs.Table.{at}
use Rattle.guards.specs.declared.state.State.{State}
use Rattle.guards.specs.Moment.{Moment, moment_of, state_with}
use Rattle.guards.specs.Machine.{due, let_go}
use Rattle.table.specs.Plan.{Plan}
use Rattle.ticks.specs.Steps.{ran, opened_where}
use Rattle.ticks.specs.TurnLaws.{due_is, released_is, guard_is}
use Rattle.guards.specs.Lent.{Long}
use Rattle.guards.specs.Stored.{with_clock, with_released, with_completed, with_used, with_guard}

-- Before the first row only the clock is set,
pub none_made : (m : Moment) (σ : State) {clock : ℕ} → clock ≡ m.clock → with_clock σ clock ≡ state_with 0 m σ
unfolding state_with
none_made m σ e =
    let a = filled_none m.released σ.released in
    let b = filled_none m.completed σ.completed in
    let c = filled_none m.used σ.used in
    let d = filled_none m.guard σ.guard in
    λ i. record { clock = e i; released = a i; completed = b i; used = c i; guard = d i }

pub rows_long : (m : Moment) (σ : State) (n k : ℕ) → n ≤ k → Long k σ → Long k (state_with n m σ)
unfolding state_with
rows_long m σ n k l z = record {
  released = omega (arith, z.released, length_filled m.released n σ.released (omega (arith, z.released)));
  completed = omega (arith, z.completed, length_filled m.completed n σ.completed (omega (arith, z.completed)));
  used = omega (arith, z.used, length_filled m.used n σ.used (omega (arith, z.used)));
  guard = omega (arith, z.guard, length_filled m.guard n σ.guard (omega (arith, z.guard)));
}

pub made_long : (m : Moment) (σ τ : State) (n k : ℕ) → n ≤ k → Long k σ → τ ≡ state_with n m σ → Long k τ
made_long m σ τ n k l z e = subst (Long k) (sym e) (rows_long m σ n k l z)

-- and at row n of k what is read is what stood there,
module _ (m : Moment) (σ τ : State) (n k : ℕ) (l : n < k) (z : Long k σ) (e : τ ≡ state_with n m σ) where
  pub read_released : at τ.released n ≡ at σ.released n
  unfolding state_with
  read_released = ap (λ (ρ : State). at ρ.released n) e ∙ get_d_rest m.released n n 0 σ.released (omega arith)

  pub read_completed : at τ.completed n ≡ at σ.completed n
  unfolding state_with
  read_completed = ap (λ (ρ : State). at ρ.completed n) e ∙ get_d_rest m.completed n n 0 σ.completed (omega arith)

  pub read_used : at τ.used n ≡ at σ.used n
  unfolding state_with
  read_used = ap (λ (ρ : State). at ρ.used n) e ∙ get_d_rest m.used n n 0 σ.used (omega arith)

  read_guard : at τ.guard n ≡ at σ.guard n
  unfolding state_with
  read_guard = ap (λ (ρ : State). at ρ.guard n) e ∙ get_d_rest m.guard n n 0 σ.guard (omega arith)

  -- and a step stores in the lists that it changes.
  more_worked :
      (completed used : ℕ) → m.released n ≡ at σ.released n → m.guard n ≡ at σ.guard n
      → completed ≡ m.completed n → used ≡ m.used n
      → with_used (with_completed τ n completed) n used ≡ state_with (n + 1) m σ
  unfolding state_with
  more_worked completed used r g c u =
      let a = filled_keep m.released n 0 σ.released (omega (arith, z.released)) r in
      let b = filled_more m.completed n completed σ.completed (omega (arith, z.completed)) c in
      let d = filled_more m.used n used σ.used (omega (arith, z.used)) u in
      let f = filled_keep m.guard n 0 σ.guard (omega (arith, z.guard)) g in
      ap (λ (ρ : State). with_used (with_completed ρ n completed) n used) e
      ∙ (λ i. record { clock = m.clock; released = a i; completed = b i; used = d i; guard = f i })

  more_opened :
      (guard : ℕ) → m.released n ≡ at σ.released n → m.completed n ≡ at σ.completed n → m.used n ≡ at σ.used n
      → guard ≡ m.guard n → with_guard τ n guard ≡ state_with (n + 1) m σ
  unfolding state_with
  more_opened guard r c u g =
      let a = filled_keep m.released n 0 σ.released (omega (arith, z.released)) r in
      let b = filled_keep m.completed n 0 σ.completed (omega (arith, z.completed)) c in
      let d = filled_keep m.used n 0 σ.used (omega (arith, z.used)) u in
      let f = filled_more m.guard n guard σ.guard (omega (arith, z.guard)) g in
      ap (λ (ρ : State). with_guard ρ n guard) e
      ∙ (λ i. record { clock = m.clock; released = a i; completed = b i; used = d i; guard = f i })

  more_let_go :
      (released guard : ℕ) → m.completed n ≡ at σ.completed n → m.used n ≡ at σ.used n
      → released ≡ m.released n → guard ≡ m.guard n
      → with_guard (with_released τ n released) n guard ≡ state_with (n + 1) m σ
  unfolding state_with
  more_let_go released guard c u r g =
      let a = filled_more m.released n released σ.released (omega (arith, z.released)) r in
      let b = filled_keep m.completed n 0 σ.completed (omega (arith, z.completed)) c in
      let d = filled_keep m.used n 0 σ.used (omega (arith, z.used)) u in
      let f = filled_more m.guard n guard σ.guard (omega (arith, z.guard)) g in
      ap (λ (ρ : State). with_guard (with_released ρ n released) n guard) e
      ∙ (λ i. record { clock = m.clock; released = a i; completed = b i; used = d i; guard = f i })

-- So steps 1 and 2, step 4 and step 5 go on by a row.
module _ (σ τ : State) (n k : ℕ) (l : n < k) (z : Long k σ) where
  pub row_ran :
      (runs ends : ℕ → Bool) (r e : Bool) → τ ≡ state_with n (ran runs ends (moment_of σ)) σ → r ≡ runs n → e ≡ ends n
      → with_used (with_completed τ n (cond (r && e) (at τ.completed n + 1) (at τ.completed n))) n (cond r (cond e 0 (at τ.used n + 1)) (at τ.used n))
      ≡ state_with (n + 1) (ran runs ends (moment_of σ)) σ
  unfolding ran moment_of
  row_ran runs ends r e i p q =
      let m = ran runs ends (moment_of σ) in
      more_worked m σ τ n k l z i _ _ refl refl
      (rw (read_completed m σ τ n k l z i, p, q) refl)
      (rw (read_used m σ τ n k l z i, p, q) refl)

  pub row_opened :
      (first idle : ℕ → Bool) (guard : ℕ) → τ ≡ state_with n (opened_where first idle (moment_of σ)) σ
      → guard ≡ cond (not (first n) && idle n) σ.clock (at τ.guard n)
      → with_guard τ n guard ≡ state_with (n + 1) (opened_where first idle (moment_of σ)) σ
  unfolding opened_where moment_of
  row_opened first idle guard i p =
      let m = opened_where first idle (moment_of σ) in
      more_opened m σ τ n k l z i guard refl refl refl (p ∙ rw (read_guard m σ τ n k l z i) refl)

  module _
      (P : Plan) (d : Bool) (before : ℕ) (i : τ ≡ state_with n (let_go P (moment_of σ)) σ) (b : before ≡ at σ.completed (pred n))
      (e : d ≡ not (P.first n) && (ltb (at τ.released n) before && leb (at τ.guard n) σ.clock)) where
    pub row_due : d ≡ due P (moment_of σ) n
    unfolding moment_of
    row_due = due_is P (moment_of σ) n (read_released (let_go P (moment_of σ)) σ τ n k l z i) (read_guard (let_go P (moment_of σ)) σ τ n k l z i) b e

    pub row_let_go :
        with_guard (with_released τ n (cond d (at τ.released n + 1) (at τ.released n))) n (cond d (σ.clock + P.period n) (at τ.guard n))
        ≡ state_with (n + 1) (let_go P (moment_of σ)) σ
    unfolding moment_of let_go
    row_let_go =
        let m = let_go P (moment_of σ) in
        let r = read_released m σ τ n k l z i in
        let g = read_guard m σ τ n k l z i in
        more_let_go m σ τ n k l z i _ _ refl refl
        (released_is P (moment_of σ) n r g b e refl)
        (guard_is P (moment_of σ) n r g b e refl)
