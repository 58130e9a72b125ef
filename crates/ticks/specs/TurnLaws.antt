-- A loop over the rows that makes a list, row by row.
use Rattle.std.specs.Prelude.{ℕ, pred, ◌+◌, ◌<◌, ◌≡◌, Bool, cond, not, ◌&&◌, List, leb, ltb, length, get_or, set}
use Rattle.std.proofs.Common.{◌∙◌, ap, arith}
use Rattle.facts.specs.Filled.{filled}
use Rattle.facts.specs.FilledLaws.{filled_more, get_d_rest}
use Rattle.table.specs.Plan.{Plan}
use Rattle.guards.specs.Moment.{Moment}
use Rattle.guards.specs.Machine.{due, let_go}

-- A list is filled for r rows: what stands at row r is what stood there,
module _ (f : ℕ → ℕ) (r : ℕ) (l : List ℕ) {k : List ℕ} (e : k ≡ filled f r l) where
  pub made_read : get_or k r 0 ≡ get_or l r 0
  made_read = ap (λ (x : List ℕ). get_or x r 0) e ∙ get_d_rest f r r 0 l (omega arith)

  -- and row r is made by a store.
  pub made_store : {v : ℕ} → r < length l → v ≡ f r → set k r v ≡ filled f (r + 1) l
  made_store {v} b q = ap (λ (x : List ℕ). set x r v) e ∙ filled_more f r v l b q

-- Step 5 at row r: whether it is due by what is read of it, and what is made of it, are what the step says.
module _
    (P : Plan) (m : Moment) (r : ℕ) {count own before : ℕ} {d : Bool} (a : count ≡ m.released r) (b : own ≡ m.guard r)
    (k : before ≡ m.completed (pred r)) (e : d ≡ not (P.first r) && (ltb count before && leb own m.clock)) where
  pub due_is : d ≡ due P m r
  unfolding due
  due_is = e ∙ rw (a, b, k)

  pub released_is : {x : ℕ} → x ≡ cond d (count + 1) count → x ≡ (let_go P m).released r
  unfolding let_go
  released_is q = q ∙ rw (due_is, a)

  pub guard_is : {x : ℕ} → x ≡ cond d (m.clock + P.period r) own → x ≡ (let_go P m).guard r
  unfolding let_go
  guard_is q = q ∙ rw (due_is, b)

  pub byte_is : {x : ℕ} → x ≡ cond d 1 0 → x ≡ cond (due P m r) 1 0
  byte_is q = q ∙ rw due_is
