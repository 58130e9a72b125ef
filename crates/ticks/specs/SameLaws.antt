-- What a tick does to the rows of a plan depends on its rows alone.
use Prim.Native.Nat.{ℕ, zero, suc, pred, ◌<◌}
use Rattle.std.specs.Prelude.{◌≡◌, refl, ◌&&◌, eqb}
use Rattle.std.proofs.Common.{sym, ◌∙◌}
use Rattle.std.proofs.Math.Path.{ap}
use Rattle.std.proofs.Math.Bool.{Bool, not}
use native.Mathlib.Omega.{arith}
use Rattle.facts.specs.Tests.{all}
use Rattle.facts.specs.FilledLaws.{filled_ext, get_d_filled, length_filled}
use Rattle.facts.specs.TestsLaws.{all_ext}
use Rattle.table.specs.Plan.{Plan}
use Rattle.guards.specs.declared.state.State.{State}
use Rattle.guards.specs.Moment.{Moment, moment_of, state_with}
use Rattle.guards.specs.Running.{is_open}
use Rattle.guards.specs.Machine.{idle, opened, due, let_go}
use Rattle.guards.specs.ListsLaws.{filled_again}
use Rattle.guards.specs.Lent.{Long}

-- Two moments say the same of the clock and of the first n rows.
pub record Same (n : ℕ) (m k : Moment) : Type 0 where
  pub clock : m.clock ≡ k.clock
  pub released : (r : ℕ) → r < n → m.released r ≡ k.released r
  pub completed : (r : ℕ) → r < n → m.completed r ≡ k.completed r
  pub used : (r : ℕ) → r < n → m.used r ≡ k.used r
  pub guard : (r : ℕ) → r < n → m.guard r ≡ k.guard r

pub same_trans : {n : ℕ} {m k h : Moment} → Same n m k → Same n k h → Same n m h
same_trans a b = record {
  clock = a.clock ∙ b.clock;
  released = λ r l. a.released r l ∙ b.released r l;
  completed = λ r l. a.completed r l ∙ b.completed r l;
  used = λ r l. a.used r l ∙ b.used r l;
  guard = λ r l. a.guard r l ∙ b.guard r l;
}

-- A state made as a moment says, says it;
pub with_says : (n : ℕ) (m : Moment) (σ : State) → Same n (moment_of (state_with n m σ)) m
unfolding moment_of state_with
with_says n m σ = record {
  clock = refl;
  released = λ r l. get_d_filled m.released n r 0 σ.released l;
  completed = λ r l. get_d_filled m.completed n r 0 σ.completed l;
  used = λ r l. get_d_filled m.used n r 0 σ.used l;
  guard = λ r l. get_d_filled m.guard n r 0 σ.guard l;
}

-- moments that say the same make the same state;
pub with_same : {n : ℕ} {m k : Moment} → Same n m k → (σ : State) → state_with n m σ ≡ state_with n k σ
unfolding state_with
with_same {n} {m} {k} a σ = λ i. record {
  clock = a.clock i;
  released = filled_ext m.released k.released n σ.released a.released i;
  completed = filled_ext m.completed k.completed n σ.completed a.completed i;
  used = filled_ext m.used k.used n σ.used a.used i;
  guard = filled_ext m.guard k.guard n σ.guard a.guard i;
}

-- its lists stay as long as they were;
pub with_long : (n : ℕ) (m : Moment) (σ : State) → Long n σ → Long n (state_with n m σ)
unfolding state_with
with_long n m σ z = record {
  released = omega (arith, z.released, length_filled m.released n σ.released z.released);
  completed = omega (arith, z.completed, length_filled m.completed n σ.completed z.completed);
  used = omega (arith, z.used, length_filled m.used n σ.used z.used);
  guard = omega (arith, z.guard, length_filled m.guard n σ.guard z.guard);
}

-- and what is made again is as made the last time.
pub with_again : (n : ℕ) (m k : Moment) (σ : State) → Long n σ → state_with n m (state_with n k σ) ≡ state_with n m σ
unfolding state_with
with_again n m k σ z = λ i. record {
  clock = m.clock;
  released = filled_again 0 m.released k.released n σ.released z.released i;
  completed = filled_again 0 m.completed k.completed n σ.completed z.completed i;
  used = filled_again 0 m.used k.used n σ.used z.used i;
  guard = filled_again 0 m.guard k.guard n σ.guard z.guard i;
}

-- Two plans of n rows have the same periods, first rows and processors.
pub record Chained (n : ℕ) (P Q : Plan) : Type 0 where
  pub left : P.rows ≡ n
  pub right : Q.rows ≡ n
  pub period : (r : ℕ) → r < n → P.period r ≡ Q.period r
  pub first : (r : ℕ) → r < n → P.first r ≡ Q.first r
  pub processor : (r : ℕ) → r < n → P.processor r ≡ Q.processor r

module _ {n : ℕ} {m k : Moment} (s : Same n m k) where
  open_same : (r : ℕ) → r < n → is_open m r ≡ is_open k r
  unfolding is_open
  open_same r l = rw (s.completed r l, s.released r l)

  -- Idleness reads the rows' processors and which are open.
  pub idle_same :
      (P Q : Plan) → P.rows ≡ n → Q.rows ≡ n → ((r : ℕ) → r < n → P.processor r ≡ Q.processor r)
      → (x : ℕ) → idle P m x ≡ idle Q k x
  unfolding idle
  idle_same P Q p q h x =
      let f : ℕ → Bool = λ r. not (eqb (P.processor r) x && is_open m r) in
      let g : ℕ → Bool = λ r. not (eqb (Q.processor r) x && is_open k r) in
      ap (λ (i : ℕ). all i f) p
      ∙ all_ext n {f = f} {g = g} (λ r l. rw (h r l, open_same r l))
      ∙ ap (λ (i : ℕ). all i g) (sym q)

  module _ {P Q : Plan} (c : Chained n P Q) where
    pub opened_same : Same n (opened P m) (opened Q k)
    unfolding opened
    opened_same = record {
      clock = s.clock;
      released = s.released;
      completed = s.completed;
      used = s.used;
      guard = λ r l. rw (c.first r l, c.processor r l, idle_same P Q c.left c.right c.processor (Q.processor r), s.clock, s.guard r l);
    }

    pub due_same : (r : ℕ) → r < n → due P m r ≡ due Q k r
    unfolding due
    due_same r l = rw (c.first r l, s.released r l, s.completed (pred r) (below r l), s.guard r l, s.clock)
      where
        below : (i : ℕ) → i < n → pred i < n
        below zero a = a
        below (suc i) a = omega arith

    pub let_go_same : Same n (let_go P m) (let_go Q k)
    unfolding let_go
    let_go_same = record {
      clock = s.clock;
      released = λ r l. rw (due_same r l, s.released r l);
      completed = s.completed;
      used = s.used;
      guard = λ r l. rw (due_same r l, s.clock, c.period r l, s.guard r l);
    }
