-- What the parts of a tick find and make is what the plan says.
use Prim.Native.Nat.{ℕ, zero, suc, pred, ◌+◌, ◌≤◌, ◌<◌}
use Rattle.std.specs.Prelude.{◌≡◌, refl, Bool, true, cond, length}
use Rattle.std.proofs.Common.{sym, ◌∙◌}
use Rattle.std.proofs.Math.Path.{ap}
use mathlib.Core.List.{List, []}
use native.Mathlib.Omega.{arith}
use borrow.Author.Tests.{lt-ltb, le-ltb, eq-eqb, ne_eqb}
use Rattle.facts.specs.Tests.{lowest}
use Rattle.facts.specs.Filled.{tab, filled}
use Rattle.facts.specs.FilledLaws.{get_d_tab, length_tab}
use Rattle.table.specs.Table.{at}
use Rattle.table.specs.Plan.{Plan}
use Rattle.guards.specs.declared.state.State.{State}
use Rattle.guards.specs.Moment.{moment_of, state_with}
use Rattle.guards.specs.Running.{is_open, running}
use Rattle.guards.specs.Machine.{before_release, due, ticked}
use Rattle.guards.specs.Rows.{Rows, plan_from}
use Rattle.guards.specs.Calls.{is_done, stays, taken, wrong_done, used_up}
use Rattle.guards.specs.Lent.{stand, rows_fit_in}
use Rattle.guards.specs.LentLaws.{held, held_long}
use Rattle.guards.specs.PartsLaws.{rows_fit_listed}
use Rattle.guards.specs.BoundsLaws.{bounded}
use Rattle.facts.specs.TestsLaws.{and_left, and_right}
use Rattle.table.specs.Refusals.{last_clock}
use Rattle.table.specs.declared.refusal.Refusal.TheVariants.{WrongDoneByte, TimeUsedUp, ClockAtEnd}
use Rattle.ticks.specs.Done.{wrong_here, up_here, Timely}
use Rattle.ticks.specs.Steps.{Stepping}
use Rattle.ticks.specs.Ticking.{Listed, Ready, Going, told, done_tick, clock_tick}
use Rattle.ticks.specs.FoundLaws.{best_ext, best_most}

-- A state that fits the rows is ready for a tick.
pub readying :
    (R : Rows) (processors : ℕ) (processor priority time : List ℕ) (σ : State) → Listed R processors processor priority time
    → rows_fit_in R time σ ≡ true → Ready R processors processor priority time σ
unfolding rows_fit_in
readying R processors processor priority time σ l e =
    let a = and_right (stand R.count R.period R.first time) _ e in
    let b = bounded (plan_from R.count R.period R.first [] [] time) (moment_of σ) (sym (rows_fit_listed R time σ l.few l.time_long) ∙ and_right (held R.count σ) _ a) in
    record {
      listed = l;
      long = held_long R.count σ (and_left (held R.count σ) _ a);
      bounded = record { clock = b.clock; completed = b.completed; released = b.released; used = b.used };
    }

-- Searches by tests that agree find the same.
pub lowest_ext : (n : ℕ) {f g : ℕ → Bool} → ((k : ℕ) → k < n → f k ≡ g k) → lowest n f ≡ lowest n g
unfolding lowest
lowest_ext zero h = refl
lowest_ext (suc n) {f} {g} h =
    let a : lowest n f ≡ lowest n g = lowest_ext n (λ k l. h k (omega arith)) in
    let b : f n ≡ g n = h n (omega arith) in
    rw (a, b)

-- The list of running rows.
module _ (R : Rows) (processor priority time : List ℕ) (σ : State) {list : List ℕ} (e : list ≡ tab (running (plan_from R.count [] [] processor priority []) (moment_of σ)) 17) where
  abbrev plan : Plan
  plan = plan_from R.count R.period R.first processor priority time

  pub list_long : length list ≡ 17
  list_long = ap length e ∙ length_tab _ 17

  pub running_here : (x : ℕ) → x ≤ 16 → at list x ≡ running plan (moment_of σ) x
  unfolding running
  running_here x l =
      ap (λ (k : List ℕ). at k x) e ∙ get_d_tab _ 17 x 0 (omega arith)
      ∙ best_ext _ plan (λ r. refl) (λ r. refl) (is_open (moment_of σ)) (is_open (moment_of σ)) x R.count (λ r b. refl)

  pub wrong_lowest :
      (n : ℕ) (done : List ℕ) → n ≤ 16
      → lowest n (λ i. wrong_here (at done i) (at list (suc i))) ≡ lowest n (wrong_done plan (moment_of σ) done)
  unfolding wrong_here wrong_done
  wrong_lowest n done l = lowest_ext n (λ i b. rw (running_here (suc i) (omega arith)))

  pub up_lowest :
      (n : ℕ) (done : List ℕ) → n ≤ 16
      → lowest n (λ i. up_here σ.used time (at done i) (at list (suc i))) ≡ lowest n (used_up plan (moment_of σ) done)
  unfolding up_here used_up moment_of
  up_lowest n done l = lowest_ext n (λ i b. rw (running_here (suc i) (omega arith)))

  -- A row that runs is one of the plan's.
  module _ {processors : ℕ} (ready : Ready R processors processor priority time σ) where
    pub timely : (x : ℕ) → x ≤ 16 → Timely (at list x) σ.used time
    unfolding running moment_of
    timely x l =
        let b : at list x ≤ R.count = rw (running_here x l) (best_most plan (is_open (moment_of σ)) x R.count) in
        record {
          used_long = omega (arith, ready.long.used);
          time_long = omega (arith, ready.listed.time_long);
          used_most = λ p. omega (arith, ready.bounded.used (pred (at list x)) (before (at list x) p b), ready.listed.time_most (pred (at list x)) (before (at list x) p b));
        }
      where
        before : (i : ℕ) → 0 < i → i ≤ R.count → pred i < R.count
        before zero a b = absurd (omega arith)
        before (suc i) a b = omega arith

    -- What the steps ask.
    pub stepping :
        (done released : List ℕ) → Going R processors processor priority time σ done released → (σ.clock ≡ last_clock → ⊥)
        → Stepping R processor list done σ released
    unfolding moment_of
    stepping done released k n = record {
      some = ready.listed.some;
      long = ready.long;
      period_long = ready.listed.period_long;
      first_long = ready.listed.first_long;
      working = record {
        few = ready.listed.few;
        processor_long = ready.listed.processor_long;
        processor_least = ready.listed.processor_least;
        processor_most = λ r l. omega (arith, ready.listed.processor_most r l, k.done_long);
        running_long = omega (arith, list_long, k.done_long, ready.listed.processors_most);
        completed_long = ready.long.completed;
        used_long = ready.long.used;
        completed_most = λ r l. omega (arith, ready.bounded.completed r l, ready.bounded.released r l, ready.bounded.clock);
        used_most = λ r l. omega (arith, ready.bounded.used r l, ready.listed.time_most r l);
      };
      placed = record {
        few = ready.listed.few;
        processor_long = ready.listed.processor_long;
        processor_most = λ r l. omega (arith, ready.listed.processor_most r l, ready.listed.processors_most);
      };
      clock_below = omega (arith, n, ready.bounded.clock);
      released_most = λ r l. omega (arith, ready.bounded.released r l, ready.bounded.clock);
      period_most = ready.listed.period_most;
      released_long = k.released_long;
    }

-- The answers of a tick, from 13 on.
module _ (processors : ℕ) (P : Plan) (σ : State) (done out : List ℕ) where
  pub clock_end : σ.clock ≡ last_clock → stays ClockAtEnd σ out ≡ clock_tick processors P σ done out
  unfolding clock_tick
  clock_end l = rw (eq-eqb _ _ l)

  module _ (n : σ.clock ≡ last_clock → ⊥) {w : ℕ} (f : w ≡ lowest processors (wrong_done P (moment_of σ) done)) where
    pub done_wrong : w < processors → stays (WrongDoneByte (w + 1)) σ out ≡ clock_tick processors P σ done out
    unfolding clock_tick done_tick
    done_wrong l = rw (ne_eqb _ _ n, ← f, lt-ltb _ _ l)

    module _ (l : processors ≤ w) {u : ℕ} (g : u ≡ lowest processors (used_up P (moment_of σ) done)) where
      pub done_up : u < processors → stays (TimeUsedUp (u + 1)) σ out ≡ clock_tick processors P σ done out
      unfolding clock_tick done_tick
      done_up m = rw (ne_eqb _ _ n, ← f, le-ltb _ _ l, ← g, lt-ltb _ _ m)

      pub done_made :
          {τ : State} {bytes : List ℕ} → processors ≤ u
          → τ ≡ state_with P.rows (ticked P (moment_of σ) (is_done done)) σ
          → bytes ≡ filled (λ r. cond (due P (before_release P (moment_of σ) (is_done done)) r) 1 0) P.rows out
          → told bytes (taken (σ.clock + 1) τ) ≡ clock_tick processors P σ done out
      unfolding clock_tick done_tick
      done_made m state list =
          rw (ne_eqb _ _ n, ← f, le-ltb _ _ l, ← g, le-ltb _ _ m) (λ i. record { outcome = taken (σ.clock + 1) (state i); released = list i })
