-- What each call comes to: a refusal, which leaves the state, or what the machine does.
use Prim.Native.Nat.{ℕ, suc, pred, ◌+◌, ◌≤◌, ◌<◌}
use Rattle.std.specs.Prelude.{◌≡◌, refl, Bool, false, cond, not, ◌&&◌, ◌||◌, List, leb, ltb, length, get_or, Err, Ok}
use Rattle.std.proofs.Common.{◌∙◌, arith}
use Rattle.std.proofs.Math.Bool.{true}
use borrow.Author.Tests.{ltb-false, leb-true, eqb-true, eqb-false, eq-eqb, lt-ltb, not-false}
use Rattle.std.proofs.Math.Dec.{eqb}
use Rattle.facts.specs.Tests.{lowest}
use Rattle.facts.specs.TestsLaws.{clash, and_left, and_right, Lowest, lowest_found}
use Rattle.facts.specs.Filled.{filled}
use Rattle.facts.specs.FilledLaws.{get_d_filled}
use Rattle.table.specs.Table.{Table, first_row, rows, is_plan}
use Rattle.table.specs.TableLaws.{Checked, checked}
use Rattle.table.specs.Plan.{Plan, plan_of}
use Rattle.table.specs.PlanLaws.{first_row_suc, first_row_mono}
use Rattle.planned.specs.ViewLaws.{Inside, inside_first}
use Rattle.table.specs.Refusals.{last_clock}
use Rattle.table.specs.declared.refusal.Refusal.{Refusal}
use Rattle.guards.specs.declared.state.State.{State}
use Rattle.guards.specs.Outcome.{Outcome}
use Rattle.guards.specs.Moment.{Moment, moment_of, state_with}
use Rattle.guards.specs.Running.{running, runs}
use Rattle.guards.specs.Machine.{arrived, ticked}
use Rattle.guards.specs.Seam.{Allowed, Same}
use Rattle.guards.specs.Fits.{fits}
use Rattle.guards.specs.FitsLaws.{Fits, fits_of}
use Rattle.guards.specs.Calls.{has_task, arrive, is_done, wrong_done, used_up, released_byte, TickOutcome, tick}

-- A state with its rows as m says says the same as m of the plan's rows.
pub with_same : (P : Plan) (m : Moment) (σ : State) → Same P m (moment_of (state_with P.rows m σ))
unfolding moment_of state_with
with_same P m σ = record {
  clock = refl;
  released = λ r l. get_d_filled m.released P.rows r 0 σ.released l;
  completed = λ r l. get_d_filled m.completed P.rows r 0 σ.completed l;
  used = λ r l. get_d_filled m.used P.rows r 0 σ.used l;
  guard = λ r l. get_d_filled m.guard P.rows r 0 σ.guard l;
}

-- The first row of a task is a row of the plan, and first.
pub task_first : (T : Table) → Checked T → (i : ℕ) → i < T.tasks → (first_row T i < rows T) × ((plan_of T).first (first_row T i) ≡ true)
unfolding rows
task_first T ok i l =
    let more : first_row T i < first_row T (suc i) = omega (arith, first_row_suc T i, (ok.tasks.each i l).steps_least) in
    let here : Inside T i (first_row T i) (first_row T i) = record { task_is = l; start_is = refl; of = record { from = omega arith; to = more } } in
    (omega (arith, first_row_mono T (suc i) T.tasks l), inside_first T here ∙ eq-eqb (first_row T i) (first_row T i) refl)

-- A case of a choice by a test.
by_test : {A : Type 0} (C : A → Type 0) (b : Bool) {x y : A} → (b ≡ true → C x) → (b ≡ false → C y) → C (cond b x y)
by_test C true h k = h refl
by_test C false h k = k refl

-- What a taken arrival has found: a plan, a state that fits it, one of its tasks, and the guard of its first row due.
pub record MayArrive (T : Table) (σ : State) (task : ℕ) : Type 0 where
  pub plan : is_plan T ≡ true
  pub fitting : fits (plan_of T) (moment_of σ) ≡ true
  pub number : 1 ≤ task
  pub known : pred task < T.tasks
  pub guard_due : (moment_of σ).guard (first_row T (pred task)) ≤ σ.clock

pub data Arriving (T : Table) (σ : State) (task : ℕ) : Outcome → Type 0 where
  refused : (refusal : Refusal) → Arriving T σ task (record { answer = Err refusal; state = σ })
  taken :
      MayArrive T σ task
      → Arriving T σ task (record {
        answer = Ok (first_row T (pred task) + 1);
        state = state_with (rows T) (arrived (plan_of T) (moment_of σ) (first_row T (pred task))) σ;
      })

pub arrive_is : (T : Table) (σ : State) (task : ℕ) → Arriving T σ task (arrive T σ task)
unfolding arrive has_task
arrive_is T σ task =
    by_test C _ (λ e. refused _)
    (λ e₁. by_test C _ (λ e. refused _)
    (λ e₂. by_test C _ (λ e. refused _)
    (λ e₃. by_test C _ (λ e. refused _)
    (λ e₄. (let t : leb 1 task && leb task T.tasks ≡ true = not-false _ e₃ in
    taken (record {
      plan = not-false _ e₁;
      fitting = not-false _ e₂;
      number = leb-true _ _ (and_left (leb 1 task) _ t);
      known = omega (arith, leb-true 1 task (and_left (leb 1 task) _ t), leb-true task T.tasks (and_right (leb 1 task) _ t));
      guard_due = ltb-false _ _ e₄;
    }))))))
  where
    C : Outcome → Type 0
    C = Arriving T σ task

-- Where a search for the lowest finds none, the test fails everywhere.
lowest_fails : (n : ℕ) (f : ℕ → Bool) → ltb (lowest n f) n ≡ false → (k : ℕ) → k < n → f k ≡ false
lowest_fails n f e = go (lowest_found n f) e
  where
    go : {i : ℕ} → Lowest n f i → ltb i n ≡ false → (k : ℕ) → k < n → f k ≡ false
    go (Lowest.nowhere h) e = h
    go (Lowest.here i l t h) e = absurd (clash (lt-ltb i n l) e)

or_fails : (a b : Bool) → a || b ≡ false → a ≡ false
or_fails true b e = e
or_fails false b e = refl

-- Done bytes of 0 and 1, and no running instance at the end of its time without its done byte: the tick may be taken.
module _ (P : Plan) (m : Moment) (done : List ℕ) (processors : ℕ) (f : Fits P m)
    (placed : (r : ℕ) → r < P.rows → (1 ≤ P.processor r) × (P.processor r ≤ processors))
    (right : (i : ℕ) → i < processors → wrong_done P m done i ≡ false)
    (left : (i : ℕ) → i < processors → used_up P m done i ≡ false) where
  not_done : (i : ℕ) → i < processors → eqb (get_or done i 0) 1 ≡ false → get_or done i 0 ≡ 0
  unfolding wrong_done
  not_done i l e = omega (arith, ltb-false 1 (get_or done i 0) (or_fails _ _ (right i l)), eqb-false (get_or done i 0) 1 e)

  not_used_up :
      (r i : ℕ) → r < P.rows → i < processors → running P m (suc i) ≡ suc r → get_or done i 0 ≡ 0
      → m.used r + 1 ≡ P.cost r → ⊥
  unfolding used_up
  not_used_up r i l li run byte h = clash up (left i li)
    where
      up :
          eqb (get_or done i 0) 0
          && (ltb 0 (running P m (suc i)) && eqb (m.used (pred (running P m (suc i))) + 1) (P.cost (pred (running P m (suc i)))))
          ≡ true
      up = rw (run, eq-eqb _ _ byte, lt-ltb 0 (suc r) (omega arith), eq-eqb _ _ h)

  may_tick : Allowed P m (is_done done)
  unfolding is_done runs
  may_tick r l run e =
      let q : suc (pred (P.processor r)) ≡ P.processor r = omega (arith, placed r l) in
      let li : pred (P.processor r) < processors = omega (arith, placed r l) in
      let s : running P m (suc (pred (P.processor r))) ≡ suc r = rw q (eqb-true _ _ run) in
      omega (arith, (f.row r l).within, not_used_up r (pred (P.processor r)) l li s (not_done (pred (P.processor r)) li e))

-- What a taken tick has found: a plan, a state that fits it, a clock not at its end, and done bytes with which the machine
-- may tick.
pub record MayTick (T : Table) (σ : State) (done : List ℕ) : Type 0 where
  pub plan : is_plan T ≡ true
  pub fitting : fits (plan_of T) (moment_of σ) ≡ true
  pub goes_on : σ.clock < last_clock
  pub allowed : Allowed (plan_of T) (moment_of σ) (is_done done)

pub data Ticking (T : Table) (σ : State) (done released : List ℕ) : TickOutcome → Type 0 where
  refused :
      (refusal : Refusal)
      → Ticking T σ done released (record { outcome = record { answer = Err refusal; state = σ }; released = released })
  taken :
      MayTick T σ done
      → Ticking T σ done released (record {
        outcome = record {
          answer = Ok (σ.clock + 1);
          state = state_with (rows T) (ticked (plan_of T) (moment_of σ) (is_done done)) σ;
        };
        released = filled (released_byte T σ done) (rows T) released;
      })

pub tick_is : (T : Table) (σ : State) (done released : List ℕ) → Ticking T σ done released (tick T σ done released)
unfolding tick plan_of moment_of
tick_is T σ done released =
    by_test C _ (λ e. refused _)
    (λ e₁. by_test C _ (λ e. refused _)
    (λ e₂. by_test C (not (eqb (length done) T.processors)) (λ e. refused _)
    (λ e₃. by_test C (ltb (length released) (rows T)) (λ e. refused _)
    (λ e₄. by_test C (eqb σ.clock last_clock) (λ e. refused _)
    (λ e₅. by_test C _ (λ e. refused _)
    (λ e₆. by_test C _ (λ e. refused _)
    (λ e₇. (let ok : Checked T = checked T (not-false _ e₁) in
    let f : Fits (plan_of T) (moment_of σ) = fits_of (plan_of T) (moment_of σ) (not-false _ e₂) in
    taken (record {
      plan = not-false _ e₁;
      fitting = not-false _ e₂;
      goes_on = omega (arith, f.clock, eqb-false σ.clock last_clock e₅);
      allowed =
          may_tick (plan_of T) (moment_of σ) done T.processors f
          (λ r l. ((ok.row r l).processor_least, (ok.row r l).processor_most))
          (lowest_fails T.processors _ e₆) (lowest_fails T.processors _ e₇);
    })))))))))
  where
    C : TickOutcome → Type 0
    C = Ticking T σ done released
