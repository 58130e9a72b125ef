-- The five steps by the list of running rows are those of the plan, and a tick by it is the plan's tick.
use Prim.Native.Nat.{ℕ, suc, ◌+◌, ◌<◌}
use Rattle.std.specs.Prelude.{◌≡◌, refl, Bool, cond, Ok, Err, length}
use Rattle.std.proofs.Common.{◌∙◌, ap}
use mathlib.Core.List.{List, []}
use native.Mathlib.Omega.{arith}
use Rattle.facts.specs.Tests.{lowest}
use Rattle.facts.specs.Filled.{tab, filled}
use Rattle.facts.specs.FilledLaws.{filled_ext}
use Rattle.table.specs.Table.{at}
use Rattle.table.specs.Plan.{Plan}
use Rattle.guards.specs.declared.state.State.{State}
use Rattle.guards.specs.Moment.{moment_of, state_with}
use Rattle.guards.specs.Running.{running, runs}
use Rattle.guards.specs.Machine.{worked, before_release, due, ticked}
use Rattle.guards.specs.Rows.{Rows, plan_from}
use Rattle.guards.specs.Calls.{is_done, stays, taken, wrong_done, used_up}
use Rattle.table.specs.Refusals.{last_clock}
use Rattle.table.specs.declared.refusal.Refusal.{Refusal}
use Rattle.table.specs.declared.refusal.Refusal.TheVariants.{WrongDoneByte, TimeUsedUp}
use Rattle.ticks.specs.Done.{wrong_here, up_here, refusing}
use Rattle.ticks.specs.Steps.{chains, readied, stepped, ran, runs_in, ends_in}
use Rattle.ticks.specs.Ticking.{Ready, Going, told, clock_tick}
use Rattle.ticks.specs.SameLaws.{Same, Chained, with_same, opened_same, due_same, let_go_same}
use Rattle.ticks.proofs.DoneLemmas.{was_refused, was_passed}
use Rattle.ticks.specs.TickingLaws.{running_here, wrong_lowest, up_lowest, done_wrong, done_up, done_made}

-- The list of running rows.
module _ (R : Rows) (processor priority time : List ℕ) (σ : State) {list : List ℕ} (e : list ≡ tab (running (plan_from R.count [] [] processor priority []) (moment_of σ)) 17) where
  abbrev plan : Plan
  plan = plan_from R.count R.period R.first processor priority time

  -- A row that runs is one of the plan's.
  module _ {processors : ℕ} (ready : Ready R processors processor priority time σ) where
    -- Steps 1 to 3 by the list are those of the plan,
    worked_is :
        (done : List ℕ)
        → Same R.count (ran (runs_in processor list) (ends_in processor done) (moment_of σ)) (worked plan (moment_of σ) (is_done done))
    unfolding ran worked runs
    worked_is done = record {
      clock = refl;
      released = λ r l. refl;
      completed = λ r l. rw (here r l);
      used = λ r l. rw (here r l);
      guard = λ r l. refl;
    }
      where
        here : (r : ℕ) → r < R.count → at list (at processor r) ≡ running plan (moment_of σ) (at processor r)
        here r l = running_here R processor priority time σ e (at processor r) (omega (arith, ready.listed.processor_most r l, ready.listed.processors_most))

    chained : Chained R.count (chains R processor) plan
    chained = record { left = refl; right = refl; period = λ r l. refl; first = λ r l. refl; processor = λ r l. refl }

    readied_is : (done : List ℕ) → Same R.count (readied R processor list done σ) (before_release plan (moment_of σ) (is_done done))
    unfolding readied before_release
    readied_is done = opened_same (worked_is done) chained

    -- and so are all five.
    ticked_made :
        (done : List ℕ)
        → state_with R.count (stepped R processor list done σ) σ
        ≡ state_with R.count (ticked plan (moment_of σ) (is_done done)) σ
    unfolding stepped ticked
    ticked_made done = with_same (let_go_same (readied_is done) chained) σ

    bytes_ticked :
        (done released : List ℕ)
        → filled (λ r. cond (due (chains R processor) (readied R processor list done σ) r) 1 0) R.count released
        ≡ filled (λ r. cond (due plan (before_release plan (moment_of σ) (is_done done)) r) 1 0) R.count released
    bytes_ticked done released = filled_ext _ _ R.count released (λ r l. rw (due_same (readied_is done) chained r l))

-- What is found by the list of running rows, and what the steps by it make, is the plan's tick.
module _
    (R : Rows) (processors : ℕ) (processor priority time : List ℕ) (σ : State) {list : List ℕ}
    (e : list ≡ tab (running (plan_from R.count [] [] processor priority []) (moment_of σ)) 17) (done out : List ℕ)
    (going : Going R processors processor priority time σ done out) (n : σ.clock ≡ last_clock → ⊥) where
  abbrev whole : Plan
  whole = plan_from R.count R.period R.first processor priority time

  abbrev wrong_at : ℕ → Bool
  wrong_at i = wrong_here (at done i) (at list (suc i))

  abbrev up_at : ℕ → Bool
  up_at i = up_here σ.used time (at done i) (at list (suc i))

  wrong_is : lowest (length done) wrong_at ≡ lowest processors (wrong_done whole (moment_of σ) done)
  wrong_is = rw going.done_long (wrong_lowest R processor priority time σ e processors done going.ready.listed.processors_most)

  up_is : lowest (length done) up_at ≡ lowest processors (used_up whole (moment_of σ) done)
  up_is = rw going.done_long (up_lowest R processor priority time σ e processors done going.ready.listed.processors_most)

  pub list_wrong :
      {refusal : Refusal} → refusing (length done) wrong_at (λ k. WrongDoneByte k) ≡ Err refusal
      → stays refusal σ out ≡ clock_tick processors whole σ done out
  list_wrong q =
      let r = was_refused (length done) wrong_at (λ k. WrongDoneByte k) _ q in
      ap (λ (x : Refusal). stays x σ out) r.0
      ∙ done_wrong processors whole σ done out n wrong_is (omega (arith, r.1, going.done_long))

  module _ (passed : refusing (length done) wrong_at (λ k. WrongDoneByte k) ≡ Ok tt) where
    pub list_up :
        {refusal : Refusal} → refusing (length done) up_at (λ k. TimeUsedUp k) ≡ Err refusal
        → stays refusal σ out ≡ clock_tick processors whole σ done out
    list_up q =
        let r = was_refused (length done) up_at (λ k. TimeUsedUp k) _ q in
        let l = was_passed (length done) wrong_at (λ k. WrongDoneByte k) passed in
        ap (λ (x : Refusal). stays x σ out) r.0
        ∙ done_up processors whole σ done out n wrong_is (omega (arith, l, going.done_long)) up_is (omega (arith, r.1, going.done_long))

    pub list_made :
        {τ : State} {bytes : List ℕ} → refusing (length done) up_at (λ k. TimeUsedUp k) ≡ Ok tt
        → τ ≡ state_with R.count (stepped R processor list done σ) σ
        → bytes ≡ filled (λ r. cond (due (chains R processor) (readied R processor list done σ) r) 1 0) R.count out
        → told bytes (taken (σ.clock + 1) τ) ≡ clock_tick processors whole σ done out
    list_made q state bytes =
        let l = was_passed (length done) wrong_at (λ k. WrongDoneByte k) passed in
        let m = was_passed (length done) up_at (λ k. TimeUsedUp k) q in
        done_made processors whole σ done out n wrong_is (omega (arith, l, going.done_long)) up_is (omega (arith, m, going.done_long))
        (state ∙ ticked_made R processor priority time σ e going.ready done)
        (bytes ∙ bytes_ticked R processor priority time σ e going.ready done out)
