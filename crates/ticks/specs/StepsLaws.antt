-- The steps of a tick, one after the other.
use Rattle.std.specs.Prelude.{ℕ, ◌+◌, ◌<◌, ◌≡◌, refl, Bool, true, false, cond, not, List, []}
use Rattle.std.proofs.Common.{sym, ◌∙◌, ap, subst, arith}
use Rattle.facts.specs.Filled.{tab, filled}
use Rattle.facts.specs.FilledLaws.{get_d_tab, filled_ext}
use Rattle.table.specs.Table.{at}
use Rattle.table.specs.Plan.{Plan}
use Rattle.guards.specs.declared.state.State.{State}
use Rattle.guards.specs.Moment.{Moment, moment_of, state_with}
use Rattle.guards.specs.Machine.{idle, opened, due, let_go}
use Rattle.guards.specs.Rows.{Rows, plan_from}
use Rattle.guards.specs.Lent.{Long, state_of}
use Rattle.guards.specs.ListsLaws.{filled_own}
use Rattle.ticks.specs.Steps.{Placed, Releasing, Stepping, chains, completed_in, used_in, guard_in, ran, opened_where, first_in, idle_in, readied}
use Rattle.ticks.specs.SameLaws.{Same, Chained, same_trans, with_says, with_same, with_long, with_again, idle_same, due_same, let_go_same}

-- Step 5 reads no used ticks.
abbrev pub unused : State → Moment
unused σ = moment_of (state_of σ.clock σ.released σ.completed [] σ.guard)

pub due_unused : (P : Plan) (σ : State) (r : ℕ) → due P (unused σ) r ≡ due P (moment_of σ) r
unfolding due moment_of
due_unused P σ r = refl

-- What each part makes of its lists, and what it leaves, is a state with its rows made.
module _ (n : ℕ) (σ : State) (z : Long n σ) where
  pub work_made :
      (runs ends : ℕ → Bool) {completed used : List ℕ}
      → completed ≡ filled (completed_in runs ends σ.completed) n σ.completed
      → used ≡ filled (used_in runs ends σ.used) n σ.used
      → state_of (σ.clock + 1) σ.released completed used σ.guard ≡ state_with n (ran runs ends (moment_of σ)) σ
  unfolding state_with ran moment_of
  work_made runs ends a b =
      let r : σ.released ≡ filled (moment_of σ).released n σ.released = filled_own 0 _ n σ.released z.released (λ i l. refl) in
      let g : σ.guard ≡ filled (moment_of σ).guard n σ.guard = filled_own 0 _ n σ.guard z.guard (λ i l. refl) in
      λ i. state_of (σ.clock + 1) (r i) (a i) (b i) (g i)

  pub open_made :
      (first idle : ℕ → Bool) {guard : List ℕ} → guard ≡ filled (guard_in first idle σ.clock σ.guard) n σ.guard
      → state_of σ.clock σ.released σ.completed σ.used guard ≡ state_with n (opened_where first idle (moment_of σ)) σ
  unfolding state_with opened_where moment_of
  open_made first idle a =
      let r : σ.released ≡ filled (moment_of σ).released n σ.released = filled_own 0 _ n σ.released z.released (λ i l. refl) in
      let c : σ.completed ≡ filled (moment_of σ).completed n σ.completed = filled_own 0 _ n σ.completed z.completed (λ i l. refl) in
      let u : σ.used ≡ filled (moment_of σ).used n σ.used = filled_own 0 _ n σ.used z.used (λ i l. refl) in
      λ i. state_of σ.clock (r i) (c i) (u i) (a i)

  pub let_go_made :
      (P : Plan) {released guard : List ℕ} → released ≡ filled (let_go P (unused σ)).released n σ.released
      → guard ≡ filled (let_go P (unused σ)).guard n σ.guard
      → state_of σ.clock released σ.completed σ.used guard ≡ state_with n (let_go P (moment_of σ)) σ
  unfolding state_with let_go due moment_of
  let_go_made P a b =
      let c : σ.completed ≡ filled (moment_of σ).completed n σ.completed = filled_own 0 _ n σ.completed z.completed (λ i l. refl) in
      let u : σ.used ≡ filled (moment_of σ).used n σ.used = filled_own 0 _ n σ.used z.used (λ i l. refl) in
      λ i. state_of σ.clock (a i) (c i) (u i) (b i)

not_not : (b : Bool) → not (not b) ≡ b
not_not true = refl
not_not false = refl

-- w is what steps 1 to 3 make of the rows, and one and two are the states after step 3 and 4.
module _ (R : Rows) (processor : List ℕ) (p : Placed R.count processor) (w : Moment) (σ : State) (z : Long R.count σ) where
  abbrev chained_plan : Plan
  chained_plan = chains R processor

  module _
      {one two : State} {busy : List Bool} (e₁ : one ≡ state_with R.count w σ)
      (eb : busy ≡ tab (λ x. not (idle (plan_from R.count [] [] processor [] []) (moment_of one) x)) 17)
      (e₂ : two ≡ state_with R.count (opened_where (first_in R.first) (idle_in processor busy) (moment_of one)) one) where
    after_three : Same R.count (moment_of one) w
    after_three = rw e₁ (with_says R.count w σ)

    idle_is : (r : ℕ) → r < R.count → idle_in processor busy r ≡ idle chained_plan w (at processor r)
    idle_is r l =
        rw (eb, get_d_tab (λ x. not (idle (plan_from R.count [] [] processor [] []) (moment_of one) x)) 17 (at processor r) false (omega (arith, p.processor_most r l)), not_not (idle (plan_from R.count [] [] processor [] []) (moment_of one) (at processor r)))
        (idle_same after_three _ chained_plan refl refl (λ i b. refl) (at processor r))

    opened_is : Same R.count (opened_where (first_in R.first) (idle_in processor busy) (moment_of one)) (opened chained_plan w)
    unfolding opened_where opened
    opened_is = record {
      clock = after_three.clock;
      released = after_three.released;
      completed = after_three.completed;
      used = after_three.used;
      guard = λ r l. rw (idle_is r l, after_three.clock, after_three.guard r l);
    }

    pub after_four : Same R.count (moment_of two) (opened chained_plan w)
    after_four = rw e₂ (same_trans (with_says R.count _ one) opened_is)

    -- Steps 1 to 4 make what the plan says of the first state.
    pub four_made : two ≡ state_with R.count (opened chained_plan w) σ
    four_made =
        e₂ ∙ with_same opened_is one
        ∙ ap (λ (τ : State). state_with R.count (opened chained_plan w) τ) e₁
        ∙ with_again R.count (opened chained_plan w) w σ z

-- w is what steps 1 to 4 make of the rows of σ. Step 5 reads no processor.
module _ (R : Rows) (processor : List ℕ) (w : Moment) (σ : State) (z : Long R.count σ) {two : State} (e : two ≡ state_with R.count w σ) where
  says_four : Same R.count (moment_of two) w
  says_four = rw e (with_says R.count w σ)

  chained : Chained R.count (plan_from R.count R.period R.first [] [] []) (plan_from R.count R.period R.first [] [] [])
  chained = record { left = refl; right = refl; period = λ r l. refl; first = λ r l. refl; processor = λ r l. refl }

  -- All five make what the plan says of the first state,
  pub steps_made :
      {three : State}
      → three ≡ state_with R.count (let_go (plan_from R.count R.period R.first [] [] []) (moment_of two)) two
      → three ≡ state_with R.count (let_go (chains R processor) w) σ
  unfolding let_go due
  steps_made e₃ =
      e₃ ∙ with_same (let_go_same says_four chained) two
      ∙ ap (λ (τ : State). state_with R.count (let_go (chains R processor) w) τ) e
      ∙ with_again R.count (let_go (chains R processor) w) w σ z

  -- and a byte for each row.
  pub bytes_made :
      {bytes : List ℕ} (list : List ℕ)
      → bytes ≡ filled (λ r. cond (due (plan_from R.count R.period R.first [] [] []) (moment_of two) r) 1 0) R.count list
      → bytes ≡ filled (λ r. cond (due (chains R processor) w r) 1 0) R.count list
  unfolding due
  bytes_made list e₅ = e₅ ∙ filled_ext _ _ R.count list (λ r l. rw (due_same says_four chained r l))

-- After step 4 step 5 has what it asks.
pub releasing :
    (R : Rows) (processor running done : List ℕ) (σ : State) (out : List ℕ) → Stepping R processor running done σ out
    → {two : State} → two ≡ state_with R.count (readied R processor running done σ) σ
    → Releasing R.count R.period R.first two.clock two.released two.completed two.guard out
unfolding readied opened ran moment_of
releasing R processor running done σ out k {two} e =
    let z : Long R.count two = subst (Long R.count) (sym e) (with_long R.count (readied R processor running done σ) σ k.long) in
    let s : Same R.count (moment_of two) (readied R processor running done σ) = rw e (with_says R.count (readied R processor running done σ) σ) in
    record {
      some = k.some;
      few = k.placed.few;
      period_long = k.period_long;
      first_long = k.first_long;
      released_long = z.released;
      completed_long = z.completed;
      guard_long = z.guard;
      out_long = k.released_long;
      clock_most = omega (arith, s.clock, k.clock_below);
      released_most = λ r l. omega (arith, s.released r l, k.released_most r l);
      period_most = k.period_most;
    }
