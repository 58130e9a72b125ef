-- The steps of a tick on lists, one after the other.
use Rattle.std.specs.Prelude.{ℕ, ◌+◌, ◌≡◌, Bool, cond, not, List, []}
use Rattle.std.proofs.Common.{sym, ◌∙◌, subst}
use Rattle.facts.specs.Filled.{tab, filled}
use Rattle.facts.specs.FilledLaws.{filled_ext}
use Rattle.table.specs.Plan.{Plan}
use Rattle.guards.specs.declared.state.State.{State}
use Rattle.guards.specs.Moment.{moment_of, state_with}
use Rattle.guards.specs.Machine.{idle, due, let_go}
use Rattle.guards.specs.Rows.{Rows, plan_from}
use Rattle.guards.specs.Lent.{Long, state_of}
use Rattle.ticks.specs.Steps.{Releasing, Stepping, chains, completed_in, used_in, guard_in, ran, runs_in, ends_in, opened_where, first_in, idle_in, readied, stepped}
use Rattle.ticks.specs.SameLaws.{with_long}
use Rattle.ticks.specs.StepsLaws.{unused, due_unused, work_made, open_made, let_go_made, four_made, steps_made, bytes_made, releasing}

-- The steps on lists: what each has made of its lists, and what they come to.
module _
    (R : Rows) (processor running done : List ℕ) (σ : State) (out : List ℕ) (k : Stepping R processor running done σ out)
    {completed used guard : List ℕ} {busy : List Bool}
    (a : completed ≡ filled (completed_in (runs_in processor running) (ends_in processor done) σ.completed) R.count σ.completed)
    (b : used ≡ filled (used_in (runs_in processor running) (ends_in processor done) σ.used) R.count σ.used)
    (c : (clock : ℕ) (used guard : List ℕ) → busy ≡ tab (λ x. not (idle (plan_from R.count [] [] processor [] []) (moment_of (state_of clock σ.released completed used guard)) x)) 17)
    (d : guard ≡ filled (guard_in (first_in R.first) (idle_in processor busy) (σ.clock + 1) σ.guard) R.count σ.guard) where
  abbrev one : State
  one = state_of (σ.clock + 1) σ.released completed used σ.guard

  abbrev two : State
  two = state_of (σ.clock + 1) σ.released completed used guard

  abbrev chain : Plan
  chain = plan_from R.count R.period R.first [] [] []

  one_is : one ≡ state_with R.count (ran (runs_in processor running) (ends_in processor done) (moment_of σ)) σ
  one_is = work_made R.count σ k.long (runs_in processor running) (ends_in processor done) a b

  one_long : Long R.count one
  one_long = subst (λ (τ : State). Long R.count τ) (sym one_is) (with_long R.count _ σ k.long)

  two_is : two ≡ state_with R.count (opened_where (first_in R.first) (idle_in processor busy) (moment_of one)) one
  two_is = open_made R.count one one_long (first_in R.first) (idle_in processor busy) d

  two_long : Long R.count two
  two_long = subst (λ (τ : State). Long R.count τ) (sym two_is) (with_long R.count _ one one_long)

  two_made : two ≡ state_with R.count (readied R processor running done σ) σ
  unfolding readied
  two_made =
      four_made R processor k.placed (ran (runs_in processor running) (ends_in processor done) (moment_of σ)) σ k.long
      one_is (c (σ.clock + 1) used σ.guard) two_is

  -- Step 5 has what it asks,
  pub lent_releasing : Releasing R.count R.period R.first (σ.clock + 1) σ.released completed guard out
  lent_releasing = releasing R processor running done σ out k two_made

  -- and the five make the state and the bytes.
  pub lent_steps :
      {released last : List ℕ} → released ≡ filled (let_go chain (unused two)).released R.count σ.released
      → last ≡ filled (let_go chain (unused two)).guard R.count guard
      → state_of (σ.clock + 1) released completed used last ≡ state_with R.count (stepped R processor running done σ) σ
  unfolding stepped
  lent_steps e f = steps_made R processor (readied R processor running done σ) σ k.long two_made (let_go_made R.count two two_long chain e f)

  pub lent_bytes :
      {bytes : List ℕ} → bytes ≡ filled (λ r. cond (due chain (unused two) r) 1 0) R.count out
      → bytes ≡ filled (λ r. cond (due (chains R processor) (readied R processor running done σ) r) 1 0) R.count out
  lent_bytes e =
      bytes_made R processor (readied R processor running done σ) σ k.long two_made out
      (e ∙ filled_ext _ _ R.count out (λ r l. rw (due_unused chain two r)))
