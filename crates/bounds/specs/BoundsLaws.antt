-- Any two outcomes of the bounds are equal.
use Rattle.std.specs.Prelude.{◌≡◌, Bool, cond, ℕ, suc, ◌+◌, ◌<◌, Err, Ok, Result}
use Rattle.std.proofs.Common.{ap, sym, ◌∙◌, arith}
use Rattle.facts.specs.SumsLaws.{sum_ext}
use Rattle.facts.specs.TestsLaws.{clash, all_ext}
use Rattle.facts.specs.FilledLaws.{filled_ext}
use Rattle.table.specs.declared.refusal.Refusal.{Refusal}
use Rattle.table.specs.declared.refusal.Refusal.TheVariants.{NoBusyLength}
use Rattle.table.specs.Table.{Table, at, first_row, rows}
use Rattle.table.specs.PlanLaws.{first_row_suc, first_row_mono}
pub use Rattle.busy.specs.BusyLaws.{Same, analysis_one, never_stuck, stuck_one}
use Rattle.bounds.specs.Bounds.{Numbers, chain_bound, slack_of, accepted, Lists, filled_in, Given, Refusing, no_plan, too_short, no_busy_length, Bounding}

-- Step s of task i is one of the table's rows.
pub step_row : (T : Table) (i s : ℕ) → i < T.tasks → s < at T.steps i → first_row T i + s < rows T
unfolding rows
step_row T i s l h = omega (arith, first_row_suc T i, first_row_mono T (suc i) T.tasks l)

module _ {T : Table} {N N' : Numbers} (e : Same T N N') where
  pub chain_same : (i : ℕ) → i < T.tasks → chain_bound T N i ≡ chain_bound T N' i
  unfolding chain_bound
  chain_same i l = sum_ext (at T.steps i) (λ s h. e.bound (first_row T i + s) (step_row T i s l h))

  pub slack_same : (i : ℕ) → i < T.tasks → slack_of T N i ≡ slack_of T N' i
  unfolding slack_of
  slack_same i l = rw (chain_same i l)

  pub accepted_same : accepted T N ≡ accepted T N'
  unfolding accepted
  accepted_same = all_ext T.tasks (λ i l. rw (slack_same i l))

  pub filled_same : (l : Lists) → filled_in T N l ≡ filled_in T N' l
  unfolding filled_in
  filled_same l =
      rw (filled_ext N.busy N'.busy (rows T) l.busy e.busy, filled_ext N.instances N'.instances (rows T) l.instances e.instances, filled_ext N.bound N'.bound (rows T) l.bound e.bound, filled_ext (chain_bound T N) (chain_bound T N') T.tasks l.chain chain_same, filled_ext (slack_of T N) (slack_of T N') T.tasks l.slack slack_same)

refusal_one : {T : Table} {before : Lists} {r r' : Refusal} → Refusing T before r → Refusing T before r' → r ≡ r'
refusal_one (no_plan e n) (no_plan e' n') = e ∙ sym e'
refusal_one (no_plan e n) (too_short e' p s) = absurd (clash p n)
refusal_one (no_plan e n) (no_busy_length e' p z s) = absurd (clash p n)
refusal_one (too_short e p s) (no_plan e' n) = absurd (clash p n)
refusal_one (too_short e p s) (too_short e' p' s') = e ∙ sym e'
refusal_one (too_short e p s) (no_busy_length e' p' z s') = absurd (omega arith)
refusal_one (no_busy_length e p z s) (no_plan e' n) = absurd (clash p n)
refusal_one (no_busy_length e p z s) (too_short e' p' s') = absurd (omega arith)
refusal_one (no_busy_length e p z s) (no_busy_length e' p' z' s') =
    e ∙ ap (λ (k : ℕ). NoBusyLength (suc k)) (stuck_one s s') ∙ sym e'

-- Where there are bounds, nothing is refused.
pub given_not_refused :
    {T : Table} {before after : Lists} {answer : ℕ} {r : Refusal} → Bounding T before after (Ok answer) → Refusing T before r → ⊥
given_not_refused g (no_plan e n) = clash g.0 n
given_not_refused g (too_short e p s) = omega (arith, g.1)
given_not_refused g (no_busy_length e p z s) = never_stuck g.2.analysis s

given_one :
    {T : Table} {before after after' : Lists} {answer answer' : ℕ}
    → Given T before after answer → Given T before after' answer' → (after ≡ after') × (answer ≡ answer')
given_one {T} {before} a b =
    let e : Same T a.numbers b.numbers = analysis_one a.analysis b.analysis in
    (a.lists ∙ filled_same e before ∙ sym b.lists, a.says ∙ ap (λ (x : Bool). cond x 1 0) (accepted_same e) ∙ sym b.says)

-- The lists and the answer are determined by the table and the lists lent.
pub bounding_one :
    (T : Table) (before after after' : Lists) (r r' : Result ℕ Refusal)
    → Bounding T before after r → Bounding T before after' r' → (after ≡ after') × (r ≡ r')
bounding_one T before after after' (Ok x) (Ok y) a b = let e = given_one a.2 b.2 in (e.0, ap Ok e.1)
bounding_one T before after after' (Ok x) (Err s) a b = absurd (given_not_refused a b.0)
bounding_one T before after after' (Err r) (Ok y) a b = absurd (given_not_refused b a.0)
bounding_one T before after after' (Err r) (Err s) a b = (a.1 ∙ sym b.1, ap Err (refusal_one a.0 b.0))
