-- Demand 3, proved.
use Rattle.std.specs.Prelude.{ℕ, pred, ◌≤◌, ◌<◌, ◌≡◌, refl, Bool, true, false, pos, Ok}
use Rattle.std.proofs.Common.{sym, ◌∙◌, arith, leb-true}
use Rattle.std.specs.Int.Signed.{le_z}
use Rattle.facts.specs.TestsLaws.{all_at}
use Rattle.facts.specs.FilledLaws.{get_d_filled}
use Rattle.table.specs.Table.{Table, at, is_plan}
use Rattle.table.specs.TableLaws.{checked}
use Rattle.table.specs.Plan.{plan_of, in_force}
use Rattle.table.specs.PlanLaws.{right_of}
use Rattle.equations.specs.Safe.{bounds_safe}
use Rattle.bounds.specs.SlackLaws.{less_sign}
use Rattle.bounds.specs.Bounds.{Numbers, Analysis, chain_bound, slack_of, accepted, Lists, filled_in, Given, Bounding}
use Rattle.bounds.specs.NoHarder.{NoHarder}
use Rattle.bounds.specs.NoHarderLaws.{Smaller, no_harder_analysis, chain_smaller, accepted_stays, no_harder}
use Rattle.promise.specs.Promise.{EndsWithin, Promised}
use Rattle.promise.proofs.EndsWithin.{ends_within}

-- An accepted plan's chain bounds are within the deadlines in force.
pub within_deadline : (T : Table) (N : Numbers) → accepted T N ≡ true → (i : ℕ) → i < T.tasks → chain_bound T N i ≤ in_force T i
unfolding accepted slack_of
within_deadline T N e i l =
    leb-true _ _ (sym (less_sign (in_force T i) (chain_bound T N i)) ∙ all_at T.tasks (λ i. le_z (pos 0) (slack_of T N i)) e i l)

-- The answer 1 says that the plan is accepted.
says_accepted : {T : Table} {before after : Lists} {answer : ℕ} (g : Given T before after answer) → answer ≡ 1 → accepted T g.numbers ≡ true
says_accepted {T} {answer = answer} g e = go (accepted T g.numbers) refl
  where
    go : (b : Bool) → accepted T g.numbers ≡ b → b ≡ true
    go true q = refl
    go false q =
        let z : answer ≡ 0 = g.says ∙ rw q in
        absurd (omega arith)

-- The list of chain bounds holds them.
chain_listed : {T : Table} {before after : Lists} {answer : ℕ} (g : Given T before after answer) → (i : ℕ) → i < T.tasks → at after.chain i ≡ chain_bound T g.numbers i
unfolding filled_in
chain_listed {T} {before} g i l = rw g.lists (get_d_filled (chain_bound T g.numbers) T.tasks i 0 before.chain l)

-- Demand 3: table Q is a plan and no harder than table P, whose bounds are given.
pub promise :
    (P Q : Table) → is_plan Q ≡ true → NoHarder P Q → (before after : Lists) (answer : ℕ)
    → Bounding P before after (Ok answer) → Promised P Q after answer
unfolding plan_of chain_bound
promise P Q plan h before after answer b = record {
  no_larger = no_harder P Q h before after answer b plan;
  in_time = λ task. ends task _ (λ l. omega (arith, smaller (pred task) l, chain_listed g (pred task) (p_task l)));
  by_deadline = λ yes task. ends task _ (λ l. within_deadline Q N (accepted_stays h mine.2 (says_accepted g yes)) (pred task) l);
}
  where
    g : Given P before after answer
    g = b.2

    mine : (N : Numbers) × Analysis Q N × Smaller P g.numbers N
    mine = no_harder_analysis h (checked P b.0) (checked Q plan) g.analysis

    N : Numbers
    N = mine.0

    p_task : {i : ℕ} → i < Q.tasks → i < P.tasks
    p_task l = omega (arith, h.tasks)

    smaller : (i : ℕ) → i < Q.tasks → chain_bound Q N i ≤ chain_bound P g.numbers i
    smaller i l = chain_smaller h mine.2 i (p_task l)

    ends : (task ticks : ℕ) → (pred task < Q.tasks → chain_bound Q N (pred task) ≤ ticks) → EndsWithin Q task ticks
    ends = ends_within Q plan (λ r l. bounds_safe (right_of Q (checked Q plan)) r l (mine.1.row r l))

-- A plan is no harder than itself, so its own chain bounds hold.
pub no_harder_self : (P : Table) → NoHarder P P
no_harder_self P = record {
  tasks = refl;
  steps = λ i l. refl;
  processor = λ r l. refl;
  priority = λ r l. refl;
  cost = λ r l. omega arith;
  period = λ i l. omega arith;
  deadline = λ i l. omega arith;
}

pub own_bounds :
    (P : Table) (before after : Lists) (answer : ℕ) → Bounding P before after (Ok answer)
    → Promised P P after answer
own_bounds P before after answer b = promise P P b.0 (no_harder_self P) before after answer b
