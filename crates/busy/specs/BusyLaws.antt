-- Any two outcomes of numbering the rows are equal.
use Rattle.std.specs.Prelude.{◌≡◌, ℕ, suc, ◌≤◌, ◌<◌, Err, Ok, Result}
use Rattle.std.proofs.Common.{ap, sym, ◌∙◌, arith}
use Rattle.std.proofs.Math.Decide.{dec_lt}
use Rattle.facts.specs.TestsLaws.{clash}
use Rattle.facts.specs.Least.{Least}
use Rattle.facts.specs.LeastLaws.{unanswered_none}
use Rattle.facts.specs.FilledLaws.{filled_ext}
use Rattle.table.specs.declared.refusal.Refusal.{Refusal}
use Rattle.table.specs.declared.refusal.Refusal.TheVariants.{NoBusyLength}
use Rattle.table.specs.Table.{Table, rows}
use Rattle.equations.specs.Row.{work}
use Rattle.equations.specs.RowLaws.{row_bounds_one}
use Rattle.busy.specs.Busy.{limit, equations, Numbers, Analysis, Stuck}
use Rattle.busy.specs.Numbering.{RowLists, rows_filled_in, Unnumbered, no_plan, too_short, no_busy_length, Numbering}

-- Two tables' worth of numbers agree on the rows.
pub record Same (T : Table) (N N' : Numbers) : Type 0 where
  pub busy : (r : ℕ) → r < rows T → N.busy r ≡ N'.busy r
  pub instances : (r : ℕ) → r < rows T → N.instances r ≡ N'.instances r
  pub bound : (r : ℕ) → r < rows T → N.bound r ≡ N'.bound r

-- A plan has one analysis.
pub analysis_one : {T : Table} {N N' : Numbers} → Analysis T N → Analysis T N' → Same T N N'
analysis_one a b = record {
  busy = λ r l. (row_bounds_one (a.row r l) (b.row r l)).0;
  instances = λ r l. (row_bounds_one (a.row r l) (b.row r l)).1;
  bound = λ r l. (row_bounds_one (a.row r l) (b.row r l)).2;
}

-- What agrees with an analysis is one.
pub analysis_same : {T : Table} {N N' : Numbers} → Same T N N' → Analysis T N → Analysis T N'
analysis_same e a = record {
  row = λ r l. rw (← e.busy r l, ← e.instances r l, ← e.bound r l) (a.row r l);
  within = λ r l. rw (← e.busy r l) (a.within r l);
}

-- Numbers that agree fill the lists alike.
pub rows_filled_same : {T : Table} {N N' : Numbers} → Same T N N' → (l : RowLists) → rows_filled_in T N l ≡ rows_filled_in T N' l
unfolding rows_filled_in
rows_filled_same {T} {N} {N'} e l =
    rw (filled_ext N.busy N'.busy (rows T) l.busy e.busy, filled_ext N.instances N'.instances (rows T) l.instances e.instances, filled_ext N.bound N'.bound (rows T) l.bound e.bound)

-- A plan with an analysis has no row without a busy length,
pub never_stuck : {T : Table} {N : Numbers} {r : ℕ} → Analysis T N → Stuck T r → ⊥
never_stuck {T} {N} {r} a s = unanswered_none s.none (a.row r s.row).busy (a.within r s.row)

-- and there is one lowest row without.
half : {T : Table} {r k : ℕ} → Stuck T r → Stuck T k → k < r → ⊥
half {T} {r} {k} s u l =
    let w : (D : ℕ) × Least (work (equations T k)) D × (D ≤ limit) = s.before k l in
    unanswered_none u.none w.1 w.2

pub stuck_one : {T : Table} {r k : ℕ} → Stuck T r → Stuck T k → r ≡ k
stuck_one {T} {r} {k} s u = go (dec_lt k r) (dec_lt r k)
  where
    go : Dec (k < r) → Dec (r < k) → r ≡ k
    go (yes h) d = absurd (half s u h)
    go (no h) (yes g) = absurd (half u s g)
    go (no h) (no g) = omega arith

refusal_one : {T : Table} {before : RowLists} {r r' : Refusal} → Unnumbered T before r → Unnumbered T before r' → r ≡ r'
refusal_one (no_plan e n) (no_plan e' n') = e ∙ sym e'
refusal_one (no_plan e n) (too_short e' p s) = absurd (clash p n)
refusal_one (no_plan e n) (no_busy_length e' p z s) = absurd (clash p n)
refusal_one (too_short e p s) (no_plan e' n) = absurd (clash p n)
refusal_one (too_short e p s) (too_short e' p' s') = e ∙ sym e'
refusal_one (too_short e p s) (no_busy_length e' p' z s') = absurd (clash z s)
refusal_one (no_busy_length e p z s) (no_plan e' n) = absurd (clash p n)
refusal_one (no_busy_length e p z s) (too_short e' p' s') = absurd (clash z s')
refusal_one (no_busy_length e p z s) (no_busy_length e' p' z' s') =
    e ∙ ap (λ (k : ℕ). NoBusyLength (suc k)) (stuck_one s s') ∙ sym e'

-- Where the rows have numbers, nothing is refused.
found_not_refused :
    {T : Table} {before after : RowLists} {answer : ℕ} {r : Refusal} → Numbering T before after (Ok answer) → Unnumbered T before r → ⊥
found_not_refused g (no_plan e n) = clash g.0 n
found_not_refused g (too_short e p s) = clash g.1 s
found_not_refused g (no_busy_length e p z s) = never_stuck g.2.analysis s

-- The lists and the answer are determined by the table and the lists lent.
pub numbering_one :
    (T : Table) (before after after' : RowLists) (r r' : Result ℕ Refusal)
    → Numbering T before after r → Numbering T before after' r' → (after ≡ after') × (r ≡ r')
numbering_one T before after after' (Ok x) (Ok y) a b =
    (a.2.lists ∙ rows_filled_same (analysis_one a.2.analysis b.2.analysis) before ∙ sym b.2.lists, ap Ok (a.2.says ∙ sym b.2.says))
numbering_one T before after after' (Ok x) (Err s) a b = absurd (found_not_refused a b.0)
numbering_one T before after after' (Err r) (Ok y) a b = absurd (found_not_refused b a.0)
numbering_one T before after after' (Err r) (Err s) a b = (a.1 ∙ sym b.1, ap Err (refusal_one a.0 b.0))
