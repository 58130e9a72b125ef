-- Laws of judging the line due.
use Rattle.std.specs.Prelude.{ℕ, ◌≡◌, refl, Bool, true, false, cond, not, Some, None, Ok, Err}
use Rattle.std.proofs.Common.{◌∙◌, ap, arith}
use Rattle.table.specs.Ranges.{in_range}
use Rattle.table.specs.declared.refusal.Refusal.TheVariants.{NotTheLineDue, OutOfRange, TooManyRows}
use Rattle.planfile.specs.declared.due.Due.{Due}
use Rattle.lines.specs.Line.{Line}
use Rattle.planfile.specs.Draft.{Draft, own, advanced}
use Rattle.planfile.specs.DraftLaws.{Accepted}
use Rattle.planfile.specs.Due.{due_of, own_number}
use Rattle.planfile.specs.Reading.{Held, refusal, too_many, judged}
use Rattle.planfile.specs.Reader.{Judged, asks_too_many, judgement}

-- What a judgement makes of the rest: a refusal, or reading goes on behind the line.
abbrev pub carried : Judged → Draft → (ℕ → Draft → Held) → Held
carried (Err r) d onward = refusal r
carried (Ok (v, behind)) d onward = onward behind (advanced d v)

carried_if :
    (b : Bool) (x y : Judged) (d : Draft) (onward : ℕ → Draft → Held)
    → cond b (carried x d onward) (carried y d onward) ≡ carried (cond b x y) d onward
carried_if true x y d onward = refl
carried_if false x y d onward = refl

pub judged_carried :
    (number : ℕ) (d : Draft) (line : Line) (onward : ℕ → Draft → Held)
    → judged number d line onward ≡ carried (judgement number (due_of d) line) d onward
unfolding judged judgement due_of own_number own too_many asks_too_many
judged_carried number d None onward = refl
judged_carried number d (Some (v, behind)) onward =
    let u = due_of d in
    let rest = cond (asks_too_many u v) (Err (TooManyRows number)) (Ok (v, behind)) in
    ap (λ (h : Held). cond (not (in_range u.key (own_number u) v)) (refusal (OutOfRange number)) h)
    (carried_if (asks_too_many u v) (Err (TooManyRows number)) (Ok (v, behind)) d onward)
    ∙ carried_if (not (in_range u.key (own_number u) v)) (Err (OutOfRange number)) rest d onward

-- A judgement, case by case.
module _ (number : ℕ) (u : Due) {line : Line} where
  pub judge_fault : line ≡ None → judgement number u line ≡ Err (NotTheLineDue number)
  unfolding judgement
  judge_fault e = rw e

  pub judge_range :
      {v behind : ℕ} → line ≡ Some (v, behind) → in_range u.key (own_number u) v ≡ false
      → judgement number u line ≡ Err (OutOfRange number)
  unfolding judgement
  judge_range e r = rw (e, r)

  pub judge_rows :
      {v behind : ℕ} → line ≡ Some (v, behind) → in_range u.key (own_number u) v ≡ true → asks_too_many u v ≡ true
      → judgement number u line ≡ Err (TooManyRows number)
  unfolding judgement
  judge_rows e r t = rw (e, r, t)

  pub judge_right :
      {v behind : ℕ} → line ≡ Some (v, behind) → in_range u.key (own_number u) v ≡ true → asks_too_many u v ≡ false
      → judgement number u line ≡ Ok (v, behind)
  unfolding judgement
  judge_right e r t = rw (e, r, t)

-- A line that is right: its form, its range and the rows that it asks for.
pub record LineRight (u : Due) (line : Line) (v behind : ℕ) : Type 0 where
  pub line_is : line ≡ Some (v, behind)
  pub range : in_range u.key (own_number u) v ≡ true
  pub rows : asks_too_many u v ≡ false

pub line_right : (number : ℕ) (u : Due) (line : Line) (v behind : ℕ) → judgement number u line ≡ Ok (v, behind) → LineRight u line v behind
unfolding judgement
line_right number u None v behind e = let z : ◌≡◌ {A = ℕ} 0 1 = cc in absurd (omega arith)
line_right number u (Some (w, b)) v behind e = go (in_range u.key (own_number u) w) refl (asks_too_many u w) refl e
  where
    go :
        (r : Bool) → in_range u.key (own_number u) w ≡ r → (t : Bool) → asks_too_many u w ≡ t
        → cond {A = Judged} (not r) (Err (OutOfRange number)) (cond t (Err (TooManyRows number)) (Ok (w, b))) ≡ Ok (v, behind)
        → LineRight u (Some (w, b)) v behind
    go false p t q e = let z : ◌≡◌ {A = ℕ} 0 1 = cc in absurd (omega arith)
    go true p true q e = let z : ◌≡◌ {A = ℕ} 0 1 = cc in absurd (omega arith)
    go true p false q e =
        let value : Judged → ℕ = elim [ Ok x ↦ x.0 | Err r ↦ 0 ] in
        let end : Judged → ℕ = elim [ Ok x ↦ x.1 | Err r ↦ 0 ] in
        let same : w ≡ v = ap value e in
        let there : b ≡ behind = ap end e in
        rw (← same, ← there) (record { line_is = refl; range = p; rows = q })

-- A line that is right is accepted behind the draft.
pub line_accepted : {d : Draft} {u : Due} {line : Line} {v behind : ℕ} → u ≡ due_of d → LineRight u line v behind → Accepted d v
unfolding due_of own_number asks_too_many too_many own
line_accepted e r = record { range = rw e at r.range; rows = rw e at r.rows }
