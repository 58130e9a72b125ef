-- Reading a file gives its verdict, and no other.
use Prim.Native.Nat.{ℕ, zero, suc, ◌+◌, ◌-◌, ◌≤◌, ◌<◌}
use Rattle.std.specs.Prelude.{◌≡◌, refl, ◌↔◌, Bool, true, false, List, eqb, Some, None}
use Rattle.std.proofs.Common.{sym, ◌∙◌, zero-add}
use Rattle.std.proofs.Math.Path.{ap}
use native.Mathlib.Omega.{arith}
use borrow.Author.Tests.{eq-eqb, ne_eqb, eqb-true, eqb-false}
use Rattle.std.proofs.Math.ListN.{length}
use Rattle.table.specs.Keys.{no_key}
use Rattle.table.specs.Ranges.{in_range}
use Rattle.table.specs.declared.refusal.Refusal.TheVariants.{NotTheLineDue, OutOfRange, TooManyRows}
use Rattle.planfile.specs.Draft.{Draft, blank, own, advanced}
use Rattle.lines.specs.Line.{Line, line_at}
use Rattle.planfile.specs.Reading.{Held, table, refusal, too_many, judged, held_from, held}
use Rattle.lines.specs.LineTextLaws.{line_read, line_found, stands_within, fault_of, fault_none}
use Rattle.lines.specs.LineStands.{LineStands}
use Rattle.planfile.specs.Verdicts.{RightLine, RightLines, Verdict}
use Rattle.planfile.specs.Verdicts.RightLines.{none, more}
use Rattle.planfile.specs.Verdicts.Verdict.{all_right, not_due, bytes_follow, out_of_range, too_many_rows}

module _ (file : List ℕ) where
  -- Each line has a byte, and all lie within the file.
  pub lines_within : {k place : ℕ} {d : Draft} → RightLines file k place d → (k ≤ place) × (place ≤ length file)
  lines_within none = (omega arith, omega arith)
  lines_within (more value behind before line) =
      let w = stands_within file _ _ value behind line.stands in
      let v = lines_within before in
      (omega arith, w.1)

  -- One step of reading, by what stands there.

  module _ (most number place : ℕ) (d : Draft) where
    pub held_end : d.key ≡ no_key → place ≡ length file → held_from (suc most) file place number d ≡ table d.table
    unfolding held_from
    held_end e h = rw (eq-eqb _ _ e, eq-eqb _ _ h)

    held_follow :
        d.key ≡ no_key → (place ≡ length file → ⊥) → held_from (suc most) file place number d ≡ refusal (NotTheLineDue number)
    unfolding held_from
    held_follow e h = rw (eq-eqb _ _ e, ne_eqb _ _ h)

    module _ (due : d.key ≡ no_key → ⊥) where
      held_line :
          held_from (suc most) file place number d
          ≡ judged number d (line_at file place d.key) (λ behind e. held_from most file behind (number + 1) e)
      unfolding held_from
      held_line = rw (ne_eqb _ _ due)

      held_fault : line_at file place d.key ≡ None → held_from (suc most) file place number d ≡ refusal (NotTheLineDue number)
      unfolding judged
      held_fault e = held_line ∙ rw e

      module _ (value behind : ℕ) (stands : LineStands file place d.key value behind) where
        held_outside :
            in_range d.key (own d) value ≡ false → held_from (suc most) file place number d ≡ refusal (OutOfRange number)
        unfolding judged
        held_outside r = held_line ∙ rw (line_read file place d.key value behind stands, r)

        held_over :
            in_range d.key (own d) value ≡ true → too_many d value ≡ true
            → held_from (suc most) file place number d ≡ refusal (TooManyRows number)
        unfolding judged
        held_over r t = held_line ∙ rw (line_read file place d.key value behind stands, r, t)

        held_more :
            in_range d.key (own d) value ≡ true → too_many d value ≡ false
            → held_from (suc most) file place number d ≡ held_from most file behind (number + 1) (advanced d value)
        unfolding judged
        held_more r t = held_line ∙ rw (line_read file place d.key value behind stands, r, t)

  -- Behind k right lines reading goes on with the next.
  held_lines :
      {k place : ℕ} {d : Draft} → RightLines file k place d → (most : ℕ)
      → held_from (k + most) file 0 1 blank ≡ held_from most file place (suc k) d
  held_lines none most = ap (λ (n : ℕ). held_from n file 0 1 blank) (zero-add most)
  held_lines (more {k} {place} {d} value behind before line) most =
      let n : suc k + most ≡ k + suc most = omega arith in
      let m : suc k + 1 ≡ suc (suc k) = omega arith in
      ap (λ (j : ℕ). held_from j file 0 1 blank) n ∙ held_lines before (suc most)
      ∙ held_more most (suc k) place d line.due value behind line.stands line.within line.few
      ∙ ap (λ (j : ℕ). held_from most file behind j (advanced d value)) m

  held_from_line :
      {k place : ℕ} {d : Draft} → RightLines file k place d
      → held file ≡ held_from (suc (length file - k)) file place (suc k) d
  unfolding held
  held_from_line {k} right =
      let w = lines_within right in
      let n : length file + 1 ≡ k + suc (length file - k) = omega arith in
      ap (λ (j : ℕ). held_from j file 0 1 blank) n ∙ held_lines right (suc (length file - k))

  -- A file's verdict is what it holds,
  pub verdict_held : {h : Held} → Verdict file h → held file ≡ h
  verdict_held (all_right right e) = held_from_line right ∙ held_end _ _ _ _ e refl
  verdict_held (not_due right due nothing) = held_from_line right ∙ held_fault _ _ _ _ due (fault_of file _ _ nothing)
  verdict_held (bytes_follow right e h) = held_from_line right ∙ held_follow _ _ _ _ e h
  verdict_held (out_of_range value behind right due stands r) = held_from_line right ∙ held_outside _ _ _ _ due value behind stands r
  verdict_held (too_many_rows value behind right due stands r t) =
      held_from_line right ∙ held_over _ _ _ _ due value behind stands r t

  -- One line more of a file is judged, where the judgement of what follows it is known.
  verdict_line :
      (most k place : ℕ) (d : Draft) → RightLines file k place d → (d.key ≡ no_key → ⊥)
      → ((v behind : ℕ) → RightLine file place d v behind → Verdict file (held_from most file behind (suc (suc k)) (advanced d v)))
      → Verdict file (held_from (suc most) file place (suc k) d)
  verdict_line most k place d right due onward = go (line_at file place d.key) refl
    where
      Judged : Type 0
      Judged = Verdict file (held_from (suc most) file place (suc k) d)

      n : suc k + 1 ≡ suc (suc k)
      n = omega arith

      judged_in_range :
          (v behind : ℕ) → LineStands file place d.key v behind → in_range d.key (own d) v ≡ true
          → (t : Bool) → too_many d v ≡ t → Judged
      judged_in_range v behind s r true t =
          rw (held_over most (suc k) place d due v behind s r t) (too_many_rows v behind right due s r t)
      judged_in_range v behind s r false t =
          rw (held_more most (suc k) place d due v behind s r t, n)
          (onward v behind (record { due = due; stands = s; within = r; few = t }))

      there : (v behind : ℕ) → LineStands file place d.key v behind → (r : Bool) → in_range d.key (own d) v ≡ r → Judged
      there v behind s true r = judged_in_range v behind s r (too_many d v) refl
      there v behind s false r = rw (held_outside most (suc k) place d due v behind s r) (out_of_range v behind right due s r)

      go : (l : Line) → line_at file place d.key ≡ l → Judged
      go None e = rw (held_fault most (suc k) place d due e) (not_due right due (fault_none file place d.key e))
      go (Some (v, behind)) e = there v behind (line_found file place d.key v behind e) (in_range d.key (own d) v) refl

  verdict_from :
      (most k place : ℕ) (d : Draft) → RightLines file k place d → length file < k + most
      → Verdict file (held_from most file place (suc k) d)
  verdict_from zero k place d right h = absurd (omega (arith, lines_within right))
  verdict_from (suc most) k place d right h = go (eqb d.key no_key) refl (eqb place (length file)) refl (verdict_from most)
    where
      go :
          (t : Bool) → eqb d.key no_key ≡ t → (u : Bool) → eqb place (length file) ≡ u
          → ((k place : ℕ) (d : Draft) → RightLines file k place d → length file < k + most
          → Verdict file (held_from most file place (suc k) d))
          → Verdict file (held_from (suc most) file place (suc k) d)
      go true t true u ih =
          rw (held_end most (suc k) place d (eqb-true _ _ t) (eqb-true _ _ u))
          (all_right (rw (eqb-true place (length file) u) at right) (eqb-true _ _ t))
      go true t false u ih =
          rw (held_follow most (suc k) place d (eqb-true _ _ t) (eqb-false _ _ u))
          (bytes_follow right (eqb-true _ _ t) (eqb-false _ _ u))
      go false t u e ih =
          verdict_line most k place d right (eqb-false _ _ t)
          (λ v behind line. ih (suc k) behind (advanced d v) (more v behind right line) (omega arith))

  -- and each file has one.
  pub verdict : Verdict file (held file)
  unfolding held
  verdict = verdict_from (length file + 1) 0 0 blank none (omega arith)

-- So a file holds what its verdict says, exactly.
pub held_exactly : (file : List ℕ) (h : Held) → (held file ≡ h) ↔ Verdict file h
held_exactly file h = (λ e. rw e at (verdict file), λ v. verdict_held file v)

-- No file has two verdicts.
pub one_verdict : (file : List ℕ) (g h : Held) → Verdict file g → Verdict file h → g ≡ h
one_verdict file g h a b = sym (verdict_held file a) ∙ verdict_held file b
