-- What right lines say of the draft that they give, and of the bytes that they take.
use Prim.Native.Nat.{ℕ, suc, ◌+◌}
use Rattle.std.specs.Prelude.{◌≡◌, length, drop}
use Rattle.std.proofs.Math.Path.{refl, ap}
use Rattle.std.proofs.Common.{sym, ◌∙◌, zero-add, take-add}
use mathlib.Core.List.{List, ◌++◌, append_assoc}
use native.Mathlib.Omega.{arith}
use Rattle.std.proofs.Math.ListN.{take}
use Rattle.std.proofs.Math.Seq.{take-append_seam}
use Rattle.table.specs.Table.{Table}
use Rattle.lines.specs.Words.{line_of}
use Rattle.planfile.specs.Draft.{Draft, blank, advanced}
use Rattle.planfile.specs.DraftLaws.{Shape, shape_blank, shape_next, lines_so_far, lines_next}
use Rattle.planfile.specs.DraftValues.{ValuesSoFar, values_blank, values_next}
use Rattle.planfile.specs.File.{lines_from}
use Rattle.planfile.specs.FrontLaws.{PartOf, part_before, part_value}
use Rattle.lines.specs.LineStands.{LineStands}
use Rattle.planfile.specs.Verdicts.{RightLines}
use Rattle.planfile.specs.Verdicts.RightLines.{none, more}

module _ (file : List ℕ) where
  -- The draft has its shape,
  pub lines_shape : {k place : ℕ} {d : Draft} → RightLines file k place d → Shape d
  lines_shape none = shape_blank
  lines_shape (more {d = d} value behind before line) =
      shape_next d value (lines_shape before) (record { range = line.within; rows = line.few })

  -- counts the lines,
  pub lines_count : {k place : ℕ} {d : Draft} → RightLines file k place d → lines_so_far d ≡ k
  unfolding lines_so_far blank
  lines_count none = refl
  lines_count (more {d = d} value behind before line) =
      lines_next d value (omega (arith, (lines_shape before).key_most, line.due)) ∙ ap suc (lines_count before)

  -- and has values in their ranges.
  pub lines_values : {k place : ℕ} {d : Draft} → RightLines file k place d → ValuesSoFar d
  lines_values none = values_blank
  lines_values (more {d = d} value behind before line) =
      values_next d value line.within (lines_shape before) (lines_values before)

  -- The file's front up to the end of a line.
  front_next :
      (place key value behind : ℕ) → LineStands file place key value behind → take behind file ≡ take place file ++ line_of key value
  front_next place key value behind s =
      ap (λ (n : ℕ). take n file) (sym s.ends) ∙ take-add place (length (line_of key value)) file
      ∙ ap (λ (t : List ℕ). take place file ++ take (length (line_of key value)) t) s.bytes
      ∙ ap (λ (t : List ℕ). take place file ++ t) (take-append_seam (line_of key value) (drop behind file))

  -- The bytes read so far, with the next m lines of a table that the draft is a part of, are that table's first lines.
  pub lines_text :
      (T : Table) {k place : ℕ} {d : Draft} → RightLines file k place d → PartOf T d → (m : ℕ)
      → take place file ++ lines_from m T d ≡ lines_from (k + m) T blank
  unfolding lines_from
  lines_text T none p m = ap (λ (n : ℕ). lines_from n T blank) (sym (zero-add m))
  lines_text T (more {k} {place} {d} value behind before line) p m =
      let v = part_value T d value p line.within in
      let n : k + suc m ≡ suc k + m = omega arith in
      ap (λ (t : List ℕ). t ++ lines_from m T (advanced d value)) (front_next place d.key value behind line.stands)
      ∙ append_assoc (take place file) (line_of d.key value) (lines_from m T (advanced d value))
      ∙ ap (λ (x : ℕ). take place file ++ (line_of d.key x ++ lines_from m T (advanced d x))) (sym v)
      ∙ lines_text T before (part_before T d value p) (suc m)
      ∙ ap (λ (j : ℕ). lines_from j T blank) n
