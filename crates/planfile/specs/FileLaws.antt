-- A plan's file: each of its lines is right, there are no others, and it has no more bytes than a file may have.
use Prim.Native.Nat.{ℕ, zero, suc, ◌+◌, ◌≤◌, ◌<◌}
use Rattle.std.specs.Prelude.{◌≡◌, refl, true, List, [], ◌++◌, length, drop}
use Rattle.std.proofs.Common.{sym, ◌∙◌, ap, subst, add-zero, zero-add, length-drop}
use native.Mathlib.Omega.{arith, by_contra, both_ways}
use Rattle.table.specs.Keys.{no_key}
use Rattle.table.specs.Table.{Table, first_row, rows, is_plan}
use Rattle.lines.specs.Words.{line_of}
use Rattle.planfile.specs.Draft.{Draft, own, advanced}
use Rattle.planfile.specs.DraftLaws.{Shape, own_most, lines_so_far, draft_of, where_due, due_there}
use Rattle.lines.specs.KeyLaws.{EachKey, by_key}
use Rattle.planfile.specs.File.{value_for, lines_from, lines_of, file_of}
use Rattle.planfile.specs.Reading.{most_bytes}
use Rattle.planfile.specs.Verdicts.{RightLine, RightLines}
use Rattle.planfile.specs.Verdicts.RightLines.{none, more}
use Rattle.planfile.specs.VerdictsLaws.{lines_within}
use Rattle.lines.specs.LineTextLaws.{written_stands, written_rest}
use Rattle.planfile.specs.LinesLaws.{lines_shape, lines_count}
use Rattle.planfile.specs.SizeLaws.{value_takes, lines_bytes, whole_bytes}
use Rattle.planfile.specs.PlanValues.{ValuesRight, values_right}
use Rattle.planfile.specs.FrontLaws.{PartOf, part_blank}
use Rattle.planfile.specs.NextLineLaws.{ahead, asked_part, value_fits, value_few, part_next}

-- Behind the last line there are as many lines as the table has,
pub all_lines :
    (T t : Table) → Shape (draft_of no_key t) → PartOf T (draft_of no_key t) → lines_so_far (draft_of no_key t) ≡ lines_of T
unfolding lines_so_far lines_of rows
all_lines T t s p =
    let n : length t.steps ≡ T.tasks = omega (arith, p.tasks (omega arith)) in
    omega (arith, asked_part T _ p, ap (λ (i : ℕ). first_row T i) n)

module _ (T : Table) (ok : ValuesRight T) where
  -- and before it fewer.
  abbrev Fewer : ℕ → Type 0
  Fewer key =
      key < no_key → (t : Table) → Shape (draft_of key t) → PartOf T (draft_of key t)
      → lines_so_far (draft_of key t) < lines_of T

  fewer : EachKey Fewer
  unfolding lines_so_far lines_of
  fewer = record {
    plan = λ h t s p. omega arith;
    processors = λ h t s p. omega arith;
    tasks = λ h t s p. omega arith;
    task = λ h t s p. omega (arith, ahead T ok _ s p (omega arith));
    period = λ h t s p. omega (arith, ahead T ok _ s p (omega arith));
    deadline = λ h t s p. omega (arith, ahead T ok _ s p (omega arith));
    steps = λ h t s p. omega (arith, ahead T ok _ s p (omega arith));
    processor = λ h t s p. omega (arith, ahead T ok _ s p (omega arith));
    priority = λ h t s p. omega (arith, ahead T ok _ s p (omega arith));
    time = λ h t s p. omega (arith, ahead T ok _ s p (omega arith));
    none = λ key l h. absurd (omega arith);
  }

  module _ (d : Draft) (s : Shape d) (p : PartOf T d) where
    pub lines_left : d.key < no_key → lines_so_far d < lines_of T
    lines_left h = by_key fewer d.key h d.table s p

    pub lines_all : d.key ≡ no_key → lines_so_far d ≡ lines_of T
    lines_all e =
        where_due (λ c. Shape c → PartOf T c → lines_so_far c ≡ lines_of T) d no_key e (all_lines T d.table) s p

    line_due : lines_so_far d < lines_of T → d.key < no_key
    line_due h = by_contra (suc d.key) no_key (λ b. omega (arith, lines_all (both_ways d.key no_key s.key_most (omega arith))))

    no_line_due : lines_so_far d ≡ lines_of T → d.key ≡ no_key
    no_line_due e = both_ways d.key no_key s.key_most (by_contra no_key d.key (λ b. omega (arith, lines_left b)))

-- All lines of the file are right, and give a table that is a part of this one.
pub record Gives (file : List ℕ) (T : Table) : Type 0 where
  pub lines : ℕ
  pub table : Table
  pub right : RightLines file lines (length file) (draft_of no_key table)
  pub part : PartOf T (draft_of no_key table)

module _ (T : Table) (ok : ValuesRight T) (file : List ℕ) where
  -- No line is left.
  last_line :
      {k place : ℕ} {d : Draft} → RightLines file k place d → PartOf T d → k ≡ lines_of T → drop place file ≡ [] → Gives file T
  last_line {k} {place} {d} right p e none_left =
      let done = no_line_due T ok d (lines_shape file right) p (lines_count file right ∙ e) in
      let w = lines_within file right in
      let end : place ≡ length file = omega (arith, ap length none_left, length-drop place file) in
      record {
        lines = k;
        table = d.table;
        right =
            subst (λ (n : ℕ). RightLines file k n (draft_of no_key d.table)) end
            (due_there (RightLines file k place) d no_key done right);
        part = due_there (PartOf T) d no_key done p;
      }

  -- The next line is right.
  next_line :
      {k place : ℕ} {d : Draft} (rest : List ℕ) → RightLines file k place d → PartOf T d → k < lines_of T
      → drop place file ≡ line_of d.key (value_for T d) ++ rest
      → RightLine file place d (value_for T d) (place + length (line_of d.key (value_for T d)))
  next_line {k} {place} {d} rest right p h e =
      let s = lines_shape file right in
      let due = line_due T ok d s p (omega (arith, lines_count file right)) in
      let within = value_fits T ok d s p due in
      let small = (value_takes d.key (own d) (value_for T d) (own_most d s) within).0 in
      record {
        due = λ q. omega arith;
        stands = written_stands file place d.key (value_for T d) rest small e;
        within = within;
        few = value_few T ok d s p;
      }

  -- From a draft that is a part of the table, the m lines that follow are right.
  next_lines :
      (m : ℕ) {k place : ℕ} {d : Draft} → RightLines file k place d → PartOf T d → k + m ≡ lines_of T
      → drop place file ≡ lines_from m T d → Gives file T
  unfolding lines_from
  next_lines zero {k} right p e there = last_line right p (sym (add-zero k) ∙ e) there
  next_lines (suc m) {k} {place} {d} right p e there =
      let rest = lines_from m T (advanced d (value_for T d)) in
      next_lines m (more (value_for T d) _ right (next_line rest right p (omega arith) there))
      (part_next T ok d (lines_shape file right) p) (omega arith) (written_rest file place d.key (value_for T d) rest there)

-- The file of a plan has right lines alone,
pub file_gives : (T : Table) → is_plan T ≡ true → Gives (file_of T) T
unfolding file_of
file_gives T plan =
    next_lines T (values_right T plan) (file_of T) (lines_of T) none (part_blank T) (zero-add (lines_of T)) refl

-- and at most 6,654 bytes,
pub file_bytes : (T : Table) → is_plan T ≡ true → length (file_of T) ≤ 6654
file_bytes T plan =
    let g = file_gives T plan in
    omega (arith, lines_bytes (file_of T) g.right, whole_bytes g.table (lines_shape (file_of T) g.right))

-- which is no more than a file may have.
pub file_most : (T : Table) → is_plan T ≡ true → length (file_of T) ≤ most_bytes
file_most T plan = omega (arith, file_bytes T plan)
