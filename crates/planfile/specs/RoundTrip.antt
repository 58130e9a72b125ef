-- Reading and writing undo each other: a plan's file reads back to the plan, and a file that reads to a table is that
-- table's file.
use Rattle.std.specs.Prelude.{ℕ, ◌+◌, ◌≤◌, ◌≡◌, refl, true, List, take}
use Rattle.std.proofs.Math.Path.{sym, ap}
use Rattle.std.proofs.Common.{◌∙◌, append-nil, add-zero, arith}
use Rattle.std.proofs.Math.ListN.{length}
use Rattle.std.proofs.Math.Seq.{take-length}
use Rattle.table.specs.Keys.{no_key}
use Rattle.table.specs.Table.{Table, first_row, rows, is_plan}
use Rattle.planfile.specs.Draft.{Draft, blank}
use Rattle.planfile.specs.DraftLaws.{Shape, draft_of, due_there}
use Rattle.planfile.specs.File.{lines_from, lines_of, file_of}
use Rattle.planfile.specs.Reading.{table, held, most_bytes}
use Rattle.planfile.specs.Verdicts.{RightLines, Verdict}
use Rattle.planfile.specs.Verdicts.Verdict.{all_right}
use Rattle.planfile.specs.VerdictsLaws.{verdict, verdict_held}
use Rattle.planfile.specs.LinesLaws.{lines_shape, lines_count, lines_values, lines_text}
use Rattle.planfile.specs.PlanValues.{is_plan_when_right}
use Rattle.planfile.specs.FrontLaws.{PartOf, Front, part_whole}
use Rattle.planfile.specs.FileLaws.{file_gives, file_most, all_lines}
use Rattle.planfile.specs.NextLineLaws.{asked_part}
use Rattle.planfile.specs.Trimmed.{trimmed}
use Rattle.planfile.specs.TrimmedLaws.{full_trimmed, full_of, values_of, asked_all}

-- From a plan to its file and back.

front_is : (l m : List ℕ) (n : ℕ) → Front l m → length l ≡ n → l ≡ take n m
front_is l m n f e = sym f ∙ ap (λ (k : ℕ). take k m) e

-- A whole table that is a part of another is that one, trimmed.
module _ (T t : Table) (s : Shape (draft_of no_key t)) (p : PartOf T (draft_of no_key t)) where
  pub same_tasks : t.tasks ≡ T.tasks
  same_tasks = p.tasks (omega arith)

  pub same_rows : rows t ≡ rows T
  unfolding rows
  same_rows =
      let n : length t.steps ≡ T.tasks = (full_of t s).steps ∙ same_tasks in
      sym (asked_all t s) ∙ asked_part T (draft_of no_key t) p ∙ ap (λ (i : ℕ). first_row T i) n

  pub whole_part : t ≡ trimmed T
  unfolding trimmed
  whole_part = λ i. record {
    processors = p.processors (omega arith) i;
    tasks = same_tasks i;
    period = front_is _ _ _ p.period ((full_of t s).period ∙ same_tasks) i;
    deadline = front_is _ _ _ p.deadline ((full_of t s).deadline ∙ same_tasks) i;
    steps = front_is _ _ _ p.steps ((full_of t s).steps ∙ same_tasks) i;
    processor = front_is _ _ _ p.processor ((full_of t s).processor ∙ same_rows) i;
    priority = front_is _ _ _ p.priority ((full_of t s).priority ∙ same_rows) i;
    time = front_is _ _ _ p.time ((full_of t s).time ∙ same_rows) i;
  }

-- The file of a plan holds the plan.
pub reads_back : (T : Table) → is_plan T ≡ true → held (file_of T) ≡ table (trimmed T)
reads_back T plan =
    let g = file_gives T plan in
    verdict_held (file_of T) (all_right g.right refl)
    ∙ ap table (whole_part T g.table (lines_shape (file_of T) g.right) g.part)

-- From a file to its table and back.

-- A file that holds a table has right lines alone.
pub record Whole (file : List ℕ) (T : Table) : Type 0 where
  pub lines : ℕ
  pub right : RightLines file lines (length file) (draft_of no_key T)

whole_of : (file : List ℕ) (T : Table) → Verdict file (table T) → Whole file T
whole_of file T (all_right {k} {d} right e) = record {
  lines = k;
  right = due_there (RightLines file k (length file)) d no_key e right;
}

whole : (file : List ℕ) (T : Table) → held file ≡ table T → Whole file T
whole file T e = whole_of file T (rw e at (verdict file))

pub held_shape : (file : List ℕ) (T : Table) → held file ≡ table T → Shape (draft_of no_key T)
held_shape file T e = lines_shape file (whole file T e).right

-- It is the file of its table, which is a plan and nothing else.
pub read_is : (file : List ℕ) (T : Table) → held file ≡ table T → (is_plan T ≡ true) × (file ≡ file_of T) × (trimmed T ≡ T)
unfolding file_of lines_from
read_is file T e =
    let w = whole file T e in
    let d : Draft = record { key = no_key; table = T } in
    let s = lines_shape file w.right in
    let k : w.lines + 0 ≡ lines_of T =
    add-zero w.lines ∙ sym (lines_count file w.right) ∙ all_lines T T s (part_whole d) in (
      is_plan_when_right T (values_of T s (lines_values file w.right)),
      sym (take-length file) ∙ sym (append-nil (take (length file) file)) ∙ lines_text file T w.right (part_whole d) 0
          ∙ ap (λ (n : ℕ). lines_from n T blank) k,
      full_trimmed T (full_of T s),
    )

-- What follows.

-- Two files that hold the same table are equal.
pub one_file : (f g : List ℕ) (T : Table) → held f ≡ table T → held g ≡ table T → f ≡ g
one_file f g T a b = (read_is f T a).1 ∙ sym (read_is g T b).1

-- Two plans with the same file are the same.
pub one_plan : (S T : Table) → is_plan S ≡ true → is_plan T ≡ true → file_of S ≡ file_of T → trimmed S ≡ trimmed T
one_plan S T a b e =
    let same : table (trimmed S) ≡ table (trimmed T) = sym (reads_back S a) ∙ ap held e ∙ reads_back T b in
    cc

-- A file that holds a table has at most 8,192 bytes.
pub held_most : (file : List ℕ) (T : Table) → held file ≡ table T → length file ≤ most_bytes
held_most file T e = let w = read_is file T e in rw w.1 (file_most T w.0)

-- What a list holds past the table makes no difference to its file.
pub trimmed_file : (T : Table) → is_plan T ≡ true → file_of (trimmed T) ≡ file_of T
trimmed_file T plan = sym (read_is (file_of T) (trimmed T) (reads_back T plan)).1
