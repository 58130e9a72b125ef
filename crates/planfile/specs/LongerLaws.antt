-- A table in longer lists is the same plan, with the same file.
use Rattle.std.specs.Prelude.{ℕ, ◌≤◌, ◌≡◌, refl, true, List, length}
use Rattle.std.proofs.Common.{sym, ◌∙◌, ap, subst, arith, length-take}
use Rattle.std.proofs.Math.Seq.{take-append_seam}
use Rattle.table.specs.Keys.{processors_key, tasks_key, processor_key, no_key}
use Rattle.table.specs.Ranges.{in_range}
use Rattle.table.specs.Table.{Table, rows, is_plan}
use Rattle.planfile.specs.DraftLaws.{Shape, draft_of}
use Rattle.planfile.specs.File.{file_of}
use Rattle.planfile.specs.Reading.{Lists, laid_over}
use Rattle.planfile.specs.Answered.{table_in}
use Rattle.planfile.specs.PlanValues.{InRange, values_right, is_plan_when_right}
use Rattle.planfile.specs.FrontLaws.{PartOf, Front}
use Rattle.planfile.specs.NextLineLaws.{front_at}
use Rattle.planfile.specs.RoundTrip.{same_tasks, same_rows, whole_part, trimmed_file}
use Rattle.planfile.specs.TrimmedLaws.{Full, full_of}

front_long : (l m : List ℕ) → Front l m → length l ≤ length m
front_long l m f = omega (arith, ap length f, length-take (length l) m)

-- What holds of a front holds of as many entries of the list.
in_front : (l m : List ℕ) (n k key own : ℕ) → Front l m → k ≡ n → length l ≡ n → InRange n key own l → InRange k key own m
in_front l m n k key own f e long r i h =
    subst (λ (x : ℕ). in_range key own x ≡ true) (front_at l m f i (omega arith)) (r i (omega arith))

module _ (S T : Table) (s : Shape (draft_of no_key T)) (p : PartOf S (draft_of no_key T)) where
  full : Full T
  full = full_of T s

  tasks_are : S.tasks ≡ T.tasks
  tasks_are = sym (same_tasks S T s p)

  rows_are : rows S ≡ rows T
  rows_are = sym (same_rows S T s p)

  processors_are : T.processors ≡ S.processors
  processors_are = p.processors (omega arith)

  pub longer_plan : is_plan T ≡ true → is_plan S ≡ true
  longer_plan plan =
      let v = values_right T plan in
      is_plan_when_right S (record {
        processors = subst (λ (n : ℕ). in_range processors_key 0 n ≡ true) processors_are v.processors;
        tasks = subst (λ (n : ℕ). in_range tasks_key 0 n ≡ true) (sym tasks_are) v.tasks;
        task_lists =
            omega (arith, full, tasks_are, front_long _ _ p.period, front_long _ _ p.deadline, front_long _ _ p.steps);
        period = in_front _ _ _ _ _ _ p.period tasks_are full.period v.period;
        deadline = in_front _ _ _ _ _ _ p.deadline tasks_are full.deadline v.deadline;
        steps = in_front _ _ _ _ _ _ p.steps tasks_are full.steps v.steps;
        few = omega (arith, rows_are, v.few);
        row_lists =
            omega (arith, full, rows_are, front_long _ _ p.processor, front_long _ _ p.priority, front_long _ _ p.time);
        processor =
            subst (λ (n : ℕ). InRange (rows S) processor_key n S.processor) processors_are
            (in_front _ _ _ _ _ _ p.processor rows_are full.processor v.processor);
        priority = in_front _ _ _ _ _ _ p.priority rows_are full.priority v.priority;
        time = in_front _ _ _ _ _ _ p.time rows_are full.time v.time;
      })

  pub longer_file : is_plan T ≡ true → file_of S ≡ file_of T
  longer_file plan = sym (trimmed_file S (longer_plan plan)) ∙ ap file_of (sym (whole_part S T s p))

-- A table laid over lists is a part of what they then make.
pub laid_part :
    (T : Table) (l : Lists)
    → PartOf (table_in (record { processors = T.processors; tasks = T.tasks }) (laid_over T l)) (draft_of no_key T)
unfolding laid_over
laid_part T l = record {
  processors = λ h. refl;
  tasks = λ h. refl;
  period = take-append_seam T.period _;
  deadline = take-append_seam T.deadline _;
  steps = take-append_seam T.steps _;
  processor = take-append_seam T.processor _;
  priority = take-append_seam T.priority _;
  time = take-append_seam T.time _;
}
