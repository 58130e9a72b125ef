-- From a plan's file to the runs on byte lists: a file that holds a plan is read into a table list, and runs with that list
-- keep the bounds of every plan that is no easier.
use Rattle.std.specs.Prelude.{ℕ, pred, ◌≡◌, List, length, Ok}
use Rattle.std.proofs.Math.Path.{sym, ap}
use Rattle.std.proofs.Common.{◌∙◌, subst, arith}
use Rattle.std.proofs.lemmas.List.{length-replicate}
use Rattle.table.specs.Table.{Table, at, rows}
use Rattle.table.specs.Plan.{cost, in_force}
use Rattle.planfile.specs.declared.read.Counts.{Counts}
use Rattle.table.specs.Keys.{no_key}
use Rattle.planfile.specs.DraftLaws.{draft_of}
use Rattle.planfile.specs.FrontLaws.{PartOf}
use Rattle.planfile.specs.NextLineLaws.{front_at}
use Rattle.planfile.specs.Reading.{Held, held, ReadOutcome, laid_over, read_of, read}
use Rattle.planfile.specs.Answered as planfile
use Rattle.planfile.specs.RoundTrip.{held_shape, held_most}
use Rattle.planfile.specs.LongerLaws.{laid_part}
use Rattle.planfile.specs.TrimmedLaws.{Full, full_of}
use Rattle.planfile.specs.ReadWriteLaws.{Roomy, read_held}
use Rattle.bounds.specs.Bounds as bounds
use Rattle.bounds.specs.Bounds.{Bounding}
use Rattle.bounds.specs.NoHarder.{NoHarder}
use Rattle.bounds.specs.NoHarderLaws.{same_rows}
use Rattle.rack.specs.Layouts.{table_bytes, table_in}
use Rattle.rack.specs.RackCalls.{room_for}
use Rattle.boundary.specs.OnBytes.{RackEndsWithin}
use Rattle.boundary.specs.FromFile.{list_read, PlanHeld}
use Rattle.boundary.proofs.TableHeld.{list_holds, plan_held}
use Rattle.boundary.proofs.Theorem.{rack_promise}

-- A table that begins as T does is no harder than what T is no harder than.
module _ {P T S : Table} (h : NoHarder P T) (full : Full T) (part : PartOf S (draft_of no_key T)) where
  rows_are : rows T ≡ rows P
  rows_are = same_rows h

  begun : NoHarder P S
  unfolding cost in_force
  begun = record {
    tasks = sym (part.tasks (omega arith)) ∙ h.tasks;
    steps = λ i l. sym (front_at T.steps S.steps part.steps i (omega (arith, h.tasks, full.steps))) ∙ h.steps i l;
    processor = λ r l. sym (front_at T.processor S.processor part.processor r (omega (arith, rows_are, full.processor))) ∙ h.processor r l;
    priority = λ r l. sym (front_at T.priority S.priority part.priority r (omega (arith, rows_are, full.priority))) ∙ h.priority r l;
    cost = λ r l. rw (sym (front_at T.time S.time part.time r (omega (arith, rows_are, full.time)))) (h.cost r l);
    period = λ i l. rw (sym (front_at T.period S.period part.period i (omega (arith, h.tasks, full.period)))) (h.period i l);
    deadline = λ i l. rw (sym (front_at T.deadline S.deadline part.deadline i (omega (arith, h.tasks, full.deadline))), sym (front_at T.period S.period part.period i (omega (arith, h.tasks, full.period)))) (h.deadline i l);
  }

module _ (file list : List ℕ) (size : length list ≡ table_bytes) (T : Table) (holds : held file ≡ Held.table T) where
  counts : Counts
  counts = record { processors = T.processors; tasks = T.tasks }

  roomy : Roomy room_for
  roomy = record {
    rows = omega (arith, length-replicate {A = ℕ} 128 0);
    tasks = omega (arith, length-replicate {A = ℕ} 32 0);
  }

  -- The file is read,
  reading : read file room_for ≡ record { answer = Ok counts; lists = laid_over T room_for }
  unfolding read_of counts
  reading = read_held file room_for roomy (held_most file T holds) ∙ ap (λ (x : Held). read_of x room_for) holds

  answer_is : (read file room_for).answer ≡ Ok counts
  answer_is = ap (λ (o : ReadOutcome). o.answer) reading

  -- so the table list holds its plan.
  pub file_held : PlanHeld file list
  file_held = plan_held file list size counts answer_is

  -- It is the file's table, laid over lists of zeros.
  pub table_laid :
      table_in (list_read file list)
      ≡ planfile.table_in (record { processors = T.processors; tasks = T.tasks }) (laid_over T room_for)
  unfolding counts
  table_laid =
      list_holds file list size counts answer_is ∙ ap (λ (o : ReadOutcome). planfile.table_in counts o.lists) reading

  no_harder_held : (P : Table) → NoHarder P T → NoHarder P (table_in (list_read file list))
  no_harder_held P h =
      subst (λ (S : Table). NoHarder P S) (sym table_laid)
      (begun h (full_of T (held_shape file T holds)) (laid_part T room_for))

  -- A file holds a plan that is no harder than table P, whose bounds are given: runs on byte lists with the table list that
  -- the file is read into keep them.
  pub file_promise :
      (P : Table) → NoHarder P T → (before after : bounds.Lists) (answer : ℕ) → Bounding P before after (Ok answer)
      → (task : ℕ) → RackEndsWithin (list_read file list) task (at after.chain (pred task))
  file_promise P easier before after answer bounding =
      rack_promise P (list_read file list) file_held.size file_held.plan (no_harder_held P easier) before after answer bounding
