-- A file that was read into a table list: the list holds its plan.
use Rattle.std.specs.Prelude.{ℕ, ◌≡◌, List, length, drop, Err, Ok, Result}
use Rattle.std.proofs.Math.Path.{refl, sym, ap}
use Rattle.std.proofs.Common.{◌∙◌, subst, arith, le-ltb, eq-eqb}
use Rattle.std.proofs.Math.ListN.{get_or-append}
use Rattle.facts.specs.TestsLaws.{clash}
use Rattle.facts.specs.Filled.{filled, laid}
use Rattle.facts.specs.FilledLaws.{filled_ext, laid_filled}
use Rattle.table.specs.declared.refusal.Refusal.{Refusal}
use Rattle.table.specs.Table.{Table, at, rows, is_plan}
use Rattle.table.specs.TableLaws.{Checked}
use Rattle.table.specs.Refusals.{number_of}
use Rattle.planfile.specs.declared.read.Counts.{Counts}
use Rattle.table.specs.Keys.{no_key}
use Rattle.planfile.specs.DraftLaws.{Shape, draft_of}
use Rattle.planfile.specs.Reading.{Lists, laid_over, read}
use Rattle.planfile.specs.Writing.{WriteOutcome, write}
use Rattle.planfile.specs.Answered as planfile
use Rattle.planfile.specs.RoundTrip.{held_shape, same_rows}
use Rattle.planfile.specs.LongerLaws.{laid_part}
use Rattle.planfile.specs.TrimmedLaws.{Full, full_of}
use Rattle.planfile.specs.ReadWriteLaws.{Success, success, wrote, read_then_write}
use Rattle.rack.specs.Layouts.{table_bytes, table_in, with_table}
use Rattle.rack.specs.RackCalls.{TableOutcome, refused_as, table_from, room_for, rack_table}
use Rattle.rack.specs.TableLaws.{read_plan}
use Rattle.boundary.specs.FromFile.{list_read, PlanHeld}
use Rattle.boundary.specs.StateHeld.{zeros}
use Rattle.boundary.proofs.CallsHeld.{refusal_number}
use Rattle.boundary.specs.TableRead.{task_zeros, length_with_table, table_held}

-- A list laid over another is filled with its own entries.
laid_own : (new l : List ℕ) (n : ℕ) → length new ≡ n → filled (at (laid new l)) n l ≡ laid new l
laid_own new l n e =
    filled_ext (at (laid new l)) (at new) n l (λ i lt. get_or-append new (drop (length new) l) 0 i (omega arith))
    ∙ rw (sym e) (sym (laid_filled new l 0))

-- A full table laid over lists of zeros, written to a table list, is read from it.
laid_held :
    (T : Table) → Full T → (l : List ℕ) → length l ≡ table_bytes
    → let S = planfile.table_in (record { processors = T.processors; tasks = T.tasks }) (laid_over T room_for) in
    Checked S → rows S ≡ rows T → table_in (with_table S l) ≡ S
unfolding laid_over
laid_held T full l size ok e =
    table_held (planfile.table_in (record { processors = T.processors; tasks = T.tasks }) (laid_over T room_for)) ok l size
    ∙ rw (e, laid_own T.period task_zeros T.tasks full.period, laid_own T.deadline task_zeros T.tasks full.deadline, laid_own T.steps task_zeros T.tasks full.steps, laid_own T.processor zeros (rows T) full.processor, laid_own T.priority zeros (rows T) full.priority, laid_own T.time zeros (rows T) full.time)

module _ (file list : List ℕ) (size : length list ≡ table_bytes) where
  -- The list is long enough, so the outcome is the reader's.
  rack_table_from_read : rack_table file list ≡ table_from (read file room_for).answer (read file room_for).lists list
  unfolding rack_table
  rack_table_from_read = rw (le-ltb (length list) table_bytes (omega arith))

  module _ (c : Counts) (e : (read file room_for).answer ≡ Ok c) where
    -- The table that the reader answers.
    abbrev S : Table
    S = planfile.table_in c (read file room_for).lists

    ok : Checked S
    ok = read_plan file room_for c (read file room_for) refl e

    outcome : rack_table file list ≡ record { answer = record { number = 0; value = rows S }; table = with_table S list }
    unfolding table_from
    outcome = rack_table_from_read ∙ ap (λ (a : Result Counts Refusal). table_from a (read file room_for).lists list) e

    read_back : table_in (with_table S list) ≡ S
    read_back =
        subst (λ (m : Lists). Checked (planfile.table_in c m) → table_in (with_table (planfile.table_in c m) list) ≡ planfile.table_in c m) (sym done.lists)
        (subst (λ (n : Counts). Checked (planfile.table_in n (laid_over T room_for)) → table_in (with_table (planfile.table_in n (laid_over T room_for)) list) ≡ planfile.table_in n (laid_over T room_for)) (sym done.counts)
        (λ right. laid_held T (full_of T shape) list size right (sym (same_rows _ T shape (laid_part T room_for)))))
        ok
      where
        done : Success file room_for c
        done = success file room_for c e

        T : Table
        T = done.table

        shape : Shape (draft_of no_key T)
        shape = held_shape file T done.holds

    pub list_holds : table_in (list_read file list) ≡ planfile.table_in c (read file room_for).lists
    list_holds = ap (λ (o : TableOutcome). table_in o.table) outcome ∙ read_back

    pub plan_held : PlanHeld file list
    plan_held = record {
      counts = c;
      reads = e;
      holds = list_holds;
      size = ap (λ (o : TableOutcome). length o.table) outcome ∙ length_with_table S ok list size;
      plan = ap is_plan list_holds ∙ (wrote S file (length file) (ap (λ (w : WriteOutcome). w.answer) (read_then_write file room_for c file e (omega arith)))).plan;
      answered = ap (λ (o : TableOutcome). o.answer.value) outcome ∙ ap rows (sym list_holds);
      written = λ out room. ap (λ (x : Table). write x out) list_holds ∙ read_then_write file room_for c out e room;
    }

  -- Where reading a file into a table list is answered with number 0, the list holds the plan of the file.
  pub rack_table_held : (rack_table file list).answer.number ≡ 0 → PlanHeld file list
  unfolding table_from refused_as
  rack_table_held answered = go (read file room_for).answer refl
    where
      go : (a : Result Counts Refusal) → (read file room_for).answer ≡ a → PlanHeld file list
      go (Ok c) e = plan_held c e
      go (Err refusal) e =
          let number : number_of refusal ≡ 0 =
          sym (ap (λ (o : TableOutcome). o.answer.number) (rack_table_from_read ∙ ap (λ (a : Result Counts Refusal). table_from a (read file room_for).lists list) e)) ∙ answered in
          absurd (clash (eq-eqb _ _ number) (refusal_number refusal))
