-- A file read into a table list.
use Rattle.std.specs.Prelude.{ℕ, min, ◌≤◌, ◌<◌, ◌≡◌, List, length, Err, Ok}
use Rattle.std.proofs.Common.{le-ltb, lt-ltb, sym, ◌∙◌, ap, subst, arith}
use Rattle.facts.specs.Sums.{sum}
use Rattle.words.specs.Words.{with_word, with_field}
use Rattle.table.specs.Table.{Table, at, first_row, rows}
use Rattle.table.specs.TableLaws.{Checked, checked}
use Rattle.table.specs.declared.refusal.Refusal.{Refusal}
use Rattle.table.specs.declared.refusal.Refusal.TheVariants.{TooShort}
use Rattle.planfile.specs.declared.read.Counts.{Counts}
use Rattle.planfile.specs.Reading.{Lists, ReadOutcome, read}
use Rattle.planfile.specs.Writing.{WriteOutcome}
use Rattle.planfile.specs.Answered.{table_in}
use Rattle.planfile.specs.ReadWriteLaws.{read_then_write, wrote}
use Rattle.rack.specs.declared.answer.RackAnswer.{RackAnswer}
use Rattle.rack.specs.Layouts.{table_bytes, with_table}
use Rattle.rack.specs.RackCalls.{TableOutcome, table_from, room_for, rack_table, refused_as}

-- The table that a reading leaves is a plan.
pub read_plan :
    (file : List ℕ) (l : Lists) (c : Counts) (o : ReadOutcome) → o ≡ read file l → o.answer ≡ Ok c → Checked (table_in c o.lists)
read_plan file l c o e f =
    let answer : (read file l).answer ≡ Ok c = sym (ap (λ (x : ReadOutcome). x.answer) e) ∙ f in
    let lists : (read file l).lists ≡ o.lists = sym (ap (λ (x : ReadOutcome). x.lists) e) in
    subst (λ (x : Lists). Checked (table_in c x)) lists
    (checked _
    (wrote (table_in c (read file l).lists) file (length file)
    (ap (λ (w : WriteOutcome). w.answer) (read_then_write file l c file answer (omega arith)))).plan)

-- The answer is the number of a table's rows, and the list has the table in it.
pub record TablePut (T : Table) (before : List ℕ) (answer : RackAnswer) (after : List ℕ) : Type 0 where
  pub answered : answer ≡ record { number = 0; value = rows T }
  pub list : after ≡ with_table T before

-- The words of a table written one field after another.
pub table_put :
    (T : Table) (n : ℕ) (l : List ℕ) {l₁ l₂ l₃ l₄ l₅ l₆ l₇ l₈ : List ℕ}
    → sum T.tasks (at T.steps) ≤ 128
    → n ≡ min (sum T.tasks (at T.steps)) 128
    → l₁ ≡ with_word l 0 T.processors
    → l₂ ≡ with_word l₁ 1 T.tasks
    → l₃ ≡ with_field l₂ 2 3 T.tasks T.period
    → l₄ ≡ with_field l₃ 3 3 T.tasks T.deadline
    → l₅ ≡ with_field l₄ 4 3 T.tasks T.steps
    → l₆ ≡ with_field l₅ 98 3 n T.processor
    → l₇ ≡ with_field l₆ 99 3 n T.priority
    → l₈ ≡ with_field l₇ 100 3 n T.time
    → TablePut T l (record { number = 0; value = n }) l₈
unfolding with_table rows first_row
table_put T n l few e a b c d f g h i = record { answered = rw all; list = rw (i, h, g, f, d, c, b, a, all) }
  where
    all : n ≡ sum T.tasks (at T.steps)
    all = omega arith

-- A list shorter than the layout, a file that was read, and one that was refused.
pub list_short : (file list : List ℕ) {a : RackAnswer} → length list < table_bytes → a ≡ refused_as (TooShort table_bytes)
    → ◌≡◌ {A = TableOutcome} (record { answer = a; table = list }) (rack_table file list)
unfolding rack_table
list_short file list h e = rw (lt-ltb (length list) table_bytes h, e)

module _ (file list : List ℕ) (h : table_bytes ≤ length list) (o : ReadOutcome) (e : o ≡ read file room_for) where
  rack_table_when_long : rack_table file list ≡ table_from o.answer o.lists list
  unfolding rack_table
  rack_table_when_long = rw (le-ltb (length list) table_bytes h, e)

  pub read_kept : (c : Counts) {a : RackAnswer} {written : List ℕ} → o.answer ≡ Ok c → TablePut (table_in c o.lists) list a written
      → ◌≡◌ {A = TableOutcome} (record { answer = a; table = written }) (rack_table file list)
  unfolding table_from
  read_kept c f p = rw (rack_table_when_long, f, p.answered, p.list)

  pub refusal_kept : (r : Refusal) {a : RackAnswer} → o.answer ≡ Err r → a ≡ refused_as r
      → ◌≡◌ {A = TableOutcome} (record { answer = a; table = list }) (rack_table file list)
  unfolding table_from
  refusal_kept r f g = rw (rack_table_when_long, f, g)
