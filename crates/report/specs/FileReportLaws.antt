-- Reporting a file: the outcome is determined by the file and the output, and what the reader leaves is reported as the
-- table that the file holds.
use Rattle.std.specs.Prelude.{ℕ, ◌≤◌, ◌<◌, ◌≡◌, refl, List, length, drop, Err, Ok}
use Rattle.std.proofs.Common.{sym, ◌∙◌, ap, subst, arith, lt-ltb, le-ltb}
use Rattle.std.proofs.Math.Decide.{dec_lt}
use Rattle.std.proofs.Math.ListN.{get_or-append}
use Rattle.facts.specs.Filled.{laid}
use Rattle.table.specs.declared.refusal.Refusal.{Refusal}
use Rattle.table.specs.Table.{Table, at}
use Rattle.table.specs.TableLaws.{long_true}
use Rattle.planfile.specs.declared.read.Counts.{Counts}
use Rattle.planfile.specs.Reading as reader
use Rattle.planfile.specs.Reading.{Held, table, refusal, held, most_bytes, Lists, ReadOutcome, laid_over, read_of}
use Rattle.planfile.specs.Answered.{table_in}
use Rattle.planfile.specs.ReadWriteLaws.{Roomy}
use Rattle.planfile.specs.TrimmedLaws.{Full, full_of}
use Rattle.planfile.specs.LongerLaws.{longer_plan, laid_part}
use Rattle.planfile.specs.RoundTrip.{held_shape, read_is}
use Rattle.report.specs.Reporting.{ReportOutcome, refused, Reported, FileReported, too_long, unread, read}
use Rattle.report.specs.AnswersLaws.{value_same, refusal_same, differ}
use Rattle.report.specs.ReportingLaws.{reporting_one}
use Rattle.report.specs.AgreeLaws.{Agree, reported_agree}

-- A file holds one thing: a table or a refusal.
pub held_refusal : {h : Held} {r s : Refusal} → h ≡ refusal r → h ≡ refusal s → r ≡ s
held_refusal a b = cc

pub held_table : {h : Held} {S T : Table} → h ≡ table S → h ≡ table T → S ≡ T
held_table a b = cc

pub held_either : {h : Held} {T : Table} {r : Refusal} → h ≡ table T → h ≡ refusal r → ⊥
held_either a b = let z : ◌≡◌ {A = ℕ} 0 1 = cc in omega arith

-- The outcome of reporting a file is determined by the file and the output.
pub file_reporting_one :
    {file out : List ℕ} {w w' : ReportOutcome} → FileReported file out w → FileReported file out w' → w ≡ w'
file_reporting_one (too_long l e) (too_long l' e') = e ∙ sym e'
file_reporting_one (too_long l e) (unread l' h e') = absurd (omega arith)
file_reporting_one (too_long l e) (read l' h a) = absurd (omega arith)
file_reporting_one (unread l h e) (too_long l' e') = absurd (omega arith)
file_reporting_one {file} {out} (unread l h e) (unread l' h' e') =
    e ∙ ap (λ (r : Refusal). refused r out) (held_refusal h h') ∙ sym e'
file_reporting_one (unread l h e) (read l' h' a) = absurd (held_either h' h)
file_reporting_one (read l h a) (too_long l' e') = absurd (omega arith)
file_reporting_one (read l h a) (unread l' h' e') = absurd (held_either h h')
file_reporting_one {file} {out} {w} (read l h a) (read l' h' b) =
    reporting_one (subst (λ (T : Table). Reported T out w) (held_table h h') a) b

-- The table in the lists over which it is laid.
abbrev laid_table : Table → Lists → Table
laid_table T l = table_in (record { processors = T.processors; tasks = T.tasks }) (laid_over T l)

at_laid : (n : ℕ) (new l : List ℕ) → length new ≡ n → (i : ℕ) → i < n → at (laid new l) i ≡ at new i
at_laid n new l e i h = get_or-append new (drop (length new) l) 0 i (omega arith)

-- It agrees with the table,
laid_agree : (T : Table) (l : Lists) → Full T → Agree (laid_table T l) T
unfolding laid_over
laid_agree T l f = record {
  processors = refl;
  tasks = refl;
  period = at_laid _ T.period l.period f.period;
  deadline = at_laid _ T.deadline l.deadline f.deadline;
  steps = at_laid _ T.steps l.steps f.steps;
  processor = at_laid _ T.processor l.processor f.processor;
  priority = at_laid _ T.priority l.priority f.priority;
  time = at_laid _ T.time l.time f.time;
}

-- and its report is the report of the table that the file holds.
held_reported :
    (file : List ℕ) (T : Table) (l : Lists) {out : List ℕ} {w : ReportOutcome} → held file ≡ table T
    → Reported (laid_table T l) out w → Reported T out w
held_reported file T l e a =
    let s = held_shape file T e in
    let plan = (read_is file T e).0 in
    reported_agree (longer_plan (laid_table T l) T s (laid_part T l) plan) plan (laid_agree T l (full_of T s)) a

-- The reader answers a table, whose report is the file's, or refuses the file as the report does.
data Answers (file out : List ℕ) (o : ReadOutcome) : Type 0 where
  reads :
      {c : Counts} → o.answer ≡ Ok c
      → ((w : ReportOutcome) → Reported (table_in c o.lists) out w → FileReported file out w) → Answers file out o
  refuses : {r : Refusal} → o.answer ≡ Err r → FileReported file out (refused r out) → Answers file out o

answers : (file out : List ℕ) (l : Lists) → Roomy l → Answers file out (reader.read file l)
unfolding reader.read read_of
answers file out l room = go (dec_lt most_bytes (length file))
  where
    go : Dec (most_bytes < length file) → Answers file out (reader.read file l)
    go (yes h) =
        rw (long_true 128 _ _ _ room.rows, long_true 32 _ _ _ room.tasks, lt-ltb _ _ h)
        (refuses refl (too_long h refl))
    go (no h) =
        rw (long_true 128 _ _ _ room.rows, long_true 32 _ _ _ room.tasks, le-ltb _ _ short) (holds (held file) refl)
      where
        short : length file ≤ most_bytes
        short = omega arith

        holds : (x : Held) → held file ≡ x → Answers file out (read_of x l)
        holds (table T) e = reads refl (λ w a. read short e (held_reported file T l e a))
        holds (refusal r) e = refuses refl (unread short e refl)

-- What a call of the reader answered, in lists with room for any table.
module _ (file out : List ℕ) (l : Lists) {o : ReadOutcome} (e : o ≡ reader.read file l) (room : Roomy l) where
  pub read_gives :
      {c : Counts} {w : ReportOutcome} → o.answer ≡ Ok c → Reported (table_in c o.lists) out w → FileReported file out w
  read_gives {c} {w} s a = go (rw e (answers file out l room))
    where
      go : Answers file out o → FileReported file out w
      go (reads d x) = x w (subst (λ (k : Counts). Reported (table_in k o.lists) out w) (value_same s d) a)
      go (refuses d x) = absurd (differ s d)

  pub read_refuses : {r : Refusal} → o.answer ≡ Err r → FileReported file out (refused r out)
  read_refuses {r} s = go (rw e (answers file out l room))
    where
      go : Answers file out o → FileReported file out (refused r out)
      go (reads d x) = absurd (differ d s)
      go (refuses d x) = subst (λ (q : Refusal). FileReported file out (refused q out)) (refusal_same d s) x
