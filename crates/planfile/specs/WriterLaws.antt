-- Laws of the steps of writing a file.
use Prim.Native.Nat.{ℕ, suc, ◌+◌, ◌*◌, ◌-◌, ◌≤◌, ◌<◌}
use Rattle.std.specs.Prelude.{◌≡◌, refl, true, false, get_or, take, Err, Ok}
use Rattle.std.proofs.Math.Path.{sym, ap}
use Rattle.std.proofs.Common.{◌∙◌, arith, length-append, take-append-drop}
use mathlib.Core.List.{List, [], ◌∷◌, ◌++◌, append_assoc, append-nil}
use borrow.Author.Tests.{lt-ltb, le-ltb}
use Rattle.std.proofs.Math.ListN.{length, get_or-eq_default}
use Rattle.facts.specs.Filled.{laid}
use Rattle.table.specs.Keys.{tasks_key, no_key}
use Rattle.table.specs.Table.{Table, at, is_plan}
use Rattle.text.specs.Text.{Written, appended}
use Rattle.text.specs.TextLaws.{Holds, holds_none, holds_more, Placed, placed}
use Rattle.planfile.specs.declared.due.Due.{Due}
use Rattle.table.specs.declared.refusal.Refusal.TheVariants.{NotAPlan, TooShort}
use Rattle.lines.specs.Words.{line_of}
use Rattle.planfile.specs.Draft.{Draft, blank, own, advanced}
use Rattle.planfile.specs.DraftLaws.{Shape, own_most, shape_blank, shape_next, lines_so_far, lines_next, draft_of, due_there}
use Rattle.lines.specs.KeyLaws.{EachKey, by_key, value_most}
use Rattle.planfile.specs.Due.{due_of, begun, past}
use Rattle.planfile.specs.DueLaws.{Few, due_blank, due_advanced, due_few}
use Rattle.planfile.specs.File.{value_for, lines_from, lines_of, file_of}
use Rattle.planfile.specs.PlanValues.{ValuesRight, values_right}
use Rattle.planfile.specs.FrontLaws.{PartOf, part_blank}
use Rattle.planfile.specs.NextLineLaws.{Ahead, ahead, value_fits, value_few, part_next}
use Rattle.planfile.specs.FileLaws.{lines_left, lines_all, file_most}
use Rattle.planfile.specs.Reading.{most_bytes, lists_of}
use Rattle.planfile.specs.StoreLaws.{Slots}
use Rattle.planfile.specs.Writing.{WriteOutcome, write}
use Rattle.planfile.specs.Writer.{values_due, value_due}

-- The value of the line due is the one that follows the draft.
abbrev Agrees : ℕ → Type 0
Agrees key =
    (T U : Table) → Shape (draft_of key U) → key < no_key
    → value_for T (draft_of key U) ≡ value_due T (due_of (draft_of key U))

agrees : EachKey Agrees
unfolding value_for value_due values_due due_of
agrees = record {
  plan = λ T U s l. refl;
  processors = λ T U s l. refl;
  tasks = λ T U s l. refl;
  task = λ T U s l. refl;
  period = λ T U s l. ap (λ (i : ℕ). at T.period i) (omega (arith, s.period));
  deadline = λ T U s l. ap (λ (i : ℕ). at T.deadline i) (omega (arith, s.deadline));
  steps = λ T U s l. refl;
  processor = λ T U s l. ap (λ (i : ℕ). at T.processor i) (omega (arith, s.processor));
  priority = λ T U s l. ap (λ (i : ℕ). at T.priority i) (omega (arith, s.priority));
  time = λ T U s l. refl;
  none = λ key h T U s l. absurd (omega arith);
}

value_for_due : (T : Table) (d : Draft) → Shape d → d.key < no_key → value_for T d ≡ value_due T (due_of d)
value_for_due T d s l = by_key agrees d.key T d.table s l

-- A number that is no key's has no value.
pub value_none : (T : Table) (u : Due) → no_key ≤ u.key → value_due T u ≡ 0
unfolding value_due values_due
value_none T u h = get_or-eq_default (values_due T u) 0 h

-- The lines that are there when this is due.
unfoldable pub lines_due : Due → ℕ
lines_due u = get_or (0 ∷ 1 ∷ 2 ∷ 3 ∷ 4 ∷ 5 ∷ 6 ∷ 3 ∷ 4 ∷ 5 ∷ 3 ∷ []) u.key 0 + 4 * u.task + 3 * u.row

lines_so_far_due : (d : Draft) → lines_so_far d ≡ lines_due (due_of d)
unfolding lines_so_far lines_due due_of
lines_so_far_due d = refl

-- Where writing stands: the text so far, and the lines that follow the draft that it holds, are the whole file.
pub record Wrote (T : Table) (u : Due) (w : Written) : Type 0 where
  pub draft : Draft
  pub due : u ≡ due_of draft
  pub shape : Shape draft
  pub part : PartOf T draft
  pub left : ℕ
  pub lines : lines_so_far draft + left ≡ lines_of T
  pub done : List ℕ
  pub rest : file_of T ≡ done ++ lines_from left T draft
  pub holds : Holds done 8192 w

pub wrote_start : (T : Table) (l : List ℕ) → length l ≡ 8192 → Wrote T begun (record { list = l; end = 0 })
unfolding file_of lines_so_far blank
wrote_start T l size = record {
  draft = blank;
  due = due_blank;
  shape = shape_blank;
  part = part_blank T;
  left = lines_of T;
  lines = omega arith;
  done = [];
  rest = refl;
  holds = rw size at (holds_none l);
}

-- There are entries for the key due.
slots_of :
    (T : Table) (ok : ValuesRight T) (d : Draft) → Shape d → PartOf T d
    → Slots (due_of d) (lists_of T.period T.deadline T.steps T.processor T.priority T.time)
unfolding due_of
slots_of T ok d s p = record {
  tasks = record {
    period_has = λ e. omega (arith, (there e (omega arith)).task, ok.task_lists);
    deadline_has = λ e. omega (arith, (there e (omega arith)).task, ok.task_lists);
    steps_has = λ e. omega (arith, (there e (omega arith)).task, ok.task_lists);
  };
  rows = record {
    processor_has = λ e. omega (arith, (there e (omega arith)).row, ok.row_lists);
    priority_has = λ e. omega (arith, (there e (omega arith)).row, ok.row_lists);
    time_has = λ e. omega (arith, (there e (omega arith)).row, ok.row_lists);
  };
}
  where
    there : {key : ℕ} → d.key ≡ key → tasks_key < key → Ahead T ok (draft_of key d.table)
    there {key} e h = due_there (Ahead T ok) d key e (ahead T ok d s p (omega arith))

-- Text that has more behind it is no longer than the whole.
front_fits : (f a b c : List ℕ) → f ≡ a ++ (b ++ c) → length f ≤ most_bytes → length a + length b ≤ most_bytes
front_fits f a b c e h = omega (arith, ap length e, length-append a (b ++ c), length-append b c)

module _ {T : Table} (plan : is_plan T ≡ true) {u : Due} {w : Written} (s : Wrote T u w) where
  ok : ValuesRight T
  ok = values_right T plan

  pub wrote_few : Few u
  wrote_few = rw s.due (due_few s.draft s.shape)

  pub wrote_slots : Slots u (lists_of T.period T.deadline T.steps T.processor T.priority T.time)
  wrote_slots = rw s.due (slots_of T ok s.draft s.shape s.part)

  key_is : u.key ≡ s.draft.key
  unfolding due_of
  key_is = ap (λ (x : Due). x.key) s.due

  key_due : u.key < no_key → s.draft.key < no_key
  key_due h = omega (arith, key_is)

  -- The value of the line due is the draft's next,
  value_is : {v : ℕ} → u.key < no_key → v ≡ value_due T u → v ≡ value_for T s.draft
  value_is h e =
      e ∙ ap (λ (x : Due). value_due T x) s.due ∙ sym (value_for_due T s.draft s.shape (key_due h))

  -- and in its range;
  pub wrote_value : {v : ℕ} → u.key < no_key → v ≡ value_due T u → v ≤ 1000000000
  wrote_value h e =
      let d = s.draft in
      let r = value_fits T ok d s.shape s.part (key_due h) in
      omega (arith, value_is h e, value_most d.key (own d) (value_for T d) r, own_most d s.shape)

  lines_are : lines_due u ≡ lines_so_far s.draft
  lines_are = ap (λ (x : Due). lines_due x) s.due ∙ sym (lines_so_far_due s.draft)

  -- its line is left,
  pub wrote_left : u.key < no_key → lines_due u < lines_of T
  wrote_left h = omega (arith, lines_are, lines_left T ok s.draft s.shape s.part (key_due h))

  -- counts,
  pub wrote_line : (v : ℕ) → u.key < no_key → lines_due (past u v) ≡ suc (lines_due u)
  wrote_line v h =
      ap (λ (x : Due). lines_due (past x v)) s.due ∙ ap (λ (x : Due). lines_due x) (sym (due_advanced s.draft v))
      ∙ sym (lines_so_far_due (advanced s.draft v)) ∙ lines_next s.draft v (key_due h) ∙ ap (λ (n : ℕ). suc n) (sym lines_are)

  -- and comes next in the file,
  pub wrote_next :
      {v : ℕ} {x : Written} → u.key < no_key → v ≡ value_due T u → x ≡ appended (line_of u.key v) w.list w.end
      → Wrote T (past u v) x
  unfolding lines_from
  wrote_next {v} {x} h e f =
      let d = s.draft in
      let value = value_for T d in
      let same : v ≡ value = value_is h e in
      let next = line_of d.key value in
      let line : line_of u.key v ≡ next = ap (λ (k : ℕ). line_of k v) key_is ∙ ap (λ (k : ℕ). line_of d.key k) same in
      let some : s.left ≡ suc (s.left - 1) = omega (arith, s.lines, lines_left T ok d s.shape s.part (key_due h)) in
      let rest : file_of T ≡ s.done ++ (next ++ lines_from (s.left - 1) T (advanced d value)) =
      s.rest ∙ ap (λ (n : ℕ). s.done ++ lines_from n T d) some in
      record {
        draft = advanced d value;
        due = ap (λ (y : Due). past y v) s.due ∙ ap (λ (k : ℕ). past (due_of d) k) same ∙ sym (due_advanced d value);
        shape = shape_next d value s.shape (record {
          range = value_fits T ok d s.shape s.part (key_due h);
          rows = value_few T ok d s.shape s.part;
        });
        part = part_next T ok d s.shape s.part;
        left = s.left - 1;
        lines = omega (arith, s.lines, some, lines_next d value (key_due h));
        done = s.done ++ next;
        rest = rest ∙ sym (append_assoc s.done next (lines_from (s.left - 1) T (advanced d value)));
        holds = holds_more next s.holds (f ∙ ap (λ (b : List ℕ). appended b w.list w.end) line)
            (front_fits (file_of T) s.done next (lines_from (s.left - 1) T (advanced d value)) rest (file_most T plan));
      }

  -- until the whole file is there.
  pub wrote_end : no_key ≤ u.key → Holds (file_of T) 8192 w
  unfolding lines_from
  wrote_end h =
      let all = lines_all T ok s.draft s.shape s.part (omega (arith, key_is, s.shape.key_most)) in
      let none : s.left ≡ 0 = omega (arith, s.lines) in
      let whole : file_of T ≡ s.done = s.rest ∙ ap (λ (n : ℕ). s.done ++ lines_from n T s.draft) none ∙ append-nil s.done in
      rw whole s.holds

-- The same by another name of what is due.
pub wrote_same : {T : Table} {u v : Due} {w : Written} → v ≡ u → Wrote T u w → Wrote T v w
wrote_same e s = rw e s

-- Bytes appended at the front of a list that has room are laid over it.
appended_laid : (bs l : List ℕ) {w : Written} → w ≡ appended bs l 0 → length bs ≤ length l → w.list ≡ laid bs l
appended_laid bs l {w} e h =
    let p : Placed bs l 0 w = placed bs l 0 e (omega arith) in
    let end : w.end ≡ length bs = omega (arith, p.end) in
    sym (take-append-drop w.end w.list) ∙ rw (p.front, p.rest, end)

-- The outcomes of writing: no plan,
module _ (T : Table) (out : List ℕ) where
  pub write_no_plan : is_plan T ≡ false → ◌≡◌ {A = WriteOutcome} (record { answer = Err NotAPlan; out = out }) (write T out)
  unfolding write
  write_no_plan e = rw e

  -- an output too short for the text,
  pub write_short :
      {w : Written} → is_plan T ≡ true → Holds (file_of T) 8192 w → length out < w.end
      → ◌≡◌ {A = WriteOutcome} (record { answer = Err (TooShort w.end); out = out }) (write T out)
  unfolding write
  write_short e h short =
      let short' : length out < length (file_of T) = omega (arith, h.end) in
      rw (e, lt-ltb _ _ short', h.end)

  -- and the text laid over it.
  pub write_done :
      {w x : Written} → is_plan T ≡ true → Holds (file_of T) 8192 w → w.end ≤ length out
      → x ≡ appended (take w.end w.list) out 0
      → ◌≡◌ {A = WriteOutcome} (record { answer = Ok w.end; out = x.list }) (write T out)
  unfolding write
  write_done {w} {x} e h fits f =
      let fits' : length (file_of T) ≤ length out = omega (arith, h.end) in
      let there = appended_laid (file_of T) out (f ∙ ap (λ (b : List ℕ). appended b out 0) h.front) fits' in
      rw (e, le-ltb _ _ fits', h.end, there)

  -- The same of a text whose first n bytes are the file.
  pub text_short :
      (n : ℕ) → is_plan T ≡ true → n ≡ length (file_of T) → length out < n
      → ◌≡◌ {A = WriteOutcome} (record { answer = Err (TooShort n); out = out }) (write T out)
  unfolding write
  text_short n e h short =
      let short' : length out < length (file_of T) = omega arith in
      rw (e, lt-ltb _ _ short', h)

  pub text_done :
      (n end : ℕ) (text new : List ℕ) → is_plan T ≡ true → n ≡ length (file_of T) → take n text ≡ file_of T → n ≤ length out
      → ◌≡◌ {A = Written} (record { list = new; end = end }) (appended (take n text) out 0)
      → ◌≡◌ {A = WriteOutcome} (record { answer = Ok n; out = new }) (write T out)
  unfolding write
  text_done n end text new e h f fits g =
      let fits' : length (file_of T) ≤ length out = omega arith in
      let there = appended_laid (file_of T) out (g ∙ ap (λ (b : List ℕ). appended b out 0) f) fits' in
      rw (e, le-ltb _ _ fits', h, there)
