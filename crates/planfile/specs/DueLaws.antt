-- What is due follows the draft.
use Rattle.std.specs.Prelude.{ℕ, ◌+◌, ◌≤◌, ◌≡◌, refl, Bool, true, false, cond, List, [], ◌∷◌, eqb, length}
use Rattle.std.proofs.Common.{arith, length-append}
use Rattle.facts.specs.Sums.{sum}
use Rattle.table.specs.Keys.{task_key, steps_key, time_key}
use Rattle.table.specs.Ranges.{in_range}
use Rattle.table.specs.Table.{at}
use Rattle.planfile.specs.declared.due.Due.{Due}
use Rattle.planfile.specs.Draft.{Draft, blank, rows_asked, added, placed, following, advanced}
use Rattle.planfile.specs.DraftLaws.{draft_of, Shape, asked_more, own_few}
use Rattle.lines.specs.KeyLaws.{value_most}
use Rattle.planfile.specs.Due.{due_of, begun, own_number, counted, next_key, keyed, past}

pub due_blank : begun ≡ due_of blank
unfolding due_of blank rows_asked sum
due_blank = refl

length_added : (b : Bool) (v : ℕ) (l : List ℕ) → length (added b v l) ≡ cond b (length l + 1) (length l)
unfolding added
length_added true v l = length-append l (v ∷ [])
length_added false v l = refl

asked_added : (b : Bool) (v : ℕ) (l : List ℕ) → sum (length (added b v l)) (at (added b v l)) ≡ cond b (sum (length l) (at l) + v) (sum (length l) (at l))
unfolding added
asked_added true v l = asked_more l v
asked_added false v l = refl

-- One line further the counts are those of the draft one line further,
due_counted : (d : Draft) (v : ℕ) → due_of (draft_of d.key (placed d.key v d.table)) ≡ counted d.key (due_of d) v
unfolding due_of counted placed rows_asked
due_counted d v =
    let n = length_added (eqb d.key steps_key) v d.table.steps in
    let r = length_added (eqb d.key time_key) v d.table.time in
    let a = asked_added (eqb d.key steps_key) v d.table.steps in
    rw (a, n, r)

-- and so is the key.
pub due_advanced : (d : Draft) (v : ℕ) → due_of (advanced d v) ≡ past (due_of d) v
unfolding advanced past keyed following next_key due_of
due_advanced d v = rw (← due_counted d v)

-- The counts are few.
pub record Few (u : Due) : Type 0 where
  pub key : u.key ≤ 10
  pub processors : u.processors ≤ 16
  pub tasks : u.tasks ≤ 32
  pub task : u.task ≤ 32
  pub row : u.row ≤ 128
  pub asked : u.asked ≤ 128

pub due_few : (d : Draft) → Shape d → Few (due_of d)
unfolding due_of
due_few d s = record {
  key = s.key_most;
  processors = s.processors_most;
  tasks = s.tasks_most;
  task = omega (arith, s.task_due, s.tasks_most);
  row = omega (arith, s.row_due, s.row_most);
  asked = s.row_most;
}

-- So is the value of the key due.
pub value_few : (u : Due) (v : ℕ) → Few u → in_range u.key (own_number u) v ≡ true → v ≤ 1000000000
unfolding own_number
value_few u v f e =
    omega (arith, value_most u.key (own_number u) v e, own_few (eqb u.key task_key) u.task u.processors f.task f.processors)
