-- Laws of the report's text.
use Rattle.std.specs.Prelude.{ℕ, ◌+◌, ◌^◌, ◌≤◌, ◌<◌, ◌≡◌, refl, Bool, true, false, List, ◌++◌, ℤ, pos, nat_abs, length, take}
use Rattle.std.proofs.Common.{sym, arith, length-append}
use Rattle.std.specs.Int.Signed.{lt_z}
use Rattle.facts.specs.Filled.{joined}
use Rattle.facts.specs.FilledLaws.{joined_none, joined_more, joined_ext, joined_most}
use Rattle.text.specs.Text.{Written, appended, bytes_of, line, minus_line}
use Rattle.text.specs.TextLaws.{appended_none, appended_then, Placed, placed, length_line, length_minus_line}
use Rattle.text.specs.NumeralLaws.{decimal_few}
use Rattle.report.specs.Report.{Figures, report_of, row_lines, slack_line, task_lines, processor_lines}

-- Parts appended one after another: none yet, and one more.
pub parts_none :
    (f : ℕ → List ℕ) (l : List ℕ) (at : ℕ)
    → ◌≡◌ {A = Written} (record { list = l; end = at }) (appended (joined 0 f) l at)
parts_none f l at = rw (joined_none f) (sym (appended_none l at))

pub parts_more :
    (f : ℕ → List ℕ) (l : List ℕ) (at i : ℕ) {v w : Written} (bs : List ℕ)
    → v ≡ appended (joined i f) l at → bs ≡ f i → w ≡ appended bs v.list v.end → w ≡ appended (joined (i + 1) f) l at
parts_more f l at i bs e h g = rw (joined_more i f, ← h) (appended_then (joined i f) bs l at e g)

-- What stands in a list with room once a text is appended at its start.
pub front_is :
    (bs l : List ℕ) {w : Written} → w ≡ appended bs l 0 → length bs ≤ length l
    → (take w.end w.list ≡ bs) × (w.end ≤ length w.list)
front_is bs l {w} e h =
    let p : Placed bs l 0 w = placed bs l 0 e (omega arith) in
    (p.front, omega (arith, p.end, p.size))

-- Two sets of figures that a report does not tell apart.
pub record Alike (F G : Figures) : Type 0 where
  pub rows : F.rows ≡ G.rows
  pub tasks : F.tasks ≡ G.tasks
  pub processors : F.processors ≡ G.processors
  pub busy : (r : ℕ) → r < F.rows → F.busy r ≡ G.busy r
  pub instances : (r : ℕ) → r < F.rows → F.instances r ≡ G.instances r
  pub bound : (r : ℕ) → r < F.rows → F.bound r ≡ G.bound r
  pub chain : (i : ℕ) → i < F.tasks → F.chain i ≡ G.chain i
  pub deadline : (i : ℕ) → i < F.tasks → F.deadline i ≡ G.deadline i
  pub slack : (i : ℕ) → i < F.tasks → F.slack i ≡ G.slack i
  pub load : (q : ℕ) → F.load q ≡ G.load q
  pub accepted : F.accepted ≡ G.accepted

-- The parts of a report.
row_text : Figures → ℕ → List ℕ
row_text F r = row_lines (r + 1) (F.busy r) (F.instances r) (F.bound r)

task_text : Figures → ℕ → List ℕ
task_text F i = task_lines (i + 1) (F.chain i) (F.deadline i) (F.slack i)

processor_text : Figures → ℕ → List ℕ
processor_text F q = processor_lines (q + 1) (F.load (q + 1))

pub report_alike : {F G : Figures} → Alike F G → report_of F ≡ report_of G
unfolding report_of row_text task_text processor_text
report_alike {F} {G} e =
    let a = joined_ext F.rows (row_text F) (row_text G) (λ r l. rw (e.busy r l, e.instances r l, e.bound r l)) in
    let b = joined_ext F.tasks (task_text F) (task_text G) (λ i l. rw (e.chain i l, e.deadline i l, e.slack i l)) in
    let c = joined_ext F.processors (processor_text F) (processor_text G) (λ q l. rw (e.load (q + 1))) in
    rw (a, b, c, e.rows, e.tasks, e.processors, e.accepted)

-- The line of a slack below zero, and of one that is not.
pub slack_below :
    (slack : ℤ) {m : ℕ} → lt_z slack (pos 0) ≡ true → m ≡ nat_abs slack → minus_line (bytes_of "slack") m ≡ slack_line slack
unfolding slack_line
slack_below slack e h = rw (e, h)

pub slack_above : (slack : ℤ) {m : ℕ} → lt_z slack (pos 0) ≡ false → m ≡ nat_abs slack → line (bytes_of "slack") m ≡ slack_line slack
unfolding slack_line
slack_above slack e h = rw (e, h)

-- A line of a value below 10 to the k.
line_few : (key : List ℕ) (k v : ℕ) → 0 < k → v < 10 ^ k → length (line key v) ≤ length key + k + 2
line_few key k v p h = omega (arith, length_line key v, decimal_few k v p h)

slack_few : (slack : ℤ) → nat_abs slack ≤ 160000000 → length (slack_line slack) ≤ 17
unfolding slack_line
slack_few slack s = go (lt_z slack (pos 0)) refl
  where
    go : (b : Bool) → lt_z slack (pos 0) ≡ b → length (slack_line slack) ≤ 17
    go true e =
        let v = nat_abs slack in
        rw e (omega (arith, length_minus_line (bytes_of "slack") v, decimal_few 9 v (omega arith) (omega arith)))
    go false e = rw e (omega (arith, line_few (bytes_of "slack") 9 (nat_abs slack) (omega arith) (omega arith)))

-- Figures that a report has room for.
pub record Small (F : Figures) : Type 0 where
  pub rows : F.rows ≤ 128
  pub tasks : F.tasks ≤ 32
  pub processors : F.processors ≤ 16
  pub busy : (r : ℕ) → r < F.rows → F.busy r ≤ 10000000
  pub instances : (r : ℕ) → r < F.rows → F.instances r ≤ 10000000
  pub bound : (r : ℕ) → r < F.rows → F.bound r ≤ 10000000
  pub chain : (i : ℕ) → i < F.tasks → F.chain i ≤ 160000000
  pub deadline : (i : ℕ) → i < F.tasks → F.deadline i ≤ 160000000
  pub slack : (i : ℕ) → i < F.tasks → nat_abs (F.slack i) ≤ 160000000
  pub load : (q : ℕ) → F.load q ≤ 128000000000
  pub accepted : F.accepted ≤ 1

row_few :
    (n D M R : ℕ) → n ≤ 128 → D ≤ 10000000 → M ≤ 10000000 → R ≤ 10000000 → length (row_lines n D M R) ≤ 56
unfolding row_lines
row_few n D M R l d m r =
    let a = line (bytes_of "row") n in
    let b = line (bytes_of "busy") D in
    let c = line (bytes_of "instances") M in
    let e = line (bytes_of "bound") R in
    omega (
      arith,
      length-append (a ++ b ++ c) e,
      length-append (a ++ b) c,
      length-append a b,
      line_few (bytes_of "row") 3 n (omega arith) (omega arith),
      line_few (bytes_of "busy") 8 D (omega arith) (omega arith),
      line_few (bytes_of "instances") 8 M (omega arith) (omega arith),
      line_few (bytes_of "bound") 8 R (omega arith) (omega arith),
    )

task_few :
    (n bound deadline : ℕ) (slack : ℤ) → n ≤ 32 → bound ≤ 160000000 → deadline ≤ 160000000 → nat_abs slack ≤ 160000000
    → length (task_lines n bound deadline slack) ≤ 60
unfolding task_lines
task_few n bound deadline slack l b d s =
    let x = line (bytes_of "task") n in
    let y = line (bytes_of "bound") bound in
    let z = line (bytes_of "deadline") deadline in
    omega (
      arith,
      length-append (x ++ y ++ z) (slack_line slack),
      length-append (x ++ y) z,
      length-append x y,
      line_few (bytes_of "task") 2 n (omega arith) (omega arith),
      line_few (bytes_of "bound") 9 bound (omega arith) (omega arith),
      line_few (bytes_of "deadline") 9 deadline (omega arith) (omega arith),
      slack_few slack s,
    )

processor_few : (n carried : ℕ) → n ≤ 16 → carried ≤ 128000000000 → length (processor_lines n carried) ≤ 31
unfolding processor_lines
processor_few n carried l h =
    omega (
      arith,
      length-append (line (bytes_of "processor") n) (line (bytes_of "load") carried),
      line_few (bytes_of "processor") 2 n (omega arith) (omega arith),
      line_few (bytes_of "load") 12 carried (omega arith) (omega arith),
    )

-- A report has at most 9,604 bytes: 9 first, 56 for each row, 60 for each task, 31 for each processor and 11 last.
pub report_few : (F : Figures) → Small F → length (report_of F) ≤ 9604
unfolding report_of row_text task_text processor_text
report_few F s =
    let a = line (bytes_of "report") 1 in
    let b = joined F.rows (row_text F) in
    let c = joined F.tasks (task_text F) in
    let d = joined F.processors (processor_text F) in
    omega (
      arith,
      length-append (a ++ b ++ c ++ d) (line (bytes_of "accepted") F.accepted),
      length-append (a ++ b ++ c) d,
      length-append (a ++ b) c,
      length-append a b,
      line_few (bytes_of "report") 1 1 (omega arith) (omega arith),
      joined_most F.rows 56 (row_text F)
          (λ r l. row_few (r + 1) (F.busy r) (F.instances r) (F.bound r) (omega (arith, s.rows)) (s.busy r l) (s.instances r l) (s.bound r l)),
      joined_most F.tasks 60 (task_text F)
          (λ i l. task_few (i + 1) (F.chain i) (F.deadline i) (F.slack i) (omega (arith, s.tasks)) (s.chain i l) (s.deadline i l) (s.slack i l)),
      joined_most F.processors 31 (processor_text F)
          (λ q l. processor_few (q + 1) (F.load (q + 1)) (omega (arith, s.processors)) (s.load (q + 1))),
      line_few (bytes_of "accepted") 1 F.accepted (omega arith) (omega (arith, s.accepted)),
      s.rows,
      s.tasks,
      s.processors,
    )
