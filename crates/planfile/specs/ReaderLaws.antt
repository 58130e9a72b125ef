-- Laws of reading a file line by line: where reading stands, and what it has found at the end.
use Prim.Native.Nat.{ℕ, suc, ◌+◌, ◌-◌, ◌≤◌, ◌<◌}
use Rattle.std.specs.Prelude.{◌≡◌, refl, List, length, take, Err, Ok}
use Rattle.facts.specs.Filled.{laid}
use Rattle.std.proofs.Math.Path.{sym, ap}
use Rattle.std.proofs.Common.{◌∙◌, arith, add-one}
use borrow.Author.Tests.{eq-eqb, ne_eqb}
use Rattle.table.specs.Keys.{no_key}
use Rattle.table.specs.Table.{Table}
use Rattle.table.specs.declared.refusal.Refusal.{Refusal}
use Rattle.table.specs.declared.refusal.Refusal.TheVariants.{NotTheLineDue}
use Rattle.planfile.specs.declared.due.Due.{Due}
use Rattle.planfile.specs.declared.read.Counts.{Counts}
use Rattle.planfile.specs.Draft.{Draft, blank, advanced}
use Rattle.planfile.specs.DraftLaws.{Shape, due_there, shape_blank, shape_next}
use Rattle.planfile.specs.Due.{due_of, begun, past}
use Rattle.planfile.specs.DueLaws.{Few, due_blank, due_advanced, due_few, value_few}
use Rattle.planfile.specs.JudgeLaws.{carried, judged_carried, line_right, line_accepted}
use Rattle.planfile.specs.StoreLaws.{Fronts, Sized, sized_next, Slots, slots, Kept, kept_of, kept_table}
use Rattle.lines.specs.Line.{line_at}
use Rattle.lines.specs.LineLaws.{line_behind}
use Rattle.planfile.specs.Reading.{table, refusal, Lists, lists_of, ReadOutcome, judged, held_from, held, laid_over, read_of}
use Rattle.planfile.specs.Reader.{Judged, Found, judgement, stored, laid_front, found_in}

module _ (most : ℕ) (file : List ℕ) (place number : ℕ) (d : Draft) where
  -- While a key is due, its line is judged;
  held_line :
      d.key < no_key
      → held_from (suc most) file place number d
      ≡ judged number d (line_at file place d.key) (λ behind e. held_from most file behind (number + 1) e)
  unfolding held_from
  held_line h = rw (ne_eqb d.key no_key (λ (q : d.key ≡ no_key). omega arith))

  -- when none is, the file must have ended.
  held_end : d.key ≡ no_key → place ≡ length file → held_from (suc most) file place number d ≡ table d.table
  unfolding held_from
  held_end e q = rw (eq-eqb d.key no_key e, eq-eqb place (length file) q)

  held_more : d.key ≡ no_key → (place ≡ length file → ⊥) → held_from (suc most) file place number d ≡ refusal (NotTheLineDue number)
  unfolding held_from
  held_more e n = rw (eq-eqb d.key no_key e, ne_eqb place (length file) n)

-- The line due, judged, says what the lines from it on hold.
line_judged :
    (most : ℕ) (file : List ℕ) (place number : ℕ) (d : Draft) (u : Due) → u ≡ due_of d → u.key < no_key
    → held_from (suc most) file place number d
    ≡ carried (judgement number u (line_at file place u.key)) d (λ behind e. held_from most file behind (number + 1) e)
unfolding due_of
line_judged most file place number d u e h =
    let h' : d.key < no_key = rw e at h in
    rw e (held_line most file place number d h' ∙ judged_carried number d (line_at file place d.key) (λ behind e. held_from most file behind (number + 1) e))

end_found :
    (d : Draft) (u : Due) (l : Lists) → u ≡ due_of d → Shape d → d.key ≡ no_key → Kept d.table l
    → table d.table ≡ found_in (Ok (record { processors = u.processors; tasks = u.tasks }, u.row)) l
unfolding found_in due_of
end_found d u l e s q k =
    let z = due_there Shape d _ q s in
    let n : d.table.tasks ≡ length d.table.steps = omega (arith, z.task_due, z.task_left) in
    rw e (ap (λ (T : Table). table T)
    (kept_table d.table l (length d.table.time) k (omega (arith, n, z.period)) (omega (arith, n, z.deadline)) n
    (omega (arith, z.processor)) (omega (arith, z.priority)) refl))

-- Where reading stands: the lines from this place on say what the whole file holds, behind the draft that the lines before
-- it make, whose lists stand at the fronts of these.
pub record Reached (file : List ℕ) (u : Due) (place number : ℕ) (l : Lists) : Type 0 where
  pub draft : Draft
  pub due : u ≡ due_of draft
  pub shape : Shape draft
  pub most : ℕ
  pub rest : held file ≡ held_from (suc most) file place number draft
  pub lines : most + number ≡ length file + 1
  pub number_most : number ≤ place + 1
  pub place_most : place ≤ length file
  pub sized : Sized l
  pub kept : Kept draft.table l

pub reached_start : (file : List ℕ) (l : Lists) → Sized l → Reached file begun 0 1 l
unfolding held blank
reached_start file l z = record {
  draft = blank;
  due = due_blank;
  shape = shape_blank;
  most = length file;
  rest = ap (λ (n : ℕ). held_from n file 0 1 blank) (add-one (length file));
  lines = refl;
  number_most = omega arith;
  place_most = omega arith;
  sized = z;
  kept = record { period = refl; deadline = refl; steps = refl; processor = refl; priority = refl; time = refl };
}

module _ {file : List ℕ} {u : Due} {place number : ℕ} {l : Lists} (s : Reached file u place number l) where
  pub reached_few : Few u
  reached_few = rw s.due (due_few s.draft s.shape)

  -- No key is due where its number is past them.
  reached_none : no_key ≤ u.key → s.draft.key ≡ no_key
  unfolding due_of
  reached_none h = omega (arith, ap (λ (w : Due). w.key) s.due, s.shape.key_most)

  pub reached_slots : Slots u l
  reached_slots = rw s.due (slots s.draft l s.shape s.sized)

  -- A line that is wrong is the file's refusal;
  pub reached_refused : {r : Refusal} → u.key < no_key → judgement number u (line_at file place u.key) ≡ Err r → held file ≡ refusal r
  reached_refused h e =
      s.rest ∙ line_judged s.most file place number s.draft u s.due h
      ∙ ap (λ (j : Judged). carried j s.draft (λ behind e. held_from s.most file behind (number + 1) e)) e

  -- one that is right ends further on in the file,
  pub reached_behind : {v behind : ℕ} → judgement number u (line_at file place u.key) ≡ Ok (v, behind) → (place < behind) × (behind ≤ length file)
  reached_behind {v} {behind} e =
      let r = line_right number u (line_at file place u.key) v behind e in
      rw r.line_is at (line_behind file place u.key)

  pub reached_value : {v behind : ℕ} → judgement number u (line_at file place u.key) ≡ Ok (v, behind) → v ≤ 1000000000
  reached_value {v} {behind} e = value_few u v reached_few (line_right number u (line_at file place u.key) v behind e).range

  -- and reading goes on behind it;
  pub reached_next :
      {v behind : ℕ} → u.key < no_key → judgement number u (line_at file place u.key) ≡ Ok (v, behind)
      → Reached file (past u v) behind (number + 1) (stored u.key u.task u.row v l)
  unfolding advanced
  reached_next {v} {behind} h e =
      let b = reached_behind e in
      let r = line_right number u (line_at file place u.key) v behind e in
      let some : s.most ≡ suc (s.most - 1) = omega (arith, s.lines, s.number_most) in
      record {
        draft = advanced s.draft v;
        due = ap (λ (w : Due). past w v) s.due ∙ sym (due_advanced s.draft v);
        shape = shape_next s.draft v s.shape (line_accepted s.due r);
        most = s.most - 1;
        rest = s.rest ∙ line_judged s.most file place number s.draft u s.due h
            ∙ ap (λ (j : Judged). carried j s.draft (λ behind e. held_from s.most file behind (number + 1) e)) e
            ∙ ap (λ (n : ℕ). held_from n file behind (number + 1) (advanced s.draft v)) some;
        lines = omega (arith, s.lines);
        number_most = omega (arith, s.number_most, b.0);
        place_most = b.1;
        sized = sized_next u v l s.sized;
        kept = kept_of s.draft u v l s.due s.shape s.sized s.kept;
      }

  -- behind the last line the file must end,
  pub reached_more : no_key ≤ u.key → (place ≡ length file → ⊥) → held file ≡ refusal (NotTheLineDue number)
  reached_more h n = s.rest ∙ held_more s.most file place number s.draft (reached_none h) n

  -- and then the table is there.
  pub reached_end : no_key ≤ u.key → place ≡ length file → held file ≡ found_in (Ok (record { processors = u.processors; tasks = u.tasks }, u.row)) l
  reached_end h e =
      let q = reached_none h in
      s.rest ∙ held_end s.most file place number s.draft q e ∙ end_found s.draft u l s.due s.shape q s.kept

-- The same by other names of what is due and of the lists.
pub reached_same :
    {file : List ℕ} {u v : Due} {place number : ℕ} {l m : Lists} → v ≡ u → m ≡ l → Reached file u place number l
    → Reached file v place number m
reached_same e f s = rw (e, f) s

-- What was found has no more tasks and rows than a plan.
abbrev pub FewFound : Found → Type 0
FewFound (Ok (counts, rows)) = (counts.tasks ≤ 32) × (rows ≤ 128)
FewFound (Err r) = Unit

-- What the file holds was found, with its lists at the front of these.
pub record FoundIn (file : List ℕ) (f : Found) (l : Lists) : Type 0 where
  pub held_is : held file ≡ found_in f l
  pub few : FewFound f

pub found_refused : {file : List ℕ} {r : Refusal} (l : Lists) → held file ≡ refusal r → FoundIn file (Err r) l
unfolding found_in
found_refused l e = record { held_is = e; few = tt }

pub found_table :
    {file : List ℕ} {u : Due} {place number : ℕ} {l : Lists} → Reached file u place number l → no_key ≤ u.key
    → place ≡ length file → FoundIn file (Ok (record { processors = u.processors; tasks = u.tasks }, u.row)) l
found_table s h e = record { held_is = reached_end s h e; few = ((reached_few s).tasks, (reached_few s).row) }

-- Its entries have a place in them.
pub found_fronts :
    {file : List ℕ} {counts : Counts} {rows : ℕ} {l : Lists} → FoundIn file (Ok (counts, rows)) l → Sized l → Fronts counts.tasks rows l
found_fronts f z =
    record {
      period = omega (arith, f.few.0, z.period);
      deadline = omega (arith, f.few.0, z.deadline);
      steps = omega (arith, f.few.0, z.steps);
      processor = omega (arith, f.few.1, z.processor);
      priority = omega (arith, f.few.1, z.priority);
      time = omega (arith, f.few.1, z.time);
    }

-- Lists over which the table that was found is laid are the outcome of reading it;
pub read_found :
    {file : List ℕ} {counts : Counts} {rows : ℕ} {l : Lists} (m : Lists) {period deadline steps processor priority time : List ℕ}
    → FoundIn file (Ok (counts, rows)) l → period ≡ laid (take counts.tasks l.period) m.period
    → deadline ≡ laid (take counts.tasks l.deadline) m.deadline → steps ≡ laid (take counts.tasks l.steps) m.steps
    → processor ≡ laid (take rows l.processor) m.processor → priority ≡ laid (take rows l.priority) m.priority
    → time ≡ laid (take rows l.time) m.time
    → ◌≡◌ {A = ReadOutcome} (record { answer = Ok counts; lists = lists_of period deadline steps processor priority time }) (read_of (held file) m)
unfolding read_of laid_over found_in
read_found m f p d s q u t = rw (f.held_is, p, d, s, q, u, t)

-- the same of the lists together,
pub read_laid :
    {file : List ℕ} {counts : Counts} {rows : ℕ} {l n : Lists} (m : Lists)
    → FoundIn file (Ok (counts, rows)) l → n ≡ laid_front counts.tasks rows l m
    → ◌≡◌ {A = ReadOutcome} (record { answer = Ok counts; lists = n }) (read_of (held file) m)
unfolding read_of laid_over found_in laid_front
read_laid m f e = rw (f.held_is, e)

-- a refusal leaves them.
pub read_refused :
    {file : List ℕ} {r : Refusal} {l : Lists} (m : Lists) → FoundIn file (Err r) l
    → ◌≡◌ {A = ReadOutcome} (record { answer = Err r; lists = m }) (read_of (held file) m)
unfolding read_of found_in
read_refused m f = rw f.held_is
