-- Reading and writing as a caller sees them: their outcomes undo each other.
use Rattle.std.specs.Prelude.{ℕ, ◌≤◌, ◌≡◌, ◌↔◌, Bool, cond, not, List, length, take, drop, Err, Ok}
use Rattle.std.proofs.Math.Path.{refl, ap}
use Rattle.std.proofs.Common.{sym, ◌∙◌, subst, arith}
use Rattle.std.proofs.Math.Bool.{true, false}
use borrow.Author.Tests.{le-ltb, ltb-false}
use Rattle.std.proofs.Math.Dec.{ltb}
use Rattle.std.proofs.Math.Seq.{take-append_seam}
use Rattle.facts.specs.Filled.{laid}
use Rattle.table.specs.Keys.{no_key}
use Rattle.table.specs.Table.{Table, is_plan, long_enough}
use Rattle.table.specs.TableLaws.{Long, long_of, long_true}
use Rattle.table.specs.declared.refusal.Refusal.{Refusal}
use Rattle.table.specs.declared.refusal.Refusal.TheVariants.{FileTooLong, NotAPlan, TooShort}
use Rattle.planfile.specs.declared.read.Counts.{Counts}
use Rattle.planfile.specs.File.{file_of}
use Rattle.planfile.specs.Reading.{Held, table, refusal, held, most_bytes, Lists, ReadOutcome, laid_over, read_of, read}
use Rattle.planfile.specs.Writing.{WriteOutcome, write}
use Rattle.planfile.specs.Verdicts.{Verdict}
use Rattle.planfile.specs.VerdictsLaws.{verdict, verdict_held}
use Rattle.planfile.specs.FileLaws.{file_most}
use Rattle.planfile.specs.DraftLaws.{Shape, draft_of}
use Rattle.planfile.specs.FrontLaws.{PartOf}
use Rattle.planfile.specs.RoundTrip.{reads_back, read_is, held_shape}
use Rattle.planfile.specs.LongerLaws.{longer_plan, longer_file, laid_part}
use Rattle.planfile.specs.Trimmed.{trimmed}
use Rattle.planfile.specs.Answered.{table_in}

-- The lists have room for every table.
pub record Roomy (l : Lists) : Type 0 where
  pub rows : Long 128 l.processor l.priority l.time
  pub tasks : Long 32 l.period l.deadline l.steps

-- As the tests say it.
pub roomy_of :
    (l : Lists) → long_enough 128 l.processor l.priority l.time ≡ true → long_enough 32 l.period l.deadline l.steps ≡ true → Roomy l
roomy_of l r t = record { rows = long_of _ _ _ _ r; tasks = long_of _ _ _ _ t }

-- Reading.

not_read : {r : Refusal} {c : Counts} → Err r ≡ Ok c → ⊥
not_read {r} {c} e = let z : ◌≡◌ {A = ℕ} 0 1 = cc in omega arith

module _ (file : List ℕ) (l : Lists) where
  -- With room, a file that is not too long is read as what it holds.
  pub read_held : Roomy l → length file ≤ most_bytes → read file l ≡ read_of (held file) l
  unfolding read
  read_held r h = rw (long_true _ _ _ _ r.rows, long_true _ _ _ _ r.tasks, le-ltb _ _ h)

  -- A success says that there is room, and what the file holds.
  pub record Success (c : Counts) : Type 0 where
    pub roomy : Roomy l
    pub table : Table
    pub holds : held file ≡ Held.table table
    pub counts : c ≡ record { processors = table.processors; tasks = table.tasks }
    pub lists : (read file l).lists ≡ laid_over table l

  abbrev outcome : Bool → Bool → Bool → Held → ReadOutcome
  outcome a b t h =
      cond (not a) (record { answer = Err (TooShort 128); lists = l })
      (cond (not b) (record { answer = Err (TooShort 32); lists = l })
      (cond t (record { answer = Err FileTooLong; lists = l }) (read_of h l)))

  pub success : (c : Counts) → (read file l).answer ≡ Ok c → Success c
  unfolding read read_of
  success c e =
      go (long_enough 128 l.processor l.priority l.time) refl (long_enough 32 l.period l.deadline l.steps) refl
      (ltb most_bytes (length file)) (held file) refl e refl
    where
      go :
          (a : Bool) → long_enough 128 l.processor l.priority l.time ≡ a
          → (b : Bool) → long_enough 32 l.period l.deadline l.steps ≡ b
          → (t : Bool) (h : Held) → held file ≡ h → (outcome a b t h).answer ≡ Ok c → read file l ≡ outcome a b t h → Success c
      go true p true q false (table T) g e o = record {
        roomy = record { rows = long_of _ _ _ _ p; tasks = long_of _ _ _ _ q };
        table = T;
        holds = g;
        counts = cc;
        lists = ap (λ (w : ReadOutcome). w.lists) o;
      }
      go true p true q false (refusal r) g e o = absurd (not_read e)
      go true p true q true h g e o = absurd (not_read e)
      go true p false q t h g e o = absurd (not_read e)
      go false p b q t h g e o = absurd (not_read e)

  -- With room and a file that is not too long, a refusal is given exactly by the file's verdict.
  pub read_refused :
      Roomy l → length file ≤ most_bytes → (r : Refusal) → ((read file l).answer ≡ Err r) ↔ Verdict file (refusal r)
  unfolding read_of
  read_refused room h r = (
    λ e. go (held file) (verdict file) (sym (ap (λ (w : ReadOutcome). w.answer) (read_held room h)) ∙ e),
    λ v. ap (λ (w : ReadOutcome). w.answer) (read_held room h ∙ ap (λ (x : Held). read_of x l) (verdict_held file v)),
  )
    where
      go : (x : Held) → Verdict file x → (read_of x l).answer ≡ Err r → Verdict file (refusal r)
      go (table T) v e = absurd (not_read (sym e))
      go (refusal q) v e = let same : q ≡ r = cc in rw same at v

-- Writing.

module _ (T : Table) (out : List ℕ) where
  -- With room, a plan is written as its file.
  pub write_plan :
      is_plan T ≡ true → length (file_of T) ≤ length out
      → write T out ≡ record { answer = Ok (length (file_of T)); out = laid (file_of T) out }
  unfolding write
  write_plan plan h = rw (plan, le-ltb (length out) (length (file_of T)) h)

  -- A success says that the table is a plan and that there is room.
  pub record Wrote (n : ℕ) : Type 0 where
    pub plan : is_plan T ≡ true
    pub room : length (file_of T) ≤ length out
    pub bytes : n ≡ length (file_of T)

  not_bytes : {r : Refusal} {n : ℕ} → Err r ≡ Ok n → ⊥
  not_bytes {r} {n} e = let z : ◌≡◌ {A = ℕ} 0 1 = cc in omega arith

  abbrev written : Bool → Bool → WriteOutcome
  written a b =
      cond (not a) (record { answer = Err NotAPlan; out = out })
      (cond b (record { answer = Err (TooShort (length (file_of T))); out = out })
      (record { answer = Ok (length (file_of T)); out = laid (file_of T) out }))

  pub wrote : (n : ℕ) → (write T out).answer ≡ Ok n → Wrote n
  unfolding write
  wrote n e = go (is_plan T) refl (ltb (length out) (length (file_of T))) refl e
    where
      go :
          (a : Bool) → is_plan T ≡ a → (b : Bool) → ltb (length out) (length (file_of T)) ≡ b
          → (written a b).answer ≡ Ok n
          → Wrote n
      go true p false q e = record { plan = p; room = ltb-false _ _ q; bytes = cc }
      go true p true q e = absurd (not_bytes e)
      go false p b q e = absurd (not_bytes e)

-- After a success of reading, writing the table of the answer from the lists as they then are, what stands past the table
-- included, answers the file's length and lays the file itself over the output, if that is long enough.
pub read_then_write :
    (file : List ℕ) (l : Lists) (c : Counts) (out : List ℕ) → (read file l).answer ≡ Ok c → length file ≤ length out
    → write (table_in c (read file l).lists) out ≡ record { answer = Ok (length file); out = laid file out }
read_then_write file l c out e room =
    let same : file_of S ≡ file = longer_file S T shape part is.0 ∙ sym is.1 in
    write_plan S out (longer_plan S T shape part is.0) (rw same room)
    ∙ ap (λ (f : List ℕ). record { answer = Ok (length f); out = laid f out }) same
  where
    ok : Success file l c
    ok = success file l c e

    T : Table
    T = ok.table

    S : Table
    S = table_in c (read file l).lists

    is : (is_plan T ≡ true) × (file ≡ file_of T) × (trimmed T ≡ T)
    is = read_is file T ok.holds

    shape : Shape (draft_of no_key T)
    shape = held_shape file T ok.holds

    part : PartOf S (draft_of no_key T)
    part =
        subst (λ (m : Lists). PartOf (table_in c m) (draft_of no_key T)) (sym ok.lists)
        (subst (λ (n : Counts). PartOf (table_in n (laid_over T l)) (draft_of no_key T)) (sym ok.counts) (laid_part T l))

-- After a success of writing, reading the bytes written answers the table's counts and fills its entries in lists that have
-- room.
pub write_then_read :
    (T : Table) (out : List ℕ) (n : ℕ) (l : Lists) → (write T out).answer ≡ Ok n → Roomy l
    → read (take n (write T out).out) l
    ≡ record { answer = Ok (record { processors = T.processors; tasks = T.tasks }); lists = laid_over (trimmed T) l }
unfolding read_of trimmed
write_then_read T out n l e room =
    let w = wrote T out n e in
    let bytes : take n (write T out).out ≡ file_of T =
    ap (λ (k : ℕ). take k (write T out).out) w.bytes
    ∙ ap (λ (o : WriteOutcome). take (length (file_of T)) o.out) (write_plan T out w.plan w.room)
    ∙ take-append_seam (file_of T) (drop (length (file_of T)) out) in
    ap (λ (f : List ℕ). read f l) bytes ∙ read_held (file_of T) l room (file_most T w.plan)
    ∙ ap (λ (h : Held). read_of h l) (reads_back T w.plan)
