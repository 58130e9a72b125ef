-- Laws of reading for lists of records.
use Rattle.std.specs.Prelude.{ℕ, ◌≤◌, ◌<◌, ◌≡◌, refl, Bool, true, false, List, length, Err, Ok, Result}
use Rattle.std.proofs.Common.{le-ltb, lt-ltb, sym, ◌∙◌, ap, subst, arith}
use Rattle.std.proofs.Math.Decide.{dec_lt}
use Rattle.table.specs.Table.{Table, rows, is_plan}
use Rattle.table.specs.TableLaws.{checked}
use Rattle.table.specs.declared.refusal.Refusal.{Refusal}
use Rattle.table.specs.declared.refusal.Refusal.TheVariants.{TooShort}
use Rattle.planfile.specs.declared.read.Counts.{Counts}
use Rattle.planfile.specs.Reading.{Lists, ReadOutcome}
use Rattle.planfile.specs.Writing.{WriteOutcome}
use Rattle.planfile.specs.Answered.{table_in}
use Rattle.planfile.specs.ReadWriteLaws.{read_then_write, wrote}
use Rattle.busy.specs.Rows.{Viewing, plan, none}
use Rattle.columns.specs.declared.columns.Columns.{Columns}
use Rattle.columns.specs.Columns.{blank_of}
use Rattle.sheets.specs.declared.sheet.Sheet.{Sheet}
use Rattle.sheets.specs.Sheet.{lists_in, columns_in, unread_sheet, sheet_from, read_blank, file_sheet, sheet_of}

-- The parts of a refusal's sheet together.
pub unread_made : (r : Refusal) {c : Columns} → c ≡ blank_of 0 0 → ◌≡◌ {A = Sheet} (record { answer = Err r; columns = c; chains = 0; rows = 0 }) (unread_sheet r)
unread_made r e = rw e

-- Too few row records, and then too few chain records.
pub few_rows : (file : List ℕ) (chains rows : ℕ) {s : Sheet} → rows < 128 → s ≡ unread_sheet (TooShort 128) → s ≡ sheet_of file chains rows
unfolding sheet_of
few_rows file chains rows h e = rw (lt-ltb rows 128 h, e)

pub few_chains :
    (file : List ℕ) (chains rows : ℕ) {s : Sheet} → 128 ≤ rows → chains < 32 → s ≡ unread_sheet (TooShort 32) → s ≡ sheet_of file chains rows
unfolding sheet_of
few_chains file chains rows g h e = rw (le-ltb rows 128 g, lt-ltb chains 32 h, e)

-- There is room for any table.
pub room_enough :
    (file : List ℕ) (chains rows : ℕ) {s : Sheet} → 128 ≤ rows → 32 ≤ chains → s ≡ file_sheet file → s ≡ sheet_of file chains rows
unfolding sheet_of
room_enough file chains rows g h e = rw (le-ltb rows 128 g, le-ltb chains 32 h, e)

module _ (file : List ℕ) (o : ReadOutcome) (e : o ≡ read_blank file) where
  -- A refused file,
  pub file_refused : (r : Refusal) {s : Sheet} → o.answer ≡ Err r → s ≡ unread_sheet r → s ≡ file_sheet file
  unfolding file_sheet sheet_from
  file_refused r f k = rw (sym e, f, k)

  -- and one that was read: its table is a plan.
  pub read_plan : (c : Counts) → o.answer ≡ Ok c → is_plan (table_in c o.lists) ≡ true
  read_plan c f =
      let answer : (read_blank file).answer ≡ Ok c = sym (ap (λ (x : ReadOutcome). x.answer) e) ∙ f in
      let lists : (read_blank file).lists ≡ o.lists = sym (ap (λ (x : ReadOutcome). x.lists) e) in
      subst (λ (x : Lists). is_plan (table_in c x) ≡ true) lists
      (wrote (table_in c (read_blank file).lists) file (length file)
      (ap (λ (w : WriteOutcome). w.answer) (read_then_write file (lists_in (blank_of 0 0)) c file answer (omega arith)))).plan

  pub file_read :
      (c : Counts) {n : ℕ} → o.answer ≡ Ok c → (is_plan (table_in c o.lists) ≡ true → n ≡ rows (table_in c o.lists))
      → ◌≡◌ {A = Sheet} (record { answer = Ok c; columns = columns_in c o.lists; chains = c.tasks; rows = n }) (file_sheet file)
  unfolding file_sheet sheet_from
  file_read c f k = rw (sym e, f, k (read_plan c f))

-- A plan's view counts its rows.
pub rows_counted : {T : Table} {before after : List ℕ} {n : ℕ} → Viewing T before after n → is_plan T ≡ true → n ≡ rows T
rows_counted (plan t e p) is = e
rows_counted (none t e) is = let z : ◌≡◌ {A = Bool} true false = sym is ∙ t in let clash : ◌≡◌ {A = ℕ} 0 1 = cc in absurd (omega arith)

-- A sheet is a refusal's, or a file was read and there is room for its table.
module _ (file : List ℕ) (chains count : ℕ) (Q : Sheet → Type 0) where
  pub by_sheet :
      ((r : Refusal) → Q (unread_sheet r)) → (128 ≤ count → 32 ≤ chains → (c : Counts) → (read_blank file).answer ≡ Ok c → Q (sheet_from (Ok c) (read_blank file).lists))
      → Q (sheet_of file chains count)
  unfolding sheet_of file_sheet sheet_from
  by_sheet refused found = go (dec_lt count 128) (dec_lt chains 32)
    where
      by_answer : 128 ≤ count → 32 ≤ chains → (a : Result Counts Refusal) → (read_blank file).answer ≡ a → Q (sheet_from a (read_blank file).lists)
      by_answer g h (Err r) e = refused r
      by_answer g h (Ok c) e = found g h c e

      go : Dec (count < 128) → Dec (chains < 32) → Q (sheet_of file chains count)
      go (yes a) b = rw (lt-ltb count 128 a) (refused (TooShort 128))
      go (no a) (yes b) = rw (le-ltb count 128 (omega arith), lt-ltb chains 32 b) (refused (TooShort 32))
      go (no a) (no b) = rw (le-ltb count 128 (omega arith), le-ltb chains 32 (omega arith)) (by_answer (omega arith) (omega arith) (read_blank file).answer refl)

-- No more records are laid than there is room for.
pub record Fits (chains count : ℕ) (s : Sheet) : Type 0 where
  pub chains_fit : s.chains ≤ chains
  pub rows_fit : s.rows ≤ count

pub sheet_fits : (file : List ℕ) (chains count : ℕ) → Fits chains count (sheet_of file chains count)
unfolding sheet_from
sheet_fits file chains count =
    by_sheet file chains count (Fits chains count) (λ r. record { chains_fit = omega arith; rows_fit = omega arith }) (λ g h c e.
    let ok = checked (table_in c (read_blank file).lists) (read_plan file _ refl c e) in
    record { chains_fit = omega (arith, ok.tasks_most); rows_fit = omega (arith, ok.rows_most) })

-- A refusal lays nothing.
pub refused_lays_none :
    (file : List ℕ) (chains count : ℕ) (r : Refusal) → (sheet_of file chains count).answer ≡ Err r → sheet_of file chains count ≡ unread_sheet r
unfolding sheet_from
refused_lays_none file chains count r =
    by_sheet file chains count (λ s. s.answer ≡ Err r → s ≡ unread_sheet r) (λ r' e. ap unread_sheet (let same : Err r' ≡ Err r = e in cc)) (λ g h c e f.
    let clash : ◌≡◌ {A = ℕ} 0 1 = cc in absurd (omega arith))
