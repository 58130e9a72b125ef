-- Laws of tables held as records.
use Rattle.std.specs.Prelude.{ℕ, min, ◌+◌, ◌≤◌, ◌<◌, ◌≡◌, Bool, true, false, ◌&&◌, List, map, leb, length, get_or, replicate}
use Rattle.std.proofs.Common.{arith, sym, ◌∙◌, leb-true}
use Rattle.std.proofs.Math.Decide.{dec_lt, dec_le}
use Rattle.std.proofs.Math.Path.{refl, ap}
use Rattle.std.proofs.lemmas.List.{length-map, length-replicate, get_or-replicate}
use Rattle.std.proofs.Math.ListN.{get_or-map, get_or-eq_default}
use Rattle.facts.specs.Filled.{tab, filled}
use Rattle.facts.specs.FilledLaws.{filled_more, length_filled, get_d_filled, get_d_rest}
use Rattle.facts.specs.SumsLaws.{sum_ext}
use Rattle.facts.specs.Tests.{all}
use Rattle.facts.specs.TestsLaws.{all_fails, and_false, all_ext}
use Rattle.table.specs.Keys.{processors_key, tasks_key, period_key, processor_key}
use Rattle.table.specs.Ranges.{ranges, range_of, in_range}
use Rattle.table.specs.RangesLaws.{within_of}
use Rattle.table.specs.Table.{Table, table_of, at, most_rows, is_plan, entries_right, entry_right, long_enough, first_row}
use Rattle.table.specs.Table as table
use Rattle.table.specs.TableLaws.{long_true}
use Rattle.columns.specs.Columns.{with_chain, with_row}
use Rattle.columns.specs.ColumnsLaws.{Sizes}
use Rattle.columns.specs.declared.columns.Columns.{Columns}
use Rattle.columns.specs.declared.columns.Chain.{Chain}
use Rattle.columns.specs.declared.columns.Row.{Row}
use Rattle.records.specs.Records.{no_chain, no_row, chain_at, row_at, first_chains, first_rows, records_table}

-- No record of a task is taken yet.
pub chains_none : (c : Columns) (chains : List Chain) → c ≡ first_chains c chains 0
unfolding tab
chains_none c chains = refl

-- One more record of a task is taken.
pub chains_more : (c : Columns) (chains : List Chain) (i : ℕ) → Sizes c → i < 32 → with_chain (first_chains c chains i) i (chain_at chains i) ≡ first_chains c chains (i + 1)
chains_more c chains i z h =
    rw (
      filled_more (λ k. (chain_at chains k).period) i (chain_at chains i).period c.period (omega arith) refl,
      filled_more (λ k. (chain_at chains k).deadline) i (chain_at chains i).deadline c.deadline (omega arith) refl,
      filled_more (λ k. (chain_at chains k).steps) i (chain_at chains i).steps c.steps (omega arith) refl,
    )

-- No record of a row is taken yet.
pub rows_none : (c : Columns) (rows : List Row) → c ≡ first_rows c rows 0
unfolding tab
rows_none c rows = refl

-- One more record of a row is taken.
pub rows_more : (c : Columns) (rows : List Row) (i : ℕ) → Sizes c → i < 128 → with_row (first_rows c rows i) i (row_at rows i) ≡ first_rows c rows (i + 1)
rows_more c rows i z h =
    rw (
      filled_more (λ k. (row_at rows k).processor) i (row_at rows i).processor c.processor (omega arith) refl,
      filled_more (λ k. (row_at rows k).priority) i (row_at rows i).priority c.priority (omega arith) refl,
      filled_more (λ k. (row_at rows k).time) i (row_at rows i).time c.time (omega arith) refl,
    )

-- A column of m places that holds what a list of len numbers holds, as far as either goes, and 0 at the rest.
record Same (m len : ℕ) (column list : List ℕ) : Type 0 where
  size : length column ≡ m
  long : length list ≡ len
  each : (i : ℕ) → i < m → at column i ≡ at list i

-- The column of a field of records has the numbers of the list of that field.
column_same : {A : Type 0} (field : A → ℕ) (none : A) → field none ≡ 0 → (l : List A) (m : ℕ)
    → Same m (length l) (filled (λ i. field (get_or l i none)) (min (length l) m) (replicate m 0)) (map field l)
column_same field none z l m = record {
  size = length_filled (λ i. field (get_or l i none)) (min (length l) m) (replicate m 0) (omega (arith, length-replicate {A = ℕ} m 0)) ∙ length-replicate {A = ℕ} m 0;
  long = length-map l field;
  each = λ i h. go i h (dec_lt i (length l));
}
  where
    go : (i : ℕ) → i < m → Dec (i < length l) → at (filled (λ k. field (get_or l k none)) (min (length l) m) (replicate m 0)) i ≡ at (map field l) i
    go i h (yes w) =
        get_d_filled (λ k. field (get_or l k none)) (min (length l) m) i 0 (replicate m 0) (omega arith)
        ∙ sym (ap (λ (d : ℕ). get_or (map field l) i d) (sym z) ∙ get_or-map field l i none)
    go i h (no w) =
        get_d_rest (λ k. field (get_or l k none)) (min (length l) m) i 0 (replicate m 0) (omega arith)
        ∙ get_or-replicate m i 0 0 h
        ∙ sym (get_or-eq_default (map field l) 0 {n = i} (omega (arith, length-map l field)))

-- A test of each place's three numbers that fails at three zeros, up to n places: on the columns, and on the lists.
tests_same : (f : ℕ → ℕ → ℕ → Bool) → f 0 0 0 ≡ false → (n m len : ℕ) → n ≤ m → (a b c a' b' c' : List ℕ) → Same m len a a' → Same m len b b' → Same m len c c'
    → long_enough n a b c && all n (λ i. f (at a i) (at b i) (at c i)) ≡ long_enough n a' b' c' && all n (λ i. f (at a' i) (at b' i) (at c' i))
tests_same f z n m len h a b c a' b' c' sa sb sc = go (dec_le n len)
  where
    same : all n (λ i. f (at a i) (at b i) (at c i)) ≡ all n (λ i. f (at a' i) (at b' i) (at c' i))
    same = all_ext n {f = λ i. f (at a i) (at b i) (at c i)} {g = λ i. f (at a' i) (at b' i) (at c' i)} (λ i l. rw (sa.each i (omega arith), sb.each i (omega arith), sc.each i (omega arith)))

    enough : long_enough n a b c ≡ true
    enough = long_true n a b c (record { one = omega (arith, sa.size); two = omega (arith, sb.size); three = omega (arith, sc.size) })

    go : Dec (n ≤ len) → long_enough n a b c && all n (λ i. f (at a i) (at b i) (at c i)) ≡ long_enough n a' b' c' && all n (λ i. f (at a' i) (at b' i) (at c' i))
    go (yes l) = rw (enough, same, long_true n a' b' c' (record { one = omega (arith, sa.long); two = omega (arith, sb.long); three = omega (arith, sc.long) }))
    go (no l) = rw (
      enough,
      same,
      all_fails n (λ i. f (at a' i) (at b' i) (at c' i)) len (omega arith)
          (rw (get_or-eq_default a' 0 {n = len} (omega (arith, sa.long)), get_or-eq_default b' 0 {n = len} (omega (arith, sb.long)), get_or-eq_default c' 0 {n = len} (omega (arith, sc.long))) z),
      and_false (long_enough n a' b' c'),
    )

-- The numbers of the records as number lists.
abbrev pub lists_table : ℕ → ℕ → List Chain → List Row → Table
lists_table processors tasks chains rows =
    table_of processors tasks (map (λ c. c.period) chains) (map (λ c. c.deadline) chains) (map (λ c. c.steps) chains)
    (map (λ r. r.processor) rows) (map (λ r. r.priority) rows) (map (λ r. r.time) rows)

and_same : (b : Bool) {x y : Bool} → (b ≡ true → x ≡ y) → b && x ≡ b && y
and_same true h = h refl
and_same false h = refl

module _ (processors tasks : ℕ) (chains : List Chain) (rows : List Row) where
  abbrev held : Table
  held = records_table processors tasks chains rows

  abbrev listed : Table
  listed = lists_table processors tasks chains rows

  tasks_same : tasks ≤ 32 → entries_right tasks period_key 0 held.period held.deadline held.steps ≡ entries_right tasks period_key 0 listed.period listed.deadline listed.steps
  unfolding entries_right entry_right in_range range_of ranges
  tasks_same h =
      tests_same (entry_right period_key 0) refl tasks 32 (length chains) h held.period held.deadline held.steps listed.period listed.deadline listed.steps
      (column_same (λ c. c.period) no_chain refl chains 32) (column_same (λ c. c.deadline) no_chain refl chains 32) (column_same (λ c. c.steps) no_chain refl chains 32)

  count_same : tasks ≤ 32 → table.rows held ≡ table.rows listed
  unfolding table.rows first_row
  count_same h = sum_ext tasks {f = at held.steps} {g = at listed.steps} (λ i l. (column_same (λ c. c.steps) no_chain refl chains 32).each i (omega arith))

  rows_same : (n : ℕ) → n ≤ 128 → entries_right n processor_key processors held.processor held.priority held.time ≡ entries_right n processor_key processors listed.processor listed.priority listed.time
  unfolding entries_right entry_right in_range range_of ranges
  rows_same n h =
      tests_same (entry_right processor_key processors) refl n 128 (length rows) h held.processor held.priority held.time listed.processor listed.priority listed.time
      (column_same (λ r. r.processor) no_row refl rows 128) (column_same (λ r. r.priority) no_row refl rows 128) (column_same (λ r. r.time) no_row refl rows 128)

  most_tasks : in_range tasks_key 0 tasks ≡ true → tasks ≤ 32
  unfolding range_of ranges
  most_tasks e = (within_of tasks_key 0 tasks e).most

  -- Records are a plan exactly if their numbers as lists are.
  pub records_plan : is_plan (records_table processors tasks chains rows) ≡ is_plan (lists_table processors tasks chains rows)
  unfolding is_plan
  records_plan =
      ap (λ (x : Bool). in_range processors_key 0 processors && x) (and_same (in_range tasks_key 0 tasks) (λ e. (let h : tasks ≤ 32 = most_tasks e in
      rw (tasks_same h, count_same h) (ap (λ (x : Bool). entries_right tasks period_key 0 listed.period listed.deadline listed.steps && x)
      (and_same (leb (table.rows listed) most_rows) (λ d. rows_same (table.rows listed) (leb-true (table.rows listed) most_rows d)))))))
