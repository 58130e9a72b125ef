-- From what the parts promise to the outcome of the whole.
use Rattle.std.specs.Prelude.{◌≡◌, refl, Bool, true, false, cond, ℕ, ◌<◌, ℤ, Err, Ok, Result}
use Rattle.std.proofs.Math.Path.{ap}
use Rattle.std.proofs.Common.{sym, subst, ◌∙◌, arith}
use mathlib.Core.List.{List}
use Rattle.std.proofs.Math.ListN.{length}
use Rattle.facts.specs.TestsLaws.{clash}
use Rattle.facts.specs.Filled.{filled}
use Rattle.facts.specs.FilledLaws.{get_d_filled, length_filled, filled_ext}
use Rattle.table.specs.declared.refusal.Refusal.{Refusal}
use Rattle.table.specs.declared.refusal.Refusal.TheVariants.{NotAPlan, TooShort}
use Rattle.table.specs.Table.{Table, at, first_row, rows, is_plan}
use Rattle.table.specs.TableLaws.{Checked, checked, long_true}
use Rattle.table.specs.Plan.{plan_of, in_force}
use Rattle.table.specs.PlanLaws.{right_of, small_of}
use Rattle.equations.specs.RowLaws.{bound_within}
use Rattle.equations.specs.BesideLaws.{proper_of}
use Rattle.busy.specs.Numbering.{RowLists, row_lists_of, room_for_rows, rows_filled_in, Found, Unnumbered, no_plan as unplanned, too_short as unroomy, no_busy_length as stuck, Numbering}
use Rattle.busy.specs.BusyLaws.{Same, analysis_same}
use Rattle.busy.specs.Rows.{numbers_of}
use Rattle.bounds.specs.Bounds.{Numbers, Analysis, chain_bound, slack_of, accepted, Lists, lists_of, needed, filled_in, Given, Refusing, no_plan, too_short, no_busy_length}
use Rattle.bounds.specs.Chains.{bounds_of, Chained}
use Rattle.bounds.specs.Room.{needed_for, rows_in}
use Rattle.bounds.specs.RoomLaws.{needed_same, Room, room_for}

-- The row lists of the five.
abbrev pub row_lists_in : Lists → RowLists
row_lists_in l = row_lists_of l.busy l.instances l.bound

lists_same :
    {a a' b b' c c' d d' : List ℕ} {s s' : List ℤ} → a ≡ a' → b ≡ b' → c ≡ c' → d ≡ d' → s ≡ s'
    → ◌≡◌ {A = Lists} (lists_of a b c d s) (lists_of a' b' c' d' s')
lists_same ea eb ec ed es = rw (ea, eb, ec, ed, es)

-- The rows' outcome, where the lists are named otherwise.
pub numbering_named :
    (T : Table) (l : RowLists) {a a' b b' c c' : List ℕ} (x : Result ℕ Refusal) → a' ≡ a → b' ≡ b → c' ≡ c
    → Numbering T l (row_lists_of a b c) x → Numbering T l (row_lists_of a' b' c') x
numbering_named T l x ea eb ec h = rw (ea, eb, ec) h

module _ (T : Table) where
  some_row : is_plan T ≡ true → 0 < rows T
  unfolding plan_of
  some_row t = (small_of T (checked T t)).some

  -- No rows are counted where the table is no plan.
  pub refusing_no_plan : {n : ℕ} → n ≡ rows_in T → n ≡ 0 → (l : Lists) → Refusing T l NotAPlan
  refusing_no_plan {n} e z l = go (is_plan T) refl
    where
      go : (x : Bool) → is_plan T ≡ x → Refusing T l NotAPlan
      go true t = let all : n ≡ rows T = e ∙ rw t in absurd (omega (arith, some_row t, all))
      go false t = no_plan refl t

  -- The table is a plan with n rows.
  pub record Planned (n : ℕ) : Type 0 where
    pub plan : is_plan T ≡ true
    pub count : n ≡ rows T

  pub planned : {n : ℕ} → n ≡ rows_in T → (n ≡ 0 → ⊥) → Planned n
  planned {n} e ne = go (is_plan T) refl
    where
      go : (x : Bool) → is_plan T ≡ x → Planned n
      go true t = record { plan = t; count = e ∙ rw t }
      go false t = absurd (ne (e ∙ rw t))

  -- The table is a plan with n rows, and the lists are l.
  module _ {n : ℕ} (plan : is_plan T ≡ true) (count : n ≡ rows T) (l : Lists) where
    ok : Checked T
    ok = checked T plan

    -- What the first short list needs, by the number of rows that was counted: it is refused, or nothing is needed.
    pub needed_is : {r : ℕ} → r ≡ needed_for n T.tasks l → needed T l ≡ r
    needed_is e = sym (needed_same T l) ∙ ap (λ (k : ℕ). needed_for k T.tasks l) (sym count) ∙ sym e

    pub refusing_needed : {why : Refusal} → why ≡ TooShort (needed_for n T.tasks l) → 0 < needed_for n T.tasks l → Refusing T l why
    refusing_needed e h = too_short (e ∙ ap TooShort (sym (needed_is refl))) plan (omega (arith, needed_is refl))

    module _ (z : needed_for n T.tasks l ≡ 0) where
      pub none_needed : needed T l ≡ 0
      none_needed = needed_is refl ∙ z

      pub room : Room (rows T) T.tasks l
      room = room_for (rows T) T.tasks l (some_row plan) ok.tasks_least (needed_same T l ∙ none_needed)

      roomy : room_for_rows T (row_lists_in l) ≡ true
      roomy =
          long_true (rows T) l.busy l.instances l.bound
          (record { one = room.busy; two = room.instances; three = room.bound })

      refusing : {why : Refusal} → Unnumbered T (row_lists_in l) why → Refusing T l why
      refusing (unplanned u t) = no_plan u t
      refusing (unroomy u t s) = absurd (clash roomy s)
      refusing (stuck u t w s) = no_busy_length u t none_needed s

      module _ (x : Result ℕ Refusal) (after : RowLists) (h : Numbering T (row_lists_in l) after x) where
        -- The rows were refused, and so are the bounds: all lists are left.
        pub refused :
            (why : Refusal) → x ≡ Err why
            → Refusing T l why × (lists_of after.busy after.instances after.bound l.chain l.slack ≡ l)
        refused why f = (refusing h'.0, ap (λ (rest : RowLists). lists_of rest.busy rest.instances rest.bound l.chain l.slack) h'.1)
          where
            h' : Numbering T (row_lists_in l) after (Err why)
            h' = subst (λ (k : Result ℕ Refusal). Numbering T (row_lists_in l) after k) f h

        module _ {k : ℕ} (f : x ≡ Ok k) where
          found : Found T (row_lists_in l) after k
          found = (subst (λ (y : Result ℕ Refusal). Numbering T (row_lists_in l) after y) f h).2

          abbrev N : Numbers
          N = found.numbers

          -- Else the rows' numbers stand in the lists,
          busy_is : after.busy ≡ filled N.busy (rows T) l.busy
          unfolding rows_filled_in
          busy_is = ap (λ (rest : RowLists). rest.busy) found.lists

          instances_is : after.instances ≡ filled N.instances (rows T) l.instances
          unfolding rows_filled_in
          instances_is = ap (λ (rest : RowLists). rest.instances) found.lists

          bound_is : after.bound ≡ filled N.bound (rows T) l.bound
          unfolding rows_filled_in
          bound_is = ap (λ (rest : RowLists). rest.bound) found.lists

          abbrev Read : Numbers
          Read = numbers_of after.busy after.instances after.bound

          read : Same T N Read
          read = record {
            busy = λ r m. sym (ap (λ (L : List ℕ). at L r) busy_is ∙ get_d_filled N.busy (rows T) r 0 l.busy m);
            instances = λ r m. sym (ap (λ (L : List ℕ). at L r) instances_is ∙ get_d_filled N.instances (rows T) r 0 l.instances m);
            bound = λ r m. sym (ap (λ (L : List ℕ). at L r) bound_is ∙ get_d_filled N.bound (rows T) r 0 l.bound m);
          }

          analysis : Analysis T Read
          analysis = analysis_same read found.analysis

          -- the chains can be summed,
          pub chained : Chained T after.bound
          unfolding plan_of rows first_row
          chained = record {
            few = ok.tasks_most;
            periods = ok.tasks.long.one;
            deadlines = ok.tasks.long.two;
            counts = ok.tasks.long.three;
            bounds = (let same : length after.bound ≡ length l.bound = ap (λ (L : List ℕ). length L) bound_is ∙ length_filled N.bound (rows T) l.bound room.bound in omega (arith, same, room.bound));
            period_most = λ i m. (ok.tasks.each i m).period_most;
            deadline_most = λ i m. (ok.tasks.each i m).deadline_most;
            steps_most = λ i m. (ok.tasks.each i m).steps_most;
            rows_most = ok.rows_most;
            bound_most = λ i m. omega (arith, bound_within (proper_of (right_of T ok) i m) (analysis.row i m), analysis.within i m);
          }

          -- and the lists are filled.
          pub given :
              {chain : List ℕ} {slack : List ℤ} {answer : ℕ}
              → chain ≡ filled (chain_bound T (bounds_of after.bound)) T.tasks l.chain
              → slack ≡ filled (slack_of T (bounds_of after.bound)) T.tasks l.slack
              → answer ≡ cond (accepted T (bounds_of after.bound)) 1 0
              → Given T l (lists_of after.busy after.instances after.bound chain slack) answer
          unfolding filled_in chain_bound slack_of in_force accepted first_row
          given ec es ea = record {
            numbers = Read;
            analysis = analysis;
            lists = lists_same (busy_is ∙ filled_ext N.busy (at after.busy) (rows T) l.busy read.busy) (instances_is ∙ filled_ext N.instances (at after.instances) (rows T) l.instances read.instances) (bound_is ∙ filled_ext N.bound (at after.bound) (rows T) l.bound read.bound) ec es;
            says = ea;
          }
