-- Laws of the room in the lent lists.
use Rattle.std.specs.Prelude.{◌≡◌, refl, List, ℕ, ◌≤◌, ◌<◌, length}
use Rattle.std.proofs.Common.{◌∙◌}
use native.Mathlib.Omega.{arith, by_contra}
use borrow.Author.Tests.{le-leb, lt-leb}
use Rattle.table.specs.Table.{Table, rows, long_enough}
use Rattle.bounds.specs.Bounds.{Lists, needed}
use Rattle.busy.specs.Rows.{Viewing, plan, none}
use Rattle.bounds.specs.Room.{needed_for, rows_in}

-- What the first short list needs, case by case.
module _ (n tasks : ℕ) (l : Lists) where
  pub needed_busy : length l.busy < n → needed_for n tasks l ≡ n
  unfolding needed_for long_enough
  needed_busy h = rw (lt-leb n (length l.busy) h)

  module _ (b : n ≤ length l.busy) where
    pub needed_instances : length l.instances < n → needed_for n tasks l ≡ n
    unfolding needed_for long_enough
    needed_instances h = rw (le-leb n (length l.busy) b, lt-leb n (length l.instances) h)

    module _ (m : n ≤ length l.instances) where
      pub needed_bound : length l.bound < n → needed_for n tasks l ≡ n
      unfolding needed_for long_enough
      needed_bound h = rw (le-leb n (length l.busy) b, le-leb n (length l.instances) m, lt-leb n (length l.bound) h)

      module _ (c : n ≤ length l.bound) where
        pub needed_chain : length l.chain < tasks → needed_for n tasks l ≡ tasks
        unfolding needed_for long_enough
        needed_chain h = rw (le-leb n (length l.busy) b, le-leb n (length l.instances) m, le-leb n (length l.bound) c, lt-leb tasks (length l.chain) h)

        module _ (d : tasks ≤ length l.chain) where
          pub needed_slack : length l.slack < tasks → needed_for n tasks l ≡ tasks
          unfolding needed_for long_enough
          needed_slack h = rw (le-leb n (length l.busy) b, le-leb n (length l.instances) m, le-leb n (length l.bound) c, le-leb tasks (length l.chain) d, lt-leb tasks (length l.slack) h)

          pub needed_none : tasks ≤ length l.slack → needed_for n tasks l ≡ 0
          unfolding needed_for long_enough
          needed_none h = rw (le-leb n (length l.busy) b, le-leb n (length l.instances) m, le-leb n (length l.bound) c, le-leb tasks (length l.chain) d, le-leb tasks (length l.slack) h)

pub needed_same : (T : Table) (l : Lists) → needed_for (rows T) T.tasks l ≡ needed T l
unfolding needed needed_for
needed_same T l = refl

-- Each list is long enough.
pub record Room (n tasks : ℕ) (l : Lists) : Type 0 where
  pub busy : n ≤ length l.busy
  pub instances : n ≤ length l.instances
  pub bound : n ≤ length l.bound
  pub chain : tasks ≤ length l.chain
  pub slack : tasks ≤ length l.slack

-- So it is where nothing is needed.
pub room_for : (n tasks : ℕ) (l : Lists) → 0 < n → 0 < tasks → needed_for n tasks l ≡ 0 → Room n tasks l
room_for n tasks l some any z = record { busy = b; instances = m; bound = c; chain = d; slack = e }
  where
    b : n ≤ length l.busy
    b = by_contra n (length l.busy) (λ h. omega (arith, z, needed_busy n tasks l h))

    m : n ≤ length l.instances
    m = by_contra n (length l.instances) (λ h. omega (arith, z, needed_instances n tasks l b h))

    c : n ≤ length l.bound
    c = by_contra n (length l.bound) (λ h. omega (arith, z, needed_bound n tasks l b m h))

    d : tasks ≤ length l.chain
    d = by_contra tasks (length l.chain) (λ h. omega (arith, z, needed_chain n tasks l b m c h))

    e : tasks ≤ length l.slack
    e = by_contra tasks (length l.slack) (λ h. omega (arith, z, needed_slack n tasks l b m c d h))

-- A view of the rows counts them.
pub rows_counted : {T : Table} {before after : List ℕ} {n : ℕ} → Viewing T before after n → n ≡ rows_in T
rows_counted (plan t e p) = e ∙ rw t
rows_counted (none t e) = e ∙ rw t
