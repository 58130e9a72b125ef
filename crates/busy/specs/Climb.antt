-- Rows gathered side by side, and what is known of the clock that climbs to their busy length. The private functions of
-- the analysis promise these.
use Rattle.std.specs.Prelude.{◌≡◌, Bool, cond, not, List, ℕ, suc, max, ◌+◌, ◌*◌, ◌-◌, ◌≤◌, ◌<◌, eqb, length}
use Rattle.facts.specs.Sums.{sum, sum_if}
use Rattle.facts.specs.Rounding.{ceil}
use Rattle.facts.specs.LeastLaws.{Below}
use Rattle.facts.specs.Filled.{filled}
use Rattle.table.specs.Table.{at}
use Rattle.equations.specs.Row.{Row, work_to}
use Rattle.equations.specs.RowLaws.{SoFar}

-- A list of 128 entries, all 0.
pub record Zeros (l : List ℕ) : Type 0 where
  pub size : length l ≡ 128
  pub zero : (i : ℕ) → at l i ≡ 0

-- The columns have n rows, in range.
pub record Ranged (n : ℕ) (period cost : List ℕ) : Type 0 where
  pub few : n ≤ 128
  pub periods : n ≤ length period
  pub costs : n ≤ length cost
  pub period_least : (i : ℕ) → i < n → 1 ≤ at period i
  pub period_most : (i : ℕ) → i < n → at period i ≤ 1000000
  pub cost_least : (i : ℕ) → i < n → 1 ≤ at cost i
  pub cost_most : (i : ℕ) → i < n → at cost i ≤ 1000000

-- What the n rows ask for in t ticks.
unfoldable pub work_of : ℕ → List ℕ → List ℕ → ℕ → ℕ
work_of n period cost t = sum n (λ i. ceil t (at period i) * at cost i)

-- The equations of row i among them.
unfoldable pub gathered_row : ℕ → List ℕ → List ℕ → ℕ → Row
gathered_row n period cost i = record {
  period = at period i;
  cost = at cost i;
  others = λ t. sum_if n (λ j. not (eqb j i)) (λ j. ceil t (at period j) * at cost j);
}

-- Instances of row i that come after its clock `due`, up to t.
unfoldable pub came : ℕ → List ℕ → List ℕ → ℕ → ℕ
came t period due i = ceil (t - at due i) (at period i)

-- The first instances have come: each row's next is due after a period, and none waits behind the first.
pub record Begun (n : ℕ) (period cost due later due' later' : List ℕ) (work : ℕ) : Type 0 where
  pub due_is : due' ≡ filled (at period) n due
  pub later_is : later' ≡ filled (λ i. 0) n later
  pub work_is : work ≡ sum n (at cost)

-- The clock has moved on to t: what came is counted.
pub record Advanced (n t : ℕ) (period cost due later due' later' : List ℕ) (fresh : ℕ) : Type 0 where
  pub due_is : due' ≡ filled (λ i. at due i + came t period due i * at period i) n due
  pub later_is : later' ≡ filled (λ i. at later i + came t period due i * at cost i) n later
  pub fresh_is : fresh ≡ sum n (λ i. came t period due i * at cost i)

-- The instance sought of row i ends at t: all work but what waits behind it is done.
abbrev pub ended : ℕ → ℕ → List ℕ → ℕ → Bool
ended t work later i = eqb (work - at later i) t

-- What waits behind the instance that is sought next.
abbrev pub later_next : ℕ → ℕ → List ℕ → List ℕ → ℕ → ℕ
later_next t work cost later i = cond (ended t work later i) (at later i - at cost i) (at later i)

-- The instances that end at t have their bounds, the next ones are sought, and none of these ends before `next`.
pub record Settled (tied t work : ℕ) (period cost later begin best later' begin' best' : List ℕ) (next : ℕ) : Type 0 where
  pub later_is : later' ≡ filled (later_next t work cost later) tied later
  pub begin_is : begin' ≡ filled (λ i. cond (ended t work later i) (at begin i + at period i) (at begin i)) tied begin
  pub best_is : best' ≡ filled (λ i. cond (ended t work later i) (max (at best i) (t - at begin i)) (at best i)) tied best
  pub past : t < next
  pub most : next ≤ work
  pub each : (i : ℕ) → i < tied → next ≤ work - later_next t work cost later i

-- The search for the instances of one row, whose work is counted up to s, has come to t: instance k, counted from 0, is
-- sought, which began at `begin`; `later` is the work of the row's own instances behind it, and `best` is the greatest
-- bound of those before it.
pub record Progress (q : Row) (s t later begin best : ℕ) : Type 0 where
  pub k : ℕ
  pub begins : begin ≡ k * q.period
  pub came : begin < s
  pub behind : later + suc k * q.cost ≡ ceil s q.period * q.cost
  pub below : Below (work_to q k) t
  pub so_far : SoFar q k best

-- The climb over the columns: counted up to s, searched up to t, with the instances of the first rows sought.
pub record Climbing (n tied s t work : ℕ) (period cost due later begin best : List ℕ) : Type 0 where
  pub pos : 0 < s
  pub order : s ≤ t
  pub below : Below (work_of n period cost) t
  pub work_is : work ≡ work_of n period cost s
  pub due_is : (i : ℕ) → i < n → at due i ≡ ceil s (at period i) * at period i
  pub later_most : (i : ℕ) → i < n → at later i ≤ ceil s (at period i) * at cost i
  pub each : (i : ℕ) → i < tied → Progress (gathered_row n period cost i) s t (at later i) (at begin i) (at best i)

-- What settling at t reads of the rows whose instances are sought.
pub record Sought (tied t work : ℕ) (cost later begin : List ℕ) : Type 0 where
  pub past : t < work
  pub rises : (i : ℕ) → i < tied → t + at later i ≤ work
  pub whole : (i : ℕ) → i < tied → 0 < at later i → at cost i ≤ at later i
  pub begun : (i : ℕ) → i < tied → at begin i < t
