-- A tick keeps the window of a row, or begins it anew.
use Rattle.std.specs.Prelude.{ℕ, suc, ◌+◌, ◌*◌, ◌≤◌, ◌<◌, ◌≡◌, ◌⊎◌}
use Rattle.std.proofs.Common.{inl, inr}
use native.Mathlib.Omega.{arith}
use Rattle.table.specs.Plan.{Plan}
use Rattle.table.specs.PlanLaws.{Right}
use Rattle.guards.specs.Moment.{Moment}
use Rattle.guards.specs.Seam.{Gate, Ticked}
use Rattle.guards.specs.FitsLaws.{Fits}
use Rattle.guards.specs.FitsKept.{worked_order}
use Rattle.promise.specs.Level.{Level}
use Rattle.promise.proofs.Level.{level_self, total_mono}
use Rattle.promise.specs.Window.{work, Window, Punctual}
use Rattle.promise.specs.Work.{LevelOpen, LevelQuiet}
use Rattle.promise.proofs.Work.{level_open}
use Rattle.promise.proofs.WindowGoesOn.{window_goes_on}

module _ {P : Plan} (ok : Right P) {m n : Moment} (fits : Fits P m) (t : Ticked P m n) (due : ℕ → ℕ → ℕ) {r : ℕ}
    (l : r < P.rows) (punctual : Punctual due m n r) where
  -- Where no row of the level is open after steps 1 to 3, all that was released is completed, and the new clock is the start.
  module _ (none : LevelQuiet P m n r) where
    closed : (k : ℕ) → k < P.rows → Level P r k → n.completed k ≡ m.released k
    closed k lk v = omega (arith, none k lk v, worked_order ok fits t k lk)

    spaced :
        (k : ℕ) → k < P.rows → Level P r k → n.completed k < n.released k → Gate P m n k
        → n.clock + n.released k * P.period k ≤ n.guard k + n.completed k * P.period k
    spaced k lk v h (Gate.kept a b c) = absurd (omega (arith, closed k lk v))
    spaced k lk v h (Gate.lowered a q b c d) = absurd (omega (arith, closed k lk v))
    spaced k lk v h (Gate.lets_go a b c d e) = rw (c, d, closed k lk v) (omega arith)

    early :
        (i : ℕ) → n.completed r < i → i ≤ n.released r → Gate P m n r
        → n.clock + i * P.period r ≤ due r i + P.period r + n.completed r * P.period r
    early i lo hi (Gate.kept a b c) = absurd (omega (arith, closed r l (level_self P r)))
    early i lo hi (Gate.lowered a q b c d) = absurd (omega (arith, closed r l (level_self P r)))
    early i lo hi (Gate.lets_go a b c d e) =
        let ei : i ≡ suc (m.released r) = omega (arith, closed r l (level_self P r)) in
        rw (ei, closed r l (level_self P r)) (omega (arith, punctual c))

    work_has : (k : ℕ) → n.completed k * P.cost k ≤ work P n k
    unfolding work
    work_has k = omega arith

    window_anew : Window P due n r
    window_anew = record {
      start = n.clock;
      base = n.completed;
      begun = omega arith;
      based = λ k lk v. omega arith;
      worked = omega (arith, total_mono P r l {f = λ k. n.completed k * P.cost k} {g = work P n} (λ k lk v. work_has k));
      spaced = λ k lk v h. spaced k lk v h (t.gate k lk);
      early = λ i lo hi. early i lo hi (t.gate r l);
      full = λ y py h. absurd (omega arith);
      behind = λ y py h. absurd (omega arith);
    }

  pub window_ticked : Window P due m r → Window P due n r
  window_ticked w = go (level_open P m n r)
    where
      go : LevelOpen P m n r ⊎ LevelQuiet P m n r → Window P due n r
      go (inl o) = window_goes_on ok fits t l w punctual o
      go (inr none) = window_anew none
