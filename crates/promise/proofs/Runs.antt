-- Runs of the machine, with a log of their arrivals, and what holds in them.
use Rattle.std.specs.Prelude.{ℕ, ◌≤◌, ◌<◌}
use Rattle.std.proofs.Common.{◌∙◌, arith}
use Rattle.table.specs.Plan.{Plan}
use Rattle.table.specs.PlanLaws.{Right}
use Rattle.guards.specs.Moment.{Moment}
use Rattle.guards.specs.Seam.{Gate, Entry}
use Rattle.guards.specs.SeamLaws.{entry}
use Rattle.equations.specs.Safe.{Safe}
use Rattle.promise.specs.Invariant.{Invariant}
use Rattle.promise.proofs.InvariantStart.{invariant_start, invariant_same}
use Rattle.promise.proofs.InvariantTicked.{invariant_ticked}
use Rattle.promise.proofs.InvariantArrived.{invariant_arrived}
use Rattle.promise.specs.Runs.{Next, Noted, Run}

-- Releases are never taken back.
pub grows : {P : Plan} {m n : Moment} → Next P m n → (r : ℕ) → r < P.rows → m.released r ≤ n.released r
grows {P} {m} {n} (Next.arrives f l e g a) r lr = go (entry a r)
  where
    go : Entry P m n f r → m.released r ≤ n.released r
    go (Entry.this q x y) = omega arith
    go (Entry.other x y) = omega arith
grows {P} {m} {n} (Next.ticks h t) r lr = go (t.gate r lr)
  where
    go : Gate P m n r → m.released r ≤ n.released r
    go (Gate.kept a b c) = omega arith
    go (Gate.lowered a q b c d) = omega arith
    go (Gate.lets_go a b c d e) = omega arith
grows (Next.rewrites s) r lr = omega (arith, s.released r lr)

module _ {P : Plan} (ok : Right P) {R : ℕ → ℕ} (safe : (r : ℕ) → r < P.rows → Safe P r (R r)) where
  step : {A : ℕ → ℕ → ℕ} {m n : Moment} → Invariant P R A m → Next P m n → Noted P A m n → Invariant P R A n
  step v (Next.arrives f l e g a) noted = invariant_arrived ok v e g (noted f l e a.here.0 ∙ a.clock) a
  step v (Next.ticks h t) noted = invariant_ticked ok safe v t h
  step v (Next.rewrites s) noted = invariant_same ok s v

  pub run_holds : {A : ℕ → ℕ → ℕ} {m : Moment} → Run P A m → Invariant P R A m
  run_holds {A} Run.started = invariant_start ok R A
  run_holds (Run.goes u x noted) = step (run_holds u) x noted
