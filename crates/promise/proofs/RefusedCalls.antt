-- Refused calls change nothing, so a run with them is a run without them.
use Rattle.std.specs.Prelude.{◌+◌, ◌≡◌, refl, Bool, true, false, cond, List, [], ◌∷◌}
use Rattle.std.proofs.Common.{sym, ◌∙◌, ap, arith}
use Rattle.facts.specs.TestsLaws.{clash}
use Rattle.table.specs.Table.{Table}
use Rattle.guards.specs.declared.state.State.{State}
use Rattle.guards.specs.Outcome.{Outcome}
use Rattle.guards.specs.Calls.{TickOutcome}
use Rattle.guards.specs.TakenLaws.{Arriving, arrive_is, Ticking, tick_is}
use Rattle.promise.specs.Promise.{Call, outcome_of, is_taken, after, ticks_by, ticks_taken}
use Rattle.promise.specs.RefusedCalls.{taken_of}

-- A refused call changes nothing,
pub refused_stays : (T : Table) (σ : State) (call : Call) → is_taken (outcome_of T σ call).answer ≡ false → (outcome_of T σ call).state ≡ σ
unfolding outcome_of is_taken
refused_stays T σ (Call.arrival task) = go (arrive_is T σ task)
  where
    go : {o : Outcome} → Arriving T σ task o → is_taken o.answer ≡ false → o.state ≡ σ
    go (Arriving.refused why) e = refl
    go (Arriving.taken may) e = absurd (clash refl e)
refused_stays T σ (Call.clock_tick done released) = go (tick_is T σ done released)
  where
    go : {o : TickOutcome} → Ticking T σ done released o → is_taken o.outcome.answer ≡ false → o.outcome.state ≡ σ
    go (Ticking.refused why) e = refl
    go (Ticking.taken may) e = absurd (clash refl e)

-- so a run with refused calls is the run without them.
pub without_refused : (T : Table) (σ : State) (calls : List Call) → after T σ (taken_of T σ calls) ≡ after T σ calls
unfolding after taken_of
without_refused T σ [] = refl
without_refused T σ (call ∷ calls) = go (is_taken (outcome_of T σ call).answer) refl (without_refused T (outcome_of T σ call).state calls)
  where
    next : State
    next = (outcome_of T σ call).state

    go :
        (b : Bool) → is_taken (outcome_of T σ call).answer ≡ b → after T next (taken_of T next calls) ≡ after T next calls
        → after T σ (cond b (call ∷ taken_of T next calls) (taken_of T next calls)) ≡ after T next calls
    go true e ih = ih
    go false e ih = ap (λ (s : State). after T s (taken_of T next calls)) (sym (refused_stays T σ call e)) ∙ ih

-- It has the same ticks.
refused_ticks : (T : Table) (σ : State) (call : Call) → is_taken (outcome_of T σ call).answer ≡ false → ticks_by T σ call ≡ 0
unfolding outcome_of ticks_by
refused_ticks T σ (Call.arrival task) e = refl
refused_ticks T σ (Call.clock_tick done released) e = rw e

pub ticks_without_refused :
    (T : Table) (σ : State) (calls : List Call) → ticks_taken T σ (taken_of T σ calls) ≡ ticks_taken T σ calls
unfolding ticks_taken taken_of
ticks_without_refused T σ [] = refl
ticks_without_refused T σ (call ∷ calls) =
    go (is_taken (outcome_of T σ call).answer) refl (ticks_without_refused T (outcome_of T σ call).state calls)
  where
    next : State
    next = (outcome_of T σ call).state

    go :
        (b : Bool) → is_taken (outcome_of T σ call).answer ≡ b
        → ticks_taken T next (taken_of T next calls) ≡ ticks_taken T next calls
        → ticks_taken T σ (cond b (call ∷ taken_of T next calls) (taken_of T next calls)) ≡ ticks_by T σ call + ticks_taken T next calls
    go true e ih = omega arith
    go false e ih =
        omega (
          arith,
          refused_ticks T σ call e,
          ap (λ (s : State). ticks_taken T s (taken_of T next calls)) (refused_stays T σ call e),
        )
