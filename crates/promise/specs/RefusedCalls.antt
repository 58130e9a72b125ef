-- Refused calls change nothing, so a run with them is a run without them.
use Rattle.std.specs.Prelude.{cond, List, [], ◌∷◌}
use Rattle.table.specs.Table.{Table}
use Rattle.guards.specs.declared.state.State.{State}
use Rattle.promise.specs.Promise.{Call, outcome_of, is_taken}

-- The calls of a list that are taken.
unfoldable pub taken_of : Table → State → List Call → List Call
taken_of T σ [] = []
taken_of T σ (call ∷ calls) =
    cond (is_taken (outcome_of T σ call).answer) (call ∷ taken_of T (outcome_of T σ call).state calls)
    (taken_of T (outcome_of T σ call).state calls)
