-- Runs with no log: one is made as the run goes.
use Rattle.table.specs.Plan.{Plan}
use Rattle.guards.specs.Moment.{Moment}
use Rattle.promise.specs.Runs.{Next}

-- n comes after m by steps of the machine.
pub data Later (P : Plan) (m : Moment) : Moment → Type 0 where
  now : Later P m m
  then : {n o : Moment} → Later P m n → Next P n o → Later P m o
