use Rattle.std.proofs.Common.{◌≡◌}
use Rattle.busy.specs.Level.{chosen_by, gathered}
use Rattle.busy.specs.Held.{level_in}
use Rattle.busy.proofs.level.Level.gather.Given as goal

abbrev pub invariant-loop-k : goal.invariant-loop-k
invariant-loop-k g l =
    let T = g.T.TableView.table l.rows.table.now in
    level_in l.self ≡ gathered (chosen_by T l.row l.tied) l.rows.periods.now T.time l.k (level_in l.initial.self)
