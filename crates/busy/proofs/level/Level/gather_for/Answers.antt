use Rattle.busy.specs.Level.{Roomy}
use Rattle.busy.specs.LevelLaws.{first_room, room_after, level_built}
use Rattle.std.proofs.Common.{arith}
use Rattle.busy.proofs.level.Level.gather_for.Goals as goal

pub gather-requires-clause-room : goal.gather-requires-clause-room
gather-requires-clause-room g c =
    let T = g.T.TableView.table c.args.rows.now.table.now in
    let a = c.args in
    let size : Roomy a.self.now.index a.self.now.period a.self.now.cost = record { index_size = omega arith; period_size = omega arith; cost_size = omega arith } in
    first_room a.rows.now.count a.rows.now.periods.now T.processor T.priority T.time a.row a.rows.now.usable c.requires a.self.now.index a.self.now.period a.self.now.cost size

pub gather-requires-2-clause-room : goal.gather-requires-2-clause-room
gather-requires-2-clause-room g c =
    let T = g.T.TableView.table c.args.rows.now.table.now in
    let a = c.args in
    let size : Roomy a.self.now.index a.self.now.period a.self.now.cost = record { index_size = omega arith; period_size = omega arith; cost_size = omega arith } in
    room_after a.rows.now.count a.rows.now.periods.now T.processor T.priority T.time a.row a.rows.now.usable c.requires a.self.now.index a.self.now.period a.self.now.cost size _ c.gather.ensures

pub returns : goal.returns
returns g c =
    let T = g.T.TableView.table c.args.rows.now.table.now in
    let a = c.args in
    let size : Roomy a.self.now.index a.self.now.period a.self.now.cost = record { index_size = omega arith; period_size = omega arith; cost_size = omega arith } in
    level_built a.rows.now.count a.rows.now.periods.now T.processor T.priority T.time a.row a.rows.now.usable c.requires a.self.now.index a.self.now.period a.self.now.cost size _ c.gather.ensures _ c.gather-2.ensures
