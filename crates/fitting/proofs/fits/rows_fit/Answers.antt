use Rattle.std.proofs.Common.{sym, ◌∙◌, arith}
use Rattle.guards.specs.InRows.{rows_of}
use Rattle.guards.specs.LentLaws.{fitting, rows_fit_each}
use Rattle.fitting.proofs.fits.rows_fit.Goals as goal

pub each_fits-requires : goal.each_fits-requires
each_fits-requires g c =
    fitting (rows_of c.args.rows.now) (g.T.TableView.table c.args.table.now).time (g.S.StateView.state c.args.state.now)
    (sym c.rows_stand.ensures ∙ c.if-not-rows_stand.false) (sym c.rows_held.ensures ∙ c.if-not-rows_held.false) (omega (arith, c.clock.ensures))

pub returns : goal.returns
returns g c =
    c.each_fits.ensures
    ∙ sym (rows_fit_each (rows_of c.args.rows.now) (g.T.TableView.table c.args.table.now).time (g.S.StateView.state c.args.state.now)
    (sym c.rows_stand.ensures ∙ c.if-not-rows_stand.false) (sym c.rows_held.ensures ∙ c.if-not-rows_held.false) (omega (arith, c.clock.ensures)))
