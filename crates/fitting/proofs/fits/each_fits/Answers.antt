use Rattle.std.proofs.Common.{◌≡◌, true, false, add-one, sym}
use Rattle.facts.specs.TestsLaws.{all_none}
use Rattle.guards.specs.InRows.{rows_of}
use Rattle.fitting.proofs.RowTests.{counts_of, guard_of, releases_of, counts_wrong, guard_wrong, releases_wrong, row_right}
use Rattle.fitting.proofs.fits.each_fits.Goals as goal

pub loop-row-init : goal.loop-row-init
loop-row-init g c = record { fits = all_none _; before = c.completed-before.ensures }

pub returns-then-not-counts_fit : goal.returns-then-not-counts_fit
returns-then-not-counts_fit g c =
    let R = rows_of c.args.rows.now in
    let time = (g.T.TableView.table c.args.table.now).time in
    let σ = g.S.StateView.state c.args.state.now in
    let r = c.loop-row.row in
    let e : counts_of time σ r ≡ false = cc in
    counts_wrong R time σ r c.loop-row-test.true e

pub returns-then-not-guard_fits : goal.returns-then-not-guard_fits
returns-then-not-guard_fits g c =
    let R = rows_of c.args.rows.now in
    let time = (g.T.TableView.table c.args.table.now).time in
    let σ = g.S.StateView.state c.args.state.now in
    let r = c.loop-row.row in
    let e : counts_of time σ r ≡ true = cc in
    let f : guard_of R σ r ≡ false = cc in
    guard_wrong R time σ r e c.loop-row-test.true f

pub returns-then-not-releases_fit : goal.returns-then-not-releases_fit
returns-then-not-releases_fit g c =
    let R = rows_of c.args.rows.now in
    let time = (g.T.TableView.table c.args.table.now).time in
    let σ = g.S.StateView.state c.args.state.now in
    let r = c.loop-row.row in
    let e : counts_of time σ r ≡ true = cc in
    let f : guard_of R σ r ≡ true = cc in
    let h : releases_of R σ r ≡ false = cc (c.releases_fit.ensures, c.loop-row.invariant.before) in
    releases_wrong R time σ r e c.loop-row-test.true f h

pub loop-row-preserved : goal.loop-row-preserved
loop-row-preserved g c =
    let R = rows_of c.args.rows.now in
    let time = (g.T.TableView.table c.args.table.now).time in
    let σ = g.S.StateView.state c.args.state.now in
    let r = c.loop-row.row in
    let e : counts_of time σ r ≡ true = cc in
    let f : guard_of R σ r ≡ true = cc in
    let h : releases_of R σ r ≡ true = cc (c.releases_fit.ensures, c.loop-row.invariant.before) in
    record {
      fits = row_right R time σ r e c.loop-row.invariant.fits f h;
      before = rw (add-one r) c.completed-completed.ensures;
    }

pub returns-then-rows-eq0 : goal.returns-then-rows-eq0
returns-then-rows-eq0 g c = rw c.if-rows-eq0.true (sym (all_none _))
