use Rattle.std.proofs.Common.{lt-ltb, le-ltb, eq-eqb, ne_eqb, refl, sym, ◌∙◌}
use Rattle.guards.specs.InRows.{rows_of}
use Rattle.ticks.specs.Ticking.{open_tick, rows_tick}
use Rattle.ticks.specs.TickingLaws.{readying}
use Rattle.ticks.proofs.tick.tick_rows.Goals as goal

pub returns-then-not-rows_fit-clause-outcome : goal.returns-then-not-rows_fit-clause-outcome
unfolding rows_tick
returns-then-not-rows_fit-clause-outcome g c = rw (sym c.rows_fit.ensures ∙ c.if-not-rows_fit.true) refl

pub returns-then-done-processors-clause-outcome : goal.returns-then-done-processors-clause-outcome
unfolding rows_tick open_tick
returns-then-done-processors-clause-outcome g c =
    rw (sym c.rows_fit.ensures ∙ c.if-not-rows_fit.false, c.processors-processors.ensures, ne_eqb _ _ (λ e. c.if-done-processors.true (e ∙ sym c.processors-processors.ensures))) refl

pub returns-then-released-rows-clause-outcome : goal.returns-then-released-rows-clause-outcome
unfolding rows_tick open_tick
returns-then-released-rows-clause-outcome g c =
    rw (sym c.rows_fit.ensures ∙ c.if-not-rows_fit.false, eq-eqb _ _ (c.if-done-processors.false ∙ c.processors-processors.ensures), lt-ltb _ _ c.if-released-rows.true) refl

pub tick_done-requires : goal.tick_done-requires
tick_done-requires g c =
    let T = g.T.TableView.table c.args.table.now in
    record {
      ready = readying (rows_of c.args.rows.now) T.processors T.processor T.priority T.time (g.S.StateView.state c.args.state.now) c.requires (sym c.rows_fit.ensures ∙ c.if-not-rows_fit.false);
      done_long = c.if-done-processors.false ∙ c.processors-processors.ensures;
      released_long = c.if-released-rows.false;
    }

pub returns-clause-outcome : goal.returns-clause-outcome
unfolding rows_tick open_tick
returns-clause-outcome g c =
    rw (sym c.rows_fit.ensures ∙ c.if-not-rows_fit.false, eq-eqb _ _ (c.if-done-processors.false ∙ c.processors-processors.ensures), le-ltb _ _ c.if-released-rows.false) c.tick_done.ensures.outcome
