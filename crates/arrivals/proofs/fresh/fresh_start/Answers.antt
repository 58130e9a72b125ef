use Rattle.std.proofs.Common.{ℕ, ◌≡◌, true, Err, sym, ◌∙◌, ap, arith}
use Rattle.table.specs.Table.{rows}
use Rattle.table.specs.declared.refusal.Refusal.TheVariants.{NotAPlan}
use Rattle.guards.specs.declared.state.State.{State}
use Rattle.guards.specs.Calls.{taken}
use Rattle.guards.specs.LentLaws.{held, held_long}
use Rattle.guards.specs.Machine.{start}
use Rattle.guards.specs.Moment.{state_with}
use Rattle.arrivals.proofs.RowLemmas.{fresh_unplanned, fresh_unheld, fresh_taken}
use Rattle.arrivals.proofs.fresh.fresh_start.Goals as goal

pub returns-in_err-count-clause-outcome : goal.returns-in_err-count-clause-outcome
returns-in_err-count-clause-outcome g c =
    let T = g.T.TableView.table c.args.table.now in
    let σ = g.S.StateView.state c.args.state.now in
    let n = c.in_err-count.ensures in
    let passed : c.from_residual.result ≡ Err NotAPlan = grind (arith, n) in
    rw passed (fresh_unplanned T σ n.1)

pub returns-then-not-rows_held-clause-outcome : goal.returns-then-not-rows_held-clause-outcome
returns-then-not-rows_held-clause-outcome g c =
    let T = g.T.TableView.table c.args.table.now in
    let σ = g.S.StateView.state c.args.state.now in
    let n = c.in_ok-count.ensures in
    fresh_unheld T σ n.0 (ap (λ (k : ℕ). held k σ) (sym n.1) ∙ sym c.rows_held.ensures ∙ c.if-not-rows_held.true)

pub clear-requires : goal.clear-requires
clear-requires g c = held_long _ (g.S.StateView.state c.args.state.now) (sym c.rows_held.ensures ∙ c.if-not-rows_held.false)

pub returns-clause-outcome : goal.returns-clause-outcome
returns-clause-outcome g c =
    let T = g.T.TableView.table c.args.table.now in
    let σ = g.S.StateView.state c.args.state.now in
    let n = c.in_ok-count.ensures in
    let h : held (rows T) σ ≡ true = ap (λ (k : ℕ). held k σ) (sym n.1) ∙ sym c.rows_held.ensures ∙ c.if-not-rows_held.false in
    ap (λ (τ : State). taken 0 τ) (c.clear.ensures.state ∙ ap (λ (k : ℕ). state_with k start σ) n.1) ∙ fresh_taken T σ n.0 h
