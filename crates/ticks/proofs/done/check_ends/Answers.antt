use Rattle.std.proofs.Common.{below_more, suc, length, sym, ◌∙◌, arith}
use Rattle.table.specs.Table.{at}
use Rattle.table.specs.declared.refusal.Refusal.TheVariants.{TimeUsedUp}
use Rattle.ticks.specs.Done.{up_here}
use Rattle.ticks.specs.Numbers.{numbers}
use Rattle.ticks.proofs.DoneLemmas.{refused_here, refused_nowhere, read_next}
use Rattle.ticks.proofs.done.check_ends.Goals as goal

pub is_up-requires : goal.is_up-requires
is_up-requires g c = rw (read_next c.args.running.now c.loop-i.i) (c.requires.1 c.loop-i.i (omega arith))

pub returns-then-is_up : goal.returns-then-is_up
returns-then-is_up g c =
    refused_here (length c.args.done.now) (λ i. up_here (g.S.StateView.state c.args.state.now).used (g.T.TableView.table c.args.table.now).time (at c.args.done.now i) (at (numbers c.args.running.now) (suc i))) (λ k. TimeUsedUp k) c.loop-i.i (omega arith)
    (rw (read_next c.args.running.now c.loop-i.i) at (sym c.is_up.ensures ∙ c.if-is_up.true)) c.loop-i.invariant

pub loop-i-preserved : goal.loop-i-preserved
loop-i-preserved g c = below_more _ _ c.loop-i.invariant (rw (read_next c.args.running.now c.loop-i.i) at (sym c.is_up.ensures ∙ c.if-is_up.false))

pub returns : goal.returns
returns g c =
    refused_nowhere (length c.args.done.now) (λ i. up_here (g.S.StateView.state c.args.state.now).used (g.T.TableView.table c.args.table.now).time (at c.args.done.now i) (at (numbers c.args.running.now) (suc i))) (λ k. TimeUsedUp k) c.loop-i.i (omega arith) c.loop-i.invariant
