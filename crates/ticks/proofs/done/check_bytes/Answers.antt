use Rattle.std.proofs.Common.{suc, length, sym, ◌∙◌, arith}
use Rattle.table.specs.Table.{at}
use Rattle.table.specs.declared.refusal.Refusal.TheVariants.{WrongDoneByte}
use Rattle.ticks.specs.Done.{wrong_here}
use Rattle.ticks.specs.Numbers.{numbers}
use Rattle.ticks.proofs.DoneLemmas.{refused_here, refused_nowhere, read_next}
use Rattle.ticks.proofs.done.check_bytes.Goals as goal

pub returns-then-is_wrong : goal.returns-then-is_wrong
returns-then-is_wrong c =
    refused_here (length c.args.done.now) (λ i. wrong_here (at c.args.done.now i) (at (numbers c.args.running.now) (suc i))) (λ k. WrongDoneByte k) c.loop-i.i (omega arith)
    (rw (read_next c.args.running.now c.loop-i.i) at (sym c.is_wrong.ensures ∙ c.if-is_wrong.true)) c.loop-i.invariant

pub returns : goal.returns
returns c =
    refused_nowhere (length c.args.done.now) (λ i. wrong_here (at c.args.done.now i) (at (numbers c.args.running.now) (suc i))) (λ k. WrongDoneByte k) c.loop-i.i (omega arith) c.loop-i.invariant
