use Rattle.std.proofs.Common.{arith, rules}
use Rattle.columns.specs.ColumnsLaws.{Sizes}
use Rattle.records.specs.RecordsLaws.{chains_none, chains_more}
use Rattle.records.proofs.apart.with_chains.Goals as goal

pub loop-i-init : goal.loop-i-init
loop-i-init c = chains_none c.args.columns c.args.chains.now

pub loop-i-preserved : goal.loop-i-preserved
loop-i-preserved c =
    let z : Sizes c.args.columns = record { period = search rules; deadline = search rules; steps = search rules; processor = search rules; priority = search rules; time = search rules } in
    rw (c.with_chain-next.ensures, c.loop-i.invariant, c.chain_at.ensures) (chains_more c.args.columns c.args.chains.now c.loop-i.i z (omega arith))
