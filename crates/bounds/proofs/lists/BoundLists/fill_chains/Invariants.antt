use Rattle.std.proofs.Common.{◌≡◌}
use Rattle.facts.specs.Filled.{filled}
use Rattle.table.specs.Table.{first_row}
use Rattle.bounds.specs.Bounds.{chain_bound, slack_of}
use Rattle.bounds.specs.Chains.{bounds_of}
use Rattle.bounds.specs.ChainsLaws.{accepted_to}
use Rattle.bounds.specs.Held.{names_in}
use Rattle.bounds.proofs.lists.BoundLists.fill_chains.Given as goal

abbrev pub invariant-loop-i : goal.invariant-loop-i
invariant-loop-i g l =
    let T = g.T.TableView.table l.table in
    let old = l.initial.self in
    let N = bounds_of old.bounds.now in record {
      place : names_in l.self ≡ names_in old;
      busy : l.self.busy.now ≡ old.busy.now;
      instances : l.self.instances.now ≡ old.instances.now;
      bounds : l.self.bounds.now ≡ old.bounds.now;
      first : l.first ≡ first_row T l.i;
      chains : l.self.chains.now ≡ filled (chain_bound T N) l.i old.chains.now;
      slack : l.self.slack.now ≡ filled (slack_of T N) l.i old.slack.now;
      accepted : l.accepted ≡ accepted_to T N l.i;
    }
