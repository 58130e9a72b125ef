use Rattle.std.proofs.Common.{◌≡◌, ◌+◌, ◌<◌, refl, sym, ◌∙◌, arith}
use Rattle.facts.specs.Sums.{sum}
use Rattle.facts.specs.FilledLaws.{filled_none, filled_more}
use Rattle.table.specs.Table.{at}
use Rattle.table.specs.Plan.{in_force}
use Rattle.bounds.specs.Bounds.{Numbers, chain_bound}
use Rattle.bounds.specs.SlackLaws.{word_less}
use Rattle.bounds.specs.Chains.{bounds_of}
use Rattle.bounds.specs.ChainsLaws.{accepted_none, accepted_late, accepted_kept, accepted_all, first_none, first_more, chain_rows, in_force_small, chain_is, slack_is}
use Rattle.bounds.proofs.lists.BoundLists.fill_chains.Goals.{then-left-lt0, else-left-lt0}
use Rattle.bounds.proofs.lists.BoundLists.fill_chains.Goals as goal

pub loop-i-init : goal.loop-i-init
loop-i-init g c = record {
  place = refl;
  busy = refl;
  instances = refl;
  bounds = refl;
  first = sym (first_none _);
  chains = filled_none _ _;
  slack = filled_none _ _;
  accepted = sym (accepted_none _ _);
}

pub chain_bound-bound-requires : goal.chain_bound-bound-requires
chain_bound-bound-requires g c =
    let l = c.loop-i in
    let ok = c.requires.chained in
    let T = g.T.TableView.table c.args.table.now in
    let less : l.i < T.tasks = omega (arith, c.tasks-tasks.ensures) in
    let rows = chain_rows ok l.i less in
    rw (c.steps-count.ensures, l.invariant.first, l.invariant.bounds)
    (omega (arith, rows, ok.rows_most), omega (arith, rows, ok.bounds), ok.steps_most l.i less, λ j h. ok.bound_most j (omega (arith, rows)))

pub slack_of-left-requires : goal.slack_of-left-requires
unfolding in_force
slack_of-left-requires g c =
    let l = c.loop-i in
    let T = g.T.TableView.table c.args.table.now in
    let less : l.i < T.tasks = omega (arith, c.tasks-tasks.ensures) in
    (rw (c.in_force.ensures, c.period.ensures, c.deadline.ensures) (in_force_small c.requires.chained l.i less), c.chain_bound-bound.ensures.1)

pub overflow_add-first : goal.overflow_add-first
overflow_add-first g c =
    let l = c.loop-i in
    let ok = c.requires.chained in
    let T = g.T.TableView.table c.args.table.now in
    let less : l.i < T.tasks = omega (arith, c.tasks-tasks.ensures) in
    let rows = chain_rows ok l.i less in
    omega (arith, l.invariant.first, c.steps-count.ensures, rows, ok.rows_most)

pub loop-i-preserved : goal.loop-i-preserved
unfolding in_force
loop-i-preserved g c =
    let l = c.loop-i in
    let ok = c.requires.chained in
    let T = g.T.TableView.table c.args.table.now in
    let N : Numbers = bounds_of c.args.self.now.bounds.now in
    let less : l.i < T.tasks = omega (arith, c.tasks-tasks.ensures) in
    let summed : c.chain_bound-bound.result ≡ sum (at T.steps l.i) (λ s. N.bound (l.first + s)) = c.chain_bound-bound.ensures.0 ∙ rw (c.steps-count.ensures, l.invariant.bounds) in
    let chain : c.chain_bound-bound.result ≡ chain_bound T N l.i = chain_is T N l.i l.invariant.first summed in
    let met : c.in_force.result ≡ in_force T l.i = c.in_force.ensures ∙ rw (c.period.ensures, c.deadline.ensures) in
    let left = slack_is T N l.i met chain c.slack_of-left.ensures in
    let held = word_less c.in_force.result c.chain_bound-bound.result c.slack_of-left.result (rw met (in_force_small ok l.i less)) c.chain_bound-bound.ensures.1 c.slack_of-left.ensures in
    let is = held ∙ left in record {
      place = l.invariant.place;
      busy = l.invariant.busy;
      instances = l.invariant.instances;
      bounds = l.invariant.bounds;
      first = rw (l.invariant.first, c.steps-count.ensures) (sym (first_more _ l.i));
      chains = rw l.invariant.chains (filled_more _ _ _ _ (omega (arith, c.requires.room.0)) chain);
      slack = rw l.invariant.slack (filled_more _ _ _ _ (omega (arith, c.requires.room.1)) is);
      accepted = elim c.if-left-lt0.branch [
        | then-left-lt0 w ↦ w.accepted-is ∙ sym (accepted_late _ N l.i (rw (← is) w.if-left-lt0.true))
        | else-left-lt0 w ↦ w.accepted-is ∙ l.invariant.accepted ∙ sym (accepted_kept _ N l.i (rw (← is) w.if-left-lt0.false))
      ];
    }

pub returns-clause-accepted : goal.returns-clause-accepted
returns-clause-accepted g c =
    let l = c.loop-i in
    let T = g.T.TableView.table c.args.table.now in
    let N : Numbers = bounds_of c.args.self.now.bounds.now in
    let e : l.i ≡ T.tasks = omega (arith, c.tasks-tasks.ensures) in
    l.invariant.accepted ∙ rw e (accepted_all T N)
