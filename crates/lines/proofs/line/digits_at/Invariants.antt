-- `lines::line::digits_at` meets its contract: from each place on, the rest of the value is the whole value.
use Rattle.std.proofs.Common.{◌≤◌, ◌<◌, ◌-◌, ◌^◌, ◌≡◌}
use Rattle.lines.specs.Line.{digits_from}
use Rattle.lines.proofs.line.digits_at.Given as goal

abbrev pub invariant-loop-at : goal.invariant-loop-at
invariant-loop-at l = record {
  few : l.at - l.place ≤ l.most;
  small : l.value < 10 ^ (9 - (l.most - (l.at - l.place)));
  rest : digits_from l.most l.file l.place l.begun ≡ digits_from (l.most - (l.at - l.place)) l.file l.at l.value;
}
