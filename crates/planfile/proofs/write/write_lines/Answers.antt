-- `planfile::write::write_lines` meets its contract: at each line, the text so far and the lines that are left are the whole file.
use Rattle.std.proofs.Common.{refl, arith}
use Rattle.planfile.specs.WriterLaws.{wrote_start, wrote_same, wrote_few, wrote_slots, wrote_value, wrote_left, wrote_line, wrote_next, wrote_end}
use Rattle.planfile.proofs.write.write_lines.Goals as goal

pub loop-due-init : goal.loop-due-init
loop-due-init g c = wrote_same c.first-due.ensures (wrote_start _ _ c.requires.1)

pub value_due-value-requires : goal.value_due-value-requires
value_due-value-requires g c =
    let s = c.loop-due.invariant in
    (wrote_few c.requires.0 s, wrote_slots c.requires.0 s)

pub advance-due-requires : goal.advance-due-requires
advance-due-requires g c =
    let s = c.loop-due.invariant in
    (wrote_few c.requires.0 s, wrote_value c.requires.0 s c.loop-due-test.true c.value_due-value.ensures, refl)

pub loop-due-smaller : goal.loop-due-smaller
loop-due-smaller g c =
    let s = c.loop-due.invariant in
    let due = c.loop-due-test.true in
    rw c.advance-due.ensures
    (omega (arith, wrote_left c.requires.0 s due, wrote_line c.requires.0 s c.value_due-value.result due))

pub loop-due-preserved : goal.loop-due-preserved
loop-due-preserved g c =
    wrote_same c.advance-due.ensures
    (wrote_next c.requires.0 c.loop-due.invariant c.loop-due-test.true c.value_due-value.ensures c.write_line-end.ensures)

pub returns : goal.returns
returns g c = wrote_end c.requires.0 c.loop-due.invariant c.loop-due-test.false
