-- The loop fills the list of numbers from the front with the words of the field.
use Rattle.std.proofs.Common.{◌+◌, ◌*◌, ◌≡◌, sym, ◌∙◌, length-set, arith}
use Rattle.facts.specs.FilledLaws.{filled_more}
use Rattle.words.specs.Words.{word}
use Rattle.words.specs.FieldsLaws.{gathered_whole}
use Rattle.words.proofs.get_field.Goals as goal

pub loop-i-preserved : goal.loop-i-preserved
loop-i-preserved c =
    let l = c.loop-i in
    let a = c.args in record {
      size = simp length-set l.invariant.size;
      words = rw l.invariant.words
          (filled_more (λ n. word a.list.now (a.from + a.step * n)) l.i c.read.result a.out.now (omega arith) c.read.ensures);
    }

pub returns-after-loop-i : goal.returns-after-loop-i
returns-after-loop-i c =
    let a = c.args in
    let e : c.loop-i.i ≡ a.count = omega arith in
    rw (← e) c.loop-i.invariant.words
    ∙ gathered_whole a.list.now a.from a.step a.count a.out.now (sym c.field_within.ensures ∙ c.if-field_within.true) (omega arith)
