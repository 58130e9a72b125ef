-- `lines::line::digits_at` meets its contract: from each place on, the rest of the value is the whole value.
use Rattle.std.proofs.Common.{ℕ, ◌+◌, ◌*◌, ◌-◌, ◌≡◌, sym, ◌∙◌, ap, arith}
use Rattle.lines.specs.Line.{digits_from}
use Rattle.lines.specs.LineLaws.{digits_more, worth_first, worth_more, worth_most}
use Rattle.lines.proofs.line.digits_at.Goals as goal

pub loop-at-init : goal.loop-at-init
loop-at-init c =
    let a = c.args in
    let all : a.most ≡ a.most - (a.place - a.place) = omega arith in
    record {
      few = omega arith;
      small = worth_first _ _ (omega arith) (omega arith);
      rest = ap (λ (k : ℕ). digits_from k a.file.now a.place a.begun) all;
    }

pub overflow_mul-value : goal.overflow_mul-value
overflow_mul-value c = omega (arith, worth_most _ _ c.loop-at.invariant.small)

pub overflow_add-value : goal.overflow_add-value
overflow_add-value c = omega (arith, worth_most _ _ c.loop-at.invariant.small)

pub loop-at-preserved : goal.loop-at-preserved
loop-at-preserved c =
    let l = c.loop-at in
    let a = c.args in
    let file = a.file.now in
    let left = a.most - (l.at + 1 - a.place) in
    let one : a.most - (l.at - a.place) ≡ left + 1 = omega arith in
    let less : a.most - (l.at - a.place) - 1 ≡ left = omega arith in
    record {
      few = omega arith;
      small = rw less at (worth_more _ l.value c.digit.result (omega arith) (omega arith) l.invariant.small (omega arith));
      rest =
          l.invariant.rest ∙ ap (λ (k : ℕ). digits_from k file l.at l.value) one
          ∙ digits_more file l.at l.value left (omega arith) (omega arith)
          ∙ ap (λ (v : ℕ). digits_from left file (l.at + 1) (l.value * 10 + v)) (sym c.digit.ensures.0);
    }
