-- `text::store` meets its contract: at the loop's head, appending the bytes that are left to the list as it is gives the whole outcome.
use Rattle.std.proofs.Common.{sym, ◌≡◌, ◌∙◌, ap, List, ℕ, ◌+◌, length, length-set, drop_of_length-le, arith}
use Rattle.text.specs.Text.{appended}
use Rattle.text.specs.TextLaws.{appended_none, appended_step}
use Rattle.text.proofs.store.Goals as goal

pub loop-i-preserved : goal.loop-i-preserved
loop-i-preserved c =
    let l = c.loop-i in
    let a = c.args in
    let next : a.at + (l.i + 1) ≡ a.at + l.i + 1 = omega arith in (
      simp length-set l.invariant.0,
      rw next (l.invariant.1 ∙ appended_step l.i a.bytes.now l.out (a.at + l.i) (omega arith) (omega (arith, l.invariant.0))),
    )

pub returns : goal.returns
returns c =
    let l = c.loop-i in
    let a = c.args in
    let all : length a.bytes.now ≡ l.i = omega arith in
    rw all
    (sym
    (l.invariant.1
    ∙ ap (λ (t : List ℕ). appended t l.out (a.at + l.i)) (drop_of_length-le a.bytes.now {i = l.i} (omega arith))
    ∙ appended_none l.out (a.at + l.i)))
