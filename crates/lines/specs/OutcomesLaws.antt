-- Any two outcomes that a contract of this crate allows for one input are equal.
use Rattle.std.specs.Prelude.{ℕ, ◌≡◌, List}
use Rattle.facts.specs.OutcomesLaws.{equation_one}
use Rattle.text.specs.Text.{Written, appended}
use Rattle.lines.specs.Words.{word}
use Rattle.lines.specs.Line.{Line, line_at}

pub line_one : (file : List ℕ) (place key : ℕ) (a b : Line) → a ≡ line_at file place key → b ≡ line_at file place key → a ≡ b
line_one file place key a b = equation_one

pub word_one :
    (key : ℕ) (out : List ℕ) (at : ℕ) (a b : Written) → a ≡ appended (word key) out at → b ≡ appended (word key) out at → a ≡ b
word_one key out at a b = equation_one
