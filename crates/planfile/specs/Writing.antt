-- Writing a table as a file (document 01, "Numbers that say no": writing 5, 7).
use Rattle.std.specs.Prelude.{ℕ, cond, not, List, ltb, length, Err, Ok, Result}
use Rattle.facts.specs.Filled.{laid}
use Rattle.table.specs.declared.refusal.Refusal.{Refusal}
use Rattle.table.specs.Table.{Table, is_plan}
use Rattle.table.specs.declared.refusal.Refusal.TheVariants.{NotAPlan, TooShort}
use Rattle.planfile.specs.File.{file_of}

-- The answer of writing and the output as it then is.
pub record WriteOutcome : Type 0 where
  pub answer : Result ℕ Refusal
  pub out : List ℕ

-- Writing: a table that is no plan gives 5, an output too short 7 with the bytes needed, and both leave the output; else the
-- file stands at its front, and the answer is the number of bytes.
unfoldable pub write : Table → List ℕ → WriteOutcome
write T out =
    cond (not (is_plan T)) (record { answer = Err NotAPlan; out = out })
    (cond (ltb (length out) (length (file_of T))) (record { answer = Err (TooShort (length (file_of T))); out = out })
    (record { answer = Ok (length (file_of T)); out = laid (file_of T) out }))
