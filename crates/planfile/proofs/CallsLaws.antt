-- Reading and writing have one outcome for each input, and a refusal leaves what is lent (document 01, "How tight the
-- contracts are" and "Numbers that say no").
use Rattle.std.specs.Prelude.{ℕ, ◌≡◌, refl, Bool, true, false, cond, not, List, ltb, length, Err}
use Rattle.std.proofs.Common.{arith}
use Rattle.facts.specs.OutcomesLaws.{equation_one}
use Rattle.table.specs.Table.{Table, long_enough, is_plan}
use Rattle.table.specs.declared.refusal.Refusal.{Refusal}
use Rattle.table.specs.declared.refusal.Refusal.TheVariants.{FileTooLong, NotAPlan, TooShort}
use Rattle.planfile.specs.File.{file_of}
use Rattle.planfile.specs.Reading.{Held, table, refusal, Lists, ReadOutcome, most_bytes, held, read_of, read}
use Rattle.planfile.specs.Writing.{WriteOutcome, write}

-- Any two outcomes that a contract allows for one input are equal.
pub read_one : (file : List ℕ) (l : Lists) (a b : ReadOutcome) → a ≡ read file l → b ≡ read file l → a ≡ b
read_one file l a b = equation_one

pub write_one : (T : Table) (out : List ℕ) (a b : WriteOutcome) → a ≡ write T out → b ≡ write T out → a ≡ b
write_one T out a b = equation_one

-- A refusal of reading leaves every list.
abbrev Leaves : Lists → ReadOutcome → Type 0
Leaves l o = (r : Refusal) → o.answer ≡ Err r → o.lists ≡ l

leaves_if : (l : Lists) (b : Bool) (r : Refusal) (o : ReadOutcome) → Leaves l o → Leaves l (cond b (record { answer = Err r; lists = l }) o)
leaves_if l true r o h = λ s e. refl
leaves_if l false r o h = h

leaves_held : (l : Lists) (h : Held) → Leaves l (read_of h l)
unfolding read_of
leaves_held l (table T) = λ r e. (let z : ◌≡◌ {A = ℕ} 0 1 = cc in absurd (omega arith))
leaves_held l (refusal r) = λ s e. refl

pub read_leaves : (file : List ℕ) (l : Lists) (r : Refusal) → (read file l).answer ≡ Err r → (read file l).lists ≡ l
unfolding read
read_leaves file l =
    leaves_if l (not (long_enough 128 l.processor l.priority l.time)) (TooShort 128) _
    (leaves_if l (not (long_enough 32 l.period l.deadline l.steps)) (TooShort 32) _
    (leaves_if l (ltb most_bytes (length file)) FileTooLong _ (leaves_held l (held file))))

-- A refusal of writing leaves the output.
abbrev LeavesOut : List ℕ → WriteOutcome → Type 0
LeavesOut out o = (r : Refusal) → o.answer ≡ Err r → o.out ≡ out

leaves_out_if :
    (out : List ℕ) (b : Bool) (r : Refusal) (o : WriteOutcome) → LeavesOut out o
    → LeavesOut out (cond b (record { answer = Err r; out = out }) o)
leaves_out_if out true r o h = λ s e. refl
leaves_out_if out false r o h = h

pub write_leaves : (T : Table) (out : List ℕ) (r : Refusal) → (write T out).answer ≡ Err r → (write T out).out ≡ out
unfolding write
write_leaves T out =
    leaves_out_if out (not (is_plan T)) NotAPlan _
    (leaves_out_if out (ltb (length out) (length (file_of T))) (TooShort (length (file_of T))) _
    (λ r e. (let z : ◌≡◌ {A = ℕ} 0 1 = cc in absurd (omega arith))))
