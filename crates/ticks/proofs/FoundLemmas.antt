-- The search for the rows to run, in a list that has a row or none for each processor.
use Rattle.std.specs.Prelude.{ℕ, ◌+◌, ◌≤◌, ◌≡◌, Bool, cond, List, Option, None, get_or, set}
use Rattle.std.proofs.Common.{sym, ◌∙◌, ap, arith}
use Rattle.std.proofs.Math.ListN.{get_or-map}
use Rattle.std.proofs.lemmas.List.{map-set}
use Rattle.facts.specs.Filled.{tab}
use Rattle.facts.specs.FilledLaws.{get_d_tab}
use Rattle.table.specs.Plan.{Plan}
use Rattle.guards.specs.Running.{better, best}
use Rattle.ticks.specs.Numbers.{number, numbers}
use Rattle.ticks.specs.FoundLaws.{best_most, found_more}

pub read_number : (list : List (Option ℕ)) (x : ℕ) → number (get_or list x None) ≡ get_or (numbers list) x 0
unfolding number
read_number list x = sym (get_or-map number list x None)

module _ (P : Plan) (test : ℕ → Bool) (n : ℕ) (list : List (Option ℕ)) (e : numbers list ≡ tab (λ x. best P test x n) 17) where
  pub found_read : (x : ℕ) → x ≤ 16 → number (get_or list x None) ≡ best P test x n
  found_read x l = read_number list x ∙ ap (λ (k : List ℕ). get_or k x 0) e ∙ get_d_tab _ 17 x 0 (omega arith)

  pub found_most : (x : ℕ) → x ≤ 16 → number (get_or list x None) ≤ n
  found_most x l = rw (found_read x l) (best_most P test x n)

  pub found_next :
      (x : ℕ) (v : Option ℕ) → x ≡ P.processor n → x ≤ 16
      → number v ≡ cond (test n) (better P (number (get_or list x None)) n) (number (get_or list x None))
      → numbers (set list x v) ≡ tab (λ x. best P test x (n + 1)) 17
  found_next x v p l q =
      map-set number list x v ∙ ap (λ (k : List ℕ). set k x (number v)) e
      ∙ found_more P test n x (number v) 17 p (omega arith) (q ∙ rw (found_read x l))
