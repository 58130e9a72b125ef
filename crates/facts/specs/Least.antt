-- Least answers of t = f t.
use Rattle.std.specs.Prelude.{◌≡◌, ℕ, ◌≤◌, ◌<◌}

-- L is the least t > 0 with t = f t (document 01, "Bounds": "the least t > 0 with t equal to ..").
pub record Least (f : ℕ → ℕ) (L : ℕ) : Type 0 where
  pub pos : 0 < L
  pub answer : f L ≡ L
  pub least : (t : ℕ) → 0 < t → f t ≡ t → L ≤ t

-- No t from 1 to the limit has t = f t.
abbrev pub Unanswered : (ℕ → ℕ) → ℕ → Type 0
Unanswered f limit = (t : ℕ) → 0 < t → f t ≡ t → limit < t
