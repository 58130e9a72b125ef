-- Quotients rounded up.
use Rattle.std.specs.Prelude.{ℕ, ◌+◌, ◌-◌, ◌/◌}

-- x / p rounded up, for p above 0 (document 01, "Bounds": ceil).
unfoldable pub ceil : ℕ → ℕ → ℕ
ceil x p = (x + (p - 1)) / p
