-- What fitting asks of a row's releases.
use Rattle.std.specs.Prelude.{ℕ, ◌+◌, Bool, cond, not, ◌&&◌, ◌||◌, leb, ltb, eqb}

-- By whether the row is first, and what the row before it has completed: `chain_fits` without its guard's part.
unfoldable pub releases_fit : Bool → ℕ → ℕ → ℕ → ℕ → Bool
releases_fit first clock released guard before =
    cond first (not (eqb released (clock + 1)) || ltb clock guard)
    (leb released before && (not (ltb released before) || ltb clock guard))
