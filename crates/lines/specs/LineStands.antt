-- A line as it is written, which the reading of a line is held against.
use Rattle.std.specs.Prelude.{ℕ, ◌+◌, ◌^◌, ◌<◌, ◌≡◌, List, ◌++◌, length, drop}
use Rattle.lines.specs.Words.{line_of}

-- The line of the key and the value stands in the file from the place on and ends where another would start. A value is
-- written with no sign, blank or leading zero, and takes at most 9 digits.
pub record LineStands (file : List ℕ) (place key value behind : ℕ) : Type 0 where
  pub small : value < 10 ^ 9
  pub bytes : drop place file ≡ line_of key value ++ drop behind file
  pub ends : place + length (line_of key value) ≡ behind
