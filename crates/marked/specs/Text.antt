-- Texts written as lines.
use Rattle.std.specs.Prelude.{ℕ, List, [], ◌∷◌, ◌++◌}
use Prim.Native.String.{String}
use Rattle.text.specs.Text.{bytes_of}

-- The bytes of these lines, each ended by one LF.
unfoldable pub text_of : List String → List ℕ
text_of [] = []
text_of (line ∷ lines) = bytes_of line ++ (10 ∷ text_of lines)
