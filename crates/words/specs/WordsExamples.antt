-- Words of small lists, by computing.
use Rattle.std.specs.Prelude.{◌≡◌, refl, [], ◌∷◌}
use Rattle.facts.specs.Sums.{sum}
use Rattle.facts.specs.Filled.{tab}
use Rattle.words.specs.Words.{word, bytes, with_word}

-- The bytes 2, 1 and six of 0 are the number 2 + 256.
low_first : word (2 ∷ 1 ∷ 0 ∷ 0 ∷ 0 ∷ 0 ∷ 0 ∷ 0 ∷ []) 0 ≡ 258
unfolding word sum
low_first = refl

-- The last byte is the most significant.
high_last : word (0 ∷ 0 ∷ 0 ∷ 0 ∷ 0 ∷ 0 ∷ 0 ∷ 255 ∷ []) 0 ≡ 0xff00_0000_0000_0000
unfolding word sum
high_last = refl

-- Seven bytes hold no word.
too_short : word (1 ∷ 1 ∷ 1 ∷ 1 ∷ 1 ∷ 1 ∷ 1 ∷ []) 0 ≡ 0
unfolding word
too_short = refl

-- What stands past the word stays.
rest_stays : with_word (9 ∷ 9 ∷ 9 ∷ 9 ∷ 9 ∷ 9 ∷ 9 ∷ 9 ∷ 7 ∷ []) 0 258 ≡ 2 ∷ 1 ∷ 0 ∷ 0 ∷ 0 ∷ 0 ∷ 0 ∷ 0 ∷ 7 ∷ []
unfolding with_word bytes tab
rest_stays = refl
