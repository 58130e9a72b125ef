-- A field read from a list in which other words were set.
use Rattle.std.specs.Prelude.{ℕ, ◌+◌, ◌*◌, ◌<◌, ◌≡◌, refl, ◌≢◌, Bool, true, false, ◌&&◌, List}
use Rattle.std.proofs.Common.{sym, ◌∙◌, drop_at}
use Rattle.std.proofs.Math.Path.{ap}
use Rattle.std.proofs.Math.Dec.{leb}
use lib.ListN.{length}
use Rattle.facts.specs.Filled.{tab, filled}
use Rattle.facts.specs.FilledLaws.{length_tab, filled_ext}
use Rattle.words.specs.Words.{word, field_fits, gathered, with_field}
use Rattle.words.specs.FieldsLaws.{within_length, gathered_yes, gathered_no, length_with_field, word_with_field_other}

-- Filled twice, a list is as filled last.
pub filled_twice : (f g : ℕ → ℕ) (n : ℕ) (l : List ℕ) → filled f n (filled g n l) ≡ filled f n l
filled_twice f g n l = rw (drop_at (tab g n) (lib.ListN.drop n l) n (length_tab g n))

module _ (l m : List ℕ) (from step count : ℕ) (size : length l ≡ length m) where
  -- Whether a field fits is a matter of the list's length alone,
  pub fits_length : (numbers : List ℕ) → field_fits l from step count numbers ≡ field_fits m from step count numbers
  unfolding field_fits
  fits_length numbers = ap (λ (b : Bool). b && leb count (length numbers)) (within_length l m from step count size)

  -- and what is read from it is a matter of its words.
  pub gathered_same :
      (out : List ℕ) → ((i : ℕ) → i < count → word l (from + step * i) ≡ word m (from + step * i))
      → gathered l from step count out ≡ gathered m from step count out
  gathered_same out same = go (field_fits m from step count out) refl
    where
      go : (b : Bool) → field_fits m from step count out ≡ b → gathered l from step count out ≡ gathered m from step count out
      go true e =
          gathered_yes l from step count out (fits_length out ∙ e)
          ∙ filled_ext (λ i. word l (from + step * i)) (λ i. word m (from + step * i)) count out same
          ∙ sym (gathered_yes m from step count out e)
      go false e = gathered_no l from step count out (fits_length out ∙ e) ∙ sym (gathered_no m from step count out e)

-- A field reads the same where another field was set.
pub gathered_field :
    (l : List ℕ) (from step count : ℕ) (values : List ℕ) (at apart many : ℕ) (out : List ℕ)
    → ((i j : ℕ) → i < many → j < count → from + step * j ≢ at + apart * i)
    → gathered (with_field l from step count values) at apart many out ≡ gathered l at apart many out
gathered_field l from step count values at apart many out ne =
    gathered_same (with_field l from step count values) l at apart many (length_with_field l from step count values) out
    (λ i lt. word_with_field_other l from step count values (at + apart * i) (λ j lj. ne i j lt lj))
