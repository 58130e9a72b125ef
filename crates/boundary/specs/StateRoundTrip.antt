-- States and state lists undo each other.
use Rattle.std.specs.Prelude.{ℕ, ◌≤◌, ◌<◌, ◌≡◌, List, length}
use Rattle.std.proofs.Common.{sym, ◌∙◌, arith, ext_get_or}
use Rattle.std.proofs.Math.Decide.{dec_lt}
use Rattle.std.proofs.Math.ListN.{length-replicate}
use Rattle.std.proofs.lemmas.List.{get_or-replicate}
use Rattle.facts.specs.Filled.{filled}
use Rattle.facts.specs.FilledLaws.{length_filled, get_d_filled, get_d_rest}
use Rattle.words.specs.Words.{Bytes, gathered, with_field}
use Rattle.words.specs.WordsLaws.{with_word_word}
use Rattle.words.specs.FieldsLaws.{with_field_gathered}
use Rattle.table.specs.Table.{at}
use Rattle.guards.specs.declared.state.State.{State}
use Rattle.guards.specs.StateLaws.{Sizes}
use Rattle.rack.specs.Layouts.{state_bytes, state_in, with_state}
use Rattle.boundary.specs.StateHeld.{zeros, Words, Rooms, state_field_fits, state_read}

-- The state's lists hold nothing but 0 past the first n rows.
pub record Cleared (n : ℕ) (σ : State) : Type 0 where
  pub released : (r : ℕ) → n ≤ r → at σ.released r ≡ 0
  pub completed : (r : ℕ) → n ≤ r → at σ.completed r ≡ 0
  pub used : (r : ℕ) → n ≤ r → at σ.used r ≡ 0
  pub guard : (r : ℕ) → n ≤ r → at σ.guard r ≡ 0

module _ (n : ℕ) (few : n ≤ 128) (l : List ℕ) (size : length l ≡ state_bytes) where
  -- A list of 128 entries with 0 past the first n is zeros filled with its first n entries.
  own_entries : (x : List ℕ) → length x ≡ 128 → ((r : ℕ) → n ≤ r → at x r ≡ 0) → filled (at x) n zeros ≡ x
  own_entries x long past =
      ext_get_or 0 (filled (at x) n zeros) x (omega (arith, filled_long, zeros_long))
      (λ i lt. go i (omega (arith, filled_long, zeros_long)) (dec_lt i n))
    where
      zeros_long : length zeros ≡ 128
      zeros_long = length-replicate {A = ℕ} 128 0

      filled_long : length (filled (at x) n zeros) ≡ length zeros
      filled_long = length_filled (at x) n zeros (omega (arith, zeros_long))

      go : (i : ℕ) → i < 128 → Dec (i < n) → at (filled (at x) n zeros) i ≡ at x i
      go i lt (yes row) = get_d_filled (at x) n i 0 zeros row
      go i lt (no row) = get_d_rest (at x) n i 0 zeros (omega arith) ∙ get_or-replicate 128 i 0 0 lt ∙ sym (past i (omega arith))

  -- A state of such lists, with numbers of 64 bits in its rows, is read as it was written.
  pub state_back : (σ : State) → Sizes σ → Cleared n σ → Words n σ → state_in n (with_state n σ l) ≡ σ
  state_back σ z clear small =
      state_read n few l size σ rooms small
      ∙ rw (own_entries σ.released z.released clear.released, own_entries σ.completed z.completed clear.completed, own_entries σ.used z.used clear.used, own_entries σ.guard z.guard clear.guard)
    where
      rooms : Rooms n σ
      rooms = omega (arith, z.released, z.completed, z.used, z.guard)

  -- And a list of bytes is the same after the state that it holds is written to it.
  pub list_back : Bytes l → with_state n (state_in n l) l ≡ l
  unfolding with_state state_in
  list_back small =
      rw (with_word_word l 0 small, back 1 (omega arith), back 2 (omega arith), back 3 (omega arith), back 4 (omega arith))
    where
      back : (from : ℕ) → from ≤ 4 → with_field l from 4 n (gathered l from 4 n zeros) ≡ l
      back from near =
          with_field_gathered l from 4 n zeros (state_field_fits n few l size from near zeros (omega (arith, length-replicate {A = ℕ} 128 0))) small
