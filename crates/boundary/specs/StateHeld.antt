-- A state written to a state list is read from it.
use Rattle.std.specs.Prelude.{ℕ, ◌+◌, ◌*◌, ◌^◌, ◌≤◌, ◌<◌, ◌≡◌, true, List, length, replicate}
use Rattle.std.proofs.Common.{sym, ◌∙◌, ap, arith}
use Rattle.std.proofs.lemmas.List.{length-replicate}
use Rattle.facts.specs.Filled.{filled}
use Rattle.facts.specs.FilledLaws.{filled_ext, get_d_filled, length_filled}
use Rattle.words.specs.Words.{word, with_word, field_fits, gathered, with_field}
use Rattle.words.specs.WordsLaws.{length_with_word, word_with_word_same}
use Rattle.words.specs.FieldsLaws.{field_of, fits_yes, gathered_yes, get_d_gathered, length_gathered, gathered_with_field, length_with_field, word_with_field_other}
use Rattle.table.specs.Table.{at}
use Rattle.guards.specs.declared.state.State.{State}
use Rattle.guards.specs.Moment.{Moment, state_with}
use Rattle.rack.specs.Layouts.{state_bytes, state_in, with_state}
use Rattle.boundary.specs.FieldsHeld.{filled_twice, gathered_field}

-- A list of zeros, one for each row that there is room for.
abbrev pub zeros : List ℕ
zeros = replicate 128 0

-- The clock and the first n rows of a state are numbers of 64 bits.
pub record Words (n : ℕ) (σ : State) : Type 0 where
  pub clock : σ.clock < 2 ^ 64
  pub released : (r : ℕ) → r < n → at σ.released r < 2 ^ 64
  pub completed : (r : ℕ) → r < n → at σ.completed r < 2 ^ 64
  pub used : (r : ℕ) → r < n → at σ.used r < 2 ^ 64
  pub guard : (r : ℕ) → r < n → at σ.guard r < 2 ^ 64

-- Its lists have n entries at least.
pub record Rooms (n : ℕ) (σ : State) : Type 0 where
  pub released : n ≤ length σ.released
  pub completed : n ≤ length σ.completed
  pub used : n ≤ length σ.used
  pub guard : n ≤ length σ.guard

module _ (n : ℕ) (few : n ≤ 128) where
  -- Each of the four fields stands within a state list.
  pub state_field_fits : (l : List ℕ) → length l ≡ state_bytes → (from : ℕ) → from ≤ 4 → (numbers : List ℕ) → n ≤ length numbers → field_fits l from 4 n numbers ≡ true
  state_field_fits l size from near numbers room = fits_yes l from 4 n numbers (field_of l from 4 n (λ i lt. omega arith)) room

  module _ (l : List ℕ) (size : length l ≡ state_bytes) (σ : State) (room : Rooms n σ) (small : Words n σ) where
    abbrev l₁ : List ℕ
    l₁ = with_word l 0 σ.clock

    abbrev l₂ : List ℕ
    l₂ = with_field l₁ 1 4 n σ.released

    abbrev l₃ : List ℕ
    l₃ = with_field l₂ 2 4 n σ.completed

    abbrev l₄ : List ℕ
    l₄ = with_field l₃ 3 4 n σ.used

    abbrev l₅ : List ℕ
    l₅ = with_field l₄ 4 4 n σ.guard

    size₁ : length l₁ ≡ state_bytes
    size₁ = length_with_word l 0 σ.clock ∙ size

    size₂ : length l₂ ≡ state_bytes
    size₂ = length_with_field l₁ 1 4 n σ.released ∙ size₁

    size₃ : length l₃ ≡ state_bytes
    size₃ = length_with_field l₂ 2 4 n σ.completed ∙ size₂

    size₄ : length l₄ ≡ state_bytes
    size₄ = length_with_field l₃ 3 4 n σ.used ∙ size₃

    size₅ : length l₅ ≡ state_bytes
    size₅ = length_with_field l₄ 4 4 n σ.guard ∙ size₄

    room_of_zeros : n ≤ length zeros
    room_of_zeros = omega (arith, length-replicate {A = ℕ} 128 0)

    clock_held : word l₅ 0 ≡ σ.clock
    clock_held =
        word_with_field_other l₄ 4 4 n σ.guard 0 (λ i lt e. omega arith)
        ∙ word_with_field_other l₃ 3 4 n σ.used 0 (λ i lt e. omega arith)
        ∙ word_with_field_other l₂ 2 4 n σ.completed 0 (λ i lt e. omega arith)
        ∙ word_with_field_other l₁ 1 4 n σ.released 0 (λ i lt e. omega arith)
        ∙ word_with_word_same l 0 σ.clock (omega arith) small.clock

    guard_held : gathered l₅ 4 4 n zeros ≡ filled (at σ.guard) n zeros
    guard_held = gathered_with_field l₄ 4 4 n σ.guard zeros (state_field_fits l₄ size₄ 4 (omega arith) σ.guard room.guard) room_of_zeros (omega arith) small.guard

    used_held : gathered l₅ 3 4 n zeros ≡ filled (at σ.used) n zeros
    used_held =
        gathered_field l₄ 4 4 n σ.guard 3 4 n zeros (λ i j li lj e. omega arith)
        ∙ gathered_with_field l₃ 3 4 n σ.used zeros (state_field_fits l₃ size₃ 3 (omega arith) σ.used room.used) room_of_zeros (omega arith) small.used

    completed_held : gathered l₅ 2 4 n zeros ≡ filled (at σ.completed) n zeros
    completed_held =
        gathered_field l₄ 4 4 n σ.guard 2 4 n zeros (λ i j li lj e. omega arith)
        ∙ gathered_field l₃ 3 4 n σ.used 2 4 n zeros (λ i j li lj e. omega arith)
        ∙ gathered_with_field l₂ 2 4 n σ.completed zeros (state_field_fits l₂ size₂ 2 (omega arith) σ.completed room.completed) room_of_zeros (omega arith) small.completed

    released_held : gathered l₅ 1 4 n zeros ≡ filled (at σ.released) n zeros
    released_held =
        gathered_field l₄ 4 4 n σ.guard 1 4 n zeros (λ i j li lj e. omega arith)
        ∙ gathered_field l₃ 3 4 n σ.used 1 4 n zeros (λ i j li lj e. omega arith)
        ∙ gathered_field l₂ 2 4 n σ.completed 1 4 n zeros (λ i j li lj e. omega arith)
        ∙ gathered_with_field l₁ 1 4 n σ.released zeros (state_field_fits l₁ size₁ 1 (omega arith) σ.released room.released) room_of_zeros (omega arith) small.released

    -- The list stays of the layout's length,
    pub length_with_state : length (with_state n σ l) ≡ state_bytes
    unfolding with_state
    length_with_state = size₅

    -- and holds the state's clock and first n rows; what is no row of the plan reads as 0.
    pub state_read :
        state_in n (with_state n σ l)
        ≡ record {
          clock = σ.clock;
          released = filled (at σ.released) n zeros;
          completed = filled (at σ.completed) n zeros;
          used = filled (at σ.used) n zeros;
          guard = filled (at σ.guard) n zeros;
        }
    unfolding with_state state_in
    state_read = rw (clock_held, released_held, completed_held, used_held, guard_held)

  -- A state whose first n rows were made anew on the state that the list holds, written to the list, is the one it then holds.
  module _ (l : List ℕ) (size : length l ≡ state_bytes) (m : Moment) where
    -- One of its lists, read back.
    field_back :
        (f : ℕ → ℕ) (from : ℕ) → from ≤ 4
        → filled (at (filled f n (gathered l from 4 n zeros))) n zeros ≡ filled f n (gathered l from 4 n zeros)
    field_back f from near =
        filled_ext (at (filled f n (gathered l from 4 n zeros))) f n zeros (λ i lt. get_d_filled f n i 0 (gathered l from 4 n zeros) lt)
        ∙ sym (filled_twice f (λ i. word l (from + 4 * i)) n zeros)
        ∙ ap (λ (x : List ℕ). filled f n x) (sym (gathered_yes l from 4 n zeros (state_field_fits l size from near zeros (omega (arith, length-replicate {A = ℕ} 128 0)))))

    room_made : (f : ℕ → ℕ) (from : ℕ) → n ≤ length (filled f n (gathered l from 4 n zeros))
    room_made f from =
        let e : length (gathered l from 4 n zeros) ≡ 128 = length_gathered l from 4 n zeros ∙ length-replicate {A = ℕ} 128 0 in
        omega (arith, length_filled f n (gathered l from 4 n zeros) (omega arith))

    rooms_made : Rooms n (state_with n m (state_in n l))
    unfolding state_with state_in
    rooms_made = record {
      released = room_made m.released 1;
      completed = room_made m.completed 2;
      used = room_made m.used 3;
      guard = room_made m.guard 4;
    }

    pub state_held :
        Words n (state_with n m (state_in n l))
        → state_in n (with_state n (state_with n m (state_in n l)) l) ≡ state_with n m (state_in n l)
    unfolding state_with state_in
    state_held small =
        state_read l size (state_with n m (state_in n l)) rooms_made small
        ∙ rw (field_back m.released 1 (omega arith), field_back m.completed 2 (omega arith), field_back m.used 3 (omega arith), field_back m.guard 4 (omega arith))

    pub length_held : Words n (state_with n m (state_in n l)) → length (with_state n (state_with n m (state_in n l)) l) ≡ state_bytes
    length_held small = length_with_state l size (state_with n m (state_in n l)) rooms_made small

  -- Entry r of each list is the row's word.
  module _ (l : List ℕ) (size : length l ≡ state_bytes) (r : ℕ) (row : r < n) where
    entry : (from : ℕ) → from ≤ 4 → at (gathered l from 4 n zeros) r ≡ word l (from + 4 * r)
    entry from near = get_d_gathered l from 4 n zeros (state_field_fits l size from near zeros (omega (arith, length-replicate {A = ℕ} 128 0))) r row

    pub released_word : at (state_in n l).released r ≡ word l (1 + 4 * r)
    unfolding state_in
    released_word = entry 1 (omega arith)

    pub completed_word : at (state_in n l).completed r ≡ word l (2 + 4 * r)
    unfolding state_in
    completed_word = entry 2 (omega arith)
