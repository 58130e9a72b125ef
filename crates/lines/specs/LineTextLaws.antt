-- Reading a line gives what was written, and a line that is read is what stands there.
use Rattle.std.specs.Prelude.{ℕ, ◌+◌, ◌^◌, ◌≤◌, ◌<◌, ◌≡◌, refl, Bool, true, false, List, [], ◌∷◌, ◌++◌, eqb, length, get_or, take, drop, Some, None}
use Rattle.std.proofs.Common.{sym, ◌∙◌, ap, append_assoc, arith, eq-eqb, eqb-true, length-append, length-drop, take-append-drop, drop-drop, get_or-drop, get_or-take, ext_get_or, length-take-le}
use Rattle.std.proofs.Math.ListN.{get_or-append}
use Rattle.std.proofs.Math.Seq.{drop-append_seam, get_or-append_seam}
use Rattle.facts.specs.TestsLaws.{all_at, all_of}
use Rattle.text.specs.Text.{decimal}
use Rattle.text.specs.TextLaws.{line_parts, length_line}
use Rattle.lines.specs.Words.{word, line_of}
use Rattle.lines.specs.Line.{Line, stands, line_at}
use Rattle.lines.specs.LineStands.{LineStands}
use Rattle.lines.specs.ValueLaws.{NumberThere, number_read, number_found, no_line}
use Rattle.lines.specs.LineLaws.{inside}

-- The word of the key and '='.
abbrev head : ℕ → List ℕ
head key = word key ++ (61 ∷ [])

line_head : (key v : ℕ) (rest : List ℕ) → line_of key v ++ rest ≡ head key ++ (decimal v ++ (10 ∷ rest))
unfolding line_of
line_head key v rest = rw (line_parts (word key) v) (simp append_assoc)

length_head : (key : ℕ) → length (head key) ≡ length (word key) + 1
length_head key = length-append (word key) (61 ∷ [])

pub length_line_of : (key v : ℕ) → length (line_of key v) ≡ length (word key) + length (decimal v) + 2
unfolding line_of
length_line_of key v = length_line (word key) v

pub length_line_of_some : (key v : ℕ) → 0 < length (line_of key v)
length_line_of_some key v = omega (arith, length_line_of key v)

-- The word and '=' stand at a place, and behind them what is there.
head_read : (file rest : List ℕ) (place key : ℕ) → drop place file ≡ head key ++ rest → stands file place (head key) ≡ true
unfolding stands
head_read file rest place key e =
    all_of (length (head key)) (λ i. eqb (get_or file (place + i) 0) (get_or (head key) i 0))
    (λ i l. eq-eqb _ _
    (sym (get_or-drop place file i 0) ∙ ap (λ (t : List ℕ). get_or t i 0) e ∙ get_or-append (head key) rest 0 i l))

-- A line that stands in the file is read with its value,
pub line_read :
    (file : List ℕ) (place key v behind : ℕ) → LineStands file place key v behind → line_at file place key ≡ Some (v, behind)
unfolding line_at
line_read file place key v behind s = rw (head_read file _ place key there, number_read file _ v behind number)
  where
    rest : List ℕ
    rest = decimal v ++ (10 ∷ drop behind file)

    there : drop place file ≡ head key ++ rest
    there = s.bytes ∙ line_head key v (drop behind file)

    number : NumberThere file (place + length (word key) + 1) v behind
    number =
        let n : place + length (word key) + 1 ≡ place + length (head key) = omega (arith, length_head key) in
        record {
          small = s.small;
          ends = omega (arith, length_line_of key v, s.ends);
          there =
              ap (λ (k : ℕ). drop k file) n ∙ sym (drop-drop (length (head key)) place file)
              ∙ ap (λ (t : List ℕ). drop (length (head key)) t) there ∙ drop-append_seam (head key) rest;
        }

-- The word and '=' are found where they stand. Past the file's end there is no '='.
head_found :
    (file : List ℕ) (place key : ℕ) → stands file place (head key) ≡ true
    → drop place file ≡ head key ++ drop (place + length (word key) + 1) file
unfolding stands
head_found file place key e =
    sym (take-append-drop n (drop place file)) ∙ ap (λ (t : List ℕ). t ++ drop n (drop place file)) front
    ∙ ap (λ (t : List ℕ). head key ++ t) (drop-drop n place file ∙ ap (λ (k : ℕ). drop k file) after)
  where
    n : ℕ
    n = length (head key)

    after : place + n ≡ place + length (word key) + 1
    after = omega (arith, length_head key)

    same : (i : ℕ) → i < n → get_or file (place + i) 0 ≡ get_or (head key) i 0
    same i l = eqb-true _ _ (all_at n (λ i. eqb (get_or file (place + i) 0) (get_or (head key) i 0)) e i l)

    within : place + length (word key) < length file
    within =
        inside file (place + length (word key))
        (omega (arith, same (length (word key)) (omega (arith, length_head key)), get_or-append_seam (word key) 61 [] 0))

    long : length (take n (drop place file)) ≡ n
    long = length-take-le n (drop place file) (omega (arith, length-drop place file, length_head key, within))

    front : take n (drop place file) ≡ head key
    front =
        ext_get_or 0 (take n (drop place file)) (head key) long
        (λ i l. (let l' : i < n = omega (arith, long) in
        get_or-take n (drop place file) i 0 l' ∙ get_or-drop place file i 0 ∙ same i l'))

-- and a line that is read stands there.
pub line_found :
    (file : List ℕ) (place key v behind : ℕ) → line_at file place key ≡ Some (v, behind) → LineStands file place key v behind
unfolding line_at
line_found file place key v behind e = go (stands file place (head key)) refl
  where
    go : (t : Bool) → stands file place (head key) ≡ t → LineStands file place key v behind
    go false t = absurd (no_line (rw t at e))
    go true t =
        let s : NumberThere file (place + length (word key) + 1) v behind = number_found file _ v behind (rw t at e) in
        record {
          small = s.small;
          bytes =
              head_found file place key t ∙ ap (λ (l : List ℕ). head key ++ l) s.there ∙ sym (line_head key v (drop behind file));
          ends = omega (arith, length_line_of key v, s.ends);
        }

-- Where a line was written, the rest follows it,
pub written_rest :
    (file : List ℕ) (place key v : ℕ) (rest : List ℕ) → drop place file ≡ line_of key v ++ rest
    → drop (place + length (line_of key v)) file ≡ rest
written_rest file place key v rest e =
    let n = length (line_of key v) in
    sym (drop-drop n place file) ∙ ap (λ (t : List ℕ). drop n t) e ∙ drop-append_seam (line_of key v) rest

-- and it stands there.
pub written_stands :
    (file : List ℕ) (place key v : ℕ) (rest : List ℕ) → v < 10 ^ 9 → drop place file ≡ line_of key v ++ rest
    → LineStands file place key v (place + length (line_of key v))
written_stands file place key v rest h e =
    record { small = h; bytes = rw (written_rest file place key v rest e) e; ends = refl }

-- A line that stands in the file ends within it, past its start.
pub stands_within :
    (file : List ℕ) (place key v behind : ℕ) → LineStands file place key v behind → (place < behind) × (behind ≤ length file)
stands_within file place key v behind s =
    let n : length (drop place file) ≡ length (line_of key v) + length (drop behind file) =
    ap length s.bytes ∙ length-append (line_of key v) (drop behind file) in
    let some = length_line_of_some key v in
    (omega (arith, s.ends), omega (arith, n, length-drop place file, s.ends))

-- A place where no line of the key stands is a fault, and only such a place.
pub fault_of :
    (file : List ℕ) (place key : ℕ) → ((v behind : ℕ) → LineStands file place key v behind → ⊥) → line_at file place key ≡ None
fault_of file place key none = go (line_at file place key) refl
  where
    go : (l : Line) → line_at file place key ≡ l → line_at file place key ≡ None
    go None e = e
    go (Some (v, behind)) e = absurd (none v behind (line_found file place key v behind e))

pub fault_none :
    (file : List ℕ) (place key : ℕ) → line_at file place key ≡ None → (v behind : ℕ) → LineStands file place key v behind → ⊥
fault_none file place key e v behind s = no_line (sym e ∙ line_read file place key v behind s)
