-- Laws of bytes appended, and how long a line is.
use Rattle.std.specs.Prelude.{ℕ, suc, ◌+◌, ◌-◌, ◌≤◌, ◌<◌, min, max, ◌≡◌, refl, List, [], ◌∷◌, ◌++◌, length, get_or, set, take, drop}
use Rattle.std.proofs.Common.{sym, ◌∙◌, ap, append_assoc, add-zero, add-one, arith, lt-ltb, le-ltb, length-append, length-set, length-take-le, take_at, drop_at, drop-cons, drop-drop, drop_of_length-le, take-append-drop, take_all}
use Rattle.std.proofs.Math.Decide.{dec_lt}
use Rattle.std.proofs.lemmas.List.Edits.{sets, sets-eq}
use Rattle.std.proofs.Math.Seq.{length-sets}
use Rattle.text.specs.Text.{decimal, line, minus_line, Written, appended}

pub appended_none : (l : List ℕ) (at : ℕ) → appended [] l at ≡ record { list = l; end = at }
unfolding appended
appended_none l at = refl

-- Where there is room, the first byte is stored and the others follow.
pub appended_more :
    (b : ℕ) (bs l : List ℕ) (at : ℕ) → at < length l → appended (b ∷ bs) l at ≡ appended bs (set l at b) (at + 1)
unfolding appended
appended_more b bs l at h = simp (lt-ltb at (length l) h)

-- Where there is none, nothing is written.
pub appended_full : (bs l : List ℕ) (at : ℕ) → length l ≤ at → appended bs l at ≡ record { list = l; end = at }
unfolding appended
appended_full [] l at h = refl
appended_full (b ∷ bs) l at h = simp (le-ltb at (length l) h)

-- One byte of a longer text, from the i-th on.
pub appended_step :
    (i : ℕ) (bs l : List ℕ) (at : ℕ) → i < length bs → at < length l
    → appended (drop i bs) l at ≡ appended (drop (i + 1) bs) (set l at (get_or bs i 0)) (at + 1)
appended_step i bs l at h g =
    ap (λ (t : List ℕ). appended t l at) (drop-cons bs i 0 h) ∙ appended_more (get_or bs i 0) (drop (suc i) bs) l at g
    ∙ rw (add-one i)

-- What holds in both cases holds of bytes appended.
appended_cases :
    (P : Written → Type 0) (b : ℕ) (bs l : List ℕ) (at : ℕ) → (at < length l → P (appended bs (set l at b) (at + 1)))
    → (length l ≤ at → P (record { list = l; end = at })) → P (appended (b ∷ bs) l at)
appended_cases P b bs l at more full = go (dec_lt at (length l))
  where
    go : Dec (at < length l) → P (appended (b ∷ bs) l at)
    go (yes h) = rw (appended_more b bs l at h) (more h)
    go (no h) = let h' : length l ≤ at = omega arith in rw (appended_full (b ∷ bs) l at h') (full h')

-- The list keeps its length.
pub length_appended : (bs l : List ℕ) (at : ℕ) → length (appended bs l at).list ≡ length l
unfolding appended
length_appended [] l at = refl
length_appended (b ∷ bs) l at =
    appended_cases (λ w. length w.list ≡ length l) b bs l at
    (λ h. length_appended bs (set l at b) (at + 1) ∙ length-set l at b) (λ h. refl)

-- The end: behind the bytes, or where the list ends; never before `at`.
pub end_appended : (bs l : List ℕ) (at : ℕ) → (appended bs l at).end ≡ max at (min (at + length bs) (length l))
unfolding appended
end_appended [] l at = omega arith
end_appended (b ∷ bs) l at =
    appended_cases (λ w. w.end ≡ max at (min (at + length (b ∷ bs)) (length l))) b bs l at
    (λ h. omega (arith, end_appended bs (set l at b) (at + 1), length-set l at b)) (λ h. omega arith)

-- Two texts one after the other are one text.
pub appended_append :
    (a b l : List ℕ) (at : ℕ) → appended (a ++ b) l at ≡ appended b (appended a l at).list (appended a l at).end
unfolding appended
appended_append [] b l at = refl
appended_append (x ∷ a) b l at =
    appended_cases (λ w. appended ((x ∷ a) ++ b) l at ≡ appended b w.list w.end) x a l at
    (λ h. appended_more x (a ++ b) l at h ∙ appended_append a b (set l at x) (at + 1))
    (λ h. appended_full (x ∷ (a ++ b)) l at h ∙ sym (appended_full b l at h))

-- The same of two calls, each with what it left.
pub appended_then :
    (a b l : List ℕ) (at : ℕ) {v w : Written} → v ≡ appended a l at → w ≡ appended b v.list v.end
    → w ≡ appended (a ++ b) l at
appended_then a b l at e g = rw (appended_append a b l at, ← e) g

-- Of bytes that reach past the list only those count that it has room for, and they end where the list ends.
pub appended_cut :
    (bs l : List ℕ) (at k : ℕ) {v : List ℕ} → k ≡ length l - at → at ≤ length l → k ≤ length bs
    → record { list = v; end = at + length (take k bs) } ≡ appended (take k bs) l at
    → record { list = v; end = length v } ≡ appended bs l at
appended_cut bs l at k {v} e h g f =
    let size : length v ≡ length l = ap (λ (w : Written). length w.list) f ∙ length_appended (take k bs) l at in
    let end : length v ≡ at + length (take k bs) = omega (arith, size, length-take-le k bs g) in
    let whole : appended (take k bs) l at ≡ appended bs l at =
    sym
    (ap (λ (t : List ℕ). appended t l at) (sym (take-append-drop k bs))
    ∙ appended_append (take k bs) (drop k bs) l at
    ∙ appended_full (drop k bs) (appended (take k bs) l at).list (appended (take k bs) l at).end
    (omega (arith, end_appended (take k bs) l at, length_appended (take k bs) l at, length-take-le k bs g))) in
    rw end (f ∙ whole)

-- Bytes that all have room are stored one after the other.
appended_sets :
    (bs l : List ℕ) (at : ℕ) → at + length bs ≤ length l
    → appended bs l at ≡ record { list = sets l at bs; end = at + length bs }
unfolding appended
appended_sets [] l at h = rw (add-zero at)
appended_sets (b ∷ bs) l at h =
    let e : at + 1 + length bs ≡ at + suc (length bs) = omega arith in
    appended_more b bs l at (omega arith) ∙ appended_sets bs (set l at b) (at + 1) (omega (arith, length-set l at b))
    ∙ rw (e, add-one at)

-- As many bytes are stored as the list has room for, in one piece.
pub appended_part :
    (bs l : List ℕ) (at k : ℕ) → at ≤ length l → k ≡ min (length bs) (length l - at)
    → appended bs l at ≡ record { list = take at l ++ (take k bs ++ drop (at + k) l); end = at + k }
appended_part bs l at k h e =
    split
    ∙ ap (λ (w : Written). appended (drop k bs) w.list w.end) (appended_sets front l at (omega (arith, size)))
    ∙ rw size (rest (dec_lt k (length bs)) ∙ rw (sets-eq front l at (omega (arith, size)), size, append_assoc (take at l) front (drop (at + k) l)) refl)
  where
    front : List ℕ
    front = take k bs

    size : length front ≡ k
    size = length-take-le k bs (omega arith)

    split : appended bs l at ≡ appended (drop k bs) (appended front l at).list (appended front l at).end
    split = ap (λ (t : List ℕ). appended t l at) (sym (take-append-drop k bs)) ∙ appended_append front (drop k bs) l at

    rest : Dec (k < length bs) → appended (drop k bs) (sets l at front) (at + k) ≡ record { list = sets l at front; end = at + k }
    rest (yes g) = appended_full (drop k bs) (sets l at front) (at + k) (omega (arith, length-sets l at front))
    rest (no g) = rw (drop_of_length-le bs {i = k} (omega arith)) (appended_none (sets l at front) (at + k))

-- The same as a copy into a part of the list leaves it: of all the bytes, or of those that reach its end.
pub appended_whole :
    (bs l copy : List ℕ) (at : ℕ) → at + length bs ≤ length l → copy ≡ bs
    → record { list = take at l ++ (copy ++ drop (at + length bs - at) (drop at l)); end = at + length bs } ≡ appended bs l at
appended_whole bs l copy at h c =
    let size : at + length bs - at ≡ length bs = omega arith in
    rw (c, size, drop-drop (length bs) at l)
    (sym (appended_part bs l at (length bs) (omega arith) (omega arith) ∙ rw (take_all (length bs) bs (omega arith)) refl))

pub appended_rest :
    (bs l copy : List ℕ) (at : ℕ) → at ≤ length l → length l - at ≤ length bs → copy ≡ take (length l - at) bs
    → record { list = take at l ++ (copy ++ drop (length l - at) (drop at l)); end = length l } ≡ appended bs l at
appended_rest bs l copy at h g c =
    let end : at + (length l - at) ≡ length l = omega arith in
    rw (c, drop-drop (length l - at) at l)
    (sym (appended_part bs l at (length l - at) h (omega arith) ∙ rw end refl))

-- All the bytes are there, behind what was before `at` and before what was behind them.
pub record Placed (bs l : List ℕ) (at : ℕ) (w : Written) : Type 0 where
  pub end : w.end ≡ at + length bs
  pub front : take w.end w.list ≡ take at l ++ bs
  pub rest : drop w.end w.list ≡ drop w.end l
  pub size : length w.list ≡ length l

-- So it is where they have room.
pub appended_fits : (bs l : List ℕ) (at : ℕ) → at + length bs ≤ length l → Placed bs l at (appended bs l at)
appended_fits bs l at h =
    let head : length (take at l ++ bs) ≡ at + length bs =
    omega (arith, length-append (take at l) bs, length-take-le at l (omega arith)) in
    let behind = drop (at + length bs) l in
    rw (appended_sets bs l at h)
    (record {
      end = refl;
      front = rw (sets-eq bs l at h) (take_at (take at l ++ bs) behind (at + length bs) head);
      rest = rw (sets-eq bs l at h) (drop_at (take at l ++ bs) behind (at + length bs) head);
      size = length-sets l at bs;
    })

-- The same of what a call left.
pub placed : (bs l : List ℕ) (at : ℕ) {w : Written} → w ≡ appended bs l at → at + length bs ≤ length l → Placed bs l at w
placed bs l at e h = rw e (appended_fits bs l at h)

-- What a run of appends has written so far: the text `done`, at the front of a list of `room` places.
pub record Holds (done : List ℕ) (room : ℕ) (w : Written) : Type 0 where
  pub front : take w.end w.list ≡ done
  pub end : w.end ≡ length done
  pub size : length w.list ≡ room

pub holds_none : (l : List ℕ) → Holds [] (length l) (record { list = l; end = 0 })
holds_none l = record { front = refl; end = refl; size = refl }

-- The next call appends to it, where there is room.
pub holds_more :
    (bs : List ℕ) {done : List ℕ} {room : ℕ} {v w : Written} → Holds done room v
    → w ≡ appended bs v.list v.end → length done + length bs ≤ room → Holds (done ++ bs) room w
holds_more bs {done} {room} {v} {w} h e fits =
    let p : Placed bs v.list v.end w = placed bs v.list v.end e (omega (arith, h.end, h.size)) in
    record {
      front = p.front ∙ ap (λ (t : List ℕ). t ++ bs) h.front;
      end = omega (arith, p.end, h.end, length-append done bs);
      size = p.size ∙ h.size;
    }

-- A line from its start: the key, the mark and what follows it.
pub line_parts : (key : List ℕ) (v : ℕ) → line key v ≡ key ++ (61 ∷ (decimal v ++ (10 ∷ [])))
unfolding line
line_parts key v = append_assoc key (61 ∷ decimal v) (10 ∷ [])

pub length_line : (key : List ℕ) (v : ℕ) → length (line key v) ≡ length key + length (decimal v) + 2
unfolding line
length_line key v =
    omega (arith, length-append (key ++ (61 ∷ decimal v)) (10 ∷ []), length-append key (61 ∷ decimal v))

pub length_minus_line : (key : List ℕ) (v : ℕ) → length (minus_line key v) ≡ length key + length (decimal v) + 3
unfolding minus_line
length_minus_line key v =
    omega (arith, length-append (key ++ (61 ∷ 45 ∷ decimal v)) (10 ∷ []), length-append key (61 ∷ 45 ∷ decimal v))

-- A key, and a line of no key behind it, are the key's line.
pub line_behind :
    (key l : List ℕ) (at v : ℕ) {w x : Written} → w ≡ appended key l at → x ≡ appended (line [] v) w.list w.end
    → x ≡ appended (line key v) l at
unfolding line
line_behind key l at v e g =
    appended_then key (line [] v) l at e g
    ∙ ap (λ (t : List ℕ). appended t l at) (sym (append_assoc key (61 ∷ decimal v) (10 ∷ [])))
