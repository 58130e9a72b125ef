-- Bytes that stand in a file, as std tells it.
use Rattle.std.specs.Prelude.{ℕ, ◌+◌, ◌-◌, ◌<◌, ◌≡◌, Bool, true, false, IsTrue, List, nat_eq, ltb, eqb, length, get_or, take, drop}
use Rattle.std.specs.List.{starts_with}
use Rattle.std.specs.Cmp.Lexicographic.{same_text, other_text}
use Rattle.std.proofs.Common.{refl, sym, inl, inr, eq-zero-or-pos, ◌∙◌, ap, arith, eq-eqb, eqb-true, ltb-true, length-drop, length-take-le, get_or-drop, get_or-take, ext_get_or, take_all}
use Rattle.std.proofs.lemmas.List.Sums.{AllPass-from_list_all}
use Rattle.std.proofs.lemmas.List.Elements.{All-get_or}
use Rattle.facts.specs.TestsLaws.{all_at, all_of}
use Rattle.lines.specs.Line.{stands}
use Rattle.lines.specs.LineLaws.{inside, written}

-- A byte that is written is not 0.
written_at : (w : List ℕ) (i : ℕ) → IsTrue (written w) → i < length w → 0 < get_or w i 0
written_at w i h l = ltb-true 0 (get_or w i 0) (All-get_or (λ b. ltb 0 b ≡ true) w i 0 l (AllPass-from_list_all (λ b. ltb 0 b) w h))

stands_rest :
    (file w : List ℕ) (place : ℕ) (r : Bool) → IsTrue (written w) → r ≡ starts_with nat_eq (drop place file) w
    → r ≡ stands file place w
unfolding stands
stands_rest file w place true h e =
    sym
    (all_of (length w) (λ i. eqb (get_or file (place + i) 0) (get_or w i 0))
    (λ i l. eq-eqb _ _
    (sym (get_or-drop place file i 0) ∙ sym (get_or-take (length w) (drop place file) i 0 l)
    ∙ ap (λ (t : List ℕ). get_or t i 0) (sym (same_text w (take (length w) (drop place file)) e)))))
stands_rest file w place false h e = go (stands file place w) refl
  where
    go : (t : Bool) → stands file place w ≡ t → false ≡ t
    go false t = refl
    go true t = absurd (other_text w (take n (drop place file)) e (sym front))
      where
        n : ℕ
        n = length w

        same : (i : ℕ) → i < n → get_or file (place + i) 0 ≡ get_or w i 0
        same i l = eqb-true _ _ (all_at n (λ i. eqb (get_or file (place + i) 0) (get_or w i 0)) t i l)

        within : (i : ℕ) → i < n → place + i < length file
        within i l = inside file (place + i) (omega (arith, same i l, written_at w i h l))

        long : length (take n (drop place file)) ≡ n
        long = elim (eq-zero-or-pos n) [
          | inl z ↦ rw z refl
          | inr g ↦ let e : place + (n - 1) < length file = within (n - 1) (omega arith) in
              length-take-le n (drop place file) (omega (arith, length-drop place file))
        ]

        front : take n (drop place file) ≡ w
        front =
            ext_get_or 0 (take n (drop place file)) w long
            (λ i l. (let l' : i < n = omega (arith, long) in
            get_or-take n (drop place file) i 0 l' ∙ get_or-drop place file i 0 ∙ same i l'))

-- The answer of std of the rest of the file.
pub stands_starts :
    (file w : List ℕ) (place : ℕ) (r : Bool) → IsTrue (written w)
    → r ≡ starts_with nat_eq (take (length file - place) (drop place file)) w → r ≡ stands file place w
stands_starts file w place r h e =
    stands_rest file w place r h
    (e ∙ ap (λ (l : List ℕ). starts_with nat_eq l w) (take_all _ (drop place file) (omega (arith, length-drop place file))))
