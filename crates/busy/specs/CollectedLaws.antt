-- Laws of lists gathered into and laid out in.
use Rattle.std.specs.Prelude.{◌≡◌, Bool, cond, List, set}
use Rattle.std.proofs.Math.Path.{refl}
use Rattle.std.proofs.Common.{ap, sym, ◌∙◌, arith, add-one, get_or-set_same}
use Rattle.std.proofs.Math.Bool.{true, false}
use Prim.Native.Nat.{ℕ, zero, suc, ◌+◌, ◌≤◌, ◌<◌}
use Rattle.std.proofs.Math.Nat.{add-zero}
use Rattle.std.proofs.Math.Decide.{dec_lt, ℕ_discrete}
use Rattle.std.proofs.Math.ListN.{length, get_or, length-set}
use Rattle.std.proofs.Math.Seq.{get_or-set_other}
use Rattle.facts.specs.Sums.{sum, sum_if}
use Rattle.facts.specs.SumsLaws.{sum_suc, sum_ext, sum_add, sum_bound, sum_if_none, sum_if_suc, sum_if_more}
use Rattle.busy.specs.Collected.{count_if, collected, scattered}

-- Tests that never both pass count no more than there are numbers.
pub count_apart : (n : ℕ) (b c : ℕ → Bool) → ((i : ℕ) → i < n → b i ≡ true → c i ≡ false) → count_if n b + count_if n c ≤ n
unfolding sum_if
count_apart n b c h =
    omega (arith, sum_add n (λ i. cond (b i) 1 0) (λ i. cond (c i) 1 0), sum_bound n (λ i. cond (b i) 1 0 + cond (c i) 1 0) 1 (λ i l. each (b i) (c i) (h i l)))
  where
    each : (x y : Bool) → (x ≡ true → y ≡ false) → cond x 1 0 + cond y 1 0 ≤ 1
    each true y g = rw (g refl) (omega arith)
    each false true g = omega arith
    each false false g = omega arith

pub collected_none : (b : ℕ → Bool) (f : ℕ → ℕ) (from : ℕ) (l : List ℕ) → collected b f from 0 l ≡ l
unfolding collected
collected_none b f from l = refl

pub collected_yes :
    (b : ℕ → Bool) (f : ℕ → ℕ) (from n : ℕ) (l : List ℕ) → b n ≡ true
    → collected b f from (n + 1) l ≡ set (collected b f from n l) (from + count_if n b) (f n)
unfolding collected
collected_yes b f from n l e = rw (add-one n, e)

pub collected_no :
    (b : ℕ → Bool) (f : ℕ → ℕ) (from n : ℕ) (l : List ℕ) → b n ≡ false
    → collected b f from (n + 1) l ≡ collected b f from n l
unfolding collected
collected_no b f from n l e = rw (add-one n, e)

pub count_yes : (n : ℕ) (b : ℕ → Bool) → b n ≡ true → count_if (n + 1) b ≡ count_if n b + 1
count_yes n b e = sum_if_more n b (λ i. 1) ∙ rw e

pub count_no : (n : ℕ) (b : ℕ → Bool) → b n ≡ false → count_if (n + 1) b ≡ count_if n b
count_no n b e = sum_if_more n b (λ i. 1) ∙ rw e (add-zero (count_if n b))

pub count_suc_yes : (n : ℕ) (b : ℕ → Bool) → b n ≡ true → count_if (suc n) b ≡ suc (count_if n b)
count_suc_yes n b e = rw (← add-one n, ← add-one (count_if n b)) (count_yes n b e)

pub count_suc_no : (n : ℕ) (b : ℕ → Bool) → b n ≡ false → count_if (suc n) b ≡ count_if n b
count_suc_no n b e = rw (← add-one n) (count_no n b e)

module _ (b : ℕ → Bool) (from : ℕ) where
  pub length_collected : (f : ℕ → ℕ) (n : ℕ) (l : List ℕ) → length (collected b f from n l) ≡ length l
  unfolding collected
  length_collected f zero l = refl
  length_collected f (suc n) l = go (b n) (length_collected f n l)
    where
      go : (x : Bool) → length (collected b f from n l) ≡ length l
          → length (cond x (set (collected b f from n l) (from + count_if n b) (f n)) (collected b f from n l)) ≡ length l
      go true e = simp length-set e
      go false e = e

  -- What stands before the first position stays.
  pub collected_kept : (f : ℕ → ℕ) (n : ℕ) (l : List ℕ) (i d : ℕ) → i < from → get_or (collected b f from n l) i d ≡ get_or l i d
  unfolding collected
  collected_kept f zero l i d h = refl
  collected_kept f (suc n) l i d h = go (b n) (collected_kept f n l i d h)
    where
      go : (x : Bool) → get_or (collected b f from n l) i d ≡ get_or l i d
          → get_or (cond x (set (collected b f from n l) (from + count_if n b) (f n)) (collected b f from n l)) i d ≡ get_or l i d
      go true e = get_or-set_other (collected b f from n l) (from + count_if n b) i (f n) d (λ q. omega arith) ∙ e
      go false e = e

  -- Position from + i holds the number k, in every list gathered.
  pub record Holds (n i k : ℕ) : Type 0 where
    pub below : k < n
    pub passes : b k ≡ true
    pub is : (f : ℕ → ℕ) (l : List ℕ) (d : ℕ) → from + count_if n b ≤ length l → get_or (collected b f from n l) (from + i) d ≡ f k

  holds_last : (n : ℕ) → b n ≡ true → Holds (suc n) (count_if n b) n
  unfolding collected
  holds_last n e = record {
    below = omega arith;
    passes = e;
    is = λ f l d h.
        rw e
        (get_or-set_same (collected b f from n l) (from + count_if n b) (f n) d (omega (arith, length_collected f n l, count_suc_yes n b e)));
  }

  holds_more : (n i k : ℕ) → i < count_if n b → Holds n i k → Holds (suc n) i k
  unfolding collected
  holds_more n i k l h = go (b n) refl
    where
      go : (x : Bool) → b n ≡ x → Holds (suc n) i k
      go true e = record {
        below = omega (arith, h.below);
        passes = h.passes;
        is = λ f m d g.
            rw e
            (get_or-set_other (collected b f from n m) (from + count_if n b) (from + i) (f n) d (λ q. omega arith) ∙ h.is f m d (omega (arith, count_suc_yes n b e)));
      }
      go false e = record {
        below = omega (arith, h.below);
        passes = h.passes;
        is = λ f m d g. rw e (h.is f m d (omega (arith, count_suc_no n b e)));
      }

  -- Each position up to the last holds a number that passes,
  pub held : (n i : ℕ) → i < count_if n b → (k : ℕ) × Holds n i k
  held zero i h = absurd (omega (arith, sum_if_none b (λ j. 1)))
  held (suc n) i h = go (b n) refl (held n i)
    where
      before : (i < count_if n b) → (i < count_if n b → (k : ℕ) × Holds n i k) → (k : ℕ) × Holds (suc n) i k
      before l ih = let w = ih l in (w.0, holds_more n i w.0 l w.1)

      go : (x : Bool) → b n ≡ x → (i < count_if n b → (k : ℕ) × Holds n i k) → (k : ℕ) × Holds (suc n) i k
      go true e ih = pick (dec_lt i (count_if n b))
        where
          pick : Dec (i < count_if n b) → (k : ℕ) × Holds (suc n) i k
          pick (yes l) = before l ih
          pick (no l) =
              let q : count_if n b ≡ i = omega (arith, count_suc_yes n b e) in
              (n, rw q at (holds_last n e))
      go false e ih = before (omega (arith, count_suc_no n b e)) ih

  -- and each number that passes is held.
  pub found : (n k : ℕ) → k < n → b k ≡ true → (i : ℕ) × (i < count_if n b) × Holds n i k
  found zero k h e = absurd (omega arith)
  found (suc n) k h e = go (ℕ_discrete k n) (λ l. found n k l e)
    where
      more : (x : Bool) → b n ≡ x → count_if n b ≤ count_if (suc n) b
      more true x = omega (arith, count_suc_yes n b x)
      more false x = omega (arith, count_suc_no n b x)

      go : Dec (k ≡ n) → (k < n → (i : ℕ) × (i < count_if n b) × Holds n i k) → (i : ℕ) × (i < count_if (suc n) b) × Holds (suc n) i k
      go (yes q) ih =
          let en : b n ≡ true = rw q at e in
          (count_if n b, omega (arith, count_suc_yes n b en), rw q (holds_last n en))
      go (no q) ih =
          let w = ih (omega arith) in
          (w.0, omega (arith, w.1, more (b n) refl), holds_more n w.0 k w.1 w.2)

  -- A sum over what is gathered is the sum before it and the sum over the numbers that pass.
  pub sum_collected :
      (h : ℕ → ℕ → ℕ) (f g : ℕ → ℕ) (n : ℕ) (l m : List ℕ) → from + count_if n b ≤ length l → from + count_if n b ≤ length m
      → sum (from + count_if n b) (λ i. h (get_or (collected b f from n l) i 0) (get_or (collected b g from n m) i 0))
      ≡ sum from (λ i. h (get_or l i 0) (get_or m i 0)) + sum_if n b (λ j. h (f j) (g j))
  unfolding collected
  sum_collected h f g zero l m hl hm =
      rw (sum_if_none b (λ j. 1), sum_if_none b (λ j. h (f j) (g j)), add-zero from, add-zero (sum from (λ i. h (get_or l i 0) (get_or m i 0))))
  sum_collected h f g (suc n) l m hl hm = go (b n) refl (sum_collected h f g n l m)
    where
      old : ℕ → ℕ
      old i = h (get_or (collected b f from n l) i 0) (get_or (collected b g from n m) i 0)

      new : ℕ → ℕ
      new i = h (get_or (collected b f from (suc n) l) i 0) (get_or (collected b g from (suc n) m) i 0)

      start : ℕ
      start = sum from (λ i. h (get_or l i 0) (get_or m i 0))

      other : b n ≡ true → (r : ℕ → ℕ) (x : List ℕ) (i : ℕ) → i < from + count_if n b → get_or (collected b r from (suc n) x) i 0 ≡ get_or (collected b r from n x) i 0
      other e r x i li = rw e (get_or-set_other (collected b r from n x) (from + count_if n b) i (r n) 0 (λ q. omega arith))

      gone : b n ≡ false → (r : ℕ → ℕ) (x : List ℕ) → collected b r from (suc n) x ≡ collected b r from n x
      gone e r x = rw e

      go : (x : Bool) → b n ≡ x
          → (from + count_if n b ≤ length l → from + count_if n b ≤ length m → sum (from + count_if n b) old ≡ start + sum_if n b (λ j. h (f j) (g j)))
          → sum (from + count_if (suc n) b) new ≡ start + sum_if (suc n) b (λ j. h (f j) (g j))
      go true e ih =
          let one : from + count_if (suc n) b ≡ suc (from + count_if n b) = omega (arith, count_suc_yes n b e) in
          let kept : sum (from + count_if n b) new ≡ sum (from + count_if n b) old = sum_ext (from + count_if n b) (λ i li. rw (other e f l i li, other e g m i li)) in
          let last : new (from + count_if n b) ≡ h (f n) (g n) = rw ((holds_last n e).is f l 0 hl, (holds_last n e).is g m 0 hm) in
          let tail : sum_if (suc n) b (λ j. h (f j) (g j)) ≡ sum_if n b (λ j. h (f j) (g j)) + h (f n) (g n) = sum_if_suc n b (λ j. h (f j) (g j)) ∙ rw e in
          ap (λ (k : ℕ). sum k new) one
          ∙ omega (arith, sum_suc (from + count_if n b) new, kept, last, tail, ih (omega arith) (omega arith))
      go false e ih =
          let tail : sum_if (suc n) b (λ j. h (f j) (g j)) ≡ sum_if n b (λ j. h (f j) (g j)) + 0 = sum_if_suc n b (λ j. h (f j) (g j)) ∙ rw e in
          let same : sum (from + count_if (suc n) b) new ≡ sum (from + count_if n b) old = ap (λ (k : ℕ). sum (from + k) new) (count_suc_no n b e) ∙ sum_ext (from + count_if n b) (λ i li. rw (gone e f l, gone e g m)) in
          omega (arith, same, tail, ih (omega (arith, count_suc_no n b e)) (omega (arith, count_suc_no n b e)))

pub scattered_none : (place f : ℕ → ℕ) (l : List ℕ) → scattered place f 0 l ≡ l
unfolding scattered
scattered_none place f l = refl

pub scattered_more : (place f : ℕ → ℕ) (n : ℕ) (l : List ℕ) → scattered place f (n + 1) l ≡ set (scattered place f n l) (place n) (f n)
unfolding scattered
scattered_more place f n l = rw (add-one n)

pub length_scattered : (place f : ℕ → ℕ) (n : ℕ) (l : List ℕ) → length (scattered place f n l) ≡ length l
unfolding scattered
length_scattered place f zero l = refl
length_scattered place f (suc n) l = simp length-set (length_scattered place f n l)

-- What a position holds after the stores: what it held, where none went there, or what one of them put there, the same
-- one in every list laid out so.
pub data Lies (place : ℕ → ℕ) (n k : ℕ) : Type 0 where
  missed :
      ((i : ℕ) → i < n → place i ≡ k → ⊥)
      → ((f : ℕ → ℕ) (l : List ℕ) (d : ℕ) → get_or (scattered place f n l) k d ≡ get_or l k d) → Lies place n k
  hit :
      (i : ℕ) → i < n → place i ≡ k
      → ((f : ℕ → ℕ) (l : List ℕ) (d : ℕ) → k < length l → get_or (scattered place f n l) k d ≡ f i) → Lies place n k

pub lies : (place : ℕ → ℕ) (n k : ℕ) → Lies place n k
unfolding scattered
lies place zero k = missed (λ i h e. omega arith) (λ f l d. refl)
lies place (suc n) k = go (ℕ_discrete (place n) k) (lies place n k)
  where
    go : Dec (place n ≡ k) → Lies place n k → Lies place (suc n) k
    go (yes e) o =
        hit n (omega arith) e
        (λ f l d h. rw e (get_or-set_same (scattered place f n l) k (f n) d (omega (arith, length_scattered place f n l))))
    go (no e) (hit i h q g) =
        hit i (omega arith) q
        (λ f l d m. get_or-set_other (scattered place f n l) (place n) k (f n) d (λ z. e (sym z)) ∙ g f l d m)
    go (no e) (missed h g) =
        missed (λ i li q. still i li q (dec_lt i n))
        (λ f l d. get_or-set_other (scattered place f n l) (place n) k (f n) d (λ z. e (sym z)) ∙ g f l d)
      where
        still : (i : ℕ) → i < suc n → place i ≡ k → Dec (i < n) → ⊥
        still i li q (yes y) = h i y q
        still i li q (no y) = let z : i ≡ n = omega arith in e (rw z at q)
