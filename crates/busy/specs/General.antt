-- Laws that know no plan.
use Rattle.std.specs.Prelude.{◌≡◌, refl, ℕ, zero, suc, min, ◌+◌, ◌*◌, ◌-◌, ◌/◌, ◌%◌, ◌≤◌, ◌<◌, List, length, get_or, set}
use Rattle.std.proofs.Common.{ap, sym, ◌∙◌, Fits}
use native.Mathlib.Nat.{mul-le-mul_right, mul-le-mul_left}
use native.Mathlib.Omega.{arith, both_ways}
use Rattle.std.proofs.Math.Decide.{dec_le}
use Rattle.std.specs.Int.{w64}
use Rattle.std.proofs.lemmas.Grind.{div_ceil_times}
use Rattle.facts.specs.Filled.{filled}
use Rattle.facts.specs.FilledLaws.{get_d_rest, filled_more, filled_keep}
use Rattle.facts.specs.Rounding.{ceil}
use Rattle.facts.specs.RoundingLaws.{ceil_le, le_ceil, ceil_count}
use Rattle.facts.specs.Least.{Least, Unanswered}
use Rattle.facts.specs.LeastLaws.{Below}

-- What fits into a list fits into one of the same length.
pub as_long : {n a b : ℕ} → b ≡ a → n ≤ a → n ≤ b
as_long e h = omega arith

pub as_many : {m n l : ℕ} → m ≤ n → n ≤ l → m ≤ l
as_many h k = omega arith

-- A place below n can be read where n entries are; the place's bytes can be counted.
pub place_in : {i n a : ℕ} → i < n → n ≤ a → i < a
place_in h k = omega arith

pub place_still : {i n a b : ℕ} → i < n → n ≤ a → b ≡ a → i < b
place_still h k e = omega arith

pub place_fits : {i n : ℕ} → i < n → n ≤ 128 → Fits w64 (i * 8)
place_fits h few = omega arith

-- The same of a list with 128 entries.
pub room_in : {i a b : ℕ} → i < 128 → b ≡ a → a ≡ 128 → i < b
room_in h e z = omega arith

pub room_fits : {i : ℕ} → i < 128 → Fits w64 (i * 8)
room_fits h = omega arith

pub room_next : {i : ℕ} → i < 128 → Fits w64 (i + 1)
room_next h = omega arith

pub place_next : {i n : ℕ} → i < n → n ≤ 128 → Fits w64 (i + 1)
place_next h few = omega arith

-- What is left of a count falls with each step.
pub left_falls : {i n : ℕ} → i < n → n - (i + 1) < n - i
left_falls h = omega arith

pub all_of : {i n : ℕ} → i ≤ n → n ≤ i → i ≡ n
all_of h k = omega arith

-- The ticks from a to b.
pub gap_some : {a b : ℕ} → a < b → 0 < b - a
gap_some h = omega arith

pub gap_most : {a b m : ℕ} → a < b → b ≤ m → b - a ≤ m
gap_most h k = omega arith

-- What a larger function's search has passed, a smaller one's has.
pub below_more : {f g : ℕ → ℕ} {t : ℕ} → ((u : ℕ) → f u ≤ g u) → Below f t → Below g t
below_more l b u p h = b u p (omega (arith, l u))

-- Nothing takes no periods, and what is within one takes one.
pub ceil_zero : {p : ℕ} → 0 < p → ceil 0 p ≡ 0
ceil_zero {p} pp = omega (arith, ceil_le {x = 0} {p = p} {j = 0} pp (omega arith))

pub ceil_one : {x p : ℕ} → 0 < x → x ≤ p → ceil x p ≡ 1
ceil_one {x} {p} h l =
    both_ways (ceil x p) 1 (ceil_le {x = x} {p = p} {j = 1} (omega arith) (omega arith)) (ceil_count {x = x} {p = p} {k = 0} (omega arith) (omega arith))

-- A number of periods is the quotient, and one more where something is left.
pub ceil_rounded : (x p : ℕ) → 0 < p → x / p + min 1 (x % p) ≡ ceil x p
ceil_rounded x p h =
    let b = div_ceil_times x p h in
    both_ways (x / p + min 1 (x % p)) (ceil x p) (go (x / p + min 1 (x % p)) b.1) (ceil_le {x = x} {p = p} {j = x / p + min 1 (x % p)} h b.0)
  where
    go : (q : ℕ) → q * p < x + p → q ≤ ceil x p
    go zero l = omega arith
    go (suc k) l = ceil_count {x = x} {p = p} {k = k} h (omega (arith, l))

-- Periods counted on from where s left off.
pub ceil_on : {s t p : ℕ} → 0 < p → s ≤ t → ceil t p ≡ ceil s p + ceil (t - ceil s p * p) p
ceil_on {s} {t} {p} pp l = go (dec_le t (ceil s p * p))
  where
    go : Dec (t ≤ ceil s p * p) → ceil t p ≡ ceil s p + ceil (t - ceil s p * p) p
    go (yes h) =
        let z : t - ceil s p * p ≡ 0 = omega arith in
        let up : ceil t p ≤ ceil s p = ceil_le pp h in
        let down : ceil s p ≤ ceil t p = ceil_le pp (omega (arith, le_ceil t pp)) in
        rw (z, ceil_zero pp) (omega arith)
    go (no h) =
        both_ways (ceil t p) (ceil s p + ceil (t - ceil s p * p) p)
        (ceil_le pp (omega (arith, le_ceil (t - ceil s p * p) pp)))
        (omega (arith, ceil_le {x = t - ceil s p * p} {p = p} {j = ceil t p - ceil s p} pp (omega (arith, le_ceil t pp, gap)), more))
      where
        more : ceil s p ≤ ceil t p
        more = ceil_le pp (omega (arith, le_ceil t pp))

        gap : (ceil t p - ceil s p) * p + ceil s p * p ≡ ceil t p * p
        gap = sym (native.Mathlib.Nat.add-mul (ceil t p - ceil s p) (ceil s p) p) ∙ ap (λ (k : ℕ). k * p) (omega (arith, more))

-- Functions that agree have the same least answers, and the same limits without one.
pub least_ext : {f g : ℕ → ℕ} {L : ℕ} → ((t : ℕ) → f t ≡ g t) → Least f L → Least g L
least_ext {L = L} e l = record {
  pos = l.pos;
  answer = omega (arith, e L, l.answer);
  least = λ t p h. l.least t p (omega (arith, e t));
}

pub unanswered_ext : {f g : ℕ → ℕ} {limit : ℕ} → ((t : ℕ) → f t ≡ g t) → Unanswered f limit → Unanswered g limit
unanswered_ext e n t p h = n t p (omega (arith, e t))

-- One more entry is stored, made from what stood there before, which is what stood there at first.
module _ (f : ℕ → ℕ) (i : ℕ) (l l' : List ℕ) (e : l' ≡ filled f i l) where
  pub still_there : get_or l' i 0 ≡ get_or l i 0
  still_there = rw e (get_d_rest f i i 0 l (omega arith))

  pub filled_turn : (v : ℕ) → i < length l → (get_or l' i 0 ≡ get_or l i 0 → v ≡ f i) → set l' i v ≡ filled f (i + 1) l
  filled_turn v h k = let v_is : v ≡ f i = k still_there in rw (v_is, e) (filled_more f i (f i) l h refl)

  pub filled_stays : i < length l → f i ≡ get_or l i 0 → l' ≡ filled f (i + 1) l
  filled_stays h k = e ∙ filled_keep f i 0 l h k

-- A list filled up to m is filled up to n, where they are the same.
pub filled_to : {A : Type 0} (f : ℕ → A) (m n : ℕ) (l l' : List A) → m ≡ n → l' ≡ filled f m l → l' ≡ filled f n l
filled_to f m n l l' e h = rw e at h
