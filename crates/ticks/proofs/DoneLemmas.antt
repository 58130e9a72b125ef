-- The search for the processor that is refused.
use Rattle.std.specs.Prelude.{ℕ, suc, ◌+◌, ◌≤◌, ◌<◌, ◌≡◌, refl, Bool, true, false, List, Option, None, Result, Err, Ok, ⊤, get_or}
use Rattle.std.proofs.Common.{add-one, lt-ltb, le-ltb, arith}
use Rattle.std.proofs.Math.Decide.{dec_lt}
use Rattle.facts.specs.Tests.{lowest}
use Rattle.facts.specs.TestsLaws.{lowest_here, lowest_none}
use Rattle.table.specs.declared.refusal.Refusal.{Refusal}
use Rattle.ticks.specs.Done.{refusing}
use Rattle.ticks.specs.Numbers.{number, numbers}
use Rattle.ticks.proofs.FoundLemmas.{read_number}

module _ (n : ℕ) (test : ℕ → Bool) (refusal : ℕ → Refusal) where
  pub refused_here : (i : ℕ) → i < n → test i ≡ true → ((k : ℕ) → k < i → test k ≡ false) → Err (refusal (i + 1)) ≡ refusing n test refusal
  unfolding refusing
  refused_here i l e h = rw (lowest_here n test i l e h, lt-ltb i n l) refl

  pub refused_nowhere : (i : ℕ) → n ≤ i → ((k : ℕ) → k < i → test k ≡ false) → Ok tt ≡ refusing n test refusal
  unfolding refusing
  refused_nowhere i l h = rw (lowest_none n test (λ k b. h k (omega arith)), le-ltb n n (omega arith)) refl

  -- What it came to says what was found.
  pub was_refused : (r : Refusal) → refusing n test refusal ≡ Err r → (r ≡ refusal (lowest n test + 1)) × (lowest n test < n)
  unfolding refusing
  was_refused r q = go (dec_lt (lowest n test) n)
    where
      go : Dec (lowest n test < n) → (r ≡ refusal (lowest n test + 1)) × (lowest n test < n)
      go (yes l) = let e : ◌≡◌ {A = Result ⊤ Refusal} (Err (refusal (lowest n test + 1))) (Err r) = rw (lt-ltb _ _ l) at q in (cc, l)
      go (no l) =
          let b : n ≤ lowest n test = omega arith in
          let e : ◌≡◌ {A = Result ⊤ Refusal} (Ok tt) (Err r) = rw (le-ltb _ _ b) at q in
          let z : ◌≡◌ {A = ℕ} 0 1 = cc in
          absurd (omega arith)

  pub was_passed : refusing n test refusal ≡ Ok tt → n ≤ lowest n test
  unfolding refusing
  was_passed q = go (dec_lt (lowest n test) n)
    where
      go : Dec (lowest n test < n) → n ≤ lowest n test
      go (yes l) =
          let e : ◌≡◌ {A = Result ⊤ Refusal} (Err (refusal (lowest n test + 1))) (Ok tt) = rw (lt-ltb _ _ l) at q in
          let z : ◌≡◌ {A = ℕ} 0 1 = cc in
          absurd (omega arith)
      go (no l) = omega arith

pub read_next : (list : List (Option ℕ)) (i : ℕ) → number (get_or list (i + 1) None) ≡ get_or (numbers list) (suc i) 0
read_next list i = rw (read_number list (i + 1), add-one i) refl
