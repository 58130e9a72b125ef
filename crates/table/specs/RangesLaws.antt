-- What it says that a value is in the range of its key.
use Rattle.std.specs.Prelude.{ℕ, ◌≤◌, ◌≡◌, true, leb}
use Rattle.std.proofs.Common.{leb-true, le-leb}
use Rattle.facts.specs.TestsLaws.{and_left, and_right, and_true}
use Rattle.table.specs.Ranges.{range_of, in_range}

-- The value stands between the least and the most of its key.
pub record Within (key own value : ℕ) : Type 0 where
  pub least : (range_of key own).least ≤ value
  pub most : value ≤ (range_of key own).most

pub within_of : (key own value : ℕ) → in_range key own value ≡ true → Within key own value
unfolding in_range
within_of key own value e = record {
  least = leb-true _ _ (and_left (leb (range_of key own).least value) _ e);
  most = leb-true _ _ (and_right (leb (range_of key own).least value) _ e);
}

pub in_range_of : (key own value : ℕ) → Within key own value → in_range key own value ≡ true
unfolding in_range
in_range_of key own value w = and_true (le-leb _ _ w.least) (le-leb _ _ w.most)
