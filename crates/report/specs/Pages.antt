-- The text on a page, and how it grows.
use Rattle.std.specs.Prelude.{ℕ, ◌+◌, ◌≡◌, refl, List, ◌++◌}
use Rattle.std.proofs.Common.{sym}
use Rattle.facts.specs.Filled.{joined}
use Rattle.facts.specs.FilledLaws.{joined_none, joined_more}
use Rattle.text.specs.Text.{Written, appended}
use Rattle.text.specs.TextLaws.{appended_none, appended_then}
use Rattle.report.specs.declared.page.Page.{Page}

-- What stands on a page.
abbrev pub written : Page → Written
written p = record { list = p.bytes; end = p.end }

-- The same with these bytes more.
unfoldable pub added : List ℕ → Written → Written
added bs w = appended bs w.list w.end

-- Two texts one after the other are one,
pub added_both : (a b : List ℕ) (w : Written) → added (a ++ b) w ≡ added b (added a w)
unfolding added
added_both a b w = sym (appended_then a b w.list w.end refl refl)

-- as are parts: none yet, and one more.
pub joined_zero : (f : ℕ → List ℕ) (w : Written) → added (joined 0 f) w ≡ w
unfolding added
joined_zero f w = rw (joined_none f) (appended_none w.list w.end)

pub joined_next : (f : ℕ → List ℕ) (n : ℕ) (w : Written) → added (joined (n + 1) f) w ≡ added (f n) (added (joined n f) w)
joined_next f n w = rw (joined_more n f) (added_both (joined n f) (f n) w)
