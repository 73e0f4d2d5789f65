-- `not_least`: the chain's `any` is the rule's search.
use Prim.Native.Nat.{ℕ, ◌+◌, ◌-◌}
use mathlib.Core.Path.{◌≡◌, refl, sym, ◌∙◌}
use mathlib.Core.Bool.{Bool}
use native.Mathlib.Omega.{arith}
use Rattle.std.proofs.Common.{rules, zero-add, length, get_or, ◌<◌}
use borrow.Author.Tests.{tests}
use Rattle.std.specs.List.{list_any, range_with_len}
use Rattle.std.proofs.lemmas.Iterator.{YieldsList-from_range}
use Rattle.std.proofs.lemmas.Iterator.Search.{any_from_yields_List}
use Rattle.std.proofs.lemmas.List.FromFn.{length-range_with_len, get_or-range_with_len}
use Rattle.std.proofs.lemmas.List.Recursion.{or_is}
use Rattle.laws.specs.Lowest.{lowest, some, some_of, none_of}
use Rattle.turn.specs.Points.{before}
use Rattle.table.specs.Table.{point_in}
use Rattle.check_anchors.proofs.not_least.Goals as goal

module _ (test : ℕ → Bool) (n : ℕ) where
  long : length (range_with_len 0 n) ≡ n
  long = length-range_with_len 0 n

  at : (i : ℕ) → i < n → get_or (range_with_len 0 n) i 0 ≡ i
  at i h = get_or-range_with_len 0 n i 0 h ∙ zero-add i

  some_is_any : some test n ≡ list_any test (range_with_len 0 n)
  some_is_any =
      or_is (list_any test) test refl (λ _ _. refl) (range_with_len 0 n) 0 (some test n)
      (λ e. let f = some_of test n e in (lowest test n, rw long f.within, rw (at _ f.within) f.passes))
      (λ e i h. let k = rw long at h in rw (at i k) (none_of test n e i k))

pub returns : goal.returns
returns c =
    let a = c.args in
    let test = λ (k : ℕ). before (point_in a.points.now (a.from + k)) a.anchor in
    let n : a.len - 0 ≡ a.len = omega arith in
    any_from_yields_List test _ _ _ c.any.ensures.ran (YieldsList-from_range 0 a.len a.len refl n) (λ x b q k. search (rules, tests))
    ∙ sym (some_is_any test a.len)
