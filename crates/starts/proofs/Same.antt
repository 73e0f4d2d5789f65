-- That the test of the starts is check 5's.
use Rattle.std.proofs.Common.{◌≡◌, ℕ, zero, suc, ◌+◌, ◌-◌, ◌*◌, ◌≤◌, Bool, true, false, not, ◌||◌, eqb, ltb, List, length, get_or, sym, refl}
use Rattle.std.proofs.Common.{subst, arith}
use Rattle.laws.specs.Test.{true≢false}
use Rattle.laws.specs.Fails.{or_fails, ne_fails, lt_fails}
use Rattle.turn.specs.Limits.{max_links}
use Rattle.graph.specs.Checks.{bad_starts}
use Rattle.graph.specs.Passes.{Rising}
use Rattle.graph.specs.Tests.{rising}
use Rattle.graph.specs.Total.{starts_within}
use Rattle.starts.specs.Odds.{OddBelow, all_close}

-- a test that fails wherever another does, and the other way round, is that test
same_test : (s t : Bool) → (s ≡ false → t ≡ false) → (t ≡ false → s ≡ false) → s ≡ t
same_test true true p q = refl
same_test true false p q = absurd (true≢false refl (q refl))
same_test false t p q = sym (p refl)

module _ (start list : List ℕ) (any : 1 ≤ length start) (r : Bool) (odd : OddBelow start (length start - 1) r) (few : length list ≤ 2 * max_links) where
  abbrev m : ℕ
  m = length start - 1

  abbrev test : Bool
  test = not (eqb (get_or start 0 0) 0) || not (eqb (get_or start m 0) (length list)) || ltb max_links m || r

  to_rise : test ≡ false → Rising start list
  to_rise e =
      let h = (or_fails (or_fails (or_fails (ne_fails (get_or start 0 0) 0) (ne_fails (get_or start m 0) (length list))) (lt_fails max_links m))
      (record { to = λ (z : r ≡ false). z; from = λ (z : r ≡ false). z })).to e in
      record { any = any; first = h.0.0.0; last = h.0.0.1; step = λ v l. (all_close r odd h.0.0.0 h.0.1 h.1 v l).two }

  from_rise : Rising start list → test ≡ false
  from_rise h =
      (or_fails (or_fails (or_fails (ne_fails (get_or start 0 0) 0) (ne_fails (get_or start m 0) (length list))) (lt_fails max_links m))
      (record { to = λ (z : r ≡ false). z; from = λ (z : r ≡ false). z })).from (
        ((h.first, h.last), omega (arith, twice m (omega arith), h.last, few)),
        odd.close (λ v l. record {
          two = h.step v l;
          few = omega (arith, starts_within h (v + 1) (omega arith), few);
        }),
      )
    where
      -- each node has two entries
      twice : (v : ℕ) → v ≤ length start - 1 → 2 * v ≤ get_or start v 0
      twice zero l = omega arith
      twice (suc v) l =
          let e : v + 1 ≡ suc v = omega arith in
          subst (λ (u : ℕ). 2 * suc v ≤ get_or start u 0) e (omega (arith, twice v (omega arith), h.step v (omega arith)))

  pub starts_same : test ≡ bad_starts start list
  starts_same = same_test test (bad_starts start list) (λ e. (rising start list any).from (to_rise e)) (λ e. from_rise ((rising start list any).to e))
