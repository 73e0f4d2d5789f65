-- One start and the next, by their difference in 32 bits; and what it takes that all starts are right.
use Rattle.std.specs.Prelude.{◌≡◌, ℕ, zero, suc, ◌+◌, ◌-◌, ◌*◌, ◌<◌, ◌≤◌, Bool, false, ◌||◌, List, length, slice_index, slice_index_or, refl}
use Rattle.std.proofs.Common.{arith, sym, subst}
use Rattle.std.proofs.Math.Decide.{ℕ_discrete}
use Rattle.laws.specs.Test.{or_false, false_or}
use Rattle.turn.specs.Limits.{max_links}

-- from one start to the next a node has two entries at least, and at most two for each of the most links
pub record Close (from to : ℕ) : Type 0 where
  pub two : from + 2 ≤ to
  pub few : to ≤ from + 2 * max_links

-- the test of one node: it passes no node that is not close but where the sum wraps, and fails none that is
pub record Odd (from to : ℕ) (r : Bool) : Type 0 where
  pub told : r ≡ false → from + 2 * max_links < 4294967296 → Close from to
  pub close : Close from to → r ≡ false

-- of all nodes below n
pub record OddBelow (start : List ℕ) (n : ℕ) (r : Bool) : Type 0 where
  pub told : r ≡ false → (v : ℕ) → v < n → slice_index start v + 2 * max_links < 4294967296 → Close (slice_index start v) (slice_index start (v + 1))
  pub close : ((v : ℕ) → v < n → Close (slice_index start v) (slice_index start (v + 1))) → r ≡ false

pub odd_none : (start : List ℕ) → OddBelow start 0 false
odd_none start = record { told = λ e v l. absurd (omega arith); close = λ h. refl }

pub odd_more : (start : List ℕ) (n : ℕ) (r s : Bool) → OddBelow start n r → Odd (slice_index start n) (slice_index start (n + 1)) s
    → OddBelow start (n + 1) (r || s)
odd_more start n r s h k = record {
  told = λ e v l w. at e v l w (ℕ_discrete v n);
  close = λ c. false_or r s (h.close (λ v l. c v (omega arith))) (k.close (c n (omega arith)));
}
  where
    at : r || s ≡ false → (v : ℕ) → v < n + 1 → slice_index start v + 2 * max_links < 4294967296 → Dec (v ≡ n) → Close (slice_index start v)
        (slice_index start (v + 1))
    at e v l w (yes q) =
        subst (λ (u : ℕ). Close (slice_index start u) (slice_index start (u + 1))) (sym q)
        (k.told (or_false r s e).1 (subst (λ (u : ℕ). slice_index start u + 2 * max_links < 4294967296) q w))
    at e v l w (no d) = h.told (or_false r s e).0 v (omega arith) w

-- ---- all starts
module _ {start : List ℕ} (r : Bool) (odd : OddBelow start (length start - 1) r) where
  -- from 0 on nothing wraps, of so few nodes
  module _ (zero-first : slice_index_or start 0 0 ≡ 0) (few : length start - 1 ≤ max_links) (e : r ≡ false) where
    low : (v : ℕ) → v ≤ length start - 1 → slice_index start v ≤ v * (2 * max_links)
    low zero l = omega (arith, zero-first)
    low (suc v) l =
        let h = low v (omega arith) in
        let c = odd.told e v (omega arith) (omega (arith, h)) in
        let p : v + 1 ≡ suc v = omega arith in
        subst (λ (u : ℕ). slice_index start u ≤ suc v * (2 * max_links)) p (omega (arith, h, c.few))

    pub all_close : (v : ℕ) → v < length start - 1 → Close (slice_index start v) (slice_index start (v + 1))
    all_close v l = odd.told e v l (omega (arith, low v (omega arith)))
