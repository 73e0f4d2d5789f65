-- A node's part of the list is lent and comes back in another order: the parts of the others stay as they are.
use Prim.Native.Nat.{ℕ, zero, suc, ◌+◌, ◌-◌, ◌≤◌, ◌<◌}
use native.Mathlib.Omega.{arith}
use native.Mathlib.Decide.{ℕ_discrete, dec_le}
use mathlib.Core.Path.{◌≡◌, sym, ap, ◌∙◌, subst}
use mathlib.Core.List.{List, ◌++◌}
use lib.ListN.{length, get_or, take, drop, length-append, length-take, length-drop, get_or-append}
use lib.Seq.{get_or-take, get_or-drop, get_or-append-add, length-take-le, take_at, drop_at, ext_get_or}
use Rattle.graph.specs.Graph.{part}
use Rattle.graph.specs.Passes.{Rising}
use Rattle.graph.specs.Total.{starts_within, part_length}
use Rattle.fan.specs.Rearranged.{Rearranged, moved_twice}
use Rattle.fan.specs.Arranged.{Arranged, few_entries, still_rising}

-- ---- k entries from a on are replaced by ys
module _ (xs ys : List ℕ) (a k : ℕ) (within : a + k ≤ length xs) (len : length ys ≡ k) where
  abbrev back : List ℕ
  back = take a xs ++ (ys ++ drop k (drop a xs))

  front : length (take a xs) ≡ a
  front = length-take-le a xs (omega arith)

  back_length : length back ≡ length xs
  back_length = simp (length-append, length-drop, front, len) (omega arith)

  -- what stands there, before them and after them
  there : take k (drop a back) ≡ ys
  there = rw (drop_at (take a xs) (ys ++ drop k (drop a xs)) a front) (take_at ys (drop k (drop a xs)) k len)

  before_them : (j : ℕ) → j < a → get_or back j 0 ≡ get_or xs j 0
  before_them j h = get_or-append (take a xs) (ys ++ drop k (drop a xs)) 0 j (rw front h) ∙ get_or-take a xs j 0 h

  after_them : (j : ℕ) → get_or back (a + (k + j)) 0 ≡ get_or xs (a + (k + j)) 0
  after_them j =
      ap (λ (n : ℕ). get_or back (n + (k + j)) 0) (sym front)
      ∙ get_or-append-add (take a xs) (ys ++ drop k (drop a xs)) (k + j) 0
      ∙ ap (λ (n : ℕ). get_or (ys ++ drop k (drop a xs)) (n + j) 0) (sym len)
      ∙ get_or-append-add ys (drop k (drop a xs)) j 0
      ∙ get_or-drop k (drop a xs) j 0
      ∙ get_or-drop a xs (k + j) 0

  past_them : (j : ℕ) → a + k ≤ j → get_or back j 0 ≡ get_or xs j 0
  past_them j h =
      let e : a + (k + (j - (a + k))) ≡ j = omega arith in
      subst (λ (n : ℕ). get_or back n 0 ≡ get_or xs n 0) e (after_them (j - (a + k)))

-- ---- the parts that the starts give the nodes
-- the starts rise from node to node
rise : {start list : List ℕ} → Rising start list → (d u : ℕ) → u + d ≤ length start - 1 → get_or start u 0 ≤ get_or start (u + d) 0
rise {start} h zero u l = let e : u + 0 ≡ u = omega arith in rw e (omega arith)
rise {start} h (suc d) u l =
    let e : u + suc d ≡ u + d + 1 = omega arith in
    let p = rise h d u (omega arith) in
    let q = h.step (u + d) (omega arith) in
    subst (λ (n : ℕ). get_or start u 0 ≤ get_or start n 0) (sym e) (omega (arith, p, q))

pub starts_rise : {start list : List ℕ} → Rising start list → (u w : ℕ) → u ≤ w → w ≤ length start - 1 → get_or start u 0 ≤ get_or start w 0
starts_rise {start} h u w k l =
    let e : u + (w - u) ≡ w = omega arith in
    subst (λ (n : ℕ). get_or start u 0 ≤ get_or start n 0) e (rise h (w - u) u (omega arith))

-- a node's part of two lists that are the same where it stands
part_same : (start xs zs : List ℕ) (u : ℕ) → length zs ≡ length xs
    → ((j : ℕ) → get_or start u 0 ≤ j → j < get_or start (u + 1) 0 → get_or zs j 0 ≡ get_or xs j 0) → part start zs u ≡ part start xs u
part_same start xs zs u e same = ext_get_or 0 (part start zs u) (part start xs u) long at
  where
    a : ℕ
    a = get_or start u 0

    k : ℕ
    k = get_or start (u + 1) 0 - a

    long : length (take k (drop a zs)) ≡ length (take k (drop a xs))
    long = simp (length-take, length-drop, e)

    at : (i : ℕ) → i < length (take k (drop a zs)) → get_or (take k (drop a zs)) i 0 ≡ get_or (take k (drop a xs)) i 0
    at i h =
        let l : i < k = omega (arith, rw (length-take k (drop a zs)) at h) in
        get_or-take k (drop a zs) i 0 l ∙ get_or-drop a zs i 0 ∙ same (a + i) (omega arith) (omega arith)
        ∙ sym (get_or-take k (drop a xs) i 0 l ∙ get_or-drop a xs i 0)

-- node v's part comes back as ys
module _ {start list xs : List ℕ} (rising : Rising start list) (c : Arranged start list xs) (v : ℕ) (l : v < length start - 1) (ys : List ℕ)
    (r : Rearranged (part start xs v) ys) (stays : length (part start xs v) ≤ few_entries → ys ≡ part start xs v) where
  abbrev a : ℕ
  a = get_or start v 0

  abbrev k : ℕ
  k = get_or start (v + 1) 0 - get_or start v 0

  copied : Rising start xs
  copied = still_rising rising c

  within : a + k ≤ length xs
  within = omega (arith, starts_within copied (v + 1) (omega arith), rising.step v l)

  long : length ys ≡ k
  long = r.len ∙ omega (arith, part_length copied v l)

  others : (u : ℕ) → u < length start - 1 → (u ≡ v → ⊥) → part start (back xs ys a k within long) u ≡ part start xs u
  others u h n = part_same start xs (back xs ys a k within long) u (back_length xs ys a k within long) (go (dec_le u v))
    where
      go : Dec (u ≤ v) → (j : ℕ) → get_or start u 0 ≤ j → j < get_or start (u + 1) 0 → get_or (back xs ys a k within long) j 0 ≡ get_or xs j 0
      go (yes b) j p q = before_them xs ys a k within long j (omega (arith, starts_rise rising (u + 1) v (below b n) (omega arith)))
        where
          below : u ≤ v → (u ≡ v → ⊥) → u + 1 ≤ v
          below b n = omega arith
      go (no b) j p q = past_them xs ys a k within long j (omega (arith, rising.step v l, starts_rise rising (v + 1) u (above b) (omega arith)))
        where
          above : (u ≤ v → ⊥) → v + 1 ≤ u
          above b = omega arith

  pub arranged_more : Arranged start list (take a xs ++ (ys ++ drop k (drop a xs)))
  arranged_more = record {
    len = back_length xs ys a k within long ∙ c.len;
    each = λ u h. at u h (ℕ_discrete u v);
    few = λ u h f. same u h f (ℕ_discrete u v);
  }
    where
      at : (u : ℕ) → u < length start - 1 → Dec (u ≡ v) → Rearranged (part start list u) (part start (back xs ys a k within long) u)
      at u h (yes e) = rw e (moved_twice (c.each v l) (subst (Rearranged (part start xs v)) (sym (there xs ys a k within long)) r))
      at u h (no n) = subst (Rearranged (part start list u)) (sym (others u h n)) (c.each u h)

      same : (u : ℕ) → u < length start - 1 → length (part start list u) ≤ few_entries → Dec (u ≡ v)
          → part start (back xs ys a k within long) u ≡ part start list u
      same u h f (yes e) =
          let g : length (part start list v) ≤ few_entries = subst (λ (w : ℕ). length (part start list w) ≤ few_entries) e f in
          rw e (there xs ys a k within long ∙ stays (omega (arith, g, (c.each v l).len)) ∙ c.few v l g)
      same u h f (no n) = others u h n ∙ c.few u h f

-- as the code has it: the part from `from` to before `to`
pub arranged_part : {start list xs ys : List ℕ} → Rising start list → Arranged start list xs → (v : ℕ) → v < length start - 1 → (from to : ℕ)
    → from ≡ get_or start v 0 → to ≡ get_or start (v + 1) 0 → Rearranged (take (to - from) (drop from xs)) ys
    → (length (take (to - from) (drop from xs)) ≤ few_entries → ys ≡ take (to - from) (drop from xs))
    → Arranged start list (take from xs ++ (ys ++ drop (to - from) (drop from xs)))
arranged_part {ys = ys} rising c v l from to e f r s = rw (e, f) (arranged_more rising c v l ys (rw (e, f) at r) (rw (e, f) at s))
