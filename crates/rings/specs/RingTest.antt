-- Whether a list is the ring of a node, as a test.
use Rattle.std.specs.Prelude.{ℕ, ◌≡◌, refl, Bool, true, false, not, ◌&&◌, ◌||◌, List, [], ◌∷◌, eqb, get_or}
use Rattle.std.proofs.Common.{sym, subst, ⊎_elim, eqb-true, eq-eqb}
use mathlib.Core.List.Memᴰ
use Rattle.laws.specs.Test.{true≢false, not_is, and_true, or_true}
use Rattle.graph.specs.Graph.{Graph}
use Rattle.graph.specs.Checks.{skipped}
use Rattle.next.specs.Choice.{Mem}
use Rattle.rings.specs.RingOrder.{ring_before, Spoke}
use Rattle.rings.specs.Sorted.{Sorted}
use Rattle.rings.specs.Rings.{Ring}

-- a test passes at each element of a list; x is one of them; each stands before all that follow it
abbrev pub each : (ℕ → Bool) → List ℕ → Bool
each test [] = true
each test (x ∷ l) = test x && each test l

abbrev pub among : ℕ → List ℕ → Bool
among x [] = false
among x (y ∷ l) = eqb x y || among x l

abbrev pub is_sorted : (ℕ → ℕ → Bool) → List ℕ → Bool
is_sorted lt [] = true
is_sorted lt (x ∷ l) = each (lt x) l && is_sorted lt l

-- k is an unskipped entry of node v; it is skipped or in the list
abbrev is_spoke : Graph → List ℕ → ℕ → ℕ → Bool
is_spoke g state v k = among k (g.entries v) && not (skipped state k)

abbrev is_taken : List ℕ → List ℕ → ℕ → Bool
is_taken state l k = skipped state k || among k l

-- in ring order, unskipped entries alone, and all of them
abbrev pub is_ring : Graph → List ℕ → ℕ → List ℕ → Bool
is_ring g state v l = is_sorted (ring_before g v) l && each (is_spoke g state v) l && each (is_taken state l) (g.entries v)

-- ---- what the tests tell
each_at : (test : ℕ → Bool) (l : List ℕ) → each test l ≡ true → (x : ℕ) → Mem x l → test x ≡ true
each_at test [] e x m = absurd (Memᴰ.not-nil m)
each_at test (y ∷ l) e x m =
    let p = and_true (test y) (each test l) e in
    ⊎_elim (λ q. subst (λ z. test z ≡ true) (sym q) p.0) (λ k. each_at test l p.1 x k) (Memᴰ.cases_cons m)

among_in : (x : ℕ) (l : List ℕ) → among x l ≡ true → Mem x l
among_in x [] e = absurd (true≢false e refl)
among_in x (y ∷ l) e =
    ⊎_elim (λ q. Memᴰ.head (eqb-true x y q)) (λ k. Memᴰ.tail (among_in x l k))
    (or_true (eqb x y) (among x l) e)

sorted_in : (lt : ℕ → ℕ → Bool) (l : List ℕ) → is_sorted lt l ≡ true → Sorted (λ x y. lt x y ≡ true) l
sorted_in lt [] e = tt
sorted_in lt (x ∷ l) e =
    let p = and_true (each (lt x) l) (is_sorted lt l) e in (each_at (lt x) l p.0, sorted_in lt l p.1)

spoke_in : (g : Graph) (state : List ℕ) (v k : ℕ) → is_spoke g state v k ≡ true → Spoke g state v k
spoke_in g state v k e =
    let p = and_true (among k (g.entries v)) (not (skipped state k)) e in
    record {
      listed = among_in k (g.entries v) p.0;
      unskipped = λ s. true≢false (eq-eqb (get_or state k 0) 1 s) (not_is (skipped state k) p.1);
    }

pub ring_test : (g : Graph) (state : List ℕ) (v : ℕ) (l : List ℕ) → is_ring g state v l ≡ true → Ring g state v l
ring_test g state v l e =
    let p = and_true (is_sorted (ring_before g v) l && each (is_spoke g state v) l)
    (each (is_taken state l) (g.entries v)) e in
    let q = and_true (is_sorted (ring_before g v) l) (each (is_spoke g state v) l) p.0 in
    record {
      sorted = sorted_in (ring_before g v) l q.0;
      only = λ k m. spoke_in g state v k (each_at (is_spoke g state v) l q.1 k m);
      every = λ k s. ⊎_elim (λ t. absurd (s.unskipped (eqb-true (get_or state k 0) 1 t))) (among_in k l)
          (or_true (skipped state k) (among k l) (each_at (is_taken state l) (g.entries v) p.1 k s.listed));
    }
