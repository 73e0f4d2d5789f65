-- The ring of a node: its unskipped entries in ring order. There is one
-- alone; read round from a link it is what turning from there meets.
use Rattle.std.specs.Prelude.{ℕ, ◌≡◌, refl, Bool, true, false, List, ◌∷◌}
use Rattle.std.proofs.Common.{sym, ◌∙◌, subst, ⊎_elim}
use mathlib.Core.List.Memᴰ
use Rattle.laws.specs.Test.{true_is}
use Rattle.turn.specs.Angle.{same_direction}
use Rattle.turn.specs.Angular.{irreflexive, asymmetric}
use Rattle.graph.specs.Graph.{Graph}
use Rattle.graph.specs.Checks.{away_from}
use Rattle.next.specs.Next.{met_first}
use Rattle.next.specs.Choice.{Mem}
use Rattle.rings.specs.RingOrder.{Forward, Spread}
use Rattle.rings.proofs.RingOrder.{ring_irreflexive, ring_asymmetric}
use Rattle.rings.specs.Turning.{met_reversed}
use Rattle.rings.proofs.Turning.{met_from_first, met_from_second, met_from_third}
use Rattle.rings.specs.Sorted.{Sorted, Parts, Strict, Once, sorted_once, sorted_append, sorted_parts, sorted_by}
use Rattle.rings.specs.Sorted.{sorted_reverse, sorted_unique, of_reverse}
use Rattle.rings.specs.Rotation.{after, ahead, onward, round_from, split, of_after, of_ahead, parted}
use Rattle.rings.proofs.Rotation.{of_onward}
use Rattle.rings.specs.Rings.{InOrder, Ring}

module _ {g : Graph} {state : List ℕ} {v : ℕ} (sp : Spread g state v) where
  forward : {l : List ℕ} → Ring g state v l → (k : ℕ) → Mem k l → Forward g k
  forward r k m = sp.strict k (r.only k m)

  -- ---- it is the only one
  ring_strict : {l : List ℕ} → Ring g state v l → Strict (InOrder g v) l
  ring_strict r = record {
    irr = λ x m. ring_irreflexive g v x (forward r x m);
    asym = λ x y m n. ring_asymmetric g v x y (forward r x m) (forward r y n);
  }

  pub ring_unique : (l m : List ℕ) → Ring g state v l → Ring g state v m → l ≡ m
  ring_unique l m r s =
      sorted_unique (InOrder g v) l m (ring_strict r) r.sorted s.sorted (λ k i. s.every k (r.only k i))
      (λ k i. r.every k (s.only k i))

  -- no link stands in it twice
  pub ring_once : (l : List ℕ) → Ring g state v l → Once l
  ring_once l r = sorted_once (InOrder g v) l (ring_strict r).irr r.sorted

  -- ---- read round from a link e of it
  module _ {l : List ℕ} (r : Ring g state v l) (e : ℕ) (m : Mem e l) where
    se : Forward g e
    se = forward r e m

    -- the parts of the ring behind e and before it
    parts : Parts (InOrder g v) (ahead e l) (e ∷ after e l)
    parts =
        sorted_parts (InOrder g v) (ahead e l) (e ∷ after e l) (subst (Sorted (InOrder g v)) (split e l m) r.sorted)

    before_e : (x : ℕ) → Mem x (ahead e l) → InOrder g v x e
    before_e x i = parts.between x i e (Memᴰ.head refl)

    after_e : (y : ℕ) → Mem y (after e l) → InOrder g v e y
    after_e y i = parts.right.0 y i

    s_ahead : (x : ℕ) → Mem x (ahead e l) → Forward g x
    s_ahead x i = forward r x (of_ahead e l i)

    s_after : (x : ℕ) → Mem x (after e l) → Forward g x
    s_after x i = forward r x (of_after e l i)

    -- turning counterclockwise from e, what comes earlier onward is met first
    onward_met : Sorted (λ x y. met_first g false v e x y ≡ true) (onward e l)
    onward_met = sorted_append (λ x y. met_first g false v e x y ≡ true) (after e l) (ahead e l)
        (sorted_by (InOrder g v) (λ x y. met_first g false v e x y ≡ true) (after e l)
        (λ x y i j h. met_from_first g v e x y se (s_after x i) (s_after y j) (after_e x i) h) parts.right.1)
        (sorted_by (InOrder g v) (λ x y. met_first g false v e x y ≡ true) (ahead e l)
        (λ x y i j h. met_from_third g v x y e (s_ahead x i) (s_ahead y j) se h (before_e y j)) parts.left)
        (λ x i y j. met_from_second g v y e x (s_ahead y j) se (s_after x i) (before_e y j) (after_e x i))

    -- e itself does not come
    not_onward : (x : ℕ) → Mem x (onward e l) → x ≡ e → ⊥
    not_onward x i q = ⊎_elim
        (λ k. ring_irreflexive g v e se (subst (λ y. InOrder g v e y) q (after_e x k)))
        (λ k. ring_irreflexive g v e se (subst (λ y. InOrder g v y e) q (before_e x k)))
        (Memᴰ.append_cases (after e l) i)

    pub not_round : (sense : Bool) (x : ℕ) → Mem x (round_from sense e l) → x ≡ e → ⊥
    not_round false x i = not_onward x i
    not_round true x i = not_onward x (of_reverse (onward e l) i)

    apart : (x : ℕ) → Mem x (onward e l) → same_direction (away_from g v e) (away_from g v x) ≡ false
    apart x i = sp.apart e x (r.only e m) (r.only x (of_onward e l i)) (λ q. not_onward x i (sym q))

    -- and clockwise, what comes earlier backward
    pub round_met : (sense : Bool) → Sorted (λ x y. met_first g sense v e x y ≡ true) (round_from sense e l)
    round_met false = onward_met
    round_met true = sorted_reverse (λ x y. met_first g true v e x y ≡ true) (onward e l)
        (sorted_by (λ x y. met_first g false v e x y ≡ true) (λ x y. met_first g true v e y x ≡ true) (onward e l)
        (λ x y i j h. met_reversed g v e x y se (forward r x (of_onward e l i)) (forward r y (of_onward e l j))
        (apart x i) (apart y j) ∙ h)
        onward_met)

    -- so f is met before h exactly where h is among what follows f
    pub round_exact : (sense : Bool) (f h : ℕ) → Mem f (round_from sense e l) → Mem h (round_from sense e l)
        → (Mem h (after f (round_from sense e l)) → met_first g sense v e f h ≡ true)
        × (met_first g sense v e f h ≡ true → Mem h (after f (round_from sense e l)))
    round_exact sense f h i j = (λ k. follows.right.0 h k, back)
      where
        B : ℕ → ℕ → Type 0
        B x y = met_first g sense v e x y ≡ true

        c : List ℕ
        c = round_from sense e l

        follows : Parts B (ahead f c) (f ∷ after f c)
        follows = sorted_parts B (ahead f c) (f ∷ after f c) (subst (Sorted B) (split f c i) (round_met sense))

        met_irr : (x : ℕ) → B x x → ⊥
        met_irr x t = irreflexive sense (away_from g v e) (away_from g v x) (true_is t)

        met_asym : (x y : ℕ) → B x y → B y x → ⊥
        met_asym x y s t = asymmetric sense (away_from g v e) (away_from g v x) (away_from g v y) (true_is s) (true_is t)

        back : B f h → Mem h (after f c)
        back t = ⊎_elim (λ k. absurd (met_asym f h t (follows.between h k f (Memᴰ.head refl)))) (λ k. k)
            (parted f c j (λ q. met_irr f (subst (B f) q t)))
