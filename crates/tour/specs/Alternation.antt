-- Alternation of ends round nodes, over an abstract cyclic order: it is kept when two neighbours of different sorts go, and it names the next end's sort.
use Rattle.std.specs.Prelude.{◌≡◌, refl, ◌⊎◌, Bool, true, false, not, ℕ}
use Rattle.std.proofs.Common.{sym, ap, ◌∙◌, subst, inl, inr, ⊎_elim, true≢false}
use Rattle.std.proofs.Math.Bool.{not-not}
use Rattle.std.proofs.lemmas.Bool.{false≢true}

-- `B x y z`: turning from x, y is met strictly before z (x itself after a full turn). The laws are their own mirror
-- image: B z y x is the order of turning the other way.
pub record Cyc (E : Type 0) (node : E → ℕ) (S : E → Type 0) (B : E → E → E → Type 0) : Type 0 where
  pub irr : (x y : E) → B x y y → ⊥
  pub irr' : (x y : E) → B x x y → ⊥
  pub trans : (x y z w : E) → B x y z → B x z w → B x y w
  pub trans' : (x y z w : E) → B x y w → B y z w → B x z w
  pub total : (v : ℕ) (x y z : E) → S x → S y → S z → node x ≡ v → node y ≡ v → node z ≡ v → (y ≡ z → ⊥) → B x y z ⊎ B x z y
  pub total' : (v : ℕ) (x y z : E) → S x → S y → S z → node x ≡ v → node y ≡ v → node z ≡ v → (x ≡ y → ⊥) → B x y z ⊎ B y x z

-- turning the other way
pub mirror : {E : Type 0} {node : E → ℕ} {S : E → Type 0} {B : E → E → E → Type 0} → Cyc E node S B → Cyc E node S (λ x y z. B z y x)
mirror c = record {
  irr = λ x y h. c.irr' y x h;
  irr' = λ x y h. c.irr y x h;
  trans = λ x y z w h k. c.trans' w z y x k h;
  trans' = λ x y z w h k. c.trans w z y x k h;
  total = λ v x y z sx sy sz nx ny nz d. ⊎_elim inr inl (c.total' v y z x sy sz sx ny nz nx d);
  total' = λ v x y z sx sy sz nx ny nz d. ⊎_elim inr inl (c.total v z x y sz sx sy nz nx ny d);
}

-- By turns: turning from an end to one of its own sort (to itself: a full turn), one of the other sort is met before.
abbrev pub Alt : (E : Type 0) → (E → ℕ) → (E → Bool) → (E → E → E → Type 0) → (E → Type 0) → Type 0
Alt E node sort B W = (v : ℕ) (x y : E) → W x → W y → node x ≡ v → node y ≡ v → sort x ≡ sort y
    → (z : E) × W z × (node z ≡ v) × (sort z ≡ not (sort x)) × B x z y

pub dicho : (a b : Bool) → (a ≡ b) ⊎ (a ≡ not b)
dicho true true = inl refl
dicho true false = inr refl
dicho false true = inr refl
dicho false false = inl refl

pub no_not : (a : Bool) → a ≡ not a → ⊥
no_not true e = true≢false e
no_not false e = false≢true e

module _ {E : Type 0} {node : E → ℕ} {sort : E → Bool} {B : E → E → E → Type 0} where
  pub alt_mirror : {W : E → Type 0} → Alt E node sort B W → Alt E node sort (λ x y z. B z y x) W
  alt_mirror a v x y wx wy nx ny s =
      let r = a v y x wy wx ny nx (sym s) in
      (r.0, r.1, r.2, r.3 ∙ ap not (sym s), r.4)

  pub alt_ext : {W W' : E → Type 0} → ((x : E) → W x → W' x) → ((x : E) → W' x → W x) → Alt E node sort B W → Alt E node sort B W'
  alt_ext f g a v x y wx wy nx ny s =
      let r = a v x y (g x wx) (g y wy) nx ny s in
      (r.0, f r.0 r.1, r.2, r.3, r.4)

module _ {E : Type 0} (dec : (x y : E) → Dec (x ≡ y)) {node : E → ℕ} (sort : E → Bool) {S : E → Type 0} {B : E → E → E → Type 0} (c : Cyc E node S B)
    {W : E → Type 0} (sub : (x : E) → W x → S x) (alt : Alt E node sort B W) where
  -- a, and b next to it, of the other sort, go
  module _ (u : ℕ) (a b : E) (wa : W a) (wb : W b) (na : node a ≡ u) (nb : node b ≡ u) (sab : sort b ≡ not (sort a))
      (adj : (x : E) → W x → node x ≡ u → B a x b → ⊥) where
    abbrev Left : E → Type 0
    Left x = W x × (x ≡ a → ⊥) × (x ≡ b → ⊥)

    abbrev Met : E → E → Type 0
    Met x y = (z : E) × Left z × (node z ≡ u) × (sort z ≡ not (sort x)) × B x z y

    by_a : (x y : E) → Left x → Left y → node x ≡ u → node y ≡ u → sort x ≡ sort y → sort a ≡ not (sort x) → B x a y → Met x y
    by_a x y wx wy nx ny s sa h =
        let sb : sort b ≡ sort x = sab ∙ ap not sa ∙ not-not (sort x) in
        let r = alt u b y wb wy.0 nb ny (sb ∙ s) in
        let aby : B a b y = ⊎_elim (λ k. k) (λ k. absurd (adj y wy.0 ny k))
        (c.total u a b y (sub a wa) (sub b wb) (sub y wy.0) na nb ny (λ q. wy.2 (sym q))) in (
          r.0,
          (
            r.1,
            λ q. c.irr' a y (c.trans' a b a y aby (subst (λ t. B b t y) q r.4)),
            λ q. c.irr' b y (subst (λ t. B b t y) q r.4),
          ),
          r.2,
          r.3 ∙ ap not sb,
          c.trans' x b r.0 y (c.trans' x a b y h aby) r.4,
        )

    by_b : (x y : E) → Left x → Left y → node x ≡ u → node y ≡ u → sort x ≡ sort y → sort b ≡ not (sort x) → B x b y → Met x y
    by_b x y wx wy nx ny s sb h =
        let sa : sort x ≡ sort a = sym (not-not (sort x)) ∙ ap not (sym sb ∙ sab) ∙ not-not (sort a) in
        let r = alt u x a wx.0 wa nx na sa in
        let xab : B x a b = ⊎_elim (λ k. k) (λ k. absurd (adj x wx.0 nx k))
        (c.total' u x a b (sub x wx.0) (sub a wa) (sub b wb) nx na nb (λ q. wx.1 q)) in (
          r.0,
          (
            r.1,
            λ q. c.irr x a (subst (λ t. B x t a) q r.4),
            λ q. c.irr x b (c.trans x b a b (subst (λ t. B x t a) q r.4) xab),
          ),
          r.2,
          r.3,
          c.trans x r.0 b y (c.trans x r.0 a b r.4 xab) h,
        )

    pub remove : Alt E node sort B Left
    remove v x y wx wy nx ny s = go (alt v x y wx.0 wy.0 nx ny s)
      where
        Got : Type 0
        Got = (z : E) × W z × (node z ≡ v) × (sort z ≡ not (sort x)) × B x z y

        Aim : ℕ → Type 0
        Aim w = (z : E) × Left z × (node z ≡ w) × (sort z ≡ not (sort x)) × B x z y

        pick : (r : Got) → Dec (r.0 ≡ a) → Dec (r.0 ≡ b) → Aim v
        pick r (yes p) d =
            let e : u ≡ v = sym na ∙ ap node (sym p) ∙ r.2 in
            subst Aim e (by_a x y wx wy (nx ∙ sym e) (ny ∙ sym e) s (ap sort (sym p) ∙ r.3) (subst (λ t. B x t y) p r.4))
        pick r (no n) (yes p) =
            let e : u ≡ v = sym nb ∙ ap node (sym p) ∙ r.2 in
            subst Aim e (by_b x y wx wy (nx ∙ sym e) (ny ∙ sym e) s (ap sort (sym p) ∙ r.3) (subst (λ t. B x t y) p r.4))
        pick r (no n) (no m) = (r.0, (r.1, n, m), r.2, r.3, r.4)

        go : Got → Aim v
        go r = pick r (dec r.0 a) (dec r.0 b)

  -- the next end from e, where s is gone and t, its neighbour, is still there: e is not t
  module _ (e s t : E) (we : W e) (ws : W s) (wt : W t) (nst : node t ≡ node s) (ets : sort e ≡ sort t) (es : sort s ≡ not (sort e))
      (et : e ≡ t → ⊥) (adj : (x : E) → W x → node x ≡ node s → B t x s → ⊥) where
    -- t is met before s
    t_before : node s ≡ node e → B e t s
    t_before n = ⊎_elim (λ k. k) (λ k. absurd (adj e we (sym n) k))
        (c.total' (node e) e t s (sub e we) (sub t wt) (sub s ws) refl (nst ∙ n) n et)

    t≢s : t ≡ s → ⊥
    t≢s q = no_not (sort e) (ets ∙ ap sort q ∙ es)

    pub some_next : (z : E) × W z × (node z ≡ node e) × (sort z ≡ not (sort e)) × (z ≡ s → ⊥)
    some_next = go (alt (node e) e e we we refl refl refl)
      where
        Got : E → Type 0
        Got y = (z : E) × W z × (node z ≡ node e) × (sort z ≡ not (sort e)) × B e z y

        Aim : Type 0
        Aim = (z : E) × W z × (node z ≡ node e) × (sort z ≡ not (sort e)) × (z ≡ s → ⊥)

        pick : (r : Got e) → Dec (r.0 ≡ s) → Aim
        pick r (yes p) =
            let n : node s ≡ node e = ap node (sym p) ∙ r.2 in
            let q = alt (node e) e t we wt refl (nst ∙ n) ets in
            (q.0, q.1, q.2, q.3, λ k. c.irr e s (c.trans e s t s (subst (λ w. B e w t) k q.4) (t_before n)))
        pick r (no n) = (r.0, r.1, r.2, r.3, n)

        go : Got e → Aim
        go r = pick r (dec r.0 s)

    module _ (f : E) (wf : W f) (nf : node f ≡ node e) (first : (x : E) → W x → node x ≡ node e → (x ≡ e → ⊥) → (x ≡ s → ⊥) → B e x f → ⊥) where
      pub none_before : (x : E) → W x → node x ≡ node e → B e x f → ⊥
      none_before x wx nx h = go (dec x e) (dec x s)
        where
          go : Dec (x ≡ e) → Dec (x ≡ s) → ⊥
          go (yes p) d = c.irr' e f (subst (λ w. B e w f) p h)
          go (no n) (yes p) =
              let k : node s ≡ node e = ap node (sym p) ∙ nx in
              first t wt (nst ∙ k) (λ q. et (sym q)) t≢s (c.trans e t s f (t_before k) (subst (λ w. B e w f) p h))
          go (no n) (no m) = first x wx nx n m h

      pub next_sort : sort f ≡ not (sort e)
      next_sort =
          ⊎_elim (λ q. absurd (let r = alt (node e) e f we wf refl nf (sym q) in none_before r.0 r.1 r.2 r.4)) (λ q. q)
          (dicho (sort f) (sort e))
