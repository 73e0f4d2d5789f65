-- The clockwise order of the ends at a node, from the laws of the angular order.
use Rattle.std.specs.Prelude.{ℕ, ◌≡◌, ◌⊎◌, Bool, true, false, List}
use Rattle.std.proofs.Common.{sym, ◌∙◌, subst, inl, inr, ⊎_elim}
use Rattle.laws.specs.Test.{Is, is_true, true_is}
use Rattle.turn.specs.Angle.{same_direction, nonzero}
use Rattle.turn.specs.Angular.{irreflexive, transitive, own_last, total, cyclic, transitive_on, total_on}
use Rattle.graph.specs.Graph.{Graph}
use Rattle.next.specs.Next.{met_first}
use Rattle.graph.specs.Checks.{away_from}
use Rattle.next.specs.Choice.{Mem}
use Rattle.walk.specs.States.{Unvisited}
use Rattle.tour.specs.Alternation.{Cyc}
use Rattle.tour.specs.Ends.{End, link, node, UnvisitedEnd}
use Rattle.tour.specs.AllWalks.{Sensed}

-- ---- the rules' test, for any links
pub met_irr : (g : Graph) (w : Bool) (v e x : ℕ) → met_first g w v e x x ≡ true → ⊥
met_irr g w v e x t = irreflexive w (away_from g v e) (away_from g v x) (true_is t)

pub met_trans : (g : Graph) (w : Bool) (v e x y z : ℕ) → met_first g w v e x y ≡ true → met_first g w v e y z ≡ true → met_first g w v e x z ≡ true
met_trans g w v e x y z p q = is_true (transitive w (away_from g v e) (away_from g v x) (away_from g v y) (away_from g v z) (true_is p) (true_is q))

-- what the order asks of the unskipped links: each has a length, and no two run from a node in one direction
pub record Spread (g : Graph) (st : List ℕ) : Type 0 where
  pub long : (v k : ℕ) → Unvisited st k → Is (nonzero (away_from g v k))
  pub apart : (v x y : ℕ) → Unvisited st x → Unvisited st y → Mem x (g.entries v) → Mem y (g.entries v) → (x ≡ y → ⊥)
      → Is (same_direction (away_from g v x) (away_from g v y)) → ⊥

-- ---- for unskipped links
module _ (g : Graph) (st : List ℕ) (sp : Spread g st) (v x y z : ℕ) (ox : Unvisited st x) (oy : Unvisited st y) (oz : Unvisited st z) where
  pub met_total : Mem y (g.entries v) → Mem z (g.entries v) → (y ≡ z → ⊥) → (met_first g true v x y z ≡ true) ⊎ (met_first g true v x z y ≡ true)
  met_total my mz d =
      ⊎_elim (λ h. inl (is_true h)) (⊎_elim (λ h. absurd (sp.apart v y z oy oz my mz d h)) (λ h. inr (is_true h)))
      (total true (away_from g v x) (away_from g v y) (away_from g v z) (sp.long v x ox) (sp.long v y oy) (sp.long v z oz))

  pub met_total_on : Mem x (g.entries v) → Mem y (g.entries v) → (x ≡ y → ⊥) → (met_first g true v x y z ≡ true) ⊎ (met_first g true v y x z ≡ true)
  met_total_on mx my d =
      ⊎_elim (λ h. inl (is_true h)) (λ h. inr (is_true h))
      (total_on true (away_from g v x) (away_from g v y) (away_from g v z) (sp.long v x ox) (sp.long v y oy) (sp.long v z oz) (sp.apart v x y ox oy mx my d))

  pub met_trans_on : (u : ℕ) → Unvisited st u → met_first g true v x y u ≡ true → met_first g true v y z u ≡ true → met_first g true v x z u ≡ true
  met_trans_on u ou p q =
      is_true (transitive_on true (away_from g v x) (away_from g v y) (away_from g v z) (sp.long v x ox) (sp.long v y oy) (sp.long v z oz)
      (away_from g v u) (sp.long v u ou) (true_is p) (true_is q))

  -- counterclockwise from z, y is met before x, just where clockwise from x, y is met before z
  pub met_mirror : met_first g true v x y z ≡ true → met_first g false v z y x ≡ true
  met_mirror p = cyclic true (away_from g v x) (away_from g v z) (away_from g v y) (sp.long v x ox) (sp.long v z oz) (sp.long v y oy) ∙ p

-- ---- the order of ends
pub record Met (g : Graph) (cw : Bool) (st : List ℕ) (x y z : End) : Type 0 where
  pub ox : UnvisitedEnd st x
  pub oy : UnvisitedEnd st y
  pub oz : UnvisitedEnd st z
  pub ny : node g cw y ≡ node g cw x
  pub nz : node g cw z ≡ node g cw x
  pub is : met_first g true (node g cw x) (link x) (link y) (link z) ≡ true

module _ (g : Graph) (cw : Bool) (st : List ℕ) (sp : Spread g st)
    (listed : (x : End) → UnvisitedEnd st x → Mem (link x) (g.entries (node g cw x)))
    (same_end : (x y : End) → UnvisitedEnd st x → link x ≡ link y → node g cw x ≡ node g cw y → x ≡ y) where
  at_node : (v : ℕ) (x : End) → UnvisitedEnd st x → node g cw x ≡ v → Mem (link x) (g.entries v)
  at_node v x o n = subst (λ u. Mem (link x) (g.entries u)) n (listed x o)

  differ : (v : ℕ) (x y : End) → UnvisitedEnd st x → node g cw x ≡ v → node g cw y ≡ v → (x ≡ y → ⊥) → link x ≡ link y → ⊥
  differ v x y ox nx ny d e = d (same_end x y ox e (nx ∙ sym ny))

  -- an order at node v, seen from the node of its first end
  seen_at : (v : ℕ) (x y z : End) → UnvisitedEnd st x → UnvisitedEnd st y → UnvisitedEnd st z → node g cw x ≡ v → node g cw y ≡ v → node g cw z ≡ v
      → met_first g true v (link x) (link y) (link z) ≡ true → Met g cw st x y z
  seen_at v x y z ox oy oz nx ny nz h = record {
    ox = ox;
    oy = oy;
    oz = oz;
    ny = ny ∙ sym nx;
    nz = nz ∙ sym nx;
    is = subst (λ u. met_first g true u (link x) (link y) (link z) ≡ true) (sym nx) h;
  }

  pub cyc : Cyc End (node g cw) (UnvisitedEnd st) (Met g cw st)
  cyc = record {
    irr = λ x y h. met_irr g true (node g cw x) (link x) (link y) h.is;
    irr' = λ x y h. own_last true (away_from g (node g cw x) (link x)) (away_from g (node g cw x) (link y)) (true_is h.is);
    trans = λ x y z w h k. record {
      ox = h.ox;
      oy = h.oy;
      oz = k.oz;
      ny = h.ny;
      nz = k.nz;
      is = met_trans g true (node g cw x) (link x) (link y) (link z) (link w) h.is k.is;
    };
    trans' = λ x y z w h k. record {
      ox = h.ox;
      oy = k.oy;
      oz = h.oz;
      ny = k.ny ∙ h.ny;
      nz = h.nz;
      is = met_trans_on g st sp (node g cw x) (link x) (link y) (link z) h.ox h.oy k.oy (link w) h.oz h.is
          (subst (λ u. met_first g true u (link y) (link z) (link w) ≡ true) h.ny k.is);
    };
    total = λ v x y z ox oy oz nx ny nz d. ⊎_elim (λ h. inl (seen_at v x y z ox oy oz nx ny nz h)) (λ h. inr (seen_at v x z y ox oz oy nx nz ny h))
        (met_total g st sp v (link x) (link y) (link z) ox oy oz (at_node v y oy ny) (at_node v z oz nz) (differ v y z oy ny nz d));
    total' = λ v x y z ox oy oz nx ny nz d. ⊎_elim (λ h. inl (seen_at v x y z ox oy oz nx ny nz h)) (λ h. inr (seen_at v y x z oy ox oz ny nx nz h))
        (met_total_on g st sp v (link x) (link y) (link z) ox oy oz (at_node v x ox nx) (at_node v y oy ny) (differ v x y ox nx ny d));
  }

  pub seen : (w : Bool) (x y z : End) → Sensed w (Met g cw st) x y z → met_first g w (node g cw x) (link x) (link y) (link z) ≡ true
  seen true x y z h = h.is
  seen false x y z h =
      met_mirror g st sp (node g cw x) (link z) (link y) (link x) h.ox h.oy h.oz
      (subst (λ u. met_first g true u (link z) (link y) (link x) ≡ true) (sym h.nz) h.is)
