-- What the first link is (rule 1): at a `Bridge` as the rule says; at a `Cross` always a link, unvisited where k is,
-- with no unvisited link strictly counterclockwise of it among those that start there.
use Rattle.std.specs.Prelude.{ℕ, ◌≡◌, refl, ◌⊎◌, Bool, true, false, not, ◌&&◌, List, [], ◌∷◌, eqb, pos, length, Some}
use Rattle.std.proofs.Common.{sym, ◌∙◌, inl, inr, ⊎_elim, eqb-true}
use Rattle.std.proofs.Math.Path.{ap}
use mathlib.Core.List.Memᴰ
use Rattle.std.specs.Int.Signed.{lt_z}
use Rattle.std.proofs.lemmas.Bool.{not-false}
use Rattle.laws.specs.Test.{pick, pick_ind, Is, yes!, true≢false, not_is, and_true, and_false, ◌⇒◌, mp}
use Rattle.laws.specs.Ring.{ring, var, ◌:+◌, ◌:-◌, ◌:*◌}
use Rattle.laws.specs.Sign.{Sgn, mns, zer, pls, sgn, flip, ◌⊗◌, is_mns, eq_s, plus_ok, all6, sgn_neg, three, lt_z_sgn, gt_z_sgn}
use Rattle.turn.specs.declared.Point.{Point}
use Rattle.turn.specs.declared.Vector.{Vector}
use Rattle.turn.specs.Points.{before, from_to, cross, turn, clockwise}
use Rattle.turn.specs.Directions.{cross_anti, cross_self, cross_sign}
use Rattle.turn.specs.Rightward.{right, Right, right_before}
use Rattle.graph.specs.Graph.{Graph}
use Rattle.next.specs.Next.{is_unvisited, only_unvisited, Node, bridge, crossing, node_of, replaces, topmost, first_at, first_link}
use Rattle.next.specs.Known.{NamesUnvisited}
use Rattle.next.specs.States.{names_unvisited, only_unvisited_lem}
use Rattle.next.specs.Choice.{Mem, crossing_of}

-- ---- what an entry that replaces the choice is, and one that does not
module _ (g : Graph) (st : List ℕ) (k c x : ℕ) where
  abbrev cw : Bool
  cw = clockwise (g.a c) (g.b c) (g.b x)

  parts : replaces g st k c x ≡ true → (is_unvisited st x ≡ true) × (cw ≡ false)
  parts e =
      let p = and_true (not (eqb x k) && is_unvisited st x) (not cw) e in
      ((and_true (not (eqb x k)) (is_unvisited st x) p.0).1, not_is cw p.1)

  passed : replaces g st k c x ≡ false → is_unvisited st x ≡ true → (x ≡ k) ⊎ (cw ≡ true)
  passed e o =
      ⊎_elim
      (λ h. ⊎_elim (λ n. inl (eqb-true x k (not-false (eqb x k) n))) (λ n. absurd (true≢false o n)) (and_false (not (eqb x k)) (is_unvisited st x) h))
      (λ n. inr (not-false cw n))
      (and_false (not (eqb x k) && is_unvisited st x) (not cw) e)

-- the points alone matter
pub topmost_same : (g h : Graph) (st : List ℕ) (k : ℕ) → ((c x : ℕ) → replaces g st k c x ≡ replaces h st k c x) → (c : ℕ) (l : List ℕ)
    → topmost g st k c l ≡ topmost h st k c l
topmost_same g h st k e c [] = refl
topmost_same g h st k e c (x ∷ l) = ap (λ (b : Bool). topmost g st k (pick b x c) l) (e c x) ∙ topmost_same g h st k e (pick (replaces h st k c x) x c) l

-- ---- unvisited, and among the entries
module _ (g : Graph) (st : List ℕ) (k : ℕ) where
  pub topmost_unvisited : (c : ℕ) (l : List ℕ) → is_unvisited st c ≡ true → is_unvisited st (topmost g st k c l) ≡ true
  topmost_unvisited c [] o = o
  topmost_unvisited c (x ∷ l) o =
      topmost_unvisited (pick (replaces g st k c x) x c) l
      (pick_ind (replaces g st k c x) x c (λ d. is_unvisited st d ≡ true) (λ e. (parts g st k c x e).0) (λ _. o))

  topmost_in : (c : ℕ) (l : List ℕ) → Mem (topmost g st k c l) (c ∷ l)
  topmost_in c [] = Memᴰ.head refl
  topmost_in c (x ∷ l) = pick_ind (replaces g st k c x) x c (λ d. Mem (topmost g st k d l) (d ∷ l) → Mem (topmost g st k d l) (c ∷ (x ∷ l)))
      (λ _ m. Memᴰ.tail m)
      (λ _ m. ⊎_elim (λ q. Memᴰ.head q) (λ j. Memᴰ.tail (Memᴰ.tail j)) (Memᴰ.cases_cons m))
      (topmost_in (pick (replaces g st k c x) x c) l)

-- what is named is unvisited
pub first_unvisited_lem : (g : Graph) (st : List ℕ) (k : ℕ) → is_unvisited st k ≡ true → NamesUnvisited st (first_link g st k)
unfolding first_link
first_unvisited_lem g st k o = at (node_of (g.entries (g.a_node k)))
  where
    at : (n : Node) → NamesUnvisited st (first_at g st k n)
    at (bridge x y) = only_unvisited_lem st (pick (clockwise (g.a x) (g.b x) (g.b y)) x y)
    at (crossing l) = names_unvisited st (topmost g st k k l) (topmost_unvisited g st k k l o)

-- at a `Bridge`: "l0 if l0.a, l0.b, l1.b turn strictly clockwise, else l1", if it is unvisited
pub first_at_bridge : (g : Graph) (st : List ℕ) (k x y : ℕ) → g.entries (g.a_node k) ≡ x ∷ (y ∷ []) → first_link g st k
    ≡ only_unvisited st (pick (clockwise (g.a x) (g.b x) (g.b y)) x y)
unfolding first_link
first_at_bridge g st k x y two = rw two

-- v is not strictly counterclockwise of u
abbrev NotUp : Vector → Vector → Type 0
NotUp u v = Is (not (eq_s (sgn (cross u v)) pls))

-- ---- among ways to the right, or straight up, "not counterclockwise of" goes on
pluecker : (r x c : Vector) → Is (plus_ok (sgn r.x ⊗ sgn (cross x c)) (sgn c.x ⊗ sgn (cross r x)) (sgn x.x ⊗ sgn (cross r c)))
pluecker r x c = three x.x (cross r c) r.x (cross x c) c.x (cross r x)
    (ring (r.x ∷ r.y ∷ x.x ∷ x.y ∷ c.x ∷ c.y ∷ [])
    (var 2 :* (var 0 :* var 5 :- var 1 :* var 4))
    (var 0 :* (var 2 :* var 5 :- var 3 :* var 4) :+ var 4 :* (var 0 :* var 3 :- var 1 :* var 2)) tt)

not_up_signs : (bx by : Sgn) → Is (right bx by) → (ax ay cx cy s t u : Sgn) → Is (right ax ay) → Is (right cx cy)
    → Is (plus_ok (ax ⊗ t) (cx ⊗ s) (bx ⊗ u)) → Is (plus_ok (ax ⊗ by) (flip (ay ⊗ bx)) s) → Is (plus_ok (ax ⊗ cy) (flip (ay ⊗ cx)) u)
    → Is (not (eq_s s pls)) → Is (not (eq_s t pls)) → Is (not (eq_s u pls))
not_up_signs mns by h = absurd h.is
not_up_signs zer mns h = absurd h.is
not_up_signs zer zer h = absurd h.is
not_up_signs zer pls h = λ ax ay cx cy s t u ra rc p q w ns nt.
    mp (mp (mp
    (mp (mp (all6 (λ ax ay cx cy s u. right ax ay ⇒ right cx cy ⇒ plus_ok (ax ⊗ pls) (flip (ay ⊗ zer)) s ⇒ plus_ok (ax ⊗ cy)
    (flip (ay ⊗ cx)) u ⇒ not (eq_s s pls) ⇒ not (eq_s u pls)) tt ax ay cx cy s u) ra) rc) q) w) ns
not_up_signs pls by h = λ ax ay cx cy s t u ra rc p q w ns nt.
    mp (mp (mp
    (mp (mp (all6 (λ ax cx s t u z. not (is_mns ax) ⇒ not (is_mns cx) ⇒ plus_ok (ax ⊗ t) (cx ⊗ s) u ⇒ not (eq_s s pls) ⇒ not (eq_s t pls) ⇒ not
    (eq_s u pls)) tt ax cx s t u zer) (rightward ax ay ra)) (rightward cx cy rc)) p) ns) nt
  where
    rightward : (a d : Sgn) → Is (right a d) → Is (not (is_mns a))
    rightward mns d h = h
    rightward zer d h = yes! tt
    rightward pls d h = yes! tt

not_up_trans : (r x c : Vector) → Right r → Right x → Right c → NotUp r x → NotUp x c → NotUp r c
not_up_trans r x c hr hx hc p q =
    not_up_signs (sgn x.x) (sgn x.y) hx (sgn r.x) (sgn r.y) (sgn c.x) (sgn c.y) (sgn (cross r x)) (sgn (cross x c)) (sgn (cross r c)) hr hc
    (pluecker r x c) (cross_sign r x) (cross_sign r c) p q

-- ---- the topmost of the links that start at a point

-- link x starts at point p, which is its a, before its b
pub record Starts (g : Graph) (p : Point) (x : ℕ) : Type 0 where
  pub here : g.a x ≡ p
  pub onward : before (g.a x) (g.b x) ≡ true

-- a, b, c turn strictly counterclockwise
abbrev pub counterclockwise : Point → Point → Point → Bool
counterclockwise a b c = lt_z (pos 0) (turn a b c)

module _ (g : Graph) (st : List ℕ) (p : Point) where
  abbrev way : ℕ → Vector
  way x = from_to p (g.b x)

  right_way : (x : ℕ) → Starts g p x → Right (way x)
  right_way x s = rw s.here at (right_before (g.a x) (g.b x) s.onward)

  -- a link that starts at p, with no unvisited one of a list counterclockwise of it, nor c
  record High (c : ℕ) (l : List ℕ) (r : ℕ) : Type 0 where
    starts : Starts g p r
    choice : NotUp (way r) (way c)
    others : (x : ℕ) → Mem x l → is_unvisited st x ≡ true → NotUp (way r) (way x)

  not_up_self : (x : ℕ) → NotUp (way x) (way x)
  not_up_self x = rw (cross_self (way x)) (yes! tt)

  -- the two ways that an entry goes
  not_up_new : (c x : ℕ) → Starts g p c → clockwise (g.a c) (g.b c) (g.b x) ≡ false → NotUp (way x) (way c)
  not_up_new c x s e =
      rw (cross_anti (way c) (way x), sgn_neg (cross (way c) (way x)))
      (flipped (sgn (cross (way c) (way x))) (sym (lt_z_sgn (cross (way c) (way x))) ∙ (rw s.here at e)))
    where
      flipped : (s : Sgn) → is_mns s ≡ false → Is (not (eq_s (flip s) pls))
      flipped mns n = absurd (true≢false refl n)
      flipped zer n = yes! tt
      flipped pls n = yes! tt

  not_up_old : (c x : ℕ) → Starts g p c → clockwise (g.a c) (g.b c) (g.b x) ≡ true → NotUp (way c) (way x)
  not_up_old c x s e = below (sgn (cross (way c) (way x))) (sym (lt_z_sgn (cross (way c) (way x))) ∙ (rw s.here at e))
    where
      below : (s : Sgn) → is_mns s ≡ true → Is (not (eq_s s pls))
      below mns n = yes! tt
      below zer n = yes! tt
      below pls n = absurd (true≢false n refl)

  go_on : (r x c : ℕ) → Starts g p r → Starts g p x → Starts g p c → NotUp (way r) (way x) → NotUp (way x) (way c) → NotUp (way r) (way c)
  go_on r x c sr sx sc = not_up_trans (way r) (way x) (way c) (right_way r sr) (right_way x sx) (right_way c sc)

  module _ (k : ℕ) (start : Starts g p k) where
    abbrev AllStart : List ℕ → Type 0
    AllStart l = (x : ℕ) → Mem x l → is_unvisited st x ≡ true → Starts g p x

    -- a turn in which entry x replaces the choice c, and one in which it does not
    module _ (c x : ℕ) (l : List ℕ) (s : Starts g p c) (u : NotUp (way c) (way k)) (h : AllStart (x ∷ l)) where
      replaced : (e : replaces g st k c x ≡ true) (r : ℕ) → High x l r → High c (x ∷ l) r
      replaced e r i =
          let t = parts g st k c x e in
          let sx = h x (Memᴰ.head refl) t.0 in
          record {
            starts = i.starts;
            choice = go_on r x c i.starts sx s i.choice (not_up_new c x s t.1);
            others = λ y m o. ⊎_elim (λ (q : y ≡ x). rw q i.choice) (λ j. i.others y j o) (Memᴰ.cases_cons m);
          }

      at_entry : (r : ℕ) → High c l r → is_unvisited st x ≡ true → (x ≡ k) ⊎ (clockwise (g.a c) (g.b c) (g.b x) ≡ true) → NotUp (way r) (way x)
      at_entry r i o (inl q) = rw q (go_on r c k i.starts s start i.choice u)
      at_entry r i o (inr q) = go_on r c x i.starts s (h x (Memᴰ.head refl) o) i.choice (not_up_old c x s q)

      kept : (e : replaces g st k c x ≡ false) (r : ℕ) → High c l r → High c (x ∷ l) r
      kept e r i = record {
        starts = i.starts;
        choice = i.choice;
        others = λ y m o. ⊎_elim (λ (q : y ≡ x). let ox : is_unvisited st x ≡ true = rw q at o in rw q (at_entry r i ox (passed g st k c x e ox)))
            (λ j. i.others y j o) (Memᴰ.cases_cons m);
      }

    high : (c : ℕ) (l : List ℕ) → Starts g p c → NotUp (way c) (way k) → AllStart l → High c l (topmost g st k c l)
    high c [] s u h = record { starts = s; choice = not_up_self c; others = λ x m. absurd (Memᴰ.not-nil m) }
    high c (x ∷ l) s u h = pick_ind (replaces g st k c x) x c (λ d. High c (x ∷ l) (topmost g st k d l))
        (λ e.
        let t = parts g st k c x e in
        let sx = h x (Memᴰ.head refl) t.0 in
        replaced c x l s u h e (topmost g st k x l) (high x l sx (go_on x c k sx s start (not_up_new c x s t.1) u) (λ y m. h y (Memᴰ.tail m))))
        (λ e. kept c x l s u h e (topmost g st k c l) (high c l s u (λ y m. h y (Memᴰ.tail m))))

-- At a `Cross` where the unvisited entries and k start at one point, as they do where k is the lowest unvisited link of
-- a graph in order: the first link is a link, unvisited,
-- one of the entries if k is, and starts there; and no unvisited entry is strictly counterclockwise of it.
pub record Topmost (g : Graph) (st : List ℕ) (p : Point) (l : List ℕ) (r : ℕ) : Type 0 where
  pub unvisited : is_unvisited st r ≡ true
  pub starts : Starts g p r
  pub none_above : (x : ℕ) → Mem x l → is_unvisited st x ≡ true → counterclockwise (g.a r) (g.b r) (g.b x) ≡ true → ⊥

module _ (g : Graph) (st : List ℕ) (k : ℕ) (at_cross : length (g.entries (g.a_node k)) ≡ 2 → ⊥) where
  abbrev entries : List ℕ
  entries = g.entries (g.a_node k)

  pub first_at_cross : first_link g st k ≡ Some (topmost g st k k entries)
  unfolding first_link
  first_at_cross = ap (first_at g st k) (crossing_of entries at_cross)

  pub first_among : Mem k entries → Mem (topmost g st k k entries) entries
  first_among m = ⊎_elim (λ q. rw q m) (λ j. j) (Memᴰ.cases_cons (topmost_in g st k k entries))

  pub first_topmost : (p : Point) → is_unvisited st k ≡ true → Starts g p k → ((x : ℕ) → Mem x entries → is_unvisited st x ≡ true → Starts g p x)
      → Topmost g st p entries (topmost g st k k entries)
  first_topmost p o s h =
      let r = topmost g st k k entries in
      let i = high g st p k s k entries s (not_up_self g st p k) h in
      record {
        unvisited = topmost_unvisited g st k k entries o;
        starts = i.starts;
        none_above =
            λ x m ox e. no (sgn (cross (from_to p (g.b r)) (from_to p (g.b x)))) (i.others x m ox)
            (sym (gt_z_sgn (turn p (g.b r) (g.b x))) ∙ (rw i.starts.here at e));
      }
    where
      no : (s : Sgn) → Is (not (eq_s s pls)) → eq_s s pls ≡ true → ⊥
      no mns h e = true≢false e refl
      no zer h e = true≢false e refl
      no pls h e = h.is
