-- Rule 1 by the field of ends, over plain values: the named link of a `Bridge`, and the two answers.
use Rattle.std.specs.Prelude.{Option, Some}
use Prim.Native.Nat.{ℕ, ◌*◌, ◌≤◌, ◌<◌}
use native.Mathlib.Omega.{arith}
use mathlib.Core.Path.{◌≡◌, sym, ap, ◌∙◌, subst}
use mathlib.Core.Bool.{Bool, true, false}
use mathlib.Core.List.{List}
use lib.IntN.{ℤ}
use lib.Dec.{eqb}
use lib.ListN.{length, get_or}
use borrow.Author.Tests.{eq-eqb, ne_eqb}
use Rattle.laws.specs.Test.{pick, pick_ind}
use Rattle.turn.specs.Points.{clockwise}
use Rattle.turn.specs.Limits.{max_links}
use Rattle.graph.specs.Graph.{Graph, point_at}
use Rattle.next.specs.Next.{is_unvisited, only_unvisited, first_link}
use Rattle.next.specs.Known.{NamesUnvisited}
use Rattle.next.specs.States.{unvisited_below, unvisited_read, is_unvisited_lem, only_unvisited_lem, names_unvisited}
use Rattle.next.specs.Topmost.{first_unvisited_lem}
use Rattle.rings.specs.Ends.{a_end, link_of}
use Rattle.rings.specs.Climb.{last_or, Above}
use Rattle.rings.specs.Follow.{Left}
use Rattle.rings.specs.Field.{cross_mark, next_of, prev_of, wraps_at, named, Firsts, Reads, Begun}
use Rattle.rings.proofs.Steering.{later_same}
use Rattle.topmost.specs.Ring.{Rises, LeftAt, Falls}
use Rattle.first.specs.Leading.{leading, Resumes, Asked}

-- ---- the one of a `Bridge`'s links that is named
module _ (held : ℕ) (cw : Bool) (k e : ℕ) where
  pub leads_k : held ≡ 1 → k ≡ leading held cw k e
  leads_k h = rw (eq-eqb held 1 h)

  module _ (n : held ≡ 1 → ⊥) where
    pub leads_e : held ≡ 2 → e ≡ leading held cw k e
    leads_e h = rw (ne_eqb held 1 n, eq-eqb held 2 h)

    module _ (m : held ≡ 2 → ⊥) where
      pub turns_e : cw ≡ true → e ≡ leading held cw k e
      turns_e h = rw (ne_eqb held 1 n, ne_eqb held 2 m, h)

      pub turns_k : cw ≡ false → k ≡ leading held cw k e
      turns_k h = rw (ne_eqb held 1 n, ne_eqb held 2 m, h)

  leading_below : (n : ℕ) → k < n → e < n → leading held cw k e < n
  leading_below n l m = pick_ind (eqb held 1) k (pick (eqb held 2) e (pick cw e k)) (λ x. x < n) (λ _. l)
      (λ _. pick_ind (eqb held 2) e (pick cw e k) (λ x. x < n) (λ _. m)
      (λ _. pick_ind cw e k (λ x. x < n) (λ _. m) (λ _. l)))

-- ---- the answers, where the scan stands at link k, the lowest that is unvisited
module _ (ax ay bx by : List ℤ) (nxt lead st : List ℕ) (k : ℕ) (o : is_unvisited st k ≡ true)
    (low : (x : ℕ) → is_unvisited st x ≡ true → k ≤ x) where
  abbrev Answers : List ℕ → Option ℕ → Option ℕ → Type 0
  Answers prv held r =
      ((g : Graph) → Firsts g nxt lead st → Reads g ax ay bx by → Resumes g nxt prv st k held → r ≡ first_link g st k) × NamesUnvisited st r

  inside : (g : Graph) → Firsts g nxt lead st → k < g.n
  inside g f = subst (λ n. k < n) (sym f.size) (unvisited_below st k o)

  unskipped : get_or st k 0 ≡ 1 → ⊥
  unskipped e = let z = unvisited_read st k o in omega arith

  pub small : Begun ax ay bx by nxt lead st → k < 4096
  small b = omega (arith, inside b.graph b.firsts, b.firsts.few)

  pub nxt_read : Begun ax ay bx by nxt lead st → 2 * k < length nxt
  nxt_read b = omega (arith, inside b.graph b.firsts, b.firsts.nxt_long)

  pub lead_read : Begun ax ay bx by nxt lead st → k < length lead
  lead_read b = omega (arith, inside b.graph b.firsts, b.firsts.lead_long)

  -- ---- at a `Cross`
  module _ (c : cross_mark ≤ get_or nxt (a_end k) 0) where
    not_bridge : get_or nxt (a_end k) 0 < cross_mark → ⊥
    not_bridge h = omega arith

    above : (g : Graph) → Firsts g nxt lead st
        → Above g (g.a_node k) (next_of nxt) (wraps_at nxt) (length st) st (first_link g st k) (a_end k) k
    above g f =
        subst (λ n. Above g (g.a_node k) (next_of nxt) (wraps_at nxt) n st (first_link g st k) (a_end k) k) f.size
        (f.cross k (inside g f) not_bridge st (later_same st) o low)

    pub rises : Begun ax ay bx by nxt lead st → Rises nxt st k
    rises b = record {
      few = subst (λ n. n ≤ max_links) b.firsts.size b.firsts.few;
      nxt_long = subst (λ n. 2 * n ≤ length nxt) b.firsts.size b.firsts.nxt_long;
      graph = b.graph;
      node = b.graph.a_node k;
      answer = first_link b.graph st k;
      above = above b.graph b.firsts;
    }

    pub cross_answers : (prv : List ℕ) (held : Option ℕ) (s : ℕ) → is_unvisited st s ≡ true
        → ((g : Graph) (v : ℕ) (answer : Option ℕ) → Above g v (next_of nxt) (wraps_at nxt) (length st) st answer (a_end k) k → Some s ≡ answer)
        → Answers prv held (Some s)
    cross_answers prv held s u h = (λ g f _ _. h g (g.a_node k) (first_link g st k) (above g f), names_unvisited st s u)

    -- down from link h, which was named before
    module _ (prv : List ℕ) (held : Option ℕ) (h : ℕ) (l : held ≡ Some h) where
      down : (g : Graph) → Firsts g nxt lead st → Resumes g nxt prv st k held → LeftAt g (g.a_node k) prv st h (first_link g st k) (a_end h)
      down g f d =
          subst (λ n. Left g (g.a_node k) (a_end h) (prev_of prv) n st (first_link g st k) (a_end h)) f.size (d h l c).left

      pub falls : Asked ax ay bx by nxt prv lead st k held → Falls prv st h
      falls a =
          let g = a.begun.graph in let f = a.begun.firsts in let is = (above g f).is in
          record {
            few = subst (λ n. n ≤ max_links) f.size f.few;
            prv_long = a.prv_long;
            visited = (a.resumes h l c).visited;
            graph = g;
            node = g.a_node k;
            link = last_or st k (above g f).rest;
            fresh = is_unvisited_lem st (last_or st k (above g f).rest) (subst (NamesUnvisited st) (sym is) (first_unvisited_lem g st k o));
            left = subst (λ n. LeftAt g (g.a_node k) prv st h n (a_end h)) (sym is) (down g f a.resumes);
          }

      pub again_answers : (s : ℕ) → is_unvisited st s ≡ true
          → ((g : Graph) (v : ℕ) (answer : Option ℕ) → LeftAt g v prv st h answer (a_end h) → Some s ≡ answer) → Answers prv held (Some s)
      again_answers s u e = (λ g f _ d. e g (g.a_node k) (first_link g st k) (down g f d), names_unvisited st s u)

  -- ---- at a `Bridge`, whose other entry is e
  module _ (c : get_or nxt (a_end k) 0 < cross_mark) (e : ℕ) (q : e ≡ link_of (get_or nxt (a_end k) 0)) where
    pub other_below : Begun ax ay bx by nxt lead st → e < length st
    other_below b =
        subst (λ x. x < length st) (sym q)
        (subst (λ n. link_of (get_or nxt (a_end k) 0) < n) b.firsts.size
        (b.firsts.bridge k (inside b.graph b.firsts) unskipped c).0)

    abbrev turns : ℕ → Bool
    turns x = clockwise (point_at ax ay x) (point_at bx by x) (point_at bx by k)

    named_is : (g : Graph) → Reads g ax ay bx by → leading (get_or lead k 0) (turns e) k e ≡ named g lead nxt k
    named_is g h =
        let x : ℕ = link_of (get_or nxt (a_end k) 0) in
        ap (λ (y : ℕ). leading (get_or lead k 0) (turns y) k y) q ∙ rw (h.a_is x, h.b_is x, h.b_is k)

    pub named_below : Begun ax ay bx by nxt lead st → (x : ℕ) → x ≡ leading (get_or lead k 0) (turns e) k e → x < length st
    named_below b x i =
        subst (λ y. y < length st) (sym i)
        (leading_below (get_or lead k 0) (turns e) k e (length st) (unvisited_below st k o) (other_below b))

    pub bridge_answers : (prv : List ℕ) (held : Option ℕ) (x : ℕ) (r : Option ℕ) → x ≡ leading (get_or lead k 0) (turns e) k e → r ≡ only_unvisited st x
        → Answers prv held r
    bridge_answers prv held x r i j = (
      λ g f h _. j ∙ ap (only_unvisited st) (i ∙ named_is g h) ∙ sym ((f.bridge k (inside g f) unskipped c).1 st),
      subst (NamesUnvisited st) (sym j) (only_unvisited_lem st x),
    )
