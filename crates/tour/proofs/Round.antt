-- The two forms of the condition say one thing, under the checks: the unskipped links in clockwise order come by turns, as many leaving as arriving,
-- exactly where each one's next clockwise is of the other sort.
use Rattle.std.specs.Prelude.{ℕ, zero, suc, ◌+◌, ◌≤◌, ◌≡◌, refl, ◌⊎◌, Bool, true, false, not, List, [], ◌∷◌, map, eqb}
use Rattle.std.proofs.Common.{arith, sym, ap, ◌∙◌, subst, inl, inr, ⊎_elim, eq-eqb}
use Rattle.std.proofs.Math.Decide.{ℕ_discrete}
use mathlib.Core.List.Memᴰ
use Rattle.laws.specs.Test.{pick, pick_true, pick_ind, true≢false, true_is}
use Rattle.turn.specs.Angular.{own_last}
use Rattle.graph.specs.Graph.{Graph}
use Rattle.laws.specs.Count.{count, counted_in}
use Rattle.next.specs.Next.{is_unvisited, unvisited_in, met_first}
use Rattle.graph.specs.Checks.{away_from}
use Rattle.next.specs.Choice.{Mem, unvisited_in_in, unvisited_in_of}
use Rattle.tour.specs.Statement.{leaves, InOrder, Clockwise, ByTurns, how_many, TurnsAt, ComesByTurns}
use Rattle.tour.specs.Alternation.{no_not, dicho}
use Rattle.tour.specs.Around.{met_irr, met_trans, met_total, met_trans_on}
use Rattle.tour.specs.Sound.{Sound, At, NoneBetween, NextTurns}

-- ---- neighbours all round: from p along a list and home to h
abbrev Round : {A : Type 0} → (A → A → Type 0) → A → A → List A → Type 0
Round P h p [] = P p h
Round P h p (x ∷ l) = P p x × Round P h x l

round_at : (P : ℕ → ℕ → Type 0) (h p : ℕ) (l : List ℕ) → Round P h p l → (x : ℕ) → Mem x (p ∷ l) → (z : ℕ) × P x z × (Mem z l ⊎ (z ≡ h))
round_at P h p [] r x m = ⊎_elim (λ q. (h, subst (λ y. P y h) (sym q) r, inr refl)) (λ k. absurd (Memᴰ.not-nil k)) (Memᴰ.cases_cons m)
round_at P h p (y ∷ l) r x m = ⊎_elim (λ q. (y, subst (λ w. P w y) (sym q) r.0, inl (Memᴰ.head refl)))
    (λ k. let f = round_at P h y l r.1 x k in (f.0, f.1, ⊎_elim (λ i. inl (Memᴰ.tail i)) inr f.2)) (Memᴰ.cases_cons m)

-- one fact of all neighbours from another, and two at once
round_map : (P Q : ℕ → ℕ → Type 0) (M : ℕ → Type 0) (h p : ℕ) (l : List ℕ) → M h → M p → ((x : ℕ) → Mem x l → M x)
    → ((x y : ℕ) → M x → M y → P x y → Q x y) → Round P h p l → Round Q h p l
round_map P Q M h p [] mh mp ml f r = f p h mp mh r
round_map P Q M h p (x ∷ l) mh mp ml f r =
    (f p x mp (ml x (Memᴰ.head refl)) r.0, round_map P Q M h x l mh (ml x (Memᴰ.head refl)) (λ y m. ml y (Memᴰ.tail m)) f r.1)

round_both : (P Q : ℕ → ℕ → Type 0) (h p : ℕ) (l : List ℕ) → Round P h p l → Round Q h p l → Round (λ x y. P x y × Q x y) h p l
round_both P Q h p [] r s = (r, s)
round_both P Q h p (x ∷ l) r s = ((r.0, s.0), round_both P Q h x l r.1 s.1)

-- ---- Booleans by turns, all round
abbrev Other : Bool → Bool → Type 0
Other a b = b ≡ not a

round_sorts : (s : ℕ → Bool) (h p : ℕ) (l : List ℕ) → Round (λ x y. Other (s x) (s y)) h p l → Round Other (s h) (s p) (map s l)
round_sorts s h p [] r = r
round_sorts s h p (x ∷ l) r = (r.0, round_sorts s h x l r.1)

sorts_round : (s : ℕ → Bool) (h p : ℕ) (l : List ℕ) → Round Other (s h) (s p) (map s l) → Round (λ x y. Other (s x) (s y)) h p l
sorts_round s h p [] r = r
sorts_round s h p (x ∷ l) r = (r.0, sorts_round s h x l r.1)

round_line : (h a : Bool) (l : List Bool) → Round Other h a l → ByTurns (a ∷ l)
round_line h a [] r = tt
round_line h a (b ∷ l) r = (r.0, round_line h b l r.1)

-- as many of one as of the other where it comes home to its like, one more of the first where not
abbrev Even : List Bool → Type 0
Even l = (a : Bool) → Round Other a a l → how_many true (a ∷ l) ≡ how_many false (a ∷ l)

abbrev Odd : List Bool → Type 0
Odd l = (a : Bool) → Round Other (not a) a l → how_many a (a ∷ l) ≡ suc (how_many (not a) (a ∷ l))

even_step : (a b : Bool) (l : List Bool) → Odd l → Other a b → Round Other a b l → how_many true (a ∷ (b ∷ l)) ≡ how_many false (a ∷ (b ∷ l))
even_step true true l ih o r = absurd (no_not true o)
even_step true false l ih o r = omega (arith, ih false r)
even_step false true l ih o r = omega (arith, ih true r)
even_step false false l ih o r = absurd (no_not false o)

odd_step : (a b : Bool) (l : List Bool) → Even l → Other a b → Round Other (not a) b l → how_many a (a ∷ (b ∷ l)) ≡ suc (how_many (not a) (a ∷ (b ∷ l)))
odd_step true true l ih o r = absurd (no_not true o)
odd_step true false l ih o r = omega (arith, ih false r)
odd_step false true l ih o r = omega (arith, ih true r)
odd_step false false l ih o r = absurd (no_not false o)

one_alone : (a : Bool) → how_many a (a ∷ []) ≡ suc (how_many (not a) (a ∷ []))
one_alone true = refl
one_alone false = refl

counts : (l : List Bool) → Even l × Odd l
counts [] = (λ a r. absurd (no_not a r), λ a r. one_alone a)
counts (b ∷ l) = let ih = counts l in (λ a r. even_step a b l ih.1 r.0 r.1, λ a r. odd_step a b l ih.0 r.0 r.1)

line_round : (h a : Bool) (l : List Bool) → ByTurns (a ∷ l) → Round Other h a l ⊎ Round Other (not h) a l
line_round h a [] t = ⊎_elim (λ e. inr (ap not e)) inl (dicho h a)
line_round h a (b ∷ l) t = ⊎_elim (λ r. inl (t.0, r)) (λ r. inr (t.0, r)) (line_round h b l t.1)

as_many_round : (a : Bool) (l : List Bool) → ByTurns (a ∷ l) → how_many true (a ∷ l) ≡ how_many false (a ∷ l) → Round Other a a l
as_many_round a l t e =
    ⊎_elim (λ r. r) (λ r. absurd (not_odd a (how_many true (a ∷ l)) (how_many false (a ∷ l)) e (both a ((counts l).1 a r)))) (line_round a a l t)
  where
    both : (a : Bool) → how_many a (a ∷ l) ≡ suc (how_many (not a) (a ∷ l)) → (how_many true (a ∷ l) ≡ suc (how_many false (a ∷ l))) ⊎
        (how_many false (a ∷ l) ≡ suc (how_many true (a ∷ l)))
    both true e = inl e
    both false e = inr e

    not_odd : (a : Bool) (m n : ℕ) → m ≡ n → (m ≡ suc n) ⊎ (n ≡ suc m) → ⊥
    not_odd a m n e (inl f) = omega arith
    not_odd a m n e (inr f) = omega arith

-- ---- how often a number stands in a list
abbrev Once : List ℕ → Type 0
Once l = (k : ℕ) → count k l ≤ 1

one_here : (k : ℕ) (l : List ℕ) → count k (k ∷ l) ≡ suc (count k l)
unfolding count
one_here k l = ap (λ n. n + count k l) (pick_true {b = eqb k k} 1 0 (eq-eqb k k refl)) ∙ one+ (count k l)
  where
    one+ : (n : ℕ) → 1 + n ≡ suc n
    one+ n = omega arith

more_here : (k x : ℕ) (l : List ℕ) → count k l ≤ count k (x ∷ l)
unfolding count
more_here k x l = omega arith

mem_count : (k : ℕ) (l : List ℕ) → Mem k l → 1 ≤ count k l
mem_count k [] m = absurd (Memᴰ.not-nil m)
mem_count k (x ∷ l) m = ⊎_elim (λ q. subst (λ y. 1 ≤ count k (y ∷ l)) q (first k l)) (λ i. second k x l (mem_count k l i)) (Memᴰ.cases_cons m)
  where
    first : (k : ℕ) (l : List ℕ) → 1 ≤ count k (k ∷ l)
    first k l = omega (arith, one_here k l)

    second : (k x : ℕ) (l : List ℕ) → 1 ≤ count k l → 1 ≤ count k (x ∷ l)
    second k x l h = omega (arith, more_here k x l)

once_tail : (x : ℕ) (l : List ℕ) → Once (x ∷ l) → Once l
once_tail x l h k = omega (arith, h k, more_here k x l)

once_head : (x : ℕ) (l : List ℕ) → Once (x ∷ l) → Mem x l → ⊥
once_head x l h m = omega (arith, h x, one_here x l, mem_count x l m)

same_here : (k x : ℕ) (m l : List ℕ) → count k m ≤ count k l → count k (x ∷ m) ≤ count k (x ∷ l)
unfolding count
same_here k x m l h = omega arith

count_unvisited_in : (k : ℕ) (st l : List ℕ) → count k (unvisited_in st l) ≤ count k l
count_unvisited_in k st [] = omega arith
count_unvisited_in k st (x ∷ l) = pick_ind (is_unvisited st x) (x ∷ unvisited_in st l) (unvisited_in st l) (λ m. count k m ≤ count k (x ∷ l))
    (λ t. same_here k x (unvisited_in st l) l (count_unvisited_in k st l)) (λ n. skip k x (unvisited_in st l) l (count_unvisited_in k st l))
  where
    skip : (k x : ℕ) (m l : List ℕ) → count k m ≤ count k l → count k m ≤ count k (x ∷ l)
    skip k x m l h = omega (arith, more_here k x l)

count_cons : (k x : ℕ) (m l : List ℕ) → count k m ≡ count k l → count k (x ∷ m) ≡ count k (x ∷ l)
unfolding count
count_cons k x m l h = omega arith

count_swap : (k y x : ℕ) (m l : List ℕ) → count k m ≡ count k (x ∷ l) → count k (y ∷ m) ≡ count k (x ∷ (y ∷ l))
unfolding count
count_swap k y x m l h = omega arith

-- ---- one node of a graph that passes the checks
module _ (g : Graph) (st : List ℕ) (ok : Sound g st) (v : ℕ) where
  abbrev M : ℕ → Type 0
  M k = At g st v k

  -- turning clockwise at the node from x, y is met before z
  abbrev B : ℕ → ℕ → ℕ → Type 0
  B x y z = met_first g true v x y z ≡ true

  pub own : (x y : ℕ) → B x x y → ⊥
  own x y h = own_last true (away_from g v x) (away_from g v y) (true_is h)

  asym : (x y z : ℕ) → B x y z → B x z y → ⊥
  asym x y z h k = met_irr g true v x y (met_trans g true v x y z y h k)

  pub order : (x y z : ℕ) → M x → M y → M z → (y ≡ z → ⊥) → B x y z ⊎ B x z y
  order x y z mx my mz d = met_total g st ok.spread v x y z mx.1 my.1 mz.1 my.0 mz.0 d

  onward : (x y z u : ℕ) → M x → M y → M z → M u → B x y u → B y z u → B x z u
  onward x y z u mx my mz mu = met_trans_on g st ok.spread v x y z mx.1 my.1 mz.1 u mu.1

  -- seen from e, q comes next after p: then nothing lies between them, seen from p
  next_between : (e p q : ℕ) → M e → M p → M q → B e p q → ((u : ℕ) → M u → B e p u → B e u q → ⊥) → NoneBetween g st v p q
  next_between e p q me mp mq epq gap u mu puq = by (ℕ_discrete u p)
    where
      p≢q : p ≡ q → ⊥
      p≢q r = met_irr g true v e p (subst (λ y. B e p y) (sym r) epq)

      before : B e u p → ⊥
      before eup =
          ⊎_elim (λ upq. own p q (onward p u p q mp mu mp mq puq upq)) (λ uqp. asym e p q epq (onward e u q p me mu mq mp eup uqp))
          (order u p q mu mp mq p≢q)

      by : Dec (u ≡ p) → ⊥
      by (yes r) = own p q (subst (λ y. B p y q) r puq)
      by (no d) = ⊎_elim (λ epu. gap u mu epu (onward e p u q me mp mu mq epq puq)) before (order e p u me mp mu (λ r. d (sym r)))

  -- in order: the first is met before all the others
  in_order_all : (e x : ℕ) (l : List ℕ) → InOrder g v e (x ∷ l) → (u : ℕ) → Mem u l → B e x u
  in_order_all e x [] o u m = absurd (Memᴰ.not-nil m)
  in_order_all e x (y ∷ l) o u m =
      ⊎_elim (λ q. subst (λ w. B e x w) (sym q) o.0) (λ k. met_trans g true v e x y u o.0 (in_order_all e y l o.1 u k)) (Memᴰ.cases_cons m)

  -- every link of the node is p, or met before p, or still to come, or e
  abbrev Cover : ℕ → ℕ → List ℕ → Type 0
  Cover e p l = (u : ℕ) → M u → ((u ≡ p) ⊎ B e u p) ⊎ (Mem u l ⊎ (u ≡ e))

  gap_last : (e p : ℕ) → M e → M p → (p ≡ e → ⊥) → Cover e p [] → NoneBetween g st v p e
  gap_last e p me mp d c = next_between e p e me mp me (⊎_elim (λ h. h) (λ h. absurd (own e p h)) (order e p e me mp me d))
      (λ u mu epu eue. ⊎_elim (⊎_elim (λ q. met_irr g true v e p (subst (λ y. B e p y) q epu)) (λ eup. asym e p u epu eup))
      (⊎_elim (λ m. Memᴰ.not-nil m) (λ q. met_irr g true v e e (subst (λ y. B e y e) q eue))) (c u mu))

  gap_next : (e p x : ℕ) (l : List ℕ) → M e → M p → M x → InOrder g v e (p ∷ (x ∷ l)) → Cover e p (x ∷ l) → NoneBetween g st v p x
  gap_next e p x l me mp mx o c = next_between e p x me mp mx o.0
      (λ u mu epu eux. ⊎_elim (⊎_elim (λ q. met_irr g true v e p (subst (λ y. B e p y) q epu)) (λ eup. asym e p u epu eup))
      (⊎_elim
      (λ m. ⊎_elim (λ q. met_irr g true v e x (subst (λ y. B e y x) q eux)) (λ k. asym e u x eux (in_order_all e x l o.1 u k)) (Memᴰ.cases_cons m))
      (λ q. own e x (subst (λ y. B e y x) q eux))) (c u mu))

  cover_next : (e p x : ℕ) (l : List ℕ) → InOrder g v e (p ∷ (x ∷ l)) → Cover e p (x ∷ l) → Cover e x l
  cover_next e p x l o c u mu =
      ⊎_elim (λ h. inl (inr (⊎_elim (λ q. subst (λ y. B e y x) (sym q) o.0) (λ eup. met_trans g true v e u p x eup o.0) h)))
      (⊎_elim (λ m. ⊎_elim (λ q. inl (inl q)) (λ k. inr (inl k)) (Memᴰ.cases_cons m)) (λ q. inr (inr q))) (c u mu)

  gaps : (e p : ℕ) (l : List ℕ) → M e → ((u : ℕ) → Mem u (p ∷ l) → M u × (u ≡ e → ⊥)) → InOrder g v e (p ∷ l) → Cover e p l → Round (NoneBetween g st v) e p l
  gaps e p [] me m o c = let mp = m p (Memᴰ.head refl) in gap_last e p me mp.0 mp.1 c
  gaps e p (x ∷ l) me m o c = (
    gap_next e p x l me (m p (Memᴰ.head refl)).0 (m x (Memᴰ.tail (Memᴰ.head refl))).0 o c,
    gaps e x l me (λ u i. m u (Memᴰ.tail i)) o.1 (cover_next e p x l o c),
  )

  -- the links of the node in clockwise order: between neighbours there is none
  clockwise_gaps : (e : ℕ) (l : List ℕ) → ((u : ℕ) → M u → Mem u (e ∷ l)) → ((u : ℕ) → Mem u (e ∷ l) → M u) → Once (e ∷ l) → InOrder g v e l
      → Round (NoneBetween g st v) e e l
  clockwise_gaps e [] into out one o =
      λ u mu h. ⊎_elim (λ q. met_irr g true v e e (subst (λ y. B e y e) q h)) (λ k. Memᴰ.not-nil k) (Memᴰ.cases_cons (into u mu))
  clockwise_gaps e (x ∷ l) into out one o = (
    λ u mu h. ⊎_elim (λ q. own e x (subst (λ y. B e y x) q h))
        (λ k. ⊎_elim (λ q. met_irr g true v e x (subst (λ y. B e y x) q h)) (λ i. asym e u x h (in_order_all e x l o u i)) (Memᴰ.cases_cons k))
        (Memᴰ.cases_cons (into u mu)),
    gaps e x l (out e (Memᴰ.head refl))
        (λ u i. (out u (Memᴰ.tail i), λ q. once_head e (x ∷ l) one (subst (λ y. Mem y (x ∷ l)) q i))) o
        (λ u mu. ⊎_elim (λ q. inr (inr q)) (λ k. ⊎_elim (λ q. inl (inl q)) (λ i. inr (inl i)) (Memᴰ.cases_cons k)) (Memᴰ.cases_cons (into u mu))),
  )

  -- ---- the unskipped links of the node, each once
  once_entries : Once (g.entries v)
  once_entries k = by (count k (g.entries v)) refl
    where
      by : (n : ℕ) → count k (g.entries v) ≡ n → n ≤ 1
      by zero e = omega arith
      by (suc n) e = omega (arith, ok.single v k (counted_in k (g.entries v) (omega arith)))

  once_unvisited_in : Once (unvisited_in st (g.entries v))
  once_unvisited_in k = omega (arith, count_unvisited_in k st (g.entries v), once_entries k)

  unvisited_in_at : (u : ℕ) → Mem u (unvisited_in st (g.entries v)) → M u
  unvisited_in_at u m = unvisited_in_of st (g.entries v) u m

  at_unvisited_in : (u : ℕ) → M u → Mem u (unvisited_in st (g.entries v))
  at_unvisited_in u m = unvisited_in_in st (g.entries v) u m.0 m.1

  -- of any list that has these ends, each as often
  abbrev These : List ℕ → Type 0
  These l = (k : ℕ) → count k l ≡ count k (unvisited_in st (g.entries v))

  these_at : (l : List ℕ) → These l → (u : ℕ) → Mem u l → M u
  these_at l t u m = unvisited_in_at u (counted_in u (unvisited_in st (g.entries v)) (omega (arith, t u, mem_count u l m)))

  at_these : (l : List ℕ) → These l → (u : ℕ) → M u → Mem u l
  at_these l t u m = counted_in u l (omega (arith, t u, mem_count u (unvisited_in st (g.entries v)) (at_unvisited_in u m)))

  these_once : (l : List ℕ) → These l → Once l
  these_once l t k = omega (arith, t k, once_unvisited_in k)

  -- ---- from the list to the next clockwise
  abbrev NextAt : ℕ → Type 0
  NextAt x = (z : ℕ) × (At g st v z × NoneBetween g st v x z) × (leaves g v z ≡ not (leaves g v x))

  next_in_lem : (l : List ℕ) → These l → Clockwise g v l → ByTurns (map (leaves g v) l) → how_many true (map (leaves g v) l) ≡ how_many false
      (map (leaves g v) l)
      → (x : ℕ) → Mem x l → NextAt x
  next_in_lem [] t c b n x m = absurd (Memᴰ.not-nil m)
  next_in_lem (e ∷ l) t c b n x m =
      let out = these_at (e ∷ l) t in
      let gap : Round (NoneBetween g st v) e e l = clockwise_gaps e l (at_these (e ∷ l) t) out (these_once (e ∷ l) t) c in
      let sorts : Round (λ x y. Other (leaves g v x) (leaves g v y)) e e l = sorts_round (leaves g v) e e l
      (as_many_round (leaves g v e) (map (leaves g v) l) b n) in
      let r = round_at (λ x y. NoneBetween g st v x y × Other (leaves g v x) (leaves g v y)) e e l
      (round_both (NoneBetween g st v) (λ x y. Other (leaves g v x) (leaves g v y)) e e l gap sorts) x m in
      (r.0, (out r.0 (⊎_elim Memᴰ.tail Memᴰ.head r.2), r.1.0), r.1.1)

  pub next_turns_at : TurnsAt g st v → (x : ℕ) → M x → NextAt x
  next_turns_at t x m = next_in_lem t.round t.these t.clockwise t.by_turns t.as_many x (at_these t.round t.these x m)

  -- ---- from the next clockwise to the list: put in order
  abbrev insert : ℕ → ℕ → List ℕ → List ℕ
  insert e x [] = x ∷ []
  insert e x (y ∷ l) = pick (met_first g true v e x y) (x ∷ (y ∷ l)) (y ∷ insert e x l)

  abbrev sorted : ℕ → List ℕ → List ℕ
  sorted e [] = []
  sorted e (x ∷ l) = insert e x (sorted e l)

  insert_count : (k e x : ℕ) (l : List ℕ) → count k (insert e x l) ≡ count k (x ∷ l)
  insert_count k e x [] = refl
  insert_count k e x (y ∷ l) = pick_ind (met_first g true v e x y) (x ∷ (y ∷ l)) (y ∷ insert e x l) (λ m. count k m ≡ count k (x ∷ (y ∷ l)))
      (λ t. refl) (λ n. count_swap k y x (insert e x l) l (insert_count k e x l))

  sorted_count : (k e : ℕ) (l : List ℕ) → count k (sorted e l) ≡ count k l
  sorted_count k e [] = refl
  sorted_count k e (x ∷ l) = insert_count k e x (sorted e l) ∙ count_cons k x (sorted e l) l (sorted_count k e l)

  -- x is met before or after each of a list
  abbrev Ordered : ℕ → ℕ → List ℕ → Type 0
  Ordered e x l = (y : ℕ) → Mem y l → met_first g true v e x y ≡ false → B e y x

  insert_after : (e y x : ℕ) (l : List ℕ) → InOrder g v e (y ∷ l) → B e y x → Ordered e x l → InOrder g v e (y ∷ insert e x l)
  insert_after e y x [] o b r = (b, tt)
  insert_after e y x (z ∷ l) o b r = pick_ind (met_first g true v e x z) (x ∷ (z ∷ l)) (z ∷ insert e x l) (λ m. InOrder g v e (y ∷ m))
      (λ t. (b, (t, o.1))) (λ n. (o.0, insert_after e z x l o.1 (r z (Memᴰ.head refl) n) (λ u m. r u (Memᴰ.tail m))))

  insert_order : (e x : ℕ) (l : List ℕ) → InOrder g v e l → Ordered e x l → InOrder g v e (insert e x l)
  insert_order e x [] o r = tt
  insert_order e x (y ∷ l) o r = pick_ind (met_first g true v e x y) (x ∷ (y ∷ l)) (y ∷ insert e x l) (InOrder g v e)
      (λ t. (t, o)) (λ n. insert_after e y x l o (r y (Memᴰ.head refl) n) (λ u m. r u (Memᴰ.tail m)))

  sorted_order : (e : ℕ) (l : List ℕ) → M e → ((u : ℕ) → Mem u l → M u) → Once l → InOrder g v e (sorted e l)
  sorted_order e [] me m one = tt
  sorted_order e (x ∷ l) me m one =
      insert_order e x (sorted e l) (sorted_order e l me (λ u i. m u (Memᴰ.tail i)) (once_tail x l one))
      (λ y i n. let j : Mem y l = counted_in y l (omega (arith, sorted_count y e l, mem_count y (sorted e l) i)) in
      ⊎_elim (λ h. absurd (true≢false h n)) (λ h. h)
      (order e x y me (m x (Memᴰ.head refl)) (m y (Memᴰ.tail j)) (λ q. once_head x l one (subst (λ w. Mem w l) (sym q) j))))

  -- the next clockwise is the neighbour
  same_next : (p q : ℕ) → M p → M q → NextAt p → NoneBetween g st v p q → Other (leaves g v p) (leaves g v q)
  same_next p q mp mq n gap = by (ℕ_discrete n.0 q)
    where
      by : Dec (n.0 ≡ q) → Other (leaves g v p) (leaves g v q)
      by (yes r) = ap (leaves g v) (sym r) ∙ n.2
      by (no d) = ⊎_elim (λ h. absurd (gap n.0 n.1.0 h)) (λ h. absurd (n.1.1 q mq h)) (order p n.0 q mp n.1.0 mq d)

  turns_of : (l : List ℕ) → l ≡ unvisited_in st (g.entries v) → ((x : ℕ) → M x → NextAt x) → TurnsAt g st v
  turns_of [] q next = record { round = []; these = λ k. ap (count k) q; clockwise = tt; by_turns = tt; as_many = refl }
  turns_of (e ∷ l) q next =
      let at : (u : ℕ) → Mem u (e ∷ l) → M u = λ u m. unvisited_in_at u (subst (Mem u) q m) in
      let me : M e = at e (Memᴰ.head refl) in
      let one : Once (e ∷ l) = λ k. subst (λ m. count k m ≤ 1) (sym q) (once_unvisited_in k) in
      let s : List ℕ = sorted e l in
      let t : These (e ∷ s) = λ k. count_cons k e s l (sorted_count k e l) ∙ ap (count k) q in
      let o : InOrder g v e s = sorted_order e l me (λ u m. at u (Memᴰ.tail m)) (once_tail e l one) in
      let out = these_at (e ∷ s) t in
      let gap : Round (NoneBetween g st v) e e s = clockwise_gaps e s (at_these (e ∷ s) t) out (these_once (e ∷ s) t) o in
      let sorts : Round Other (leaves g v e) (leaves g v e) (map (leaves g v) s) =
      round_sorts (leaves g v) e e s (round_map (NoneBetween g st v) (λ x y. Other (leaves g v x) (leaves g v y)) M e e s me me
      (λ u m. out u (Memᴰ.tail m)) (λ x y mx my. same_next x y mx my (next x mx)) gap) in
      record {
        round = e ∷ s;
        these = t;
        clockwise = o;
        by_turns = round_line (leaves g v e) (leaves g v e) (map (leaves g v) s) sorts;
        as_many = (counts (map (leaves g v) s)).0 (leaves g v e) sorts;
      }

-- ---- the two forms
pub next_turns : (g : Graph) (st : List ℕ) → Sound g st → ComesByTurns g st → NextTurns g st
next_turns g st ok t v x m = next_turns_at g st ok v (t v) x m

pub comes_by_turns_lem : (g : Graph) (st : List ℕ) → Sound g st → NextTurns g st → ComesByTurns g st
comes_by_turns_lem g st ok n v = turns_of g st ok v (unvisited_in st (g.entries v)) refl (n v)
