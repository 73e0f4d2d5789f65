-- A loop that follows the linked ring from the end of the link just walked:
-- what it knows at each end, and what each way out of a turn tells.
use Rattle.std.specs.Prelude.{ℕ, zero, suc, ◌*◌, ◌≤◌, ◌<◌, ◌≡◌, refl, true, false, List, [], ◌∷◌, eqb, length, Option, Some, None}
use Rattle.std.proofs.Common.{not-suc-le-zero, le_of_suc-le-suc, arith, sym, ap, ◌∙◌, subst, eq-eqb, ne_eqb}
use mathlib.Core.List.Memᴰ
use Rattle.laws.specs.Test.{pick, pick_true, pick_false}
use Rattle.graph.specs.Graph.{Graph}
use Rattle.next.specs.Next.{is_unvisited}
use Rattle.next.specs.Choice.{Mem}
use Rattle.rings.specs.Ends.{link_of, end_of, end_link, end_once, end_below}
use Rattle.rings.specs.Rotation.{first_unvisited, first_found, first_later}
use Rattle.rings.specs.Linked.{Along, Leads}

-- where a walk that arrives at end `home` of node v goes on: the next link's end there, or `home` where there is none
abbrev pub next_end : Graph → ℕ → ℕ → Option ℕ → ℕ
next_end g v home None = home
next_end g v home (Some k) = end_of g v k

-- how many ends lie on the way from an end to `home`, looked for over n steps: it falls with each step
abbrev pub to_go : (ℕ → ℕ) → ℕ → ℕ → ℕ → ℕ
to_go step home zero at = 0
to_go step home (suc n) at = pick (eqb (step at) home) 0 (suc (to_go step home n (step at)))

-- the ends at node v of some links are not `home`
abbrev Others : Graph → ℕ → ℕ → List ℕ → Type 0
Others g v home l = (x : ℕ) → Mem x l → end_of g v x ≡ home → ⊥

module _ (g : Graph) (v home : ℕ) (step : ℕ → ℕ) where
  -- from end `at` the steps lead along the ends of `rest`, and then home
  abbrev Follows : ℕ → List ℕ → Type 0
  Follows at [] = step at ≡ home
  Follows at (x ∷ rest) = (step at ≡ end_of g v x) × Follows (end_of g v x) rest

  -- What the loop knows at end `at`, of n links: `rest` is what is left of the
  -- ring on the way home, and its first unvisited link is the answer.
  pub record Left (n : ℕ) (st : List ℕ) (answer : Option ℕ) (at : ℕ) : Type 0 where
    pub here : at < 2 * n
    pub at_home : home < 2 * n
    pub rest : List ℕ
    pub follows : Follows at rest
    pub others : Others g v home rest
    pub below : (x : ℕ) → Mem x rest → x < n
    pub short : length rest ≤ n
    pub is : first_unvisited st rest ≡ answer

  -- ---- the measure is the length of what is left
  to_go_lem : (n at : ℕ) (rest : List ℕ) → Follows at rest → Others g v home rest → length rest ≤ n
      → to_go step home n at ≡ length rest
  to_go_lem zero at [] f o s = refl
  to_go_lem zero at (x ∷ rest) f o s = absurd (not-suc-le-zero s)
  to_go_lem (suc n) at [] f o s = pick_true 0 (suc (to_go step home n (step at))) (eq-eqb (step at) home f)
  to_go_lem (suc n) at (x ∷ rest) f o s =
      pick_false 0 (suc (to_go step home n (step at)))
      (ne_eqb (step at) home (λ q. o x (Memᴰ.head refl) (sym f.0 ∙ q)))
      ∙ ap (λ (h : ℕ). suc (to_go step home n h)) f.0
      ∙ ap suc (to_go_lem n (end_of g v x) rest f.1 (λ y m. o y (Memᴰ.tail m)) (le_of_suc-le-suc s))

  -- ---- a step, to end `to`
  module _ {n : ℕ} {st : List ℕ} {answer : Option ℕ} {at to : ℕ} (k : Left n st answer at) (e : to ≡ step at) where
    -- it is an end of the n links
    pub step_below : to < 2 * n
    step_below = by k.rest k.follows k.below
      where
        by : (rest : List ℕ) → Follows at rest → ((x : ℕ) → Mem x rest → x < n) → to < 2 * n
        by [] f b = subst (λ h. h < 2 * n) (sym (e ∙ f)) k.at_home
        by (x ∷ rest) f b = subst (λ h. h < 2 * n) (sym (e ∙ f.0)) (end_below g v x n (b x (Memᴰ.head refl)))

    -- home: there is none
    pub came_back : to ≡ home → home ≡ next_end g v home answer
    came_back q = by k.rest k.follows k.others k.is
      where
        by : (rest : List ℕ) → Follows at rest → Others g v home rest → first_unvisited st rest ≡ answer
            → home ≡ next_end g v home answer
        by [] f o i = ap (next_end g v home) i
        by (x ∷ rest) f o i = absurd (o x (Memᴰ.head refl) (sym (e ∙ f.0) ∙ q))

    -- not home: it is the end of the first of the rest
    module _ (d : to ≡ home → ⊥) where
      the_link : {x : ℕ} → step at ≡ end_of g v x → link_of to ≡ x
      the_link {x} f = ap link_of (e ∙ f) ∙ end_link g v x

      -- of an unvisited link: that is the answer
      pub found : is_unvisited st (link_of to) ≡ true → to ≡ next_end g v home answer
      found t = by k.rest k.follows k.is
        where
          by : (rest : List ℕ) → Follows at rest → first_unvisited st rest ≡ answer → to ≡ next_end g v home answer
          by [] f i = absurd (d (e ∙ f))
          by (x ∷ rest) f i =
              let o : is_unvisited st x ≡ true = subst (λ y. is_unvisited st y ≡ true) (the_link f.0) t in
              e ∙ f.0 ∙ ap (next_end g v home) (sym (first_found st x rest o) ∙ i)

      -- of a visited one: the loop goes on from there, with less to go
      pub passed : is_unvisited st (link_of to) ≡ false → Left n st answer to
      passed t = by k.rest k.follows k.others k.below k.short k.is
        where
          by : (rest : List ℕ) → Follows at rest → Others g v home rest → ((x : ℕ) → Mem x rest → x < n)
              → length rest ≤ n → first_unvisited st rest ≡ answer → Left n st answer to
          by [] f o b s i = absurd (d (e ∙ f))
          by (x ∷ rest) f o b s i =
              let u : is_unvisited st x ≡ false = subst (λ y. is_unvisited st y ≡ false) (the_link f.0) t in
              record {
                here = step_below;
                at_home = k.at_home;
                rest = rest;
                follows = subst (λ h. Follows h rest) (sym (e ∙ f.0)) f.1;
                others = λ y m. o y (Memᴰ.tail m);
                below = λ y m. b y (Memᴰ.tail m);
                short = omega arith;
                is = sym (first_later st x rest u) ∙ i;
              }

      pub nearer : to_go step home n to < to_go step home n at
      nearer = by k.rest k.follows k.others k.short
        where
          by : (rest : List ℕ) → Follows at rest → Others g v home rest → length rest ≤ n
              → to_go step home n to < to_go step home n at
          by [] f o s = absurd (d (e ∙ f))
          by (x ∷ rest) f o s =
              let a = to_go_lem n at (x ∷ rest) f o s in
              let b = to_go_lem n to rest (subst (λ h. Follows h rest) (sym (e ∙ f.0)) f.1)
              (λ y m. o y (Memᴰ.tail m)) (omega arith) in
              omega arith

  -- ---- the start: home is the end of a link e, and all of the round from e is left
  pub from_start : (e : ℕ) → end_of g v e ≡ home → {n : ℕ} {st rest : List ℕ} → Along (Leads g v step) e e rest
      → ((x : ℕ) → Mem x rest → x ≡ e → ⊥)
      → e < n → ((x : ℕ) → Mem x rest → x < n) → length rest ≤ n → Left n st (first_unvisited st rest) home
  from_start e is_home {n} {st} {rest} a o en b s =
      let h : home < 2 * n = subst (λ h. h < 2 * n) is_home (end_below g v e n en) in
      record {
        here = h;
        at_home = h;
        rest = rest;
        follows = subst (λ h. Follows h rest) is_home (along e rest a);
        others = λ x m q. o x m (end_once g v x e (q ∙ sym is_home));
        below = b;
        short = s;
        is = refl;
      }
    where
      along : (p : ℕ) (l : List ℕ) → Along (Leads g v step) e p l → Follows (end_of g v p) l
      along p [] a = a ∙ is_home
      along p (x ∷ l) a = (a.0, along x l a.1)
