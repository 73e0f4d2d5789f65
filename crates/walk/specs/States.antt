-- Visit states: what a mark changes, what is left unvisited, and totals over the unvisited links.
use Rattle.std.specs.Prelude.{ℕ, zero, suc, ◌+◌, ◌≤◌, ◌≡◌, refl, ◌≢◌, Bool, true, false, List, [], ◌∷◌, length, set, eqb}
use Rattle.std.proofs.Common.{arith, sym, ap, ◌∙◌, subst, get_or-set_same, get_or-set_other}
use Rattle.laws.specs.Test.{pick, pick_true, pick_false, true≢false}
use Rattle.next.specs.Next.{is_unvisited, unvisited}
use Rattle.next.specs.States.{unvisited_below}

-- link k is unvisited
abbrev pub Unvisited : List ℕ → ℕ → Type 0
Unvisited st k = is_unvisited st k ≡ true

-- no link is
abbrev pub NoneUnvisited : List ℕ → Type 0
NoneUnvisited st = (k : ℕ) → is_unvisited st k ≡ false

-- a mark: any state but 0
abbrev pub Mark : ℕ → Type 0
Mark m = eqb m 0 ≡ false

-- ---- one link is marked
pub set_other : (st : List ℕ) (f m j : ℕ) → j ≢ f → is_unvisited (set st f m) j ≡ is_unvisited st j
set_other st f m j d = ap (λ x. eqb x 0) (get_or-set_other st f j m 1 d)

pub set_same : (st : List ℕ) (f m : ℕ) → Unvisited st f → Mark m → is_unvisited (set st f m) f ≡ false
set_same st f m o n = ap (λ x. eqb x 0) (get_or-set_same st f m 1 (unvisited_below st f o)) ∙ n

pub set_gone : (st : List ℕ) (f m : ℕ) → Unvisited st f → Mark m → Unvisited (set st f m) f → ⊥
set_gone st f m o n t = true≢false t (set_same st f m o n)

pub set_in : (st : List ℕ) (f m j : ℕ) → Unvisited st j → j ≢ f → Unvisited (set st f m) j
set_in st f m j o d = set_other st f m j d ∙ o

pub set_of : (st : List ℕ) (f m j : ℕ) → Unvisited st f → Mark m → Unvisited (set st f m) j → Unvisited st j × (j ≡ f → ⊥)
set_of st f m j o n t =
    let d : j ≡ f → ⊥ = λ q. set_gone st f m o n (subst (Unvisited (set st f m)) q t) in
    (sym (set_other st f m j d) ∙ t, d)

-- ---- totals over the unvisited links: op (w j) (op (w k) .. z), for the unvisited j, k, ..
abbrev pub over : {A : Type 0} → (A → A → A) → A → (ℕ → A) → List ℕ → A
over op z w [] = z
over op z w (x ∷ st) = pick (eqb x 0) (op (w 0) (over op z (λ k. w (suc k)) st)) (over op z (λ k. w (suc k)) st)

module _ {A : Type 0} (op : A → A → A) (z : A) (left : (x y r : A) → op x (op y r) ≡ op y (op x r)) where
  -- a link that is marked falls out
  pub over_set : (w : ℕ → A) (st : List ℕ) (k m : ℕ) → Unvisited st k → Mark m → over op z w st ≡ op (w k) (over op z w (set st k m))
  over_set w [] k m t n = absurd (true≢false t refl)
  over_set w (x ∷ st) zero m t n =
      let r : A = over op z (λ k. w (suc k)) st in
      pick_true (op (w 0) r) r t ∙ ap (op (w 0)) (sym (pick_false (op (w 0) r) r n))
  over_set w (x ∷ st) (suc k) m t n = by (eqb x 0) _ _ (over_set (λ k. w (suc k)) st k m t n)
    where
      by : (b : Bool) (r r' : A) → r ≡ op (w (suc k)) r' → pick b (op (w 0) r) r ≡ op (w (suc k)) (pick b (op (w 0) r') r')
      by true r r' ih = ap (op (w 0)) ih ∙ left (w 0) (w (suc k)) r'
      by false r r' ih = ih

pub over_none : {A : Type 0} (op : A → A → A) (z : A) (w : ℕ → A) (st : List ℕ) → NoneUnvisited st → over op z w st ≡ z
over_none op z w [] h = refl
over_none op z w (x ∷ st) h =
    pick_false (op (w 0) (over op z (λ k. w (suc k)) st)) (over op z (λ k. w (suc k)) st) (h 0) ∙ over_none op z (λ k. w (suc k)) st (λ k. h (suc k))

-- their number is such a total
pub unvisited_over : (st : List ℕ) → unvisited st ≡ over ◌+◌ 0 (λ k. 1) st
unvisited_over [] = refl
unvisited_over (x ∷ st) = by (eqb x 0) _ _ (unvisited_over st)
  where
    by : (b : Bool) (n r : ℕ) → n ≡ r → pick b (suc n) n ≡ pick b (1 + r) r
    by true n r h = omega arith
    by false n r h = h

pub unvisited_set : (st : List ℕ) (k m : ℕ) → Unvisited st k → Mark m → unvisited st ≡ suc (unvisited (set st k m))
unvisited_set st k m o n =
    omega (arith, unvisited_over st, unvisited_over (set st k m), over_set ◌+◌ 0 (λ x y r. omega arith) (λ k. 1) st k m o n)

pub none_unvisited : (st : List ℕ) → NoneUnvisited st → unvisited st ≡ 0
none_unvisited st h = unvisited_over st ∙ over_none ◌+◌ 0 (λ k. 1) st h

-- and it is no more than the number of links
pub unvisited_some : (st : List ℕ) → unvisited st ≤ length st
unvisited_some [] = omega arith
unvisited_some (x ∷ st) = by (eqb x 0) (unvisited_some st)
  where
    by : (b : Bool) → unvisited st ≤ length st → pick b (suc (unvisited st)) (unvisited st) ≤ suc (length st)
    by true h = omega arith
    by false h = omega arith
