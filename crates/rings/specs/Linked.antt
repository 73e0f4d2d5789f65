-- The ring as the code keeps it: each end leads to the next and to the one before,
-- all round. Followed from a link's end it is the ring read round from there.
use Rattle.std.specs.Prelude.{ℕ, ◌≡◌, Bool}
use Rattle.std.proofs.Common.{sym, subst}
use mathlib.Core.List.{List, [], ◌∷◌, ◌++◌, reverse, reverse-cons, append-nil}
use Rattle.laws.specs.Test.{pick}
use Rattle.graph.specs.Graph.{Graph}
use Rattle.rings.specs.Ends.{end_of}
use Rattle.rings.specs.Rings.{Ring}

-- ---- a fact of neighbours

-- from p along a list and on to h
abbrev pub Along : (ℕ → ℕ → Type 0) → ℕ → ℕ → List ℕ → Type 0
Along P h p [] = P p h
Along P h p (x ∷ l) = P p x × Along P h x l

-- all round a list: its last element is followed by its first
abbrev pub AllRound : (ℕ → ℕ → Type 0) → List ℕ → Type 0
AllRound P [] = Unit
AllRound P (x ∷ l) = Along P x x l

pub along_join : (P : ℕ → ℕ → Type 0) (h p x : ℕ) (s t : List ℕ) → Along P x p s → Along P h x t
    → Along P h p (s ++ (x ∷ t))
along_join P h p x [] t a b = (a, b)
along_join P h p x (y ∷ s) t a b = (a.0, along_join P h y x s t a.1 b)

pub along_part : (P : ℕ → ℕ → Type 0) (h p x : ℕ) (s t : List ℕ) → Along P h p (s ++ (x ∷ t))
    → Along P x p s × Along P h x t
along_part P h p x [] t a = a
along_part P h p x (y ∷ s) t a = let r = along_part P h y x s t a.1 in ((a.0, r.0), r.1)

pub along_back : (P : ℕ → ℕ → Type 0) (h p : ℕ) (l : List ℕ) → Along P h p l → Along (λ x y. P y x) p h (reverse l)
along_back P h p [] a = a
along_back P h p (x ∷ l) a =
    subst (Along (λ y z. P z y) p h) (sym (reverse-cons x l))
    (along_join (λ y z. P z y) p h x (reverse l) [] (along_back P h x l a.1) a.0)

-- all round a list is all round it from another place
pub turned_round : (P : ℕ → ℕ → Type 0) (s t : List ℕ) → AllRound P (s ++ t) → AllRound P (t ++ s)
turned_round P [] t a = subst (AllRound P) (sym (append-nil t)) a
turned_round P (x ∷ s) [] a = subst (AllRound P) (append-nil (x ∷ s)) a
turned_round P (x ∷ s) (y ∷ t) a = let r = along_part P x x y s t a in along_join P y y x t s r.1 r.0

-- ---- the linked ring
-- at node v e's end leads to f's (`to` is what a list of the code holds at each end, without any mark that it bears)
abbrev pub Leads : Graph → ℕ → (ℕ → ℕ) → ℕ → ℕ → Type 0
Leads g v to e f = to (end_of g v e) ≡ end_of g v f

-- `nxt` leads from each link to the next, round the ring's end, and `prv` back
pub record Linked (g : Graph) (v : ℕ) (l : List ℕ) (nxt prv : ℕ → ℕ) : Type 0 where
  pub next : AllRound (Leads g v nxt) l
  pub back : AllRound (λ e f. Leads g v prv f e) l

-- node v has a ring, and it is linked
pub record Ringed (g : Graph) (state : List ℕ) (v : ℕ) (nxt prv : ℕ → ℕ) : Type 0 where
  pub links : List ℕ
  pub ring : Ring g state v links
  pub linked : Linked g v links nxt prv

-- a step clockwise goes back, one counterclockwise on
abbrev pub step_of : Bool → (ℕ → ℕ) → (ℕ → ℕ) → ℕ → ℕ
step_of sense nxt prv = pick sense prv nxt
