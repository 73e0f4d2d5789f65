-- What leaves the links of a node's ring as they are, and what is read off them.
use Rattle.std.specs.Prelude.{ℕ, ◌≡◌, refl, List, [], ◌∷◌, ◌++◌}
use Rattle.std.proofs.Common.{◌∙◌, ⊎_elim}
use mathlib.Core.List.Memᴰ
use Rattle.graph.specs.Graph.{Graph}
use Rattle.next.specs.Choice.{Mem}
use Rattle.rings.specs.Ends.{end_of}
use Rattle.rings.specs.Linked.{Along, AllRound, along_part, Leads, Linked}

-- ---- links that hold of other lists too
pub along_kept : (P Q : ℕ → ℕ → Type 0) (h p : ℕ) (l : List ℕ)
    → ((x y : ℕ) → Mem x (p ∷ l) → Mem y (h ∷ l) → P x y → Q x y) → Along P h p l → Along Q h p l
along_kept P Q h p [] f a = f p h (Memᴰ.head refl) (Memᴰ.head refl) a
along_kept P Q h p (x ∷ l) f a = (
  f p x (Memᴰ.head refl) (Memᴰ.tail (Memᴰ.head refl)) a.0,
  along_kept P Q h x l (λ y z i j. f y z (Memᴰ.tail i)
      (⊎_elim Memᴰ.head (λ k. Memᴰ.tail (Memᴰ.tail k)) (Memᴰ.cases_cons j))) a.1,
)

pub round_kept : (P Q : ℕ → ℕ → Type 0) (l : List ℕ) → ((x y : ℕ) → Mem x l → Mem y l → P x y → Q x y) → AllRound P l
    → AllRound Q l
round_kept P Q [] f a = tt
round_kept P Q (x ∷ l) f a = along_kept P Q x x l f a

-- other lists that lead alike from the ends of the ring's links
pub linked_kept : {g : Graph} {v : ℕ} {l : List ℕ} {nxt prv nxt' prv' : ℕ → ℕ} → Linked g v l nxt prv
    → ((x : ℕ) → Mem x l → nxt' (end_of g v x) ≡ nxt (end_of g v x))
    → ((x : ℕ) → Mem x l → prv' (end_of g v x) ≡ prv (end_of g v x))
    → Linked g v l nxt' prv'
linked_kept {g} {v} {l} {nxt} {prv} {nxt'} {prv'} k f h = record {
  next = round_kept (Leads g v nxt) (Leads g v nxt') l (λ x y m n e. f x m ∙ e) k.next;
  back = round_kept (λ x y. Leads g v prv y x) (λ x y. Leads g v prv' y x) l (λ x y m n e. h y n ∙ e) k.back;
}

-- ---- what is read off the links: of two neighbours, and of the last and the first
pub round_between : (P : ℕ → ℕ → Type 0) (s : List ℕ) (x y : ℕ) (t : List ℕ) → AllRound P (s ++ (x ∷ (y ∷ t))) → P x y
round_between P [] x y t a = a.0
round_between P (z ∷ s) x y t a = (along_part P z z x s (y ∷ t) a).1.0
