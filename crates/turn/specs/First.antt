-- The first met of a list, turning from a vector: it exists, it is unique up to its direction, and turning back from it leads to where the turning began.
use Rattle.std.specs.Prelude.{◌≡◌, refl, Bool, true, false, not}
use Rattle.std.proofs.Common.{subst, ⊎_elim}
use mathlib.Core.List.Memᴰ
use mathlib.Core.List.{List, [], ◌∷◌, Memᴰ}
use Rattle.laws.specs.Test.{Is, is_true, true_is, true≢false}
use Rattle.turn.specs.declared.Vector.{Vector}
use Rattle.turn.specs.Angle.{met_before, same_direction, nonzero}
use Rattle.turn.specs.Angular.{irreflexive, transitive, total, cyclic}

-- turning from e, f of the list is met first: none of the list is met before it
pub record First (w : Bool) (e f : Vector) (l : List Vector) : Type 0 where
  pub listed : Memᴰ f l
  pub none_before : (g : Vector) → Memᴰ g l → Is (met_before w e g f) → ⊥

abbrev pub AllNonzero : List Vector → Type 0
AllNonzero l = (g : Vector) → Memᴰ g l → Is (nonzero g)

-- ---- it exists
-- x is first where nothing of l is before it
heads : (w : Bool) (e x : Vector) (l : List Vector) → ((g : Vector) → Memᴰ g l → Is (met_before w e g x) → ⊥) → First w e x (x ∷ l)
heads w e x l h = record {
  listed = Memᴰ.head refl;
  none_before = λ g m p. ⊎_elim (λ (q : g ≡ x). irreflexive w e x (subst (λ v. Is (met_before w e v x)) q p)) (λ n. h g n p) (Memᴰ.cases_cons m);
}

-- one more: it is first, or what was first stays so
first_step : (w : Bool) (e x r : Vector) (l : List Vector) (b : Bool) → met_before w e x r ≡ b → First w e r l → (f : Vector) × First w e f (x ∷ l)
first_step w e x r l true k h = (x, heads w e x l (λ g n p. h.none_before g n (transitive w e g x r p (true_is k))))
first_step w e x r l false k h = (
  r,
  record {
    listed = Memᴰ.tail h.listed;
    none_before =
        λ g m p. ⊎_elim (λ (q : g ≡ x). true≢false (is_true (subst (λ v. Is (met_before w e v r)) q p)) k) (λ n. h.none_before g n p)
        (Memᴰ.cases_cons m);
  },
)

pub first_exists : (w : Bool) (e x : Vector) (l : List Vector) → (f : Vector) × First w e f (x ∷ l)
first_exists w e x [] = (x, heads w e x [] (λ g n p. Memᴰ.not-nil n))
first_exists w e x (y ∷ l) = let r = first_exists w e y l in first_step w e x r.0 (y ∷ l) (met_before w e x r.0) refl r.1

-- ---- it is unique up to its direction
pub first_unique : (w : Bool) (e f g : Vector) (l : List Vector) → Is (nonzero e) → AllNonzero l → First w e f l → First w e g l → Is (same_direction f g)
first_unique w e f g l he hl p q =
    ⊎_elim (λ h. absurd (q.none_before f p.listed h)) (⊎_elim (λ h. h) (λ h. absurd (p.none_before g q.listed h)))
    (total w e f g he (hl f p.listed) (hl g q.listed))

-- ---- the cyclic law: f is the first met from e; then, turning the other way, e is the first met from f, among the list with e
pub first_back : (w : Bool) (e f : Vector) (l : List Vector) → Is (nonzero e) → AllNonzero l → First w e f l → First (not w) f e (e ∷ l)
first_back w e f l he hl h =
    heads (not w) f e l (λ g n p. h.none_before g n (subst Is (cyclic w e f g he (hl f h.listed) (hl g n)) p))

-- so the next in a list is injective on directions
pub first_injective : (w : Bool) (e e' f : Vector) (l : List Vector) → AllNonzero l → Memᴰ e l → Memᴰ e' l → First w e f l → First w e' f l
    → Is (same_direction e e')
first_injective w e e' f l hl m m' p q =
    ⊎_elim (λ h. absurd ((first_back w e' f l (hl e' m') hl q).none_before e (Memᴰ.tail m) h))
    (⊎_elim (λ h. h) (λ h. absurd ((first_back w e f l (hl e m) hl p).none_before e' (Memᴰ.tail m') h)))
    (total (not w) f e e' (hl f p.listed) (hl e m) (hl e' m'))
