-- What two stores leave at the ends of a node's links; marks and what they stand on.
use Prim.Native.Nat.{ℕ, ◌+◌, ◌%◌, ◌≤◌, ◌<◌}
use native.Mathlib.Omega.{arith}
use mathlib.Core.Path.{◌≡◌, ap, ◌∙◌}
use mathlib.Core.Bool.{true, false}
use mathlib.Core.List.{List}
use lib.Dec.{leb}
use lib.ListN.{length, get_or, set}
use lib.Seq.{get_or-set_same, get_or-set_other, lt-length-set}
use borrow.Author.Tests.{le-leb, lt-leb}
use Rattle.graph.specs.Graph.{Graph}
use Rattle.next.specs.Choice.{Mem}
use Rattle.rings.specs.Ends.{end_of, end_once}
use Rattle.rings.specs.LinkOne.{Put}
use Rattle.rings.specs.Field.{cross_mark, wrap_mark, next_of, prev_of}

-- ---- marks
pub cross_end : (x : ℕ) → x < cross_mark → (cross_mark + x) % cross_mark ≡ x
cross_end x h = omega arith

pub wrap_end : (x : ℕ) → x < cross_mark → (wrap_mark + x) % cross_mark ≡ x
wrap_end x h = omega arith

pub cross_no_wrap : (x : ℕ) → x < cross_mark → leb wrap_mark (cross_mark + x) ≡ false
cross_no_wrap x h = lt-leb wrap_mark (cross_mark + x) (omega arith)

pub wrap_wraps : (x : ℕ) → leb wrap_mark (wrap_mark + x) ≡ true
wrap_wraps x = le-leb wrap_mark (wrap_mark + x) (omega arith)

-- an end that bears the one mark, and not the other
pub cross_is : (z x : ℕ) → z % cross_mark ≡ x → cross_mark ≤ z → z < wrap_mark → z ≡ cross_mark + x
cross_is z x e h k = omega arith

-- ---- two stores, at the ends of q and of r
module _ (g : Graph) (v : ℕ) where
  pub record Stored (old new : List ℕ) (q r onto from : ℕ) : Type 0 where
    pub at_r : get_or new (end_of g v r) 0 ≡ from
    pub at_q : get_or new (end_of g v q) 0 ≡ onto
    pub others : (x : ℕ) → (x ≡ q → ⊥) → (x ≡ r → ⊥) → get_or new (end_of g v x) 0 ≡ get_or old (end_of g v x) 0

  pub stored : (old : List ℕ) (q r onto from : ℕ) → (q ≡ r → ⊥) → end_of g v q < length old → end_of g v r < length old
      → Stored old (set (set old (end_of g v q) onto) (end_of g v r) from) q r onto from
  stored old q r onto from d hq hr = record {
    at_r = get_or-set_same (set old (end_of g v q) onto) (end_of g v r) from 0 (lt-length-set old (end_of g v q) onto hr);
    at_q = get_or-set_other (set old (end_of g v q) onto) (end_of g v r) (end_of g v q) from 0 (λ p. d (end_once g v q r p))
        ∙ get_or-set_same old (end_of g v q) onto 0 hq;
    others = λ x n m. get_or-set_other (set old (end_of g v q) onto) (end_of g v r) (end_of g v x) from 0 (λ p. m (end_once g v x r p))
        ∙ get_or-set_other old (end_of g v q) (end_of g v x) onto 0 (λ p. n (end_once g v x q p));
  }

  -- so q is put between r and a
  pub put_of : {l nxt prv nxt' prv' : List ℕ} {q r a onto from : ℕ} → Stored nxt nxt' q r onto from
      → Stored prv prv' q a (end_of g v r) (end_of g v q) → onto % cross_mark ≡ end_of g v a → from % cross_mark ≡ end_of g v q
      → ((x : ℕ) → Mem x l → x ≡ q → ⊥) → Put g v l r q a (next_of nxt) (prev_of prv) (next_of nxt') (prev_of prv')
  put_of n p eo ef new = record {
    next_r = ap (λ z. z % cross_mark) n.at_r ∙ ef;
    next_q = ap (λ z. z % cross_mark) n.at_q ∙ eo;
    back_q = p.at_q;
    back_a = p.at_r;
    next_kept = λ x m d. ap (λ z. z % cross_mark) (n.others x (new x m) d);
    back_kept = λ x m d. p.others x (new x m) d;
  }
