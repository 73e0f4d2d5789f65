-- `nearer` is a strict order of the edges that run to the right, up to their contour.
use Rattle.std.specs.Prelude.{◌<◌, ◌≡◌, true, false, T, ltb, ℤ, pos, ◌*ℤ◌, ◌<ℤ◌, ◌≤ℤ◌}
use Rattle.std.proofs.Common.{◌∙◌, arith, le_refl, ltb→lt, lt→ltb, le-ltb, ltb-false}
use Rattle.std.specs.Int.Signed.{lt_z, le_z}
use Rattle.laws.specs.Test.{and_true}
use Rattle.laws.specs.Order.{lin, sub_pos}
use Rattle.laws.specs.Compare.{lt_yes, le_yes, lower_trans, lower_n_trans, lower_same, lower_n_same, lower_neither, lower_n_neither}
use Rattle.anchor.specs.declared.Anchor.{Anchor}
use Rattle.edges.specs.declared.Edge.{Edge}
use Rattle.edges.specs.Edges.{run, rise, spans, height, wins_tie, nearer}
use Rattle.edges.specs.Gaps.{rising, falling}

-- ---- a strict order of the edges that run to the right
pub nearer_trans : (a : Anchor) (e f g : Edge) → pos 0 <ℤ run e → pos 0 <ℤ run f → pos 0 <ℤ run g → T (nearer a e f) → T (nearer a f g) → T (nearer a e g)
unfolding nearer wins_tie
nearer_trans a e f g he hf hg =
    lower_trans (height a e *ℤ run f) (height a f *ℤ run e) (height a f *ℤ run g) (height a g *ℤ run f) (height a e *ℤ run g) (height a g *ℤ run e) _ _ _
    (rising (height a e) (run e) (height a f) (run f) (height a g) (run g) he hf hg)
    (lower_trans (rise f *ℤ run e) (rise e *ℤ run f) (rise g *ℤ run f) (rise f *ℤ run g) (rise g *ℤ run e) (rise e *ℤ run g) _ _ _
    (falling (rise e) (run e) (rise f) (run f) (rise g) (run g) he hf hg)
    (lower_n_trans e.kind f.kind g.kind _ _ _
    (λ p q. lt→ltb e.contour g.contour (l p q))))
  where
    l : T (ltb e.contour f.contour) → T (ltb f.contour g.contour) → e.contour < g.contour
    l p q = omega (arith, ltb→lt e.contour f.contour p, ltb→lt f.contour g.contour q)

pub nearer_same : (a : Anchor) (e : Edge) → nearer a e e ≡ false
unfolding nearer wins_tie
nearer_same a e =
    lower_same (height a e *ℤ run e) _ ∙ lower_same (rise e *ℤ run e) _ ∙ lower_n_same e.kind _ ∙ le-ltb e.contour e.contour (le_refl e.contour)

-- of two edges neither of which is nearer, both are of one contour
pub nearer_neither : (a : Anchor) (e f : Edge) → nearer a e f ≡ false → nearer a f e ≡ false → e.contour ≡ f.contour
unfolding nearer wins_tie
nearer_neither a e f p q =
    let gap = lower_neither (height a e *ℤ run f) (height a f *ℤ run e) _ _ p q in
    let slope = lower_neither (rise f *ℤ run e) (rise e *ℤ run f) _ _ gap.1 gap.2 in
    let kind = lower_n_neither e.kind f.kind _ _ slope.1 slope.2 in
    omega (arith, ltb-false e.contour f.contour kind.1, ltb-false f.contour e.contour kind.2)

-- an edge that spans an anchor runs to the right
pub spans_runs : (x : ℤ) (e : Edge) → spans x e ≡ true → pos 0 <ℤ run e
spans_runs x e s =
    let b = and_true (le_z e.left.x x) (lt_z x e.right.x) s in
    sub_pos e.left.x e.right.x (between (le_yes _ _ b.0) (lt_yes _ _ b.1))
  where
    between : e.left.x ≤ℤ x → x <ℤ e.right.x → e.left.x <ℤ e.right.x
    between p q = omega lin
