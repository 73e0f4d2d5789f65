-- `spokes::misses` meets its contract: one thing after the other, as `Missed` says.
use Prim.Native.Nat.{ℕ}
use native.Mathlib.Omega.{arith}
use mathlib.Core.Path.{◌≡◌, sym, ap, ◌∙◌}
use lib.ListN.{get_or}
use Rattle.turn.specs.declared.Point.{Point}
use Rattle.turn.specs.Points.{differ}
use Rattle.graph.specs.Graph.{point_at}
use Rattle.spokes.proofs.Missed.{miss_no_link, miss_a, miss_b, miss_else}
use Rattle.spokes.proofs.misses.Goals as goal

pub returns-then-aid-f : goal.returns-then-aid-f
returns-then-aid-f c =
    let a : ℕ → Point = point_at c.args.ax.now c.args.ay.now in
    let b : ℕ → Point = point_at c.args.bx.now c.args.by.now in
    let s = c in
    let x = s.args in
    miss_no_link a b x.aid.now x.bid.now x.home x.v x.f c.if-aid-f.true

pub bounds-aid-f : goal.bounds-aid-f
bounds-aid-f c = c.if-aid-f.false

pub wide-requires : goal.wide-requires
wide-requires c = tt

-- its a is at node v
pub point_at-requires : goal.point_at-requires
point_at-requires c =
    let d = c in
    let p = c.requires.points in
    (omega (arith, d.if-aid-f.false, p.ax_long), omega (arith, d.if-aid-f.false, p.ay_long))

pub differ-requires : goal.differ-requires
differ-requires c = tt

pub returns-then-wide-v : goal.returns-then-wide-v
returns-then-wide-v c =
    let a : ℕ → Point = point_at c.args.ax.now c.args.ay.now in
    let b : ℕ → Point = point_at c.args.bx.now c.args.by.now in
    let i = c in
    let d = c in
    let s = c in
    let x = s.args in
    c.differ.ensures ∙ ap (differ x.home) c.point_at.ensures
    ∙ miss_a a b x.aid.now x.bid.now x.home x.v x.f d.if-aid-f.false (sym i.wide.ensures ∙ i.if-wide-v.true)

pub bounds-bid-f : goal.bounds-bid-f
bounds-bid-f c = let d = c in omega (arith, d.if-aid-f.false, c.requires.bid_len)

pub wide-requires-2 : goal.wide-requires-2
wide-requires-2 c = tt

-- its b is
pub point_at-requires-then-wide-v-2 : goal.point_at-requires-then-wide-v-2
point_at-requires-then-wide-v-2 c =
    let d = c in
    let p = c.requires.points in
    (omega (arith, d.if-aid-f.false, p.bx_long), omega (arith, d.if-aid-f.false, p.by_long))

pub differ-requires-then-wide-v-2 : goal.differ-requires-then-wide-v-2
differ-requires-then-wide-v-2 c = tt

pub returns-then-wide-v-2 : goal.returns-then-wide-v-2
returns-then-wide-v-2 c =
    let a : ℕ → Point = point_at c.args.ax.now c.args.ay.now in
    let b : ℕ → Point = point_at c.args.bx.now c.args.by.now in
    let elsewhere : let x = c.args in get_or x.aid.now x.f 0 ≡ x.v → ⊥ = λ e. c.if-wide-v.false (c.wide.ensures ∙ e) in
    let i = c in
    let e = c in
    let s = c in
    let x = s.args in
    c.differ-then-wide-v-2.ensures ∙ ap (differ x.home) c.point_at-then-wide-v-2.ensures
    ∙ miss_b a b x.aid.now x.bid.now x.home x.v x.f c.if-aid-f.false elsewhere
    (sym i.wide-2.ensures ∙ i.if-wide-v-2.true)

-- neither is
pub returns : goal.returns
returns c =
    let a : ℕ → Point = point_at c.args.ax.now c.args.ay.now in
    let b : ℕ → Point = point_at c.args.bx.now c.args.by.now in
    let elsewhere : let x = c.args in get_or x.aid.now x.f 0 ≡ x.v → ⊥ = λ e. c.if-wide-v.false (c.wide.ensures ∙ e) in
    let e = c in
    let s = c in
    let x = s.args in
    miss_else a b x.aid.now x.bid.now x.home x.v x.f c.if-aid-f.false elsewhere
    (λ q. c.if-wide-v-2.false (c.wide-2.ensures ∙ q))
