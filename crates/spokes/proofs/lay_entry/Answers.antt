-- `spokes::lay_entry` meets its contract: an entry that misses, a skipped one, or an end put at its place, as `Steps` says.
use native.Mathlib.Omega.{arith}
use Prim.Native.Nat.{ℕ, ◌<◌}
use mathlib.Core.Path.{◌≡◌, refl, sym, ap, ◌∙◌, subst}
use mathlib.Core.Bool.{Bool, false, ◌||◌}
use lib.ListN.{length, get_or}
use Rattle.laws.specs.Test.{or_false}
use Rattle.turn.specs.declared.Point.{Point}
use Rattle.turn.specs.Points.{differ}
use Rattle.graph.specs.Graph.{point_at}
use Rattle.graph.specs.Checks.{node_at, end_at, stray}
use Rattle.graph.specs.Quick.{stands_before}
use Rattle.spokes.specs.Links.{links_of}
use Rattle.rings.specs.Ends.{end_of}
use Rattle.hoop.specs.Hoops.{Placed}
use Rattle.spokes.proofs.Among.{wrong_missed, below_f, home_grid, wrong_stands}
use Rattle.spokes.proofs.Steps.{own_points, own_grids, sought, backed, skip_entry, end_link_below, fits_at, step_at_lem}
use Rattle.spokes.proofs.lay_entry.Goals as goal

pub bounds-here-j : goal.bounds-here-j
bounds-here-j c = c.requires.j_in_bounds

pub wide-f-requires : goal.wide-f-requires
wide-f-requires c = tt

pub misses-requires : goal.misses-requires
misses-requires c = record {
  points = c.requires.laying.points;
  bid_len = c.requires.laying.same;
}

pub returns-then-misses : goal.returns-then-misses
returns-then-misses c =
    let f : ℕ = get_or c.args.here.now c.args.j 0 in
    let point : ℕ → Point = let x = c.args in end_at (point_at x.ax.now x.ay.now) (point_at x.bx.now x.by.now) (node_at x.aid.now) x.v in
    let miss : ℕ → Bool = λ x. stray c.args.aid.now c.args.bid.now c.args.v x || differ c.args.home (point x) in
    let asked : c.misses.result ≡ miss f = subst (λ x. c.misses.result ≡ miss x) c.wide-f.ensures c.misses.ensures in
    let s = c in record {
      entered = wrong_missed s.requires.laying (sym asked ∙ c.if-misses.true);
      else_kept = (λ h d. refl, λ h d. refl);
    }

pub bounds-state-f : goal.bounds-state-f
bounds-state-f c =
    let f : ℕ = get_or c.args.here.now c.args.j 0 in
    let point : ℕ → Point = let x = c.args in end_at (point_at x.ax.now x.ay.now) (point_at x.bx.now x.by.now) (node_at x.aid.now) x.v in
    let miss : ℕ → Bool = λ x. stray c.args.aid.now c.args.bid.now c.args.v x || differ c.args.home (point x) in
    let asked : c.misses.result ≡ miss f = subst (λ x. c.misses.result ≡ miss x) c.wide-f.ensures c.misses.ensures in
    let right : let s = c in (stray s.args.aid.now s.args.bid.now s.args.v f ≡ false) × (differ s.args.home (point f) ≡ false) = let s = c in
    or_false (stray s.args.aid.now s.args.bid.now s.args.v f) (differ s.args.home (point f))
    (sym asked ∙ c.if-misses.false) in
    let own : let s = c in stray s.args.aid.now s.args.bid.now s.args.v f ≡ false = right.0 in
    let entry_is : c.wide-f.result ≡ f = c.wide-f.ensures in
    let below : c.wide-f.result < length c.args.aid.now = let s = c in subst (λ x. x < length s.args.aid.now) (sym entry_is)
    (below_f s.requires.laying s.requires.j_in_bounds own) in
    let d = c in omega (arith, below, c.requires.laying.states)

-- ---- a skipped entry
pub stands_before-requires : goal.stands_before-requires
stands_before-requires c = omega (arith, c.requires.j_in_bounds)

pub returns-then-stands_before : goal.returns-then-stands_before
returns-then-stands_before c =
    let f : ℕ = get_or c.args.here.now c.args.j 0 in
    let point : ℕ → Point = let x = c.args in end_at (point_at x.ax.now x.ay.now) (point_at x.bx.now x.by.now) (node_at x.aid.now) x.v in
    let miss : ℕ → Bool = λ x. stray c.args.aid.now c.args.bid.now c.args.v x || differ c.args.home (point x) in
    let asked : c.misses.result ≡ miss f = subst (λ x. c.misses.result ≡ miss x) c.wide-f.ensures c.misses.ensures in
    let right : let s = c in (stray s.args.aid.now s.args.bid.now s.args.v f ≡ false) × (differ s.args.home (point f) ≡ false) = let s = c in
    or_false (stray s.args.aid.now s.args.bid.now s.args.v f) (differ s.args.home (point f))
    (sym asked ∙ c.if-misses.false) in
    let own : let s = c in stray s.args.aid.now s.args.bid.now s.args.v f ≡ false = right.0 in
    let entry_is : c.wide-f.result ≡ f = c.wide-f.ensures in
    let before : let s = c in c.stands_before.result ≡ stands_before s.args.here.now s.args.j f = let s = c in
    c.stands_before.ensures ∙ ap (stands_before s.args.here.now s.args.j) entry_is in
    let d = c in
    let s = c in record {
      entered = wrong_stands s.requires.laying s.requires.j_in_bounds own (sym before ∙ c.if-stands_before.true);
      else_kept = (λ h d. refl, λ h d. refl);
    }

pub returns-then-state-f-eq1 : goal.returns-then-state-f-eq1
returns-then-state-f-eq1 c =
    let f : ℕ = get_or c.args.here.now c.args.j 0 in
    let point : ℕ → Point = let x = c.args in end_at (point_at x.ax.now x.ay.now) (point_at x.bx.now x.by.now) (node_at x.aid.now) x.v in
    let miss : ℕ → Bool = λ x. stray c.args.aid.now c.args.bid.now c.args.v x || differ c.args.home (point x) in
    let asked : c.misses.result ≡ miss f = subst (λ x. c.misses.result ≡ miss x) c.wide-f.ensures c.misses.ensures in
    let right : let s = c in (stray s.args.aid.now s.args.bid.now s.args.v f ≡ false) × (differ s.args.home (point f) ≡ false) = let s = c in
    or_false (stray s.args.aid.now s.args.bid.now s.args.v f) (differ s.args.home (point f))
    (sym asked ∙ c.if-misses.false) in
    let own : let s = c in stray s.args.aid.now s.args.bid.now s.args.v f ≡ false = right.0 in
    let same : let s = c in differ s.args.home (point f) ≡ false = right.1 in
    let entry_is : c.wide-f.result ≡ f = c.wide-f.ensures in
    let before : let s = c in c.stands_before.result ≡ stands_before s.args.here.now s.args.j f = let s = c in
    c.stands_before.ensures ∙ ap (stands_before s.args.here.now s.args.j) entry_is in
    let d = c in
    let s = c in record {
      entered = skip_entry s.requires.laying s.requires.j_in_bounds own same (subst (λ x. get_or s.args.state.now x 0 ≡ 1) entry_is c.if-state-f-eq1.true)
          (sym before ∙ c.if-stands_before.false);
      else_kept = (λ h d. refl, λ h d. refl);
    }

-- ---- an unskipped entry: its end
pub end_of-q-requires : goal.end_of-q-requires
end_of-q-requires c =
    let f : ℕ = get_or c.args.here.now c.args.j 0 in
    let point : ℕ → Point = let x = c.args in end_at (point_at x.ax.now x.ay.now) (point_at x.bx.now x.by.now) (node_at x.aid.now) x.v in
    let miss : ℕ → Bool = λ x. stray c.args.aid.now c.args.bid.now c.args.v x || differ c.args.home (point x) in
    let asked : c.misses.result ≡ miss f = subst (λ x. c.misses.result ≡ miss x) c.wide-f.ensures c.misses.ensures in
    let right : let s = c in (stray s.args.aid.now s.args.bid.now s.args.v f ≡ false) × (differ s.args.home (point f) ≡ false) = let s = c in
    or_false (stray s.args.aid.now s.args.bid.now s.args.v f) (differ s.args.home (point f))
    (sym asked ∙ c.if-misses.false) in
    let own : let s = c in stray s.args.aid.now s.args.bid.now s.args.v f ≡ false = right.0 in
    let entry_is : c.wide-f.result ≡ f = c.wide-f.ensures in
    let below : c.wide-f.result < length c.args.aid.now = let s = c in subst (λ x. x < length s.args.aid.now) (sym entry_is)
    (below_f s.requires.laying s.requires.j_in_bounds own) in
    let d = c in (below, omega (arith, below, c.requires.laying.few))

pub find_place-place-requires : goal.find_place-place-requires
find_place-place-requires c =
    let f : ℕ = get_or c.args.here.now c.args.j 0 in
    let point : ℕ → Point = let x = c.args in end_at (point_at x.ax.now x.ay.now) (point_at x.bx.now x.by.now) (node_at x.aid.now) x.v in
    let miss : ℕ → Bool = λ x. stray c.args.aid.now c.args.bid.now c.args.v x || differ c.args.home (point x) in
    let asked : c.misses.result ≡ miss f = subst (λ x. c.misses.result ≡ miss x) c.wide-f.ensures c.misses.ensures in
    let right : let s = c in (stray s.args.aid.now s.args.bid.now s.args.v f ≡ false) × (differ s.args.home (point f) ≡ false) = let s = c in
    or_false (stray s.args.aid.now s.args.bid.now s.args.v f) (differ s.args.home (point f))
    (sym asked ∙ c.if-misses.false) in
    let own : let s = c in stray s.args.aid.now s.args.bid.now s.args.v f ≡ false = right.0 in
    let end : ℕ → ℕ = let x = c.args in end_of (links_of x.ax.now x.ay.now x.bx.now x.by.now x.aid.now) x.v in
    let entry_is : c.wide-f.result ≡ f = c.wide-f.ensures in
    let end_is : let s = c in c.end_of-q.result ≡ end f = let d = c in subst (λ x. c.end_of-q.result ≡ end x) entry_is c.end_of-q.ensures in
    let d = c in
    let y = c.requires.laying in
    let i = c.requires.j_in_bounds in
    let o = own in record {
      points = own_points y i o;
      grids = own_grids y i o;
      q_in_bounds = (end_link_below y i o _ end_is, home_grid y i o);
      sought = sought y i o;
    }

pub put_end-requires : goal.put_end-requires
put_end-requires c =
    let f : ℕ = get_or c.args.here.now c.args.j 0 in
    let point : ℕ → Point = let x = c.args in end_at (point_at x.ax.now x.ay.now) (point_at x.bx.now x.by.now) (node_at x.aid.now) x.v in
    let miss : ℕ → Bool = λ x. stray c.args.aid.now c.args.bid.now c.args.v x || differ c.args.home (point x) in
    let asked : c.misses.result ≡ miss f = subst (λ x. c.misses.result ≡ miss x) c.wide-f.ensures c.misses.ensures in
    let right : let s = c in (stray s.args.aid.now s.args.bid.now s.args.v f ≡ false) × (differ s.args.home (point f) ≡ false) = let s = c in
    or_false (stray s.args.aid.now s.args.bid.now s.args.v f) (differ s.args.home (point f))
    (sym asked ∙ c.if-misses.false) in
    let own : let s = c in stray s.args.aid.now s.args.bid.now s.args.v f ≡ false = right.0 in
    let end : ℕ → ℕ = let x = c.args in end_of (links_of x.ax.now x.ay.now x.bx.now x.by.now x.aid.now) x.v in
    let entry_is : c.wide-f.result ≡ f = c.wide-f.ensures in
    let end_is : let s = c in c.end_of-q.result ≡ end f = let d = c in subst (λ x. c.end_of-q.result ≡ end x) entry_is c.end_of-q.ensures in
    let placed : let s = c in let x = s.args in Placed (point_at x.ax.now x.ay.now) (point_at x.bx.now x.by.now) x.home end s.requires.laying.held.links
    c.end_of-q.result c.find_place-place.result = let s = c in
    c.find_place-place.ensures end s.requires.laying.held.links (backed s.requires.laying s.requires.j_in_bounds own) in
    let d = c in
    let u = c in
    let s = c in
    fits_at s.requires.laying s.requires.j_in_bounds own _ end_is d.find_place-place.result placed

pub returns : goal.returns
returns c =
    let f : ℕ = get_or c.args.here.now c.args.j 0 in
    let point : ℕ → Point = let x = c.args in end_at (point_at x.ax.now x.ay.now) (point_at x.bx.now x.by.now) (node_at x.aid.now) x.v in
    let miss : ℕ → Bool = λ x. stray c.args.aid.now c.args.bid.now c.args.v x || differ c.args.home (point x) in
    let asked : c.misses.result ≡ miss f = subst (λ x. c.misses.result ≡ miss x) c.wide-f.ensures c.misses.ensures in
    let right : let s = c in (stray s.args.aid.now s.args.bid.now s.args.v f ≡ false) × (differ s.args.home (point f) ≡ false) = let s = c in
    or_false (stray s.args.aid.now s.args.bid.now s.args.v f) (differ s.args.home (point f))
    (sym asked ∙ c.if-misses.false) in
    let own : let s = c in stray s.args.aid.now s.args.bid.now s.args.v f ≡ false = right.0 in
    let same : let s = c in differ s.args.home (point f) ≡ false = right.1 in
    let entry_is : c.wide-f.result ≡ f = c.wide-f.ensures in
    let end : ℕ → ℕ = let x = c.args in end_of (links_of x.ax.now x.ay.now x.bx.now x.by.now x.aid.now) x.v in
    let end_is : let s = c in c.end_of-q.result ≡ end f = let d = c in subst (λ x. c.end_of-q.result ≡ end x) entry_is c.end_of-q.ensures in
    let placed : let s = c in let x = s.args in Placed (point_at x.ax.now x.ay.now) (point_at x.bx.now x.by.now) x.home end s.requires.laying.held.links
    c.end_of-q.result c.find_place-place.result = let s = c in
    c.find_place-place.ensures end s.requires.laying.held.links (backed s.requires.laying s.requires.j_in_bounds own) in
    let d = c in
    let n = c in
    let u = c in
    let s = c in
    let w = step_at_lem s.requires.laying s.requires.j_in_bounds own _ end_is d.find_place-place.result placed same
    (λ q. n.if-state-f-eq1.false (subst (λ x. get_or s.args.state.now x 0 ≡ 1) (sym entry_is) q)) _
    c.put_end.ensures in record {
      entered = w.entered;
      else_kept = (w.kept_nxt, w.kept_prv);
    }
