-- What checks that find nothing tell the checks after them.
use Rattle.std.specs.Prelude.{ℕ, ◌-◌, ◌≤◌, ◌<◌, ◌≡◌, true, false, List, length, get_or}
use Rattle.laws.specs.Test.{or_false}
use Rattle.laws.specs.Lowest.{some, none_of}
use Rattle.laws.specs.Fails.{some_fails}
use Rattle.turn.specs.Limits.{max_links}
use Rattle.turn.specs.Points.{before}
use Rattle.graph.specs.Graph.{Lent, link_count, node_count, part}
use Rattle.graph.specs.Checks.{Room, a_of, b_of, bad_starts, stray_at, missed, bad_nodes, links_checked}
use Rattle.graph.specs.Passes.{Rising}
use Rattle.graph.specs.Known.{Points, Grids, Ids, Entries}
use Rattle.graph.specs.Tests.{rising, no_stray}
use Rattle.graph.specs.Exact.{by_links}
use Rattle.turn.specs.Refusals.{no_fault}

-- 1 to 4: few links, lists of one length, points on the grid, a before b, ids of nodes
pub record LinksTold (g : Lent) (state : List ℕ) : Type 0 where
  pub few : link_count g ≤ max_links
  pub points : Points g.ax g.ay g.bx g.by (link_count g)
  pub grids : Grids g.ax g.ay g.bx g.by (link_count g)
  pub strict : (k : ℕ) → k < link_count g → before (a_of g k) (b_of g k) ≡ true
  pub states : length state ≡ link_count g
  pub ids : Ids g.a_id g.b_id (node_count g)
  pub starts : 1 ≤ length g.start

pub links_told : (g : Lent) (top state : List ℕ) (r : Room) → links_checked g top state r ≡ no_fault → LinksTold g state
links_told g top state r e =
    let h = (by_links g top state r).to e in
    let even = h.1.0.0.0.0.0 in
    let link = h.1.1.0 in
    record {
      few = h.0;
      points = record { ax_long = even.ax; ay_long = even.ay; bx_long = even.bx; by_long = even.by };
      grids = record { a_grid = λ k l. (link k l).0.0.0.0; b_grid = λ k l. (link k l).0.0.0.1 };
      strict = λ k l. (link k l).0.0.1;
      states = h.1.0.0.1.1;
      ids = record {
        same = even.b_id;
        a_below = λ k l. (link k l).0.1.0.0;
        b_below = λ k l. (link k l).0.1.0.1;
        two = λ k l. (link k l).0.1.1;
      };
      starts = h.1.0.0.0.0.1;
    }

-- 5: the starts and the entries
module _ (a_id b_id start list : List ℕ) where
  pub entries_known : bad_nodes a_id b_id start list ≡ false → Entries start list (length a_id)
  entries_known h v l i k =
      let s = (or_false (bad_starts start list) (some (stray_at a_id b_id start list) (length start - 1))
      (or_false _ (some (missed a_id b_id start list) (length a_id)) h).0).1 in
      let t = none_of (stray_at a_id b_id start list) (length start - 1) s v l in
      ((some_fails (length (part start list v)) (λ j. no_stray a_id b_id v (get_or (part start list v) j 0))).to t i k).below

  pub starts_known : bad_nodes a_id b_id start list ≡ false → 1 ≤ length start → Rising start list
  starts_known h l =
      (rising start list l).to (or_false (bad_starts start list) (some (stray_at a_id b_id start list) (length start - 1))
      (or_false _ (some (missed a_id b_id start list) (length a_id)) h).0).0
