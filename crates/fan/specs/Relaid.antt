-- What is laid from a copy of the list in which the entries of a node of many stand in another order is laid from the list: a ring of the one
-- is a ring of the other.
use Rattle.std.specs.Prelude.{ℕ, ◌≤◌, List, ℤ, length}
use Rattle.std.proofs.Common.{arith, sym, ◌∙◌, subst}
use Rattle.graph.specs.Graph.{lent, graph_of, part}
use Rattle.next.specs.Choice.{Mem}
use Rattle.rings.specs.Field.{LaidCross, AllLaid}
use Rattle.fan.specs.Rearranged.{Rearranged, moved_back, member_before}
use Rattle.fan.specs.Arranged.{Arranged, few_entries}

module _ (ax ay bx by : List ℤ) (a_id b_id state : List ℕ) (v : ℕ) (nxt prv : List ℕ) where
  -- a ring of a node is a ring of any node with the same ends
  laid_alike : (s m t n top : List ℕ) → ((k : ℕ) → Mem k (part s m v) → Mem k (part t n v)) → ((k : ℕ) → Mem k (part t n v) → Mem k (part s m v))
      → LaidCross (graph_of (lent ax ay bx by a_id b_id s m) top) state v nxt prv → LaidCross (graph_of (lent ax ay bx by a_id b_id t n) top) state v nxt prv
  laid_alike s m t n top to from c = record {
    links = c.links;
    ring = record {
      sorted = c.ring.sorted;
      only = λ k i. let o = c.ring.only k i in record { listed = to k o.listed; unskipped = o.unskipped };
      every = λ k o. c.ring.every k (record { listed = from k o.listed; unskipped = o.unskipped });
    };
    linked = record { next = c.linked.next; back = c.linked.back };
    marked = c.marked;
    last = c.last;
  }

  pub laid_again : (start list copy top : List ℕ) → Rearranged (part start list v) (part start copy v)
      → LaidCross (graph_of (lent ax ay bx by a_id b_id start copy) top) state v nxt prv
      → LaidCross (graph_of (lent ax ay bx by a_id b_id start list) top) state v nxt prv
  laid_again start list copy top r = laid_alike start copy start list top (λ k. member_before r) (λ k. member_before (moved_back r))

-- all nodes: a `Bridge` has few entries, which stand in the copy as they come
pub all_laid_again : (ax ay bx by : List ℤ) (a_id b_id start list copy state nxt prv lead : List ℕ) → Arranged start list copy
    → AllLaid (lent ax ay bx by a_id b_id start copy) state nxt prv lead → AllLaid (lent ax ay bx by a_id b_id start list) state nxt prv lead
all_laid_again ax ay bx by a_id b_id start list copy state nxt prv lead c laid top v l = record {
  bridge = λ x y e.
      let few : length (part start list v) ≤ few_entries = subst (λ (p : List ℕ). length p ≤ few_entries) (sym e) (omega arith) in
      let b = (laid top v l).bridge x y (c.few v l few ∙ e) in
      record { onto = b.onto; back = b.back; leads = b.leads };
  cross = λ n. laid_again ax ay bx by a_id b_id state v nxt prv start list copy top (c.each v l) ((laid top v l).cross (λ e. n (sym (c.each v l).len ∙ e)));
}
