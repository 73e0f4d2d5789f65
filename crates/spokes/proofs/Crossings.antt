-- All entries of a `Cross` are taken, one after the other: what is known before each, and at the end.
use Rattle.std.specs.Prelude.{Option, Some, None}
use Prim.Native.Nat.{ℕ, ◌+◌, ◌*◌, ◌≤◌, ◌<◌, zero-le}
use native.Mathlib.Nat.{not-suc-le-zero}
use native.Mathlib.Omega.{arith}
use mathlib.Core.Path.{◌≡◌, refl, sym, ◌∙◌, subst}
use mathlib.Core.Logic.{⊎_elim}
use mathlib.Core.Bool.{Bool, true, false, ◌||◌}
use mathlib.Core.List.Memᴰ
use mathlib.Core.List.{List, []}
use lib.Dec.{leb}
use lib.IntN.{ℤ}
use lib.ListN.{length, get_or, take}
use lib.Seq.{take_all}
use borrow.Author.Count.{below_none}
use borrow.Author.Tests.{le-leb}
use Rattle.laws.specs.Test.{pick, pick_true, pick_false, true≢false, or_false, or_true}
use Rattle.laws.specs.Lowest.{some, NoneBelow, some_yes, some_no, none_of}
use Rattle.turn.specs.declared.Point.{Point}
use Rattle.turn.specs.Limits.{max_links}
use Rattle.graph.specs.Graph.{lent, graph_of, point_at, part}
use Rattle.graph.specs.Checks.{node_at, end_at, stray, stray_in}
use Rattle.graph.specs.Quick.{clash_at}
use Rattle.graph.specs.Known.{Points, Grids, Runs}
use Rattle.spokes.specs.Links.{links_of}
use Rattle.next.specs.Choice.{Mem}
use Rattle.rings.specs.Making.{none_taken}
use Rattle.rings.specs.Field.{LaidCross, ElseKept}
use Rattle.hoop.specs.declared.Hoop.{Hoop}
use Rattle.spokes.specs.Entries.{wrong_at, Laying, Entered}

-- ---- the answer, by the entries
module _ (ax ay bx by : List ℤ) (aid bid state here : List ℕ) (v : ℕ) where
  abbrev clash : ℕ → Bool
  clash = clash_at (point_at ax ay) (point_at bx by) (node_at aid) state here v

  abbrev pub answer : Bool
  answer = pick (stray_in aid bid here v) true (some clash (length here))

  -- the first entry is no link
  pub answer_no_link : 0 < length here → length aid ≤ get_or here 0 0 → true ≡ answer
  answer_no_link n h = sym (pick_true _ _ (some_yes (λ i. stray aid bid v (get_or here i 0)) (length here) 0 n
      (below_none (λ i. stray aid bid v (get_or here i 0) ≡ false)) (or_true_first (leb (length aid) (get_or here 0 0)) _ (le-leb _ _ h))))
    where
      or_true_first : (x y : Bool) → x ≡ true → x || y ≡ true
      or_true_first x y e = rw e

  -- entry j is wrong, and none before it
  pub answer_wrong : (j : ℕ) → j < length here → NoneBelow (wrong_at ax ay bx by aid bid state here v) j → wrong_at ax ay bx by aid bid state here v j ≡ true
      → true ≡ answer
  answer_wrong j h clear e = tell (stray_in aid bid here v) refl
    where
      tell : (b : Bool) → stray_in aid bid here v ≡ b → true ≡ pick b true (some clash (length here))
      tell true q = refl
      tell false q = sym (some_yes clash (length here) j h (λ i k. (or_false (stray aid bid v (get_or here i 0)) (clash i) (clear i k)).1)
          (⊎_elim (λ s. absurd (true≢false s (none_of (λ i. stray aid bid v (get_or here i 0)) (length here) q j h))) (λ c. c)
          (or_true (stray aid bid v (get_or here j 0)) (clash j) e)))

  -- none is
  pub answer_right : NoneBelow (wrong_at ax ay bx by aid bid state here v) (length here) → false ≡ answer
  answer_right clear = sym (pick_false _ _ (some_no (λ i. stray aid bid v (get_or here i 0)) (length here) (λ i h. (split i h).0))
      ∙ some_no clash (length here) (λ i h. (split i h).1))
    where
      split : (i : ℕ) → i < length here → (stray aid bid v (get_or here i 0) ≡ false) × (clash i ≡ false)
      split i h = or_false (stray aid bid v (get_or here i 0)) (clash i) (clear i h)

-- ---- what is known before each entry
-- written in two steps
pub kept_twice : (aid bid : List ℕ) (v : ℕ) (old mid new : List ℕ) → ElseKept aid bid v old mid → ElseKept aid bid v mid new → ElseKept aid bid v old new
kept_twice aid bid v old mid new k m h d = m h d ∙ k h d

pub record Crossing (ax ay bx by : List ℤ) (aid bid state here : List ℕ) (v : ℕ) (home : Point) (nxt₀ prv₀ nxt prv : List ℕ) (hoop : Hoop) (j : ℕ) :
    Type 0 where
  pub within : j ≤ length here
  pub laying : Laying ax ay bx by aid bid state here v home nxt prv j hoop
  pub nxt_len : length nxt ≡ length nxt₀
  pub prv_len : length prv ≡ length prv₀
  pub kept_nxt : ElseKept aid bid v nxt₀ nxt
  pub kept_prv : ElseKept aid bid v prv₀ prv

module _ {ax ay bx by : List ℤ} {aid bid state here : List ℕ} {v : ℕ} {home : Point} where
  pub cross_start : (nxt prv : List ℕ) → Points ax ay bx by (length aid) → Grids ax ay bx by (length aid) → length state ≡ length aid
      → Runs ax ay bx by aid bid → (length aid ≤ max_links) × (2 * length aid ≤ length nxt) × (2 * length aid ≤ length prv)
      → get_or here 0 0 < length aid → home ≡ end_at (point_at ax ay) (point_at bx by) (node_at aid) v (get_or here 0 0)
      → Crossing ax ay bx by aid bid state here v home nxt prv nxt prv (record { head = 0; tail = 0; count = 0 }) 0
  cross_start nxt prv p gr s r n b e = record {
    within = zero-le;
    laying = record {
      points = p;
      grids = gr;
      strict = r.strict;
      same = r.same;
      states = s;
      few = n.0;
      nxt_long = n.1;
      prv_long = n.2;
      first_below = b;
      home_is = e;
      clear = below_none (λ k. wrong_at ax ay bx by aid bid state here v k ≡ false);
      held = record {
        links = [];
        stood = record {
          ring = none_taken (links_of ax ay bx by aid) state v;
          linked = record { next = tt; back = tt };
          marked = λ k m. absurd (Memᴰ.not-nil m);
          last = tt;
        };
        told = record { counted = refl; headed = λ h. absurd (not-suc-le-zero h); tailed = λ h. absurd (not-suc-le-zero h) };
      };
    };
    nxt_len = refl;
    prv_len = refl;
    kept_nxt = λ h d. refl;
    kept_prv = λ h d. refl;
  }

  module _ {nxt₀ prv₀ nxt prv : List ℕ} {hoop : Hoop} {j : ℕ} (c : Crossing ax ay bx by aid bid state here v home nxt₀ prv₀ nxt prv hoop j) where
    -- an entry has been taken
    pub cross_more : (nxt' prv' : List ℕ) (hoop' : Hoop) → j < length here → length nxt' ≡ length nxt → length prv' ≡ length prv
        → (t : Option Hoop) → t ≡ Some hoop' → Entered ax ay bx by aid bid state here v home nxt' prv' j t
        → ElseKept aid bid v nxt nxt' → ElseKept aid bid v prv prv'
        → Crossing ax ay bx by aid bid state here v home nxt₀ prv₀ nxt' prv' hoop' (j + 1)
    cross_more nxt' prv' hoop' h n p t is y kn kp = record {
      within = omega arith;
      laying = subst (Entered ax ay bx by aid bid state here v home nxt' prv' j) is y;
      nxt_len = n ∙ c.nxt_len;
      prv_len = p ∙ c.prv_len;
      kept_nxt = kept_twice aid bid v nxt₀ nxt nxt' c.kept_nxt kn;
      kept_prv = kept_twice aid bid v prv₀ prv prv' c.kept_prv kp;
    }

    -- something is wrong with an entry
    pub cross_wrong : (nxt' prv' : List ℕ) → j < length here → (t : Option Hoop) → t ≡ None
        → Entered ax ay bx by aid bid state here v home nxt' prv' j t → true ≡ answer ax ay bx by aid bid state here v
    cross_wrong nxt' prv' h t is e =
        answer_wrong ax ay bx by aid bid state here v j h c.laying.clear (subst (Entered ax ay bx by aid bid state here v home nxt' prv' j) is e)

    -- all have been taken
    module _ (end : length here ≤ j) where
      pub cross_right : false ≡ answer ax ay bx by aid bid state here v
      cross_right = answer_right ax ay bx by aid bid state here v (λ k h. c.laying.clear k (omega arith))

      pub cross_laid : (start list top : List ℕ) → part start list v ≡ here
          → LaidCross (graph_of (lent ax ay bx by aid bid start list) top) state v nxt prv
      cross_laid start list top e =
          let h = c.laying.held in
          let t : take j here ≡ here = take_all j here end in
          record {
            links = h.links;
            ring = record {
              sorted = h.stood.ring.sorted;
              only = λ k m. let o = h.stood.ring.only k m in
                  record { listed = subst (Mem k) (t ∙ sym e) o.0; unskipped = o.1 };
              every = λ k s. h.stood.ring.every k (subst (Mem k) (e ∙ sym t) s.listed) s.unskipped;
            };
            linked = record { next = h.stood.linked.next; back = h.stood.linked.back };
            marked = h.stood.marked;
            last = h.stood.last;
          }
