-- The loops that list every point's contour and the next point round it, and the edge that they give.
use Prim.Native.Nat.{ℕ, ◌+◌, ◌-◌, ◌≤◌, ◌<◌}
use mathlib.Core.Path.{◌≡◌, ◌∙◌, sym}
use mathlib.Core.List.{List}
use native.Mathlib.Omega.{arith}
use lib.ListN.{length, get_or, set, replicate, length-replicate, get_or-replicate}
use lib.Lanes.{put_chunk}
use borrow.Rule.Slice.PartMut.{mid_of, put_mid, mid_len}
use Rattle.std.proofs.lemmas.Simd.{length-put_chunk, put_chunk_is, get_or-put_chunk_below, get_or-put_chunk_at, get_or-put_chunk_above}
use native.Mathlib.Nat.{not-suc-le-zero}
use native.Mathlib.Decide.{ℕ_discrete}
use lib.Dec.{ltb}
use borrow.Author.Tests.{lt-ltb, le-ltb}
use Rattle.laws.specs.Lists.{put_below}
use Rattle.laws.specs.Test.{pick}
use Rattle.table.specs.Table.{Table, first_of, range_end, contour_of, next_in, next}
use Rattle.table.specs.TableChecks.{start_in}
use Rattle.table.specs.TableLaws.{start_next}
use Rattle.table.specs.Passing.{apart, contour_is}
use Rattle.table.specs.Fronts.{KeptFrom, kept_all, kept_set, kept_less, kept_then}
use Rattle.candidates.specs.EdgeLists.{Ranges, ranges, ContourListed, Round, RoundInto}

-- ---- the loop of `list_contour`: the old list below `from`, the rule from there on
pub record Listing (from to : ℕ) (next₀ next : List ℕ) (k : ℕ) : Type 0 where
  pub is : (i : ℕ) → i < k → get_or next i 0 ≡ pick (ltb i from) (get_or next₀ i 0) (next_in from to i)
  pub kept : KeptFrom 0 k next₀ next

pub listing_start : (from to : ℕ) (next : List ℕ) → Listing from to next next from
listing_start from to next = record { is = λ i l. rw (lt-ltb i from l); kept = kept_all 0 from next }

pub listing_more : (from to : ℕ) (next₀ next : List ℕ) (k : ℕ) → Listing from to next₀ next k → (r : ℕ) → from ≤ k → k < length next₀
    → r ≡ next_in from to k → Listing from to next₀ (set next k r) (k + 1)
listing_more from to next₀ next k l r f n e = record {
  is = put_below 0 (λ i. pick (ltb i from) (get_or next₀ i 0) (next_in from to i)) next k r (omega (arith, l.kept.len)) (e ∙ rw (le-ltb k from f)) l.is;
  kept = kept_set 0 k next₀ next l.kept r;
}

-- ---- the whole of `list_contour`: its number in the places from..to, and the loop's list
module _ (c from to : ℕ) (of cs : List ℕ) (f : from ≤ to) (h : to ≤ length of) (e : cs ≡ replicate (length (mid_of from (to - from) of)) c) where
  abbrev of' : List ℕ
  of' = put_mid from (to - from) of cs

  abbrev alike : List ℕ
  alike = replicate (to - from) c

  long : length alike ≡ to - from
  long = length-replicate (to - from) c

  placed : of' ≡ put_chunk from of alike
  placed = rw (e, mid_len from to of h) (sym (rw long at (put_chunk_is {A = ℕ} from of alike (omega (arith, long)))))

  filled_in : (i : ℕ) → from ≤ i → i < to → get_or of' i 0 ≡ c
  filled_in i j m =
      let q : from + (i - from) ≡ i = omega arith in
      rw placed (rw q at (get_or-put_chunk_at {X = ℕ} from of alike (i - from) 0 (omega (arith, long)) (omega (arith, long))))
      ∙ get_or-replicate (to - from) (i - from) c 0 (omega arith)

  pub listing_end : (next₀ next : List ℕ) → Listing from to next₀ next to → ContourListed c from to next₀ of next of'
  listing_end next₀ next l = record {
    of_below = λ i j. rw placed (get_or-put_chunk_below from of alike i 0 j);
    of_in = filled_in;
    of_kept = record {
      len = rw placed (length-put_chunk from of alike);
      rest = λ i j. rw placed (get_or-put_chunk_above from of alike i 0 (omega (arith, long)));
    };
    next_below = λ i j. l.is i (omega arith) ∙ rw (lt-ltb i from j);
    next_in_lem = λ i j m. l.is i m ∙ rw (le-ltb i from j);
    next_kept = l.kept;
  }

-- ---- the loop of `list_edges`
module _ (first len : List ℕ) (r : Ranges first len) where
  abbrev t : Table
  t = ranges first len

  at_home : (c k : ℕ) → c < length first → first_of t c ≤ k → k < range_end t c → contour_of t k ≡ c
  at_home c k h f e = contour_is t r.follow k c (record { below = h; from = f; to = e })

  pub round_start : (next of : List ℕ) → Round t 0 next of
  round_start next of = record { of_is = λ b k l. absurd (not-suc-le-zero l); next_is = λ b k l. absurd (not-suc-le-zero l) }

  pub round_more : (c : ℕ) (next₀ of₀ next₁ of₁ : List ℕ) → c < length first → Round t c next₀ of₀
      → ContourListed c (first_of t c) (range_end t c) next₀ of₀ next₁ of₁ → Round t (c + 1) next₁ of₁
  round_more c next₀ of₀ next₁ of₁ h o n = record {
    of_is = λ b k l f e. at_of b k l f e (ℕ_discrete b c);
    next_is = λ b k l f e. at_next b k l f e (ℕ_discrete b c);
  }
    where
      at_of : (b k : ℕ) → b < c + 1 → first_of t b ≤ k → k < range_end t b → Dec (b ≡ c) → get_or of₁ k 0 ≡ contour_of t k
      at_of b k l f e (yes q) =
          let f' : first_of t c ≤ k = rw q at f in let e' : k < range_end t c = rw q at e in
          n.of_in k f' e' ∙ sym (at_home c k h f' e')
      at_of b k l f e (no q) = n.of_below k (omega (arith, apart t r.follow c b h (omega arith))) ∙ o.of_is b k (omega arith) f e

      at_next : (b k : ℕ) → b < c + 1 → first_of t b ≤ k → k < range_end t b → Dec (b ≡ c) → get_or next₁ k 0 ≡ next t (contour_of t k) k
      at_next b k l f e (yes q) =
          let f' : first_of t c ≤ k = rw q at f in let e' : k < range_end t c = rw q at e in
          n.next_in_lem k f' e' ∙ rw (at_home c k h f' e')
      at_next b k l f e (no q) = n.next_below k (omega (arith, apart t r.follow c b h (omega arith))) ∙ o.next_is b k (omega arith) f e

  pub rounds_start : (next of : List ℕ) → RoundInto first len 0 next of next of
  rounds_start next of = record { round = round_start next of; next_kept = kept_all 0 _ next; of_kept = kept_all 0 _ of }

  pub rounds_more : (c : ℕ) (next of next₀ of₀ next₁ of₁ : List ℕ) → c < length first → RoundInto first len c next of next₀ of₀
      → ContourListed c (first_of t c) (range_end t c) next₀ of₀ next₁ of₁ → RoundInto first len (c + 1) next of next₁ of₁
  rounds_more c next of next₀ of₀ next₁ of₁ h o n = record {
    round = round_more c next₀ of₀ next₁ of₁ h o.round n;
    next_kept = further next next₀ next₁ o.next_kept n.next_kept;
    of_kept = further of of₀ of₁ o.of_kept n.of_kept;
  }
    where
      further : (old mid new : List ℕ) → KeptFrom 0 (start_in first len c) old mid → KeptFrom 0 (range_end t c) mid new
          → KeptFrom 0 (start_in first len (c + 1)) old new
      further old mid new a b =
          rw (start_next first len c)
          (kept_then 0 (range_end t c) old mid new (kept_less 0 (start_in first len c) old mid a (range_end t c) (omega (arith, r.follow c h))) b)
