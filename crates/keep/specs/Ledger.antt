-- The running tables that the code keeps come to what is read off the walks: points, contour table and counts of the kept walks, and zeros past them.
use Rattle.std.specs.Prelude.{ℕ, suc, ◌+◌, ◌*◌, ◌-◌, ◌≤◌, ◌<◌, ◌≡◌, refl, Bool, true, false, List, [], ◌∷◌, ◌++◌, map, length, set, take, drop, replicate}
use Rattle.std.specs.Prelude.{ℤ, pos, ◌+ℤ◌, leb}
use Rattle.std.proofs.Common.{arith, add-one, sym, ap, ap₂, ◌∙◌, subst, append-nil, append_assoc, length-set, length-append, length-drop, take-suc-set}
use Rattle.std.proofs.Common.{take_at, length-take-le, leb-true}
use Rattle.std.proofs.lemmas.List.{length-map, take-set-le}
use Rattle.std.proofs.lemmas.List.Edits.{sets, sets-eq}
use Rattle.std.proofs.Math.Seq.{length-sets}
use Rattle.std.proofs.Math.IntN.{+ℤ_idl, +ℤ_idr, +ℤ_assoc}
use Rattle.laws.specs.Test.{pick, and_true}
use Rattle.laws.specs.Lists.{map_from, map_const, padded}
use Rattle.turn.specs.declared.Point.{Point}
use Rattle.turn.specs.Area.{points_of}
use Rattle.turn.specs.Size.{is_kept}
use Rattle.graph.specs.Graph.{Graph}
use Rattle.walk.specs.Walk.{Walk, points, left}
use Rattle.keep.specs.Outcome.{area_of, kept, rejected, lens, firsts, kinds, all_points, coordinates, sum, total, areas, counts_of}
use Rattle.leave.specs.Points.{put}
use Rattle.walk.specs.Code.{paste}
use Rattle.keep.specs.Tables.{Tables, tables, enter_kept, enter_rejected, with_points, all_noted, no_counts}

-- ---- points that are pasted
pub coordinates_length : (l : List Point) → length (coordinates l) ≡ length l * 2
coordinates_length [] = refl
coordinates_length (p ∷ l) = omega (arith, coordinates_length l)

pub coordinates_append : (k l : List Point) → coordinates (k ++ l) ≡ coordinates k ++ coordinates l
coordinates_append [] l = refl
coordinates_append (p ∷ k) l = ap (λ r. p.x ∷ (p.y ∷ r)) (coordinates_append k l)

pub points_back : (l : List Point) → points_of (coordinates l) ≡ l
points_back [] = refl
points_back (p ∷ l) = ap (λ (r : List Point). p ∷ r) (points_back l)

paste_sets : (pts : List ℤ) (at : ℕ) (l : List Point) → paste pts at l ≡ sets pts (at * 2) (coordinates l)
paste_sets pts at [] = refl
paste_sets pts at (p ∷ l) =
    let e : at * 2 + 1 ≡ suc (at * 2) = add-one (at * 2) in
    let f : (at + 1) * 2 ≡ suc (suc (at * 2)) = omega arith in
    paste_sets (put pts at p) (at + 1) l ∙ ap₂ (λ i j. sets (set (set pts (at * 2) p.x) i p.y) j (coordinates l)) e f

pub paste_length : (pts : List ℤ) (at : ℕ) (l : List Point) → length (paste pts at l) ≡ length pts
paste_length pts at l = ap length (paste_sets pts at l) ∙ length-sets pts (at * 2) (coordinates l)

module _ (pts : List ℤ) (at : ℕ) (l : List Point) (room : (at + length l) * 2 ≤ length pts) where
  paste_is : paste pts at l ≡ take (at * 2) pts ++ coordinates l ++ drop (at * 2 + length (coordinates l)) pts
  paste_is = paste_sets pts at l ∙ sets-eq (coordinates l) pts (at * 2) (omega (arith, coordinates_length l))

  front : length (take (at * 2) pts) ≡ at * 2
  front = length-take-le (at * 2) pts (omega arith)

  -- and the points follow it
  pub paste_take : take ((at + length l) * 2) (paste pts at l) ≡ take (at * 2) pts ++ coordinates l
  paste_take = rw paste_is (take_at (take (at * 2) pts ++ coordinates l) _ ((at + length l) * 2) long)
    where
      long : length (take (at * 2) pts ++ coordinates l) ≡ (at + length l) * 2
      long = omega (arith, length-append (take (at * 2) pts) (coordinates l), front, coordinates_length l)

-- a list of which only what stands past index n is pasted over keeps its first n
pub paste_past : (pts : List ℤ) (at : ℕ) (l : List Point) → take (at * 2) (paste pts at l) ≡ take (at * 2) pts
paste_past pts at l = ap (take (at * 2)) (paste_sets pts at l) ∙ past pts (at * 2) (coordinates l) (at * 2) (omega arith)
  where
    past : (r : List ℤ) (i : ℕ) (vs : List ℤ) (n : ℕ) → n ≤ i → take n (sets r i vs) ≡ take n r
    past r i [] n h = refl
    past r i (v ∷ vs) n h = past (set r i v) (suc i) vs n (omega arith) ∙ take-set-le n r i v h

-- ---- the tables after some walks
pub kept_three : (n : ℕ) (a : ℤ) (m : ℕ) → is_kept n a m ≡ true → 3 ≤ n
kept_three n a m e = leb-true 3 n (and_true (leb 3 n) _ e).0

-- what the tables t are after the walks ws, of which ks are kept and rs are rejected
pub record Entered (g : Graph) (t : Tables) (ks rs ws : List Walk) (t' : Tables) : Type 0 where
  pub contours : t'.counts.contours ≡ t.counts.contours + length ks
  pub count : t'.counts.points ≡ t.counts.points + sum (lens ks)
  pub rejects : t'.counts.rejected ≡ t.counts.rejected + length rs
  pub walked : t'.counts.walked ≡ t.counts.walked + sum (lens ws)
  pub left_out_lem : t'.counts.left_out ≡ t.counts.left_out
  pub kept_total : t'.counts.kept_area ≡ t.counts.kept_area +ℤ total (areas g ks)
  pub rejected_total : t'.counts.rejected_area ≡ t.counts.rejected_area +ℤ total (areas g rs)
  pub points_are : take (t'.counts.points * 2) t'.points ≡ take (t.counts.points * 2) t.points ++ coordinates (all_points g ks)
  pub first_are : take t'.counts.contours t'.first ≡ take t.counts.contours t.first ++ firsts t.counts.points (lens ks)
  pub len_are : take t'.counts.contours t'.len ≡ take t.counts.contours t.len ++ lens ks
  pub kind_are : take t'.counts.contours t'.kind ≡ take t.counts.contours t.kind ++ kinds ks
  pub points_length : length t'.points ≡ length t.points
  pub first_length : length t'.first ≡ length t.first
  pub len_length : length t'.len ≡ length t.len
  pub kind_length : length t'.kind ≡ length t.kind

-- room for the walks ws after the tables t
pub record Fits (t : Tables) (ws : List Walk) : Type 0 where
  pub points_fit : (t.counts.points + sum (lens ws)) * 2 ≤ length t.points
  pub threes : t.counts.contours * 3 ≤ t.counts.points
  pub first_fit : t.counts.points + sum (lens ws) ≤ length t.first * 3 + 2
  pub len_fit : length t.len ≡ length t.first
  pub kind_fit : length t.kind ≡ length t.first

add_zero' : (n : ℕ) → n ≡ n + 0
add_zero' n = omega arith

none_entered : (g : Graph) (t : Tables) → Entered g t [] [] [] t
none_entered g t = record {
  contours = add_zero' t.counts.contours;
  count = add_zero' t.counts.points;
  rejects = add_zero' t.counts.rejected;
  walked = add_zero' t.counts.walked;
  left_out_lem = refl;
  kept_total = sym (+ℤ_idr t.counts.kept_area);
  rejected_total = sym (+ℤ_idr t.counts.rejected_area);
  points_are = sym (append-nil (take (t.counts.points * 2) t.points));
  first_are = sym (append-nil (take t.counts.contours t.first));
  len_are = sym (append-nil (take t.counts.contours t.len));
  kind_are = sym (append-nil (take t.counts.contours t.kind));
  points_length = refl;
  first_length = refl;
  len_length = refl;
  kind_length = refl;
}

-- one contour more, then the others
module _ (g : Graph) (minimum : ℕ) (t : Tables) (w : Walk) (ks rs ws : List Walk) where
  abbrev size : ℕ
  size = length w.steps

  abbrev pasted : Tables
  pasted = with_points t (paste t.points t.counts.points (points g w))

  points_many : length (points g w) ≡ size
  points_many = length-map w.steps (left g)

  one_more : {A : Type 0} (l : List A) (i : ℕ) (a : A) → i < length l → take (i + 1) (set l i a) ≡ take i l ++ (a ∷ [])
  one_more l i a h = rw (add-one i) (take-suc-set l i a h)

  kept_entered : (t' : Tables) → is_kept size (area_of g w) minimum ≡ true → Fits t (w ∷ ws)
      → Entered g (enter_kept w.hole size (area_of g w) pasted) ks rs ws t' → Entered g t (w ∷ ks) rs (w ∷ ws) t'
  kept_entered t' e f h =
      let three : 3 ≤ size = kept_three size (area_of g w) minimum e in
      let n : length (points g w) ≡ size = points_many in
      let i : t.counts.contours < length t.first = omega (arith, three, f.threes, f.first_fit) in
      let room : (t.counts.points + length (points g w)) * 2 ≤ length t.points = omega (arith, n, f.points_fit) in
      let p : take ((t.counts.points + size) * 2) (paste t.points t.counts.points (points g w))
      ≡ take (t.counts.points * 2) t.points ++ coordinates (points g w) =
      subst (λ k. take ((t.counts.points + k) * 2) (paste t.points t.counts.points (points g w))
      ≡ take (t.counts.points * 2) t.points ++ coordinates (points g w)) n
      (paste_take t.points t.counts.points (points g w) room) in
      record {
        contours = omega (arith, h.contours);
        count = omega (arith, h.count);
        rejects = h.rejects;
        walked = omega (arith, h.walked);
        left_out_lem = h.left_out_lem;
        kept_total = h.kept_total ∙ +ℤ_assoc t.counts.kept_area (area_of g w) _;
        rejected_total = h.rejected_total;
        points_are =
            h.points_are ∙ ap (λ (r : List ℤ). r ++ coordinates (all_points g ks)) p ∙ append_assoc (take (t.counts.points * 2) t.points)
            (coordinates (points g w)) (coordinates (all_points g ks))
            ∙ ap (λ (r : List ℤ). take (t.counts.points * 2) t.points ++ r) (sym (coordinates_append (points g w) (all_points g ks)));
        first_are =
            h.first_are ∙ ap (λ (r : List ℕ). r ++ firsts (t.counts.points + size) (lens ks)) (one_more t.first t.counts.contours _ i)
            ∙ append_assoc (take t.counts.contours t.first) _ _;
        len_are =
            h.len_are ∙ ap (λ (r : List ℕ). r ++ lens ks) (one_more t.len t.counts.contours _ (rw f.len_fit i))
            ∙ append_assoc (take t.counts.contours t.len) _ _;
        kind_are =
            h.kind_are ∙ ap (λ (r : List ℕ). r ++ kinds ks) (one_more t.kind t.counts.contours _ (rw f.kind_fit i))
            ∙ append_assoc (take t.counts.contours t.kind) _ _;
        points_length = h.points_length ∙ paste_length t.points t.counts.points (points g w);
        first_length = h.first_length ∙ length-set t.first _ _;
        len_length = h.len_length ∙ length-set t.len _ _;
        kind_length = h.kind_length ∙ length-set t.kind _ _;
      }

  rejected_entered : (t' : Tables) → Entered g (enter_rejected size (area_of g w) pasted) ks rs ws t' → Entered g t ks (w ∷ rs) (w ∷ ws) t'
  rejected_entered t' h = record {
    contours = h.contours;
    count = h.count;
    rejects = omega (arith, h.rejects);
    walked = omega (arith, h.walked);
    left_out_lem = h.left_out_lem;
    kept_total = h.kept_total;
    rejected_total = h.rejected_total ∙ +ℤ_assoc t.counts.rejected_area (area_of g w) _;
    points_are = h.points_are ∙ ap (λ (r : List ℤ). r ++ coordinates (all_points g ks)) (paste_past t.points t.counts.points (points g w));
    first_are = h.first_are;
    len_are = h.len_are;
    kind_are = h.kind_are;
    points_length = h.points_length ∙ paste_length t.points t.counts.points (points g w);
    first_length = h.first_length;
    len_length = h.len_length;
    kind_length = h.kind_length;
  }

  kept_fits : is_kept size (area_of g w) minimum ≡ true → Fits t (w ∷ ws) → Fits (enter_kept w.hole size (area_of g w) pasted) ws
  kept_fits e f =
      let three : 3 ≤ size = kept_three size (area_of g w) minimum e in
      record {
        points_fit = rw (paste_length t.points t.counts.points (points g w)) (omega (arith, f.points_fit));
        threes = omega (arith, three, f.threes);
        first_fit = rw (length-set t.first t.counts.contours t.counts.points) (omega (arith, f.first_fit));
        len_fit = length-set t.len _ _ ∙ f.len_fit ∙ sym (length-set t.first _ _);
        kind_fit = length-set t.kind _ _ ∙ f.kind_fit ∙ sym (length-set t.first _ _);
      }

  rejected_fits : Fits t (w ∷ ws) → Fits (enter_rejected size (area_of g w) pasted) ws
  rejected_fits f = record {
    points_fit = rw (paste_length t.points t.counts.points (points g w)) (omega (arith, f.points_fit));
    threes = f.threes;
    first_fit = omega (arith, f.first_fit);
    len_fit = f.len_fit;
    kind_fit = f.kind_fit;
  }

by_size : (g : Graph) (minimum : ℕ) (t : Tables) (w : Walk) (ws : List Walk)
    → ((t' : Tables) → Fits t' ws → Entered g t' (kept g minimum ws) (rejected g minimum ws) ws (all_noted g minimum t' ws))
    → Fits t (w ∷ ws) → (b : Bool) → is_kept (length w.steps) (area_of g w) minimum ≡ b
    → Entered g t (pick b (w ∷ kept g minimum ws) (kept g minimum ws)) (pick b (rejected g minimum ws) (w ∷ rejected g minimum ws)) (w ∷ ws)
    (all_noted g minimum (pick b (enter_kept w.hole (length w.steps) (area_of g w) (with_points t (paste t.points t.counts.points (points g w))))
    (enter_rejected (length w.steps) (area_of g w) (with_points t (paste t.points t.counts.points (points g w))))) ws)
by_size g minimum t w ws h f true e = kept_entered g minimum t w _ _ ws _ e f (h _ (kept_fits g minimum t w [] [] ws e f))
by_size g minimum t w ws h f false e = rejected_entered g minimum t w _ _ ws _ (h _ (rejected_fits g minimum t w [] [] ws f))

pub entered : (g : Graph) (minimum : ℕ) (t : Tables) (ws : List Walk) → Fits t ws → Entered g t (kept g minimum ws) (rejected g minimum ws) ws
    (all_noted g minimum t ws)
entered g minimum t [] f = none_entered g t
entered g minimum t (w ∷ ws) f = by_size g minimum t w ws (λ t'. entered g minimum t' ws) f (is_kept (length w.steps) (area_of g w) minimum) refl

-- ---- from nothing, with zeros past what was written
module _ {A : Type 0} (z : A) where
  pub padded_is : (k : ℕ) (l r : List A) (n : ℕ) → take k l ≡ r → length r ≡ k → length l ≡ n → map_from (λ _. z) k l ≡ padded z r n
  padded_is k l r n e h m =
      ap (λ (q : List A). q ++ map (λ _. z) (drop k l)) e
      ∙ ap (λ (q : List A). r ++ q) (map_const z (drop k l) ∙ ap (λ i. replicate i z) (length-drop k l ∙ ap₂ ◌-◌ m (sym h)))

pub firsts_length : (at : ℕ) (ns : List ℕ) → length (firsts at ns) ≡ length ns
firsts_length at [] = refl
firsts_length at (n ∷ ns) = ap suc (firsts_length (at + n) ns)

pub all_points_length : (g : Graph) (ws : List Walk) → length (all_points g ws) ≡ sum (lens ws)
all_points_length g [] = refl
all_points_length g (w ∷ ws) = length-append (points g w) (all_points g ws) ∙ ap₂ ◌+◌ (length-map w.steps (left g)) (all_points_length g ws)

-- what the scan's tables come to
pub record Finished (g : Graph) (minimum : ℕ) (ws : List Walk) (pts : List ℤ) (first len kind : List ℕ) (t : Tables) : Type 0 where
  pub counts_are : t.counts ≡ counts_of g minimum ws
  pub points_are : map_from (λ _. pos 0) (t.counts.points * 2) t.points ≡ padded (pos 0) (coordinates (all_points g (kept g minimum ws))) (length pts)
  pub first_are : map_from (λ _. 0) t.counts.contours t.first ≡ padded 0 (firsts 0 (lens (kept g minimum ws))) (length first)
  pub len_are : map_from (λ _. 0) t.counts.contours t.len ≡ padded 0 (lens (kept g minimum ws)) (length len)
  pub kind_are : map_from (λ _. 0) t.counts.contours t.kind ≡ padded 0 (kinds (kept g minimum ws)) (length kind)

module _ (g : Graph) (minimum : ℕ) (ws : List Walk) (pts : List ℤ) (first len kind : List ℕ) (f : Fits (tables pts first len kind no_counts) ws) where
  abbrev ks : List Walk
  ks = kept g minimum ws

  abbrev t : Tables
  t = all_noted g minimum (tables pts first len kind no_counts) ws

  abbrev h : Entered g (tables pts first len kind no_counts) ks (rejected g minimum ws) ws t
  h = entered g minimum (tables pts first len kind no_counts) ws f

  nought : (n : ℕ) → 0 + n ≡ n
  nought n = omega arith

  pub finished : Finished g minimum ws pts first len kind t
  finished =
      let contours : t.counts.contours ≡ length ks = h.contours ∙ nought (length ks) in
      let count : t.counts.points ≡ sum (lens ks) = h.count ∙ nought (sum (lens ks)) in
      let rejects : t.counts.rejected ≡ length (rejected g minimum ws) = h.rejects ∙ nought (length (rejected g minimum ws)) in
      let walked : t.counts.walked ≡ sum (lens ws) = h.walked ∙ nought (sum (lens ws)) in
      let kept_total : t.counts.kept_area ≡ total (areas g ks) = h.kept_total ∙ +ℤ_idl (total (areas g ks)) in
      let rejected_total : t.counts.rejected_area ≡ total (areas g (rejected g minimum ws)) = h.rejected_total
      ∙ +ℤ_idl (total (areas g (rejected g minimum ws))) in
      let many : length (lens ks) ≡ length ks = length-map ks (λ w. length w.steps) in
      record {
        counts_are =
            λ i. record {
              contours = contours i;
              points = count i;
              rejected = rejects i;
              walked = walked i;
              left_out = h.left_out_lem i;
              kept_area = kept_total i;
              rejected_area = rejected_total i;
            };
        points_are =
            padded_is (pos 0) (t.counts.points * 2) t.points (coordinates (all_points g ks)) (length pts) h.points_are
            (coordinates_length (all_points g ks) ∙ ap (λ n. n * 2) (all_points_length g ks ∙ sym count)) h.points_length;
        first_are =
            padded_is 0 t.counts.contours t.first (firsts 0 (lens ks)) (length first) h.first_are
            (firsts_length 0 (lens ks) ∙ many ∙ sym contours) h.first_length;
        len_are = padded_is 0 t.counts.contours t.len (lens ks) (length len) h.len_are (many ∙ sym contours) h.len_length;
        kind_are =
            padded_is 0 t.counts.contours t.kind (kinds ks) (length kind) h.kind_are
            (length-map ks (λ w. pick w.hole 1 0) ∙ sym contours) h.kind_length;
      }
