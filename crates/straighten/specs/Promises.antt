-- What each public function promises, written once: its contract names it, and any two outcomes that it allows are equal.
use Rattle.std.specs.Prelude.{ℕ, ◌*◌, List, ◌≡◌, ℤ, pos}
use Rattle.std.proofs.lemmas.List.Edits.{sets}
use Rattle.laws.specs.Lists.{map_from}
use Rattle.laws.specs.Unique.{same_part}
use Rattle.turn.specs.declared.Point.{Point}
use Rattle.walk.specs.Code.{paste}
use Rattle.keep.specs.declared.Counts.{Counts}
use Rattle.keep.specs.Outcome.{firsts, sum}
use Rattle.straighten.specs.Runs.{contours_of, corners_of, sizes, joined}

-- the counts with another number of points
abbrev pub with_points : Counts → ℕ → Counts
with_points c n = record {
  contours = c.contours;
  points = n;
  rejected = c.rejected;
  walked = c.walked;
  left_out = c.left_out;
  kept_area = c.kept_area;
  rejected_area = c.rejected_area;
}

-- points, first and len with the counts
pub record Straightened : Type 0 where
  pub counts : Counts
  pub points : List ℤ
  pub first : List ℕ
  pub len : List ℕ

-- contours written in the place of others
abbrev pub rewritten : List ℤ → List ℕ → List ℕ → Counts → List (List Point) → Straightened
rewritten points first len c cs = record {
  counts = with_points c (sum (sizes cs));
  points = map_from (λ _. pos 0) (sum (sizes cs) * 2) (paste points 0 (joined cs));
  first = sets first 0 (firsts 0 (sizes cs));
  len = sets len 0 (sizes cs);
}

abbrev pub DropStraightSays : List ℤ → List ℕ → List ℕ → Counts → Counts → List ℤ → List ℕ → List ℕ → Type 0
DropStraightSays points first len c r points' first' len' = ◌≡◌ {A = Straightened} (record { counts = r; points = points'; first = first'; len = len' })
    (rewritten points first len c (corners_of (contours_of points len c.contours)))

pub drop_straight_once : (points : List ℤ) (first len : List ℕ) (c r s : Counts) (p q : List ℤ) (f g l k : List ℕ)
    → DropStraightSays points first len c r p f l → DropStraightSays points first len c s q g k → (r ≡ s) × (p ≡ q) × (f ≡ g) × (l ≡ k)
drop_straight_once points first len c r s p q f g l k x y = (
  same_part (λ (o : Straightened). o.counts) x y,
  same_part (λ (o : Straightened). o.points) x y,
  same_part (λ (o : Straightened). o.first) x y,
  same_part (λ (o : Straightened). o.len) x y,
)
