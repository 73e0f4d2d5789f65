-- `contour::note_contour` meets its contract: one walk by rules 2 to 4, then noted by rule 6, or refused.
use Rattle.std.specs.Prelude.{Ok, Err}
use Prim.Native.Nat.{ℕ}
use mathlib.Core.Path.{◌≡◌, refl}
use mathlib.Core.Bool.{not, beq}
use mathlib.Core.List.{List}
use native.Mathlib.Omega.{arith}
use lib.IntN.{ℤ}
use mir.Syntax.{w64}
use mir.Val.{to_z, of_z}
use Rattle.laws.specs.Bounds.{same64}
use Rattle.graph.specs.Graph.{Graph}
use Rattle.rings.specs.Field.{Steers, Reads}
use Rattle.keep.specs.Tables.{Tables, tables}
use Rattle.walk.specs.declared.Finished.{Finished}
use Rattle.walk.specs.Walk.{Walked, walk_from, mark_of}
use Rattle.walk.specs.Code.{WalkLeaves}
use Rattle.contour.proofs.Noting.{marks_of, Finish, finish, stuck_at, stuck_noted, area_within, area_small, counted, to_fits, walk_within}
use Rattle.contour.proofs.Noting.{walk_noted, walk_fewer}
use Rattle.std.proofs.lemmas.Result.{err_from_is_err_and}
use Rattle.contour.proofs.note_contour.Goals as goal

pub find_contour-requires : goal.find_contour-requires
find_contour-requires c =
    let s = c in
    let w = s.requires.s_in_bounds.2 in record {
      steered = s.requires.steered;
      s_in_bounds = (s.requires.s_in_bounds.0, s.requires.s_in_bounds.1, rw c.mark_of.ensures (marks_of s.args.hole));
      state_in_bounds = omega (arith, w.points, w.links, s.requires.roomy.points_room);
    }

pub note_walk-counts-requires : goal.note_walk-counts-requires
note_walk-counts-requires c =
    let st : List ℕ = c.args.state.now in
    let states : List ℕ = c.find_contour.new.state in
    let ended : Finished = c.in_ok-walked.walked in
    let whole : to_z w64 (of_z w64 ended.area) ≡ ended.area = let o = c in let s = c in
    same64 ended.area
    (area_small _ st states s.args.c s.requires.s_in_bounds.2 ended (Ok ended) refl c.in_ok-walked.ensures.counted.0
    c.in_ok-walked.ensures.counted.1 s.requires.roomy.few) in
    let k = c in
    let o = c in
    let s = c in
    let m = s.requires.roomy in
    let e = c.in_ok-walked.ensures.counted in
    let n = counted _ st states s.args.c s.requires.s_in_bounds.2 ended (Ok ended) refl e.0 e.1 in
    let f = to_fits _ st states s.args.c s.requires.s_in_bounds.2 ended (Ok ended) refl e.0 e.1 in record {
      points_le_to = (
        omega (arith, n.0),
        walk_within _ st states s.args.c s.requires.s_in_bounds.2 ended (Ok ended) refl e.0 e.1 m.few,
        rw whole (area_within _ st states s.args.c s.requires.s_in_bounds.2 ended (Ok ended) refl e.0 e.1),
      );
      to_in_bounds = (omega (arith, f, m.first_room), m.len_room, m.kind_room);
    }

pub returns-in_err-walked : goal.returns-in_err-walked
returns-in_err-walked c =
    let t : Tables = tables c.args.points.now c.args.first.now c.args.len.now c.args.kind.now c.args.c in
    let st : List ℕ = c.args.state.now in
    let rule : Graph → Walked = λ g. walk_from g (not (beq c.args.hole c.args.settings.clockwise))
    (beq c.args.hole c.args.settings.clockwise) (mark_of c.args.hole) st c.args.s in
    let Of : Graph → Type 0 = λ g. Steers g c.args.nxt.now c.args.prv.now st
    × Reads g c.args.ax.now c.args.ay.now c.args.bx.now c.args.by.now in
    let states : List ℕ = c.find_contour.new.state in
    let coords : List ℤ = c.find_contour.new.points in
    let left_by_lem : (g : Graph) → Of g → WalkLeaves g c.args.points.now c.args.c.points (rule g) (Err c.in_err-walked.field-0.0) states coords = λ g h. rw
    c.mark_of.ensures at (c.in_err-walked.ensures.find_contour_says g h.0 h.1) in
    let p = err_from_is_err_and c.from_residual.result c.from_residual.ensures.1 in
    let s = c in
    rw (p.1, p.2) (record {
      note_contour_says = λ g h i. stuck_noted g s.args.settings.minimum t s.args.hole s.args.s (rule g) _ _ _ _ _ _ _
          (stuck_at g _ _ _ _ _ (rule g) _ (left_by_lem g (h, i)) refl) refl;
      fewer = tt;
      kept = c.in_err-walked.ensures.kept;
    })

pub returns : goal.returns
returns c =
    let st : List ℕ = c.args.state.now in
    let rule : Graph → Walked = λ g. walk_from g (not (beq c.args.hole c.args.settings.clockwise))
    (beq c.args.hole c.args.settings.clockwise) (mark_of c.args.hole) st c.args.s in
    let states : List ℕ = c.find_contour.new.state in
    let coords : List ℤ = c.find_contour.new.points in
    let ended : Finished = c.in_ok-walked.walked in
    let Of : Graph → Type 0 = λ g. Steers g c.args.nxt.now c.args.prv.now st
    × Reads g c.args.ax.now c.args.ay.now c.args.bx.now c.args.by.now in
    let left_by_lem : (g : Graph) → Of g → WalkLeaves g c.args.points.now c.args.c.points (rule g) (Ok ended) states coords = λ g h. rw
    c.mark_of.ensures at (c.in_ok-walked.ensures.find_contour_says g h.0 h.1) in
    let done : (g : Graph) → Of g → Finish g c.args.points.now c.args.c.points (rule g) ended states coords = λ g h. let o = c in
    finish g c.args.points.now c.args.c.points (Ok ended) states coords
    (rule g) ended (left_by_lem g h) refl in
    let whole : to_z w64 (of_z w64 ended.area) ≡ ended.area = let o = c in let s = c in
    same64 ended.area
    (area_small _ st states s.args.c s.requires.s_in_bounds.2 ended (Ok ended) refl c.in_ok-walked.ensures.counted.0
    c.in_ok-walked.ensures.counted.1 s.requires.roomy.few) in
    let k = c in
    let o = c in
    let s = c in
    let e = c.in_ok-walked.ensures.counted in
    let n = rw whole at c.note_walk-counts.ensures in record {
      note_contour_says = λ g h i. walk_noted _ st states s.args.c s.requires.s_in_bounds.2 ended (Ok ended) refl e.0 e.1
          s.args.settings.minimum s.args.hole s.args.first.now s.args.len.now s.args.kind.now _ _ _ _ n
          g s.args.points.now coords (rule g) (done g (h, i)) s.args.s;
      fewer = walk_fewer _ st states s.args.c s.requires.s_in_bounds.2 ended (Ok ended) refl e.0 e.1
          s.args.settings.minimum s.args.hole s.args.first.now s.args.len.now s.args.kind.now _ _ _ _ n
          s.args.points.now s.args.s;
      kept = c.in_ok-walked.ensures.kept;
    }
