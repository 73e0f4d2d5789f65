-- `walk::find_contour` meets its contract: the first link is marked, the last one is fixed, and the walk goes on.
use Rattle.std.specs.Prelude.{Some, None}
use Prim.Native.Nat.{ℕ, suc, ◌≤◌, ◌<◌}
use mathlib.Core.Path.{◌≡◌, refl, sym, ◌∙◌, subst}
use mathlib.Core.Bool.{not}
use mathlib.Core.List.{List}
use native.Mathlib.Omega.{arith}
use lib.ListN.{length, set, length-set}
use Rattle.turn.specs.Limits.{max_links}
use Rattle.turn.specs.Points.{OnGrid}
use Rattle.next.specs.Next.{unvisited}
use Rattle.rings.specs.Ends.{link_of}
use Rattle.rings.specs.Field.{Steered}
use Rattle.walk.proofs.Starts.{end_number_at, end_arrived, summed_none, begin_is, starts_nowhere, starts_on, counted_on, sized_on}
use Rattle.walk.proofs.Steps.{start_on}
use Rattle.walk.specs.Code.{Kept}
use Rattle.walk.specs.Later.{kept_later, steers_later, steered_later}
use Rattle.walk.specs.Marks.{kept_mark, kept_then, fewer}
use Rattle.std.proofs.lemmas.Result.{err_from_is_err_and}
use Rattle.turn.specs.declared.Reason.TheVariants.{NoNextLink}
use Rattle.walk.proofs.find_contour.Goals as goal

pub start_point-begin-requires : goal.start_point-begin-requires
start_point-begin-requires c =
    let st : List ℕ = c.args.state.now in
    let ahead_there : link_of c.end_number-ahead.result < length st = let s = c in
    subst (λ k. k < length st) (sym (end_number_at s.args.s (not s.args.course.forward) _ c.end_number-ahead.ensures))
    s.requires.s_in_bounds.0 in
    let l = c.requires.steered.1 in let h = ahead_there in
    (rw l.ax_long h, rw l.ay_long h, rw l.bx_long h, rw l.by_long h)

pub put_point-requires : goal.put_point-requires
put_point-requires c =
    let st : List ℕ = c.args.state.now in
    let marked : List ℕ = set st c.args.s c.args.course.mark in
    let less : unvisited st ≡ suc (unvisited marked) = fewer st c.args.s c.args.course.mark c.requires.s_in_bounds.2 c.requires.s_in_bounds.1 in
    let s = c in omega (arith, s.requires.state_in_bounds, less)

pub next_end-requires : goal.next_end-requires
next_end-requires c =
    let st : List ℕ = c.args.state.now in
    let marked : List ℕ = set st c.args.s c.args.course.mark in
    let mark_kept : Kept st marked = kept_mark st c.args.s c.args.course.mark c.requires.s_in_bounds.2 c.requires.s_in_bounds.1 in
    let steered : Steered c.args.nxt.now c.args.prv.now marked = steered_later c.requires.steered.0 (kept_later mark_kept) in
    let p = c in let s = c in (
      steered,
      end_arrived st s.args.s _ s.args.course.forward _ c.end_number-home.ensures
          s.requires.s_in_bounds.0 s.requires.s_in_bounds.2,
    )

pub overflow_add-w : goal.overflow_add-w
overflow_add-w c =
    let st : List ℕ = c.args.state.now in
    let marked : List ℕ = set st c.args.s c.args.course.mark in
    let less : unvisited st ≡ suc (unvisited marked) = fewer st c.args.s c.args.course.mark c.requires.s_in_bounds.2 c.requires.s_in_bounds.1 in
    let s = c in
    omega (arith, s.requires.state_in_bounds, less)

pub walk_on-requires : goal.walk_on-requires
walk_on-requires c =
    let st : List ℕ = c.args.state.now in
    let marked : List ℕ = set st c.args.s c.args.course.mark in
    let less : unvisited st ≡ suc (unvisited marked) = fewer st c.args.s c.args.course.mark c.requires.s_in_bounds.2 c.requires.s_in_bounds.1 in
    let mark_kept : Kept st marked = kept_mark st c.args.s c.args.course.mark c.requires.s_in_bounds.2 c.requires.s_in_bounds.1 in
    let few : length marked ≤ max_links = let d = c.requires.steered.0.steers in omega (arith, d.few, d.size, length-set st c.args.s c.args.course.mark) in
    let steered : Steered c.args.nxt.now c.args.prv.now marked = steered_later c.requires.steered.0 (kept_later mark_kept) in
    let ahead_there : link_of c.end_number-ahead.result < length st = let s = c in
    subst (λ k. k < length st) (sym (end_number_at s.args.s (not s.args.course.forward) _ c.end_number-ahead.ensures))
    s.requires.s_in_bounds.0 in
    let on : OnGrid c.start_point-begin.result = rw c.start_point-begin.ensures (start_on c.requires.steered.1 _ ahead_there) in
    let p = c in let s = c in record {
      steered = (steered, rw mark_kept.len s.requires.steered.1);
      arrived = (
        end_arrived st s.args.s _ (not s.args.course.forward) _ c.end_number-ahead.ensures s.requires.s_in_bounds.0
            s.requires.s_in_bounds.2,
        s.requires.s_in_bounds.2,
        on,
        summed_none marked few,
      );
      on_grid = (on, omega (arith, s.requires.state_in_bounds, less));
    }

pub returns-in_err-back : goal.returns-in_err-back
returns-in_err-back c =
    let st : List ℕ = c.args.state.now in
    let marked : List ℕ = set st c.args.s c.args.course.mark in
    let mark_kept : Kept st marked = kept_mark st c.args.s c.args.course.mark c.requires.s_in_bounds.2 c.requires.s_in_bounds.1 in
    let p = err_from_is_err_and c.from_residual.result c.from_residual.ensures.1 in
    let n : c.next_end.result ≡ None = grind arith in
    let e : c.in_err-back.field-0.0 ≡ NoNextLink = grind arith in
    let s = c in let a = s.args in
    rw (p.1, p.2, e) (record {
      find_contour_says = λ g d e. starts_nowhere g a.course.forward a.course.sense a.course.mark st a.s a.points.now a.at _ _ _ _
          c.end_number-home.ensures
          (rw n at c.next_end.ensures.next_end_says g (steers_later d (kept_later mark_kept))) refl;
      counted = (tt, tt);
      kept = mark_kept;
    })

pub returns : goal.returns
returns c =
    let st : List ℕ = c.args.state.now in
    let marked : List ℕ = set st c.args.s c.args.course.mark in
    let less : unvisited st ≡ suc (unvisited marked) = fewer st c.args.s c.args.course.mark c.requires.s_in_bounds.2 c.requires.s_in_bounds.1 in
    let mark_kept : Kept st marked = kept_mark st c.args.s c.args.course.mark c.requires.s_in_bounds.2 c.requires.s_in_bounds.1 in
    let w = c in let n = c in let p = c in
    let q : c.next_end.result ≡ Some c.in_ok-back.back = grind arith in
    let s = c in let a = s.args in let o = w.walk_on in record {
      find_contour_says = λ g d e.
          let f = steers_later d (kept_later mark_kept) in
          starts_on g a.course.forward a.course.sense a.course.mark st a.s a.points.now a.at _ _ _ _
          c.end_number-home.ensures _ _ _ _
          (rw q at c.next_end.ensures.next_end_says g f)
          c.end_number-ahead.ensures
          (c.start_point-begin.ensures ∙ begin_is e a.s a.course.forward _ c.end_number-ahead.ensures)
          c.put_point.ensures (o.ensures.rest_leaves g f e);
      counted = (
        counted_on a.at st marked c.walk_on.new.state o.result less o.ensures.counted.0,
        sized_on c.end_number-ahead.result a.at c.start_point-begin.result o.result o.ensures.counted.1,
      );
      kept = kept_then mark_kept o.ensures.kept;
    }
