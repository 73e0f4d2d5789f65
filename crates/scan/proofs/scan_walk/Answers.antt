-- `scan::scan_walk` meets its contract: the first link that rule 1 names, then its walk.
use Rattle.std.specs.Prelude.{Some, None}
use mathlib.Core.Path.{◌≡◌, refl, sym, ◌∙◌}
use native.Mathlib.Omega.{arith}
use Rattle.std.proofs.lemmas.Result.{err_from_is_err_and}
use Rattle.turn.specs.declared.Reason.TheVariants.{NoNextLink}
use Rattle.keep.specs.Tables.{Tables, tables}
use Rattle.walk.specs.Marks.{kept_none}
use Rattle.scan.specs.Fields.{steered}
use Rattle.scan.specs.Held.{resumes, asked}
use Rattle.scan.proofs.Noting.{first_nothing, first_link_lem}
use Rattle.scan.proofs.scan_walk.Goals as goal

pub find_left_top_link-named-requires : goal.find_left_top_link-named-requires
find_left_top_link-named-requires c =
    let s = c in record {
      asked = asked s.requires.k_value.0 s.requires.standing;
      links = s.requires.links.0;
      k_value = (s.requires.k_value.0, s.requires.k_value.1);
    }

pub bounds-top-s : goal.bounds-top-s
bounds-top-s c =
    let q : c.find_left_top_link-named.result ≡ Some c.in_ok-s.s = grind arith in
    let ok = rw q at c.find_left_top_link-named.ensures.names_unvisited in
    rw c.requires.links.1 ok.0

pub note_contour-requires : goal.note_contour-requires
note_contour-requires c =
    let q : c.find_left_top_link-named.result ≡ Some c.in_ok-s.s = grind arith in
    let ok = rw q at c.find_left_top_link-named.ensures.names_unvisited in
    let s = c in record {
      steered = (steered s.requires.standing.fielded, s.requires.links.0);
      roomy = s.requires.roomy;
      s_in_bounds = (ok.0, ok.1, s.requires.k_value.2);
    }

pub returns-in_err-s : goal.returns-in_err-s
returns-in_err-s c =
    let t : Tables = tables c.args.points.now c.args.first.now c.args.len.now c.args.kind.now c.args.c in
    let p = err_from_is_err_and c.from_residual.result c.from_residual.ensures.1 in
    let n : c.find_left_top_link-named.result ≡ None = grind arith in
    let e : c.in_err-s.field-0.0 ≡ NoNextLink = grind arith in
    let s = c in
    rw (p.1, p.2, e) (record {
      scan_walk_says = λ g h d. first_nothing g s.args.settings.clockwise s.args.settings.minimum t s.args.state.now _ _ _ _ _ _ _
          (sym n ∙ c.find_left_top_link-named.ensures.find_left_top_link_says g h.firsts h.reads (resumes s.requires.k_value.0 h d)) refl;
      fewer = tt;
      kept = kept_none _;
    })

pub returns : goal.returns
returns c =
    let t : Tables = tables c.args.points.now c.args.first.now c.args.len.now c.args.kind.now c.args.c in
    let q : c.find_left_top_link-named.result ≡ Some c.in_ok-s.s = grind arith in
    let s = c in
    let o = c in record {
      scan_walk_says = λ g h d. first_link_lem g s.args.settings.clockwise s.args.settings.minimum t s.args.state.now _ _ _ _ _ _ _ _ _
          (sym q ∙ c.find_left_top_link-named.ensures.find_left_top_link_says g h.firsts h.reads (resumes s.requires.k_value.0 h d))
          (h.tops c.in_ok-s.s) (o.note_contour.ensures.note_contour_says g h.steers h.reads);
      fewer = o.note_contour.ensures.fewer;
      kept = o.note_contour.ensures.kept;
    }
