-- `lookup`: the three ways out, each by its law; a table that passes check 10 has lists of one length.
use Prim.Native.Nat.{◌<◌}
use native.Mathlib.Omega.{arith}
use lib.ListN.{length}
use mathlib.Core.Path.{sym, ◌∙◌}
use Rattle.table.specs.Passing.{passes_sound}
use Rattle.table.specs.Table.{Table, table_of}
use Rattle.lookup.specs.Promises.{lookup_keeps}
use Rattle.lookup.proofs.Answers.{lookup_past, passed, lookup_refused, lookup_found}
use Rattle.lookup.proofs.lookup.Goals as goal

pub returns-then-contours-contour : goal.returns-then-contours-contour
returns-then-contours-contour c =
    let t_of : Table = table_of c.args.contours in
    lookup_keeps t_of c.args.owner.now c.args.contour _ (lookup_past t_of c.args.owner.now c.args.contour c.if-contours-contour.true)

pub record_at-requires : goal.record_at-requires
record_at-requires c =
    let t_of : Table = table_of c.args.contours in
    let t = t_of in
    let e = sym c.check_table.ensures.2 ∙ passed _ _ c.in_ok-ok.ensures.value in
    let h = (passes_sound t (length c.args.owner.now)).to e in
    let l : c.args.contour < length t.first = c.if-contours-contour.false in
    (l, omega (arith, h.0.len_long), omega (arith, h.0.kind_long), omega (arith, h.1))

pub returns : goal.returns
returns c =
    let t_of : Table = table_of c.args.contours in
    lookup_keeps t_of c.args.owner.now c.args.contour _
    (lookup_found t_of c.args.owner.now c.args.contour _ c.if-contours-contour.false
    (sym (passed _ _ c.in_ok-ok.ensures.value) ∙ c.check_table.ensures.2) c.record_at.ensures)

pub returns-in_err-ok : goal.returns-in_err-ok
returns-in_err-ok c =
    let t_of : Table = table_of c.args.contours in
    lookup_keeps t_of c.args.owner.now c.args.contour _
    (c.from_residual.ensures ∙ lookup_refused t_of c.args.owner.now c.args.contour _ c.in_err-ok.ensures.value c.check_table.ensures.2)
