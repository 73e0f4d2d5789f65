-- `format_shape::shape_of` meets its contract.
use mathlib.Core.Path.{sym}
use Rattle.std.proofs.lemmas.Result.{err_from_is_err_and}
use Rattle.format_shape.specs.Forms.{settings_wrong, settings_long, links_fault, links_inside, links_then}
use Rattle.format_shape.proofs.shape_of.Goals as goal

pub returns-then-not-settings_right : goal.returns-then-not-settings_right
returns-then-not-settings_right c = settings_wrong _ (sym c.if-not-settings_right.ensures)

pub run_at-requires : goal.run_at-requires
run_at-requires c = settings_long _ (sym c.if-not-settings_right.ensures)

pub nodes_after-requires : goal.nodes_after-requires
nodes_after-requires c = links_inside _ (sym c.if-not-settings_right.ensures) c.in_ok-links.links c.in_ok-links.ensures

pub returns-in_err-links : goal.returns-in_err-links
returns-in_err-links c =
    let p = err_from_is_err_and c.from_residual.result c.from_residual.ensures.1 in
    rw (p.1, p.2) (links_fault _ (sym c.if-not-settings_right.ensures) _ c.in_err-links.ensures)

pub returns : goal.returns
returns c = links_then _ (sym c.if-not-settings_right.ensures) c.in_ok-links.links c.in_ok-links.ensures _ c.nodes_after.ensures
