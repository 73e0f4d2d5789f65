-- `bind`: what the checks tell, and the places fit 32 bits.
use Rattle.std.specs.Prelude.{Err}
use Rattle.std.proofs.lemmas.Result.{err_from_is_err_and}
use mathlib.Core.Path.{sym, ap, ◌∙◌}
use lib.ListN.{length}
use Rattle.table.specs.Table.{Table, table_of}
use Rattle.bind.proofs.Places.{place_fits}
use Rattle.bind.proofs.Whole.{checks, bound_fine, bound_at}
use Rattle.bind.proofs.bind.Goals as goal

pub bind_sound-requires : goal.bind_sound-requires
bind_sound-requires c =
    let t : Table = table_of c.args.contours in
    let s = c in
    let k = checks t (length s.args.owner.now) s.args.clockwise (sym c.check.ensures ∙ c.in_ok-check.was) in (k.sound, k.anchored, k.room)

pub returns : goal.returns
returns c =
    let t : Table = table_of c.args.contours in
    let s = c in
    let e = bound_fine t s.args.clockwise s.args.owner.now _ (sym c.check.ensures ∙ c.in_ok-check.was) c.bind_sound.ensures in
    record { bind_says = e; place_fits = place_fits t s.args.clockwise s.args.owner.now _ _ e }

pub returns-in_err-check : goal.returns-in_err-check
returns-in_err-check c =
    let t : Table = table_of c.args.contours in
    let s = c in
    let p = err_from_is_err_and c.from_residual.result c.from_residual.ensures.1 in
    let e = bound_at t s.args.clockwise s.args.owner.now _ (sym c.check.ensures ∙ c.in_err-check.was) _ (p.1 ∙ ap Err p.2) in
    record { bind_says = e; place_fits = place_fits t s.args.clockwise s.args.owner.now _ _ e }
