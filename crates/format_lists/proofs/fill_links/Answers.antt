-- `format::fill_links` meets its contract.
use Rattle.format_lists.proofs.SameColumns.{same_columns}
use native.Mathlib.Omega.{arith}
use Rattle.format_lists.proofs.fill_links.Goals as goal

pub fill_u8-requires : goal.fill_u8-requires
fill_u8-requires c =
    let s = c in
    omega (arith, s.requires.n_in_bounds, s.requires.link_room.top)

pub fill_u8-requires-2 : goal.fill_u8-requires-2
fill_u8-requires-2 c =
    let s = c in
    omega (arith, s.requires.n_in_bounds, s.requires.link_room.state)

pub returns : goal.returns
returns c =
    same_columns c.fill_i32.ensures c.fill_i32-2.ensures c.fill_i32-3.ensures c.fill_i32-4.ensures c.fill_u16.ensures
    c.fill_u16-2.ensures
    c.fill_u8.ensures
    c.fill_u8-2.ensures
