-- `format::read_graph` meets its contract.
use mathlib.Core.Path.{refl}
use native.Mathlib.Nat.{le_trans}
use native.Mathlib.Omega.{arith}
use Rattle.std.proofs.lemmas.Result.{err_from_is_err_and}
use Rattle.format_shape.specs.Forms.{formed}
use Rattle.format.specs.File.{file_lists}
use Rattle.format.specs.ReadLists.{file_long, links_fit, links_few, nodes_few, nodes_fit, read_right, read_wrong}
use Rattle.format.proofs.read_graph.Goals as goal

pub fill_links-requires : goal.fill_links-requires
fill_links-requires c =
    let s = c in
    let f = formed _ _ _ _ c.in_ok-links.ensures in
    let r = s.requires in
    let few = links_few _ _ _ _ f in record {
      n_in_bounds = links_fit _ _ _ _ f;
      link_room = record {
        ax = le_trans few r.ax;
        ay = le_trans few r.ay;
        bx = le_trans few r.bx;
        by = le_trans few r.by;
        a_id = le_trans few r.a_id;
        b_id = le_trans few r.b_id;
        top = le_trans few r.top;
        state = le_trans few r.state;
      };
    }

pub overflow_mul-links : goal.overflow_mul-links
overflow_mul-links c =
    let f = formed _ _ _ _ c.in_ok-links.ensures in omega (arith, links_few _ _ _ _ f)

pub overflow_add-links : goal.overflow_add-links
overflow_add-links c =
    let f = formed _ _ _ _ c.in_ok-links.ensures in omega (arith, links_few _ _ _ _ f)

pub fill_nodes-requires : goal.fill_nodes-requires
fill_nodes-requires c =
    let s = c in
    let f = formed _ _ _ _ c.in_ok-links.ensures in (
      omega (
        arith,
        nodes_few _ _ _ _ f,
        s.requires.start,
      ),
      s.requires.list,
      nodes_fit _ _ _ _ f,
    )

pub bounds-s-6 : goal.bounds-s-6
bounds-s-6 c =
    let f = formed _ _ _ _ c.in_ok-links.ensures in omega (arith, file_long _ _ _ _ f)

pub u64_at-requires : goal.u64_at-requires
u64_at-requires c =
    let f = formed _ _ _ _ c.in_ok-links.ensures in omega (arith, file_long _ _ _ _ f)

pub returns-in_err-links : goal.returns-in_err-links
returns-in_err-links c =
    let p = err_from_is_err_and c.from_residual.result c.from_residual.ensures.1 in
    let b = file_lists c.args.ax.now c.args.ay.now c.args.bx.now c.args.by.now c.args.a_id.now c.args.b_id.now c.args.top.now c.args.state.now
    c.args.start.now c.args.list.now in
    rw (p.1, p.2) (read_wrong c.args.s.now _ b c.in_err-links.ensures)

pub returns : goal.returns
returns c =
    let f = formed _ _ _ _ c.in_ok-links.ensures in
    read_right _ _ _ _ f _ _ _ _ _ _ refl c.u64_at.ensures c.fill_links.ensures c.fill_nodes.ensures.0 c.fill_nodes.ensures.1
