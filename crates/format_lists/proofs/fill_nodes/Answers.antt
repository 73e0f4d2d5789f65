-- `format_lists::fill_nodes` meets its contract.
use Rattle.std.proofs.Common.{arith}
use Rattle.format_lists.proofs.Nodes.{noding_here, noding_next, noding_starts, noding_list}
use Rattle.format_lists.proofs.fill_nodes.Goals as goal

pub u32_at-len-requires : goal.u32_at-len-requires
u32_at-len-requires c = let h = noding_here c.loop-first.invariant (omega arith) in omega arith

pub overflow_add-at : goal.overflow_add-at
overflow_add-at c = let h = noding_here c.loop-first.invariant (omega arith) in omega arith

pub fill_u16-requires : goal.fill_u16-requires
fill_u16-requires c =
    let h = noding_here c.loop-first.invariant (omega arith) in (omega arith, λ k l. omega arith, omega arith)

pub overflow_add-at-in-loop-first-2 : goal.overflow_add-at-in-loop-first-2
overflow_add-at-in-loop-first-2 c = let h = noding_here c.loop-first.invariant (omega arith) in omega arith

pub overflow_add-e : goal.overflow_add-e
overflow_add-e c = let h = noding_here c.loop-first.invariant (omega arith) in omega arith

pub loop-first-preserved : goal.loop-first-preserved
loop-first-preserved c =
    noding_next c.loop-first.invariant (omega arith) c.requires.1 _ c.u32_at-len.ensures _ c.fill_u16.ensures c.fill_u16.auto.out

pub returns : goal.returns
returns c =
    let done = c.loop-first.invariant in (
      noding_starts done (omega arith) _ c.requires.0,
      noding_list done (omega arith),
    )
