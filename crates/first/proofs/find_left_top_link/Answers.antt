-- `first::find_left_top_link` meets its contract, at a `Cross` and at a `Bridge`.
use native.Mathlib.Omega.{arith}
use mathlib.Core.Path.{◌≡◌, ap}
use mathlib.Core.Bool.{true}
use Prim.Native.Nat.{ℕ, ◌/◌, ◌≤◌, ◌<◌}
use lib.ListN.{length}
use Rattle.next.specs.Next.{is_unvisited}
use Rattle.next.specs.States.{unvisited_below}
use Rattle.rings.specs.Ends.{link_of}
use Rattle.first.proofs.Answers.{small, nxt_read, lead_read, rises, cross_answers, falls, again_answers, other_below, named_below, bridge_answers}
use Rattle.first.proofs.find_left_top_link.Goals as goal

pub overflow_mul-f : goal.overflow_mul-f
overflow_mul-f c =
    let fresh : is_unvisited c.args.state.now c.args.k ≡ true = c.requires.k_value.0 in
    let low : (x : ℕ) → is_unvisited c.args.state.now x ≡ true → c.args.k ≤ x = c.requires.k_value.1 in
    let s = c in omega (arith, small _ _ _ _ _ _ _ s.args.k fresh low s.requires.asked.begun)

pub offset_bounds-nxt-k : goal.offset_bounds-nxt-k
offset_bounds-nxt-k c =
    let fresh : is_unvisited c.args.state.now c.args.k ≡ true = c.requires.k_value.0 in
    let low : (x : ℕ) → is_unvisited c.args.state.now x ≡ true → c.args.k ≤ x = c.requires.k_value.1 in
    let s = c in omega (arith, small _ _ _ _ _ _ _ s.args.k fresh low s.requires.asked.begun)

pub bounds-nxt-k : goal.bounds-nxt-k
bounds-nxt-k c =
    let fresh : is_unvisited c.args.state.now c.args.k ≡ true = c.requires.k_value.0 in
    let low : (x : ℕ) → is_unvisited c.args.state.now x ≡ true → c.args.k ≤ x = c.requires.k_value.1 in
    let s = c in nxt_read _ _ _ _ _ _ _ s.args.k fresh low s.requires.asked.begun

pub next_below-requires : goal.next_below-requires
next_below-requires c =
    let fresh : is_unvisited c.args.state.now c.args.k ≡ true = c.requires.k_value.0 in
    let low : (x : ℕ) → is_unvisited c.args.state.now x ≡ true → c.args.k ≤ x = c.requires.k_value.1 in
    let s = c in
    falls _ _ _ _ _ _ _ s.args.k fresh low c.if-f-ge-CROSS.true _ _ _ c.in-Some.is s.requires.asked

pub returns-in-Some : goal.returns-in-Some
returns-in-Some c =
    let fresh : is_unvisited c.args.state.now c.args.k ≡ true = c.requires.k_value.0 in
    let low : (x : ℕ) → is_unvisited c.args.state.now x ≡ true → c.args.k ≤ x = c.requires.k_value.1 in
    let s = c in let t = c.next_below in
    let r = again_answers s.args.ax.now s.args.ay.now s.args.bx.now s.args.by.now s.args.nxt.now s.args.lead.now s.args.state.now s.args.k fresh low
    c.if-f-ge-CROSS.true s.args.prv.now s.args.held _ c.in-Some.is _ t.ensures.result_value t.ensures.next_below_says in
    record { find_left_top_link_says = r.0; names_unvisited = r.1 }

pub topmost-requires : goal.topmost-requires
topmost-requires c =
    let fresh : is_unvisited c.args.state.now c.args.k ≡ true = c.requires.k_value.0 in
    let low : (x : ℕ) → is_unvisited c.args.state.now x ≡ true → c.args.k ≤ x = c.requires.k_value.1 in
    let s = c in
    (rises _ _ _ _ _ _ _ s.args.k fresh low c.if-f-ge-CROSS.true s.requires.asked.begun, fresh)

pub returns-then-f-ge-CROSS : goal.returns-then-f-ge-CROSS
returns-then-f-ge-CROSS c =
    let fresh : is_unvisited c.args.state.now c.args.k ≡ true = c.requires.k_value.0 in
    let low : (x : ℕ) → is_unvisited c.args.state.now x ≡ true → c.args.k ≤ x = c.requires.k_value.1 in
    let s = c in let t = c.topmost in
    let r = cross_answers s.args.ax.now s.args.ay.now s.args.bx.now s.args.by.now s.args.nxt.now s.args.lead.now s.args.state.now s.args.k fresh low
    c.if-f-ge-CROSS.true s.args.prv.now s.args.held _ t.ensures.result_value
    t.ensures.topmost_says in
    record { find_left_top_link_says = r.0; names_unvisited = r.1 }

pub bounds-lead-k : goal.bounds-lead-k
bounds-lead-k c =
    let fresh : is_unvisited c.args.state.now c.args.k ≡ true = c.requires.k_value.0 in
    let low : (x : ℕ) → is_unvisited c.args.state.now x ≡ true → c.args.k ≤ x = c.requires.k_value.1 in
    let s = c in lead_read _ _ _ _ _ _ _ s.args.k fresh low s.requires.asked.begun

pub leading-named-requires : goal.leading-named-requires
leading-named-requires c =
    let fresh : is_unvisited c.args.state.now c.args.k ≡ true = c.requires.k_value.0 in
    let below : c.args.k < length c.args.state.now = unvisited_below c.args.state.now c.args.k fresh in
    let low : (x : ℕ) → is_unvisited c.args.state.now x ≡ true → c.args.k ≤ x = c.requires.k_value.1 in
    let other : c.wide.result / 2 < length c.args.state.now = let s = c in
    other_below _ _ _ _ _ _ _ s.args.k fresh low c.if-f-ge-CROSS.false _ (ap link_of c.wide.ensures) s.requires.asked.begun in
    let s = c in let l = s.requires.links.ax_long in
    (rw l s.requires.links, rw l below, rw l other)

pub only_unvisited-requires : goal.only_unvisited-requires
only_unvisited-requires c =
    let fresh : is_unvisited c.args.state.now c.args.k ≡ true = c.requires.k_value.0 in
    let low : (x : ℕ) → is_unvisited c.args.state.now x ≡ true → c.args.k ≤ x = c.requires.k_value.1 in
    let below : c.args.k < length c.args.state.now = unvisited_below c.args.state.now c.args.k fresh in
    let d = c in let s = c in
    omega (
      arith,
      below,
      named_below _ _ _ _ _ _ _ s.args.k fresh low d.if-f-ge-CROSS.false _ (ap link_of d.wide.ensures) s.requires.asked.begun _
          c.leading-named.ensures,
    )

pub returns : goal.returns
returns c =
    let fresh : is_unvisited c.args.state.now c.args.k ≡ true = c.requires.k_value.0 in
    let low : (x : ℕ) → is_unvisited c.args.state.now x ≡ true → c.args.k ≤ x = c.requires.k_value.1 in
    let d = c in let s = c in
    let r = bridge_answers s.args.ax.now s.args.ay.now s.args.bx.now s.args.by.now s.args.nxt.now s.args.lead.now s.args.state.now s.args.k fresh low
    d.if-f-ge-CROSS.false _ (ap link_of d.wide.ensures) s.args.prv.now
    s.args.held _ _ c.leading-named.ensures c.only_unvisited.ensures in
    record { find_left_top_link_says = r.0; names_unvisited = r.1 }
