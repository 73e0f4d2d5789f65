-- `sweep::scan_links` meets its contract. The invariant: what the scan leaves from here it leaves from the loop's start,
-- and no link below k is unvisited (`Scanning`).
-- The measure falls where link k is passed and where a walk marks links: the links left and the unvisited ones together.
use Rattle.std.specs.Prelude.{Ok, Err}
use Prim.Native.Nat.{◌<◌}
use mathlib.Core.Path.{refl, sym, ◌∙◌}
use native.Mathlib.Omega.{arith}
use lib.ListN.{length}
use Rattle.graph.specs.Graph.{Graph}
use Rattle.rings.specs.Field.{Field}
use Rattle.next.specs.Next.{unvisited}
use Rattle.next.specs.States.{read_unvisited, read_shut}
use Rattle.sweep.proofs.Scans.{scan_moves, scan_refused, scan_again, scan_over, lowest_here, none_yet}
use Rattle.contour.specs.Notes.{Roomy, within_less}
use Rattle.scan.specs.Fields.{field_later}
use Rattle.walk.specs.Marks.{kept_then}
use Rattle.walk.specs.Later.{kept_later}
use Rattle.sweep.proofs.scan_links.Goals as goal

pub loop-k-init : goal.loop-k-init
loop-k-init c =
    let Of : Graph → Type 0 = λ g. Field g c.args.ax.now c.args.ay.now c.args.bx.now c.args.by.now c.args.top.now c.args.nxt.now
    c.args.prv.now c.args.lead.now c.args.state.now in
    let s = c in
    rw c.no_counts-c.ensures
    (none_yet Of s.args.settings.clockwise s.args.settings.minimum s.args.state.now s.args.points.now s.args.first.now
    s.args.len.now s.args.kind.now)

pub bounds-state-k : goal.bounds-state-k
bounds-state-k c =
    let in_states : c.loop-k.k < length c.args.state.now → c.loop-k.k < length c.loop-k.state = λ h. rw c.loop-k.invariant.kept.len h in
    in_states c.loop-k-test.true

pub loop-k-smaller-then-state-k-ne0 : goal.loop-k-smaller-then-state-k-ne0
loop-k-smaller-then-state-k-ne0 c = let t = c.loop-k-test.true in omega arith

pub loop-k-preserved-then-state-k-ne0 : goal.loop-k-preserved-then-state-k-ne0
loop-k-preserved-then-state-k-ne0 c =
    let Of : Graph → Type 0 = λ g. Field g c.args.ax.now c.args.ay.now c.args.bx.now c.args.by.now c.args.top.now c.args.nxt.now
    c.args.prv.now c.args.lead.now c.args.state.now in
    let in_states : c.loop-k.k < length c.args.state.now → c.loop-k.k < length c.loop-k.state = λ h. rw c.loop-k.invariant.kept.len h in
    let l = c in
    let s = c in
    let t = c.loop-k-test.true in
    scan_moves Of s.args.settings.clockwise s.args.settings.minimum _ _ _ _ _ _ l.loop-k.k l.loop-k.held l.loop-k.c
    l.loop-k.state l.loop-k.points l.loop-k.first l.loop-k.len l.loop-k.kind l.loop-k.invariant t
    (read_shut l.loop-k.state l.loop-k.k (in_states t) c.if-state-k-ne0.true)

pub scan_walk-requires : goal.scan_walk-requires
scan_walk-requires c =
    let Of : Graph → Type 0 = λ g. Field g c.args.ax.now c.args.ay.now c.args.bx.now c.args.by.now c.args.top.now c.args.nxt.now
    c.args.prv.now c.args.lead.now c.args.state.now in
    let in_states : c.loop-k.k < length c.args.state.now → c.loop-k.k < length c.loop-k.state = λ h. rw c.loop-k.invariant.kept.len h in
    let roomy : Roomy (length c.loop-k.state) (length c.loop-k.points) (length c.loop-k.first) (length c.loop-k.len) (length c.loop-k.kind) = let i =
    c.loop-k.invariant in
    rw (i.kept.len, i.points_length, i.first_length, i.len_length, i.kind_length) c.requires.roomy in
    let l = c in
    let s = c in
    let i = l.loop-k.invariant in record {
      standing = record {
        fielded = record { graph = s.requires.fielded.graph; field = field_later s.requires.fielded.field (kept_later i.kept) };
        holds = i.holds s.requires.fielded.graph s.requires.fielded.field;
      };
      links = (rw i.kept.len s.requires.links.0, s.requires.links.1 ∙ sym i.kept.len);
      roomy = roomy;
      k_value = (
        read_unvisited l.loop-k.state l.loop-k.k (in_states c.loop-k-test.true)
            c.if-state-k-ne0.false,
        lowest_here Of s.args.settings.clockwise s.args.settings.minimum _ _ _ _ _ _ l.loop-k.k l.loop-k.held l.loop-k.c
            l.loop-k.state l.loop-k.points l.loop-k.first l.loop-k.len l.loop-k.kind i,
        rw i.kept.len i.within,
      );
    }

pub returns-in-Err : goal.returns-in-Err
returns-in-Err c =
    let Of : Graph → Type 0 = λ g. Field g c.args.ax.now c.args.ay.now c.args.bx.now c.args.by.now c.args.top.now c.args.nxt.now
    c.args.prv.now c.args.lead.now c.args.state.now in
    let in_states : c.loop-k.k < length c.args.state.now → c.loop-k.k < length c.loop-k.state = λ h. rw c.loop-k.invariant.kept.len h in
    let o = c in
    let l = c in
    let s = c in
    let t = o.loop-k-test.true in
    let i = l.loop-k.invariant in record {
      scan_links_says = λ g h. scan_refused Of s.args.settings.clockwise s.args.settings.minimum _ _ _ _ _ _ l.loop-k.k l.loop-k.held l.loop-k.c
          l.loop-k.state l.loop-k.points l.loop-k.first l.loop-k.len l.loop-k.kind i t
          (read_unvisited l.loop-k.state l.loop-k.k (in_states t) o.if-state-k-ne0.false) _ _ _ _ _ g h (Err c.in-Err.reason) c.in-Err.reason
          refl (c.in-Err.ensures.scan_walk_says g (field_later h (kept_later i.kept)) (i.holds g h)) _ _ _ _ _ _ refl;
      ends = tt;
      kept = kept_then i.kept c.in-Err.ensures.kept;
    }

pub loop-k-smaller : goal.loop-k-smaller
loop-k-smaller c =
    let o = c in
    let l = c in
    let h : unvisited c.scan_walk.new.state < unvisited c.loop-k.state = c.in-Ok.ensures.fewer.0 in
    omega arith

pub loop-k-preserved : goal.loop-k-preserved
loop-k-preserved c =
    let Of : Graph → Type 0 = λ g. Field g c.args.ax.now c.args.ay.now c.args.bx.now c.args.by.now c.args.top.now c.args.nxt.now
    c.args.prv.now c.args.lead.now c.args.state.now in
    let in_states : c.loop-k.k < length c.args.state.now → c.loop-k.k < length c.loop-k.state = λ h. rw c.loop-k.invariant.kept.len h in
    let o = c in
    let l = c in
    let s = c in
    let t = o.loop-k-test.true in
    let i = l.loop-k.invariant in
    scan_again Of s.args.settings.clockwise s.args.settings.minimum _ _ _ _ _ _ l.loop-k.k l.loop-k.held l.loop-k.c
    l.loop-k.state l.loop-k.points l.loop-k.first l.loop-k.len l.loop-k.kind i t
    (read_unvisited l.loop-k.state l.loop-k.k (in_states t) o.if-state-k-ne0.false) _ _ _ _ _ (Ok c.in-Ok.entered) _ _
    refl (λ g h. c.in-Ok.ensures.scan_walk_says g (field_later h (kept_later i.kept)) (i.holds g h))
    (rw i.kept.len at c.in-Ok.ensures.fewer) c.in-Ok.ensures.kept (omega arith) (omega arith) (omega arith) (omega arith)

pub returns : goal.returns
returns c =
    let Of : Graph → Type 0 = λ g. Field g c.args.ax.now c.args.ay.now c.args.bx.now c.args.by.now c.args.top.now c.args.nxt.now
    c.args.prv.now c.args.lead.now c.args.state.now in
    let l = c in
    let s = c in
    let i = l.loop-k.invariant in record {
      scan_links_says = scan_over Of s.args.settings.clockwise s.args.settings.minimum _ _ _ _ _ _ l.loop-k.k l.loop-k.held l.loop-k.c
          l.loop-k.state l.loop-k.points l.loop-k.first l.loop-k.len l.loop-k.kind i c.loop-k-test.false;
      ends = within_less _ _ (unvisited l.loop-k.state) 0 l.loop-k.c i.within (omega arith) (omega arith);
      kept = i.kept;
    }
