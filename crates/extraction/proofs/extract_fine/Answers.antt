-- `extraction::extract_fine` meets its contract: what the scan leaves is finished.
use native.Mathlib.Omega.{arith}
use lib.ListN.{length}
use Rattle.contour.specs.Notes.{Roomy}
use Rattle.finish.specs.Finish.{Buffers, buffers}
use Rattle.extraction.proofs.Answers.{holds, finished_as}
use Rattle.extraction.proofs.extract_fine.Goals as goal

pub finish-requires : goal.finish-requires
finish-requires c =
    let b : Buffers = buffers c.args.state.now c.args.points.now c.args.first.now c.args.len.now c.args.kind.now in
    let roomy : Roomy (length c.args.state.now) (length c.args.points.now) (length c.args.first.now) (length c.args.len.now) (length c.args.kind.now) =
    c.requires.roomy in
    let left : Buffers = let l = c.scan_links-answer.new in
    buffers l.state l.points l.first l.len l.kind in
    let o = c in
    let s = c in
    holds b left roomy (omega arith) (omega arith) (omega arith) (omega arith) o.scan_links-answer.result o.scan_links-answer.ensures.ends

pub returns : goal.returns
returns c =
    let b : Buffers = buffers c.args.state.now c.args.points.now c.args.first.now c.args.len.now c.args.kind.now in
    let roomy : Roomy (length c.args.state.now) (length c.args.points.now) (length c.args.first.now) (length c.args.len.now) (length c.args.kind.now) =
    c.requires.roomy in
    let left : Buffers = let l = c.scan_links-answer.new in
    buffers l.state l.points l.first l.len l.kind in
    let o = c in
    let s = c in
    λ g f. finished_as b left roomy (omega arith) (omega arith) (omega arith) (omega arith) g s.args.settings.clockwise s.args.settings.minimum
    s.requires.state_value o.scan_links-answer.ensures.kept _ o.scan_links-answer.result (o.scan_links-answer.ensures.scan_links_says g f)
    c.finish.ensures
