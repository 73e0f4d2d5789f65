-- `outlines::extract_outlines` meets its contract: what extraction leaves, and then, where asked for, without points on a straight line.
use mathlib.Core.Path.{◌≡◌, sym, subst}
use mathlib.Core.Bool.{Bool, true}
use Rattle.laws.specs.Test.{pick}
use Rattle.scan.specs.Scan.{scan}
use Rattle.finish.specs.Finish.{Buffers, buffers}
use Rattle.extraction.specs.Extract.{extracted_as, after_scan}
use Rattle.outlines.specs.Outlines.{straight_scan}
use Rattle.outlines.specs.Promises.{answered}
use Rattle.outlines.proofs.Outlining.{stands_after, drawn_as}
use Rattle.outlines.proofs.extract_outlines.Goals as goal

pub straighten_answer-requires : goal.straighten_answer-requires
straighten_answer-requires c =
    let b : Buffers = buffers c.args.state.now c.args.points.now c.args.first.now c.args.len.now c.args.kind.now in
    let left : Buffers = let l = c.extract_fine-answer.new in buffers l.state l.points l.first l.len l.kind in
    let f = c.requires.fielded in
    stands_after c.args.ax.now c.args.ay.now c.args.bx.now c.args.by.now f.graph c.args.settings.clockwise c.args.settings.minimum b f.field.reads
    c.requires.links.0
    c.requires.roomy c.extract_fine-answer.result left (c.extract_fine-answer.ensures f.graph f.field)

pub returns-then-settings : goal.returns-then-settings
returns-then-settings c =
    let b : Buffers = buffers c.args.state.now c.args.points.now c.args.first.now c.args.len.now c.args.kind.now in
    let left : Buffers = let l = c.extract_fine-answer.new in buffers l.state l.points l.first l.len l.kind in
    let q = c.straighten_answer in
    λ g f smooth. subst
    (λ (d : Bool). extracted_as q.result (buffers left.state q.new.points q.new.first q.new.len left.kind)
    ≡ pick d (straight_scan g c.args.settings.minimum b (scan g c.args.settings.clockwise c.args.state.now))
    (after_scan g c.args.settings.minimum b (scan g c.args.settings.clockwise c.args.state.now))) (sym c.if-settings.true)
    (drawn_as c.args.ax.now c.args.ay.now c.args.bx.now c.args.by.now g c.args.settings.clockwise c.args.settings.minimum b f.reads
    c.requires.links.0 c.requires.roomy smooth true
    c.extract_fine-answer.result left (answered q.result q.new.points q.new.first q.new.len) (c.extract_fine-answer.ensures g f)
    q.ensures)

pub returns : goal.returns
returns c =
    let b : Buffers = buffers c.args.state.now c.args.points.now c.args.first.now c.args.len.now c.args.kind.now in
    let l = c.extract_fine.new in
    λ g f smooth. subst
    (λ (d : Bool). extracted_as c.extract_fine.result (buffers l.state l.points l.first l.len l.kind)
    ≡ pick d (straight_scan g c.args.settings.minimum b (scan g c.args.settings.clockwise c.args.state.now))
    (after_scan g c.args.settings.minimum b (scan g c.args.settings.clockwise c.args.state.now))) (sym c.if-settings.false)
    (c.extract_fine.ensures g f)
