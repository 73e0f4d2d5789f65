-- `quick_links::any_misnamed` meets its contract; the invariant: so far the answer tells
-- whether a link seen has wrong ids.
use Rattle.std.proofs.Common.{◌≡◌, ◌||◌, length, sym, ap, ap₂, ◌∙◌, arith}
use Rattle.std.proofs.lemmas.List.{length_push}
use Rattle.std.proofs.lemmas.Slice.Zip.{zip_turn}
use Rattle.laws.specs.Lowest.{some_more}
use Rattle.graph.specs.Checks.{node_at}
use Rattle.quick_links.specs.Quick.{last_id, misnamed_past, misnamed_at, ids}
use Rattle.quick_links.proofs.any_misnamed.Goals as goal

pub loop-a-preserved : goal.loop-a-preserved
loop-a-preserved c =
    let x = c.args in
    let l = c.loop-a in
    let turn = zip_turn x.aid.now x.bid.now l.yielded c.into_iter-a-iterator.result l.a-iterator c.next.new.self _ (cc) (cc) l.yielded_by _ c.in-Some.is
    c.next.ensures.steps in
    let n = length l.yielded in
    let a_fits = c.type_inv.aid n in
    let b_fits = c.type_inv.bid n in
    let here : c.misnamed_past-wrong.result ≡ misnamed_at x.m x.aid.now x.bid.now n = c.misnamed_past-wrong.ensures
    ∙ ap (λ t. misnamed_past t c.in-Some.field-0-0.now c.in-Some.field-0-1.now) c.last_id-last.ensures
    ∙ ap₂ (misnamed_past (last_id x.m)) (turn.2 0) (turn.3 0)
    ∙ ids x.m (node_at x.aid.now n) (node_at x.bid.now n) (omega (arith, a_fits)) (omega (arith, b_fits)) in
    rw (length_push l.yielded _) (ap₂ ◌||◌ l.invariant here ∙ sym (some_more _ _))
