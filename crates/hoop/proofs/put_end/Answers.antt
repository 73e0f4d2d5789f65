-- `hoop::put_end` meets its contract: by its place.
use mathlib.Core.Path.{sym, ap, ◌∙◌, subst}
use Rattle.hoop.specs.Hoops.{Fits, put_end}
use Rattle.hoop.proofs.put_end.Goals as goal

pub put_first-requires : goal.put_first-requires
put_first-requires c =
    let s = c in
    subst (λ p. Fits s.args.nxt.now s.args.prv.now s.args.hoop p s.args.q) c.in-First.is s.requires

pub put_after-requires : goal.put_after-requires
put_after-requires c =
    let s = c in
    subst (λ p. Fits s.args.nxt.now s.args.prv.now s.args.hoop p s.args.q) c.in-After.is s.requires

pub returns-in-Alike : goal.returns-in-Alike
returns-in-Alike c = let a = c.args in ap (λ p. put_end a.nxt.now a.prv.now a.hoop p a.q) (sym c.in-Alike.is)

pub returns-in-First : goal.returns-in-First
returns-in-First c =
    let d = c in
    let a = d.args in
    c.put_first.ensures ∙ ap (λ p. put_end a.nxt.now a.prv.now a.hoop p a.q) (sym c.in-First.is)

pub returns-in-After : goal.returns-in-After
returns-in-After c =
    let d = c in
    let a = d.args in
    c.put_after.ensures ∙ ap (λ p. put_end a.nxt.now a.prv.now a.hoop p a.q) (sym c.in-After.is)
