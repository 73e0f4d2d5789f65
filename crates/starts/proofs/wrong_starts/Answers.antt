-- `starts::wrong_starts` meets its contract: its four tests together are check 5's, of a list that is no longer than it may be.
use Rattle.std.proofs.Common.{ℕ, ◌-◌, not, ◌||◌, eqb, ltb, length, ◌∙◌, ap₂}
use Rattle.turn.specs.Limits.{max_links}
use Rattle.starts.proofs.Same.{starts_same}
use Rattle.starts.proofs.wrong_starts.Goals as goal

pub returns : goal.returns
returns c few =
    let s = c in
    let x = s.args in
    ap₂ (λ (p q : ℕ). not (eqb p 0) || not (eqb q (length x.list.now)) || ltb max_links (length x.start.now - 1) || c.some_odd.result)
    c.wide.ensures c.wide-2.ensures
    ∙ starts_same x.start.now x.list.now s.requires c.some_odd.result c.some_odd.ensures few
