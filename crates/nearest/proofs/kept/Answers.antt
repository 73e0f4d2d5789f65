-- `kept`: by its four ways out.
use Rattle.std.proofs.Common.{sym, ◌∙◌}
use Rattle.nearest.proofs.Offers.{kept_not, kept_first, kept_nearer, kept_farther}
use Rattle.nearest.proofs.kept.Goals as goal

pub returns-then-not-lies_under : goal.returns-then-not-lies_under
returns-then-not-lies_under c =
    kept_not _ _ _ _ c.args.e c.requires.fact.2 (sym c.lies_under.ensures ∙ c.if-not-lies_under.true)

pub returns-then-b-eq0 : goal.returns-then-b-eq0
returns-then-b-eq0 c =
    kept_first _ _ _ _ c.args.e c.requires.fact.2 (sym c.lies_under.ensures ∙ c.if-not-lies_under.false) c.if-b-eq0.true

pub is_nearer-requires : goal.is_nearer-requires
is_nearer-requires c =
    let s = c in
    (s.requires.fact.3, (s.requires.fact.3.0, s.requires.fact.3.1, c.listed_edge-f.ensures.1, c.listed_edge-f.ensures.2))

pub returns-then-is_nearer : goal.returns-then-is_nearer
returns-then-is_nearer c =
    let f = c.listed_edge-f in
    kept_nearer _ _ _ _ c.args.e c.requires.fact.2 f.result f.ensures.0 (sym c.lies_under.ensures ∙ c.if-not-lies_under.false)
    c.if-b-eq0.false (sym c.is_nearer.ensures ∙ c.if-is_nearer.true)

pub returns-else-is_nearer : goal.returns-else-is_nearer
returns-else-is_nearer c =
    let f = c.listed_edge-f in
    kept_farther _ _ _ _ c.args.e c.requires.fact.2 f.result f.ensures.0 (sym c.lies_under.ensures ∙ c.if-not-lies_under.false)
    c.if-b-eq0.false (sym c.is_nearer.ensures ∙ c.if-is_nearer.false)
