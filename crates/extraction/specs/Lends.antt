-- What the checks give the scan, and what extraction leaves by their answer.
use Rattle.std.specs.Prelude.{ℕ, zero, suc, ◌≤◌, ◌≡◌, refl, Bool, List, map, length, get_or}
use Rattle.std.proofs.Common.{sym, ◌∙◌, subst, arith}
use Rattle.std.proofs.Math.Path.{ap}
use Rattle.laws.specs.Lists.{map_same}
use Rattle.graph.specs.Graph.{Lent, graph_of, link_count}
use Rattle.turn.specs.Limits.{max_links}
use Rattle.graph.specs.Checks.{room, checked}
use Rattle.graph.specs.Fine.{FineGraph, fine}
use Rattle.next.specs.Known.{Links}
use Rattle.next.specs.Fine.{links_known}
use Rattle.rings.specs.Field.{Spacious, AllLaid, Field}
use Rattle.rings.proofs.Steering as steering
use Rattle.scan.specs.Scan.{scan}
use Rattle.finish.specs.Finish.{Buffers}
use Rattle.contour.specs.Notes.{Roomy}
use Rattle.walk.specs.Code.{unmark}
use Rattle.extraction.specs.Extract.{extracted_as, after_scan, after_checks, extracted}
use Rattle.turn.specs.Refusals.{Checked, refused, no_fault}
use Rattle.turn.specs.declared.Reason.{Reason}

-- ---- what the checks give the walks
module _ (g : Lent) (top st : List ℕ) (points firsts lens kinds : ℕ) (f : FineGraph g top st (room points firsts lens kinds)) where
  long : link_count g ≡ length st
  long = sym f.band.state_long

  pub links_of_lem : Links g.ax g.ay g.bx g.by (length st)
  links_of_lem = links_known f long

  -- the field of ends that the pass over the nodes has laid
  pub field_of : {nxt prv lead : List ℕ} → AllLaid g st nxt prv lead → Spacious (link_count g) (length nxt) (length prv) (length lead)
      → Field (graph_of g top) g.ax g.ay g.bx g.by top nxt prv lead st
  field_of laid wide = record {
    steers = steering.steers f.links f.lists f.one_point f.band f.few (laid top) long wide.nxt_room wide.prv_room;
    firsts = steering.firsts f.links f.lists f.one_point f.band f.few (laid top) long wide.nxt_room wide.lead_room;
    reads = record { a_is = λ k. refl; b_is = λ k. refl };
    tops = λ k. refl;
  }

  pub roomy_of : Roomy (length st) points firsts lens kinds
  roomy_of = subst (λ k. Roomy k points firsts lens kinds) long (record {
    few = f.few;
    points_room = omega (arith, f.room.points);
    first_room = omega (arith, f.room.contours);
    len_room = f.room.lens_long;
    kind_room = f.room.kinds_long;
  })

  pub tops_long : length top ≡ length st
  tops_long = f.band.top_long ∙ long

  -- states 0 and 1 are as they were, once what came from 0 is unmarked
  pub unmarked : map unmark st ≡ st
  unmarked = map_same unmark st 0 (λ i h. flag (get_or st i 0) (f.band.state_flag i (rw long h)))
    where
      flag : (x : ℕ) → x ≤ 1 → unmark x ≡ x
      flag zero h = refl
      flag (suc zero) h = refl
      flag (suc (suc x)) h = absurd (large h)
        where
          large : suc (suc x) ≤ 1 → ⊥
          large h = omega arith

abbrev pub Lends : Lent → List ℕ → Buffers → List ℕ → List ℕ → List ℕ → Type 0
Lends g top b nxt prv lead =
    (Field (graph_of g top) g.ax g.ay g.bx g.by top nxt prv lead b.state)
    × (Links g.ax g.ay g.bx g.by (length b.state)) × (length top ≡ length b.state)
    × (Roomy (length b.state) (length b.points) (length b.first) (length b.len) (length b.kind)) × (map unmark b.state ≡ b.state)

-- ---- the checks come first
module _ (g : Lent) (top : List ℕ) (cw : Bool) (minimum : ℕ) (b : Buffers) where
  abbrev checks : Checked
  checks = checked g top b.state (room (length b.points) (length b.first) (length b.len) (length b.kind))

  pub after_refusal : (reason : Reason) (place : ℕ) → checks ≡ refused reason place → extracted_as (refused reason place) b ≡ extracted g top cw minimum b
  unfolding extracted
  after_refusal reason place e = ap (after_checks (graph_of g top) cw minimum b) (sym e)

  pub after_fine : checks ≡ no_fault → after_scan (graph_of g top) minimum b (scan (graph_of g top) cw b.state) ≡ extracted g top cw minimum b
  unfolding extracted
  after_fine e = ap (after_checks (graph_of g top) cw minimum b) (sym e)

  -- what a graph that passes them lends to the scan
  pub lent_on : checks ≡ no_fault → {nxt prv lead : List ℕ} → AllLaid g b.state nxt prv lead
      → (link_count g ≤ max_links → Spacious (link_count g) (length nxt) (length prv) (length lead)) → Lends g top b nxt prv lead
  lent_on e laid wide =
      let f = fine g top b.state (room (length b.points) (length b.first) (length b.len) (length b.kind)) e in (
        field_of g top b.state _ _ _ _ f laid (wide f.few),
        links_of_lem g top b.state _ _ _ _ f,
        tops_long g top b.state _ _ _ _ f,
        roomy_of g top b.state _ _ _ _ f,
        unmarked g top b.state _ _ _ _ f,
      )
