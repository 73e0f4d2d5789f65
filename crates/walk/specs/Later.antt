-- States that were marked since: what steered a walk steers it still.
use Rattle.std.specs.Prelude.{ℕ, ◌≡◌, refl, true, false, List, get_or, eqb}
use Rattle.std.proofs.Common.{sym, ap, ◌∙◌, arith, eqb-true}
use Rattle.std.proofs.Math.ListN.{get_or-map}
use Rattle.laws.specs.Test.{pick_ind, true≢false}
use Rattle.graph.specs.Graph.{Graph}
use Rattle.next.specs.Next.{is_unvisited}
use Rattle.rings.specs.Field.{Later, Steers, Steered}
use Rattle.walk.specs.Code.{unmark, Kept}

-- ---- later states
pub later_then : {st s t : List ℕ} → Later st s → Later s t → Later st t
later_then h k = record {
  len = k.len ∙ h.len;
  stays = λ i e. k.stays i (h.stays i e);
  skips = λ i e. h.skips i (k.skips i e);
  opens = λ i o. h.opens i (k.opens i o);
}

-- 1 alone is 1 once marks are taken off
unmark_one : (x : ℕ) → unmark x ≡ 1 → x ≡ 1
unmark_one x = pick_ind (eqb x 1) 1 0 (λ u. u ≡ 1 → x ≡ 1) (λ t _. eqb-true x 1 t) (λ _ e. absurd (zero_one e))
  where
    zero_one : ◌≡◌ {A = ℕ} 0 1 → ⊥
    zero_one e = omega arith

same_skipped : (s t : List ℕ) (k : ℕ) → Kept s t → get_or s k 0 ≡ 1 → get_or t k 0 ≡ 1
same_skipped s t k h e = unmark_one (get_or t k 0)
    (sym (get_or-map unmark t k 0) ∙ ap (λ l. get_or l k 0) h.marks ∙ get_or-map unmark s k 0 ∙ ap unmark e)

same_skipped_before : (s t : List ℕ) (k : ℕ) → Kept s t → get_or t k 0 ≡ 1 → get_or s k 0 ≡ 1
same_skipped_before s t k h e = unmark_one (get_or s k 0)
    (sym (get_or-map unmark s k 0) ∙ ap (λ l. get_or l k 0) (sym h.marks) ∙ get_or-map unmark t k 0 ∙ ap unmark e)

pub kept_later : {st s : List ℕ} → Kept st s → Later st s
kept_later {st} {s} h = record {
  len = h.len;
  stays = λ k. same_skipped st s k h;
  skips = λ k. same_skipped_before st s k h;
  opens = opens;
}
  where
    opens : (k : ℕ) → is_unvisited s k ≡ true → is_unvisited st k ≡ true
    opens k o = by (is_unvisited st k) refl
      where
        by : (b : _) → is_unvisited st k ≡ b → is_unvisited st k ≡ true
        by true e = e
        by false e = absurd (true≢false o (h.closed k e))

-- ---- what steers a walk
pub steers_later : {g : Graph} {nxt prv st s : List ℕ} → Steers g nxt prv st → Later st s → Steers g nxt prv s
steers_later h k = record {
  few = h.few;
  size = h.size ∙ sym k.len;
  nxt_long = h.nxt_long;
  prv_long = h.prv_long;
  nodes = h.nodes;
  links = h.links;
  only = h.only;
  bridge = λ e i u. h.bridge e i (λ q. u (k.stays _ q));
  cross = λ e i u m t l. h.cross e i (λ q. u (k.stays _ q)) m t (later_then k l);
}

pub steered_later : {nxt prv st s : List ℕ} → Steered nxt prv st → Later st s → Steered nxt prv s
steered_later h k = record { graph = h.graph; steers = steers_later h.steers k }
