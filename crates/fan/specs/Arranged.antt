-- A copy of the list of entries in which each node has its own, those of a node of many in whatever order.
use Rattle.std.specs.Prelude.{ℕ, ◌-◌, ◌≤◌, ◌<◌, ◌≡◌, List, length}
use Rattle.std.proofs.Common.{arith, sym, ◌∙◌}
use Rattle.graph.specs.Graph.{part}
use Rattle.graph.specs.Passes.{Rising}
use Rattle.fan.specs.Rearranged.{Rearranged, moved_twice, moved_back}

-- up to so many entries stay in the order in which they come
abbrev pub few_entries : ℕ
few_entries = 32

-- the copy has the entries of each node in its place, each as often, and few of them as they come
pub record Arranged (start list copy : List ℕ) : Type 0 where
  pub len : length copy ≡ length list
  pub each : (v : ℕ) → v < length start - 1 → Rearranged (part start list v) (part start copy v)
  pub few : (v : ℕ) → v < length start - 1 → length (part start list v) ≤ few_entries → part start copy v ≡ part start list v

-- two copies of a list are copies of each other
pub arranged_alike : {start list c d : List ℕ} → Arranged start list c → Arranged start list d → Arranged start c d
arranged_alike p q = record {
  len = q.len ∙ sym p.len;
  each = λ v l. moved_twice (moved_back (p.each v l)) (q.each v l);
  few = λ v l h. let k = (p.each v l).len in q.few v l (omega (arith, h, k)) ∙ sym (p.few v l (omega (arith, h, k)));
}

-- the starts rise within the copy as they do within the list
pub still_rising : {start list copy : List ℕ} → Rising start list → Arranged start list copy → Rising start copy
still_rising h c = record { any = h.any; first = h.first; last = h.last ∙ sym c.len; step = h.step }
