-- States that were marked since: the field of ends is still one, for rule 1 as for the scan.
use Rattle.std.specs.Prelude.{ℕ, List, ℤ}
use Rattle.std.proofs.Common.{sym, ◌∙◌}
use Rattle.graph.specs.Graph.{Graph}
use Rattle.rings.specs.Field.{Later, Firsts, Steered, Field, Fielded}
use Rattle.walk.specs.Later.{later_then, steers_later}

pub firsts_later : {g : Graph} {nxt lead st s : List ℕ} → Firsts g nxt lead st → Later st s → Firsts g nxt lead s
firsts_later h k = record {
  few = h.few;
  size = h.size ∙ sym k.len;
  nxt_long = h.nxt_long;
  lead_long = h.lead_long;
  bridge = λ i below unskipped. h.bridge i below (λ e. unskipped (k.stays i e));
  cross = λ i below marked t l. h.cross i below marked t (later_then k l);
  again = λ i below marked s t l. h.again i below marked s t (later_then k l);
}

module _ {ax ay bx by : List ℤ} {top nxt prv lead st : List ℕ} where
  pub field_later : {g : Graph} {s : List ℕ} → Field g ax ay bx by top nxt prv lead st → Later st s
      → Field g ax ay bx by top nxt prv lead s
  field_later h k = record {
    steers = steers_later h.steers k;
    firsts = firsts_later h.firsts k;
    reads = h.reads;
    tops = h.tops;
  }

  -- what a walk needs of it
  pub steered : Fielded ax ay bx by top nxt prv lead st → Steered nxt prv st
  steered h = record { graph = h.graph; steers = h.field.steers }
