-- The owner buffer: what stands in it once owners are written over its front.
use Rattle.std.specs.Prelude.{ℕ, List, Ok, Err}
use Rattle.laws.specs.Lists.{over_front}
use Rattle.owners.specs.Owners.{Owned, owned}
use Rattle.turn.specs.Refusals.{Checked, no_fault}

-- on success the owners stand in front of the old tail: "An owner buffer longer than needed keeps its tail."; after a refusal nothing has changed
abbrev pub delivered_by : Checked → List ℕ → List ℕ → Owned
delivered_by (Ok u) owners old = owned no_fault (over_front owners old)
delivered_by (Err r) owners old = owned (Err r) old

abbrev pub delivered : Owned → List ℕ → Owned
delivered w old = delivered_by w.answer w.owners old
