-- Lists of the same lengths have the same room.
use Rattle.std.specs.Prelude.{ℕ, ◌≡◌}
use Rattle.std.proofs.Common.{arith}
use Rattle.rings.specs.Field.{Spacious}

pub as_wide : (n nxts prvs leads : ℕ) {x y z : ℕ} → Spacious n nxts prvs leads → x ≡ nxts → y ≡ prvs → z ≡ leads → Spacious n x y z
as_wide n nxts prvs leads w p q r =
    record { nxt_room = omega (arith, w.nxt_room, p); prv_room = omega (arith, w.prv_room, q); lead_room = omega (arith, w.lead_room, r) }
