-- `zeros::zero_from` meets its contract: past the index stands what the part was filled with.
use Prim.Native.Nat.{ℕ, ◌-◌, ◌≤◌}
use mathlib.Core.List.{List, append-nil}
use mathlib.Core.Path.{◌≡◌, sym, ◌∙◌}
use native.Mathlib.Omega.{arith}
use Rattle.std.proofs.Common.{length, take, drop, replicate, length-drop, take_all, drop_of_length-le}
use borrow.Rule.Slice.PartMut.{put_mid}
use Rattle.laws.specs.Lists.{map_from, map_const}
use Rattle.zeros.proofs.zero_from.Goals as goal

filled : {A : Type 0} (zero z : A) (s t : List A) (from : ℕ) → from ≤ length s → z ≡ zero
    → t ≡ replicate (length (take (length s - from) (drop from s))) z → put_mid from (length s - from) s t ≡ map_from (λ _. zero) from s
filled zero z s t from h k e =
    let n : length (drop from s) ≤ length s - from = omega (arith, length-drop from s) in
    rw (e, k, take_all (length s - from) (drop from s) n, drop_of_length-le (drop from s) n, append-nil, map_const zero (drop from s))

pub returns : goal.returns
returns g c =
    let z = c.ZERO.ensures in
    filled g.T.Zero.ZERO c.ZERO.result c.args.s.now c.fill.new.self c.args.from c.requires z
    (c.fill.ensures.after (λ y h. g.met.T.Zero.clones y (rw z at h) ∙ sym z))
