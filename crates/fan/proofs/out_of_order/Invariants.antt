-- `fan::out_of_order` meets its contract; the invariant: no entry of an earlier pair stands later than the one after it.
use Rattle.std.proofs.Common.{◌≡◌, ℕ, ◌+◌, ◌-◌, ◌≤◌, Bool, List, length, get_or, drop}
use Rattle.std.specs.Slice.Iter.{windows_size, windows_rest}
use lib.IntN.{ℤ}
use Rattle.laws.specs.Lowest.{NoneBelow}
use Rattle.fan.specs.Orders.{stands_later}
use Rattle.fan.proofs.out_of_order.Given as goal

-- entry i stands later than the one after it
abbrev pub test : List ℤ → List ℤ → List ℤ → List ℤ → List ℕ → ℕ → List ℕ → ℕ → Bool
test ax ay bx by aid v list i = stands_later ax ay bx by aid v (get_or list i 0) (get_or list (i + 1) 0)

abbrev pub invariant-loop-p : goal.invariant-loop-p
invariant-loop-p l =
    let rest = windows_rest l.p-iterator in
    let i = length l.list - length rest in
    (windows_size l.p-iterator ≡ 2) × (length rest ≤ length l.list) × (rest ≡ drop i l.list) × NoneBelow (test l.ax l.ay l.bx l.by l.aid l.v l.list) i
