-- The columns of n links, whose records stand from offset 15 on, 28 bytes each.
use Rattle.std.specs.Prelude.{ℕ, ◌+◌, ◌≤◌, List, length, get_or, ℤ}
use Rattle.writing.specs.Put.{at_front}
use Rattle.format_numbers.specs.Bytes.{u16_at, i32_at, every}

pub record Columns : Type 0 where
  pub ax : List ℤ
  pub ay : List ℤ
  pub bx : List ℤ
  pub by : List ℤ
  pub a_id : List ℕ
  pub b_id : List ℕ
  pub top : List ℕ
  pub state : List ℕ

abbrev pub columns : List ℤ → List ℤ → List ℤ → List ℤ → List ℕ → List ℕ → List ℕ → List ℕ → Columns
columns ax ay bx by a_id b_id top state =
    record { ax = ax; ay = ay; bx = bx; by = by; a_id = a_id; b_id = b_id; top = top; state = state }

pub record LinkRoom (n : ℕ) (c : Columns) : Type 0 where
  pub ax : n ≤ length c.ax
  pub ay : n ≤ length c.ay
  pub bx : n ≤ length c.bx
  pub by : n ≤ length c.by
  pub a_id : n ≤ length c.a_id
  pub b_id : n ≤ length c.b_id
  pub top : n ≤ length c.top
  pub state : n ≤ length c.state

-- column j of the links: byte j of each body
abbrev pub column : {A : Type 0} → (ℕ → A) → ℕ → ℕ → List A
column f j n = every f 28 (21 + j) n

abbrev pub links_into : List ℕ → ℕ → Columns → Columns
links_into s n c =
    columns (at_front (column (i32_at s) 0 n) c.ax) (at_front (column (i32_at s) 4 n) c.ay) (at_front (column (i32_at s) 8 n) c.bx)
    (at_front (column (i32_at s) 12 n) c.by)
    (at_front (column (u16_at s) 16 n) c.a_id)
    (at_front (column (u16_at s) 18 n) c.b_id)
    (at_front (column (λ i. get_or s i 0) 20 n) c.top)
    (at_front (column (λ i. get_or s i 0) 21 n) c.state)
