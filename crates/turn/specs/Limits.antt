-- The limits of document 01, named once.
use Rattle.std.specs.Prelude.{ℕ}

-- the most links of a graph (check 1), and the most points of a contour table (check 10)
abbrev pub max_links : ℕ
max_links = 4096

-- coordinates lie from -524,288 to 524,288 (checks 3 and 10)
abbrev pub max_coordinate : ℕ
max_coordinate = 524288
