-- The file of a graph, as another team writes it: its records one after the other.
use Rattle.std.specs.Prelude.{ℕ, zero, suc, ◌+◌, ◌-◌, ◌/◌, ◌%◌, ◌^◌, ◌≤◌, ◌<◌, Bool, List, [], ◌∷◌, ◌++◌, map, ℤ, pos, negsuc, length}
use Rattle.std.specs.Int.Signed.{mag}
use Rattle.laws.specs.Test.{pick}
use Rattle.turn.specs.Limits.{max_links}
use Rattle.format_records.specs.Limits.{max_nodes, max_entries}
use Rattle.format.specs.File.{Contents}

-- a number in so many bytes, little-endian
abbrev pub little : ℕ → ℕ → List ℕ
little zero n = []
little (suc bytes) n = n % 256 ∷ little bytes (n / 256)

-- the 32 bits of a signed number
abbrev pub bits_of : ℤ → ℕ
bits_of (pos n) = n
bits_of (negsuc n) = 4294967295 - n

-- "four-byte length of the body, two-byte kind, body"
abbrev pub record_bytes : ℕ → List ℕ → List ℕ
record_bytes kind body = little 4 (length body) ++ (little 2 kind ++ body)

unfoldable pub records_bytes : ℕ → List (List ℕ) → List ℕ
records_bytes kind [] = []
records_bytes kind (body ∷ rest) = record_bytes kind body ++ records_bytes kind rest

-- a link: "ax, ay, bx, by as signed 32-bit, two 16-bit ids, top, state"
pub record LinkRecord : Type 0 where
  pub ax : ℤ
  pub ay : ℤ
  pub bx : ℤ
  pub by : ℤ
  pub a_id : ℕ
  pub b_id : ℕ
  pub top : ℕ
  pub state : ℕ

unfoldable pub link_body : LinkRecord → List ℕ
link_body l =
    little 4 (bits_of l.ax)
    ++ (little 4 (bits_of l.ay)
    ++ (little 4 (bits_of l.bx) ++ (little 4 (bits_of l.by) ++ (little 2 l.a_id ++ (little 2 l.b_id ++ (l.top ∷ l.state ∷ []))))))

-- a node: "16-bit link numbers"
unfoldable pub node_body : List ℕ → List ℕ
node_body [] = []
node_body (k ∷ ks) = little 2 k ++ node_body ks

abbrev pub settings_body : Bool → ℕ → List ℕ
settings_body clockwise minimum = pick clockwise 1 0 ∷ little 8 minimum

-- the file
abbrev pub encoded : Bool → ℕ → List LinkRecord → List (List ℕ) → List ℕ
encoded clockwise minimum links nodes =
    record_bytes 3 (settings_body clockwise minimum) ++ (records_bytes 1 (map link_body links) ++ records_bytes 2 (map node_body nodes))

-- ---- the lists of the same graph

unfoldable pub joined : List (List ℕ) → List ℕ
joined [] = []
joined (node ∷ rest) = node ++ joined rest

unfoldable pub positions : ℕ → List (List ℕ) → List ℕ
positions e [] = e ∷ []
positions e (node ∷ rest) = e ∷ positions (e + length node) rest

abbrev pub graph_contents : Bool → ℕ → List LinkRecord → List (List ℕ) → Contents
graph_contents clockwise minimum links nodes = record {
  clockwise = clockwise;
  minimum = minimum;
  ax = map (λ (l : LinkRecord). l.ax) links;
  ay = map (λ (l : LinkRecord). l.ay) links;
  bx = map (λ (l : LinkRecord). l.bx) links;
  by = map (λ (l : LinkRecord). l.by) links;
  a_id = map (λ (l : LinkRecord). l.a_id) links;
  b_id = map (λ (l : LinkRecord). l.b_id) links;
  top = map (λ (l : LinkRecord). l.top) links;
  state = map (λ (l : LinkRecord). l.state) links;
  start = positions 0 nodes;
  list = joined nodes;
}

-- ---- what fits the file: numbers of the widths that it gives them, and no more links, nodes and entries than it may have

pub record LinkFits (l : LinkRecord) : Type 0 where
  pub ax : mag l.ax < 2 ^ 31
  pub ay : mag l.ay < 2 ^ 31
  pub bx : mag l.bx < 2 ^ 31
  pub by : mag l.by < 2 ^ 31
  pub a_id : l.a_id < 2 ^ 16
  pub b_id : l.b_id < 2 ^ 16

abbrev pub LinksFit : List LinkRecord → Type 0
LinksFit [] = Unit
LinksFit (l ∷ ls) = LinkFits l × LinksFit ls

abbrev pub NodeFits : List ℕ → Type 0
NodeFits [] = Unit
NodeFits (k ∷ ks) = (k < 2 ^ 16) × NodeFits ks

abbrev pub NodesFit : List (List ℕ) → Type 0
NodesFit [] = Unit
NodesFit (n ∷ ns) = NodeFits n × NodesFit ns

pub record FileFits (least : ℕ) (ls : List LinkRecord) (ns : List (List ℕ)) : Type 0 where
  pub minimum : least < 2 ^ 64
  pub links : LinksFit ls
  pub nodes : NodesFit ns
  pub few_links : length ls ≤ max_links
  pub few_nodes : length ns ≤ max_nodes
  pub few_entries_lem : length (joined ns) ≤ max_entries
