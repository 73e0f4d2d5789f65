-- The limits of the file, beside the most links of a graph: "a 4,097th link ends the reading with 1".
use Rattle.std.specs.Prelude.{ℕ, ◌+◌, ◌*◌}
use Rattle.turn.specs.Limits.{max_links}

-- "a 4,097th node or 8,193rd list entry with 5"
abbrev pub max_nodes : ℕ
max_nodes = 4096

abbrev pub max_entries : ℕ
max_entries = 8192

-- the most records of one kind: links may be as many as nodes
abbrev pub max_records : ℕ
max_records = max_nodes

-- the bytes that decide every input: the settings, as many links, nodes and entries as there may be, and one head more
abbrev pub file_bytes : ℕ
file_bytes = 15 + max_links * 28 + max_nodes * 6 + max_entries * 2 + 6
