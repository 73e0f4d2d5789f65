-- The definitions at work on small files: E1's and E2's, and each sort of refusal.
use Rattle.std.specs.Prelude.{ℕ, ◌-◌, ◌*◌, ◌≡◌, refl, false, List, [], ◌∷◌, ◌++◌, pos, negsuc, take, set, Some, Ok, Err}
use Rattle.turn.specs.Limits.{max_links, max_coordinate}
use Rattle.format_records.specs.Limits.{max_nodes, max_entries}
use Rattle.format_numbers.specs.Bytes.{u16_at, u32_at, u64_at, signed, i32_at, every}
use Rattle.format_records.specs.Records.{refusal, run_to, step_at, record_number, run_from, settings_right, form_of, flat_list}
use Rattle.turn.specs.declared.Reason.{Reason}
use Rattle.turn.specs.declared.Reason.TheVariants.{TooManyLinks, WrongNodes, WrongFile}
use Rattle.format.specs.File.{holding, refused_file, file_of, starts_of}

-- E1: no links, no nodes; only the record of kind 3
e1 : List ℕ
e1 = 9 ∷ 0 ∷ 0 ∷ 0 ∷ 3 ∷ 0 ∷ 0 ∷ 0 ∷ 0 ∷ 0 ∷ 0 ∷ 0 ∷ 0 ∷ 0 ∷ 0 ∷ []

-- E2's square: its settings, four links, four nodes
e2_links : List ℕ
e2_links =
    22 ∷ 0 ∷ 0 ∷ 0 ∷ 1 ∷ 0 ∷ 0 ∷ 0 ∷ 0 ∷ 0 ∷ 0 ∷ 0 ∷ 0 ∷ 0 ∷ 4 ∷ 0 ∷ 0 ∷ 0 ∷ 0 ∷ 0 ∷ 0 ∷ 0 ∷ 0 ∷ 0 ∷ 2 ∷ 0 ∷ 1 ∷ 0 ∷
    22 ∷ 0 ∷ 0 ∷ 0 ∷ 1 ∷ 0 ∷ 0 ∷ 0 ∷ 0 ∷ 0 ∷ 0 ∷ 0 ∷ 0 ∷ 0 ∷ 0 ∷ 0 ∷ 0 ∷ 0 ∷ 4 ∷ 0 ∷ 0 ∷ 0 ∷ 0 ∷ 0 ∷ 1 ∷ 0 ∷ 0 ∷ 0 ∷
    22 ∷ 0 ∷ 0 ∷ 0 ∷ 1 ∷ 0 ∷ 0 ∷ 0 ∷ 0 ∷ 0 ∷ 4 ∷ 0 ∷ 0 ∷ 0 ∷ 4 ∷ 0 ∷ 0 ∷ 0 ∷ 4 ∷ 0 ∷ 0 ∷ 0 ∷ 1 ∷ 0 ∷ 3 ∷ 0 ∷ 0 ∷ 0 ∷
    22 ∷ 0 ∷ 0 ∷ 0 ∷ 1 ∷ 0 ∷ 4 ∷ 0 ∷ 0 ∷ 0 ∷ 0 ∷ 0 ∷ 0 ∷ 0 ∷ 4 ∷ 0 ∷ 0 ∷ 0 ∷ 4 ∷ 0 ∷ 0 ∷ 0 ∷ 2 ∷ 0 ∷ 3 ∷ 0 ∷ 1 ∷ 0 ∷ []

e2_nodes : List ℕ
e2_nodes =
    4 ∷ 0 ∷ 0 ∷ 0 ∷ 2 ∷ 0 ∷ 0 ∷ 0 ∷ 1 ∷ 0 ∷ 4 ∷ 0 ∷ 0 ∷ 0 ∷ 2 ∷ 0 ∷ 1 ∷ 0 ∷ 2 ∷ 0 ∷ 4 ∷ 0 ∷ 0 ∷ 0 ∷ 2 ∷ 0 ∷ 0 ∷ 0 ∷ 3 ∷ 0 ∷ 4 ∷ 0 ∷ 0 ∷ 0 ∷ 2 ∷ 0 ∷ 2
    ∷ 0 ∷ 3 ∷ 0 ∷ []

e2 : List ℕ
e2 = e1 ++ (e2_links ++ e2_nodes)

none : file_of e1
    ≡ holding
    (record { clockwise = false; minimum = 0; ax = []; ay = []; bx = []; by = []; a_id = []; b_id = []; top = []; state = []; start = 0 ∷ []; list = [] })
unfolding e1 u16_at u32_at u64_at signed record_number step_at run_from settings_right form_of every flat_list starts_of
none = refl

square : file_of e2
    ≡ holding (record {
      clockwise = false;
      minimum = 0;
      ax = pos 0 ∷ pos 0 ∷ pos 0 ∷ pos 4 ∷ [];
      ay = pos 0 ∷ pos 0 ∷ pos 4 ∷ pos 0 ∷ [];
      bx = pos 4 ∷ pos 0 ∷ pos 4 ∷ pos 4 ∷ [];
      by = pos 0 ∷ pos 4 ∷ pos 4 ∷ pos 4 ∷ [];
      a_id = 0 ∷ 0 ∷ 1 ∷ 2 ∷ [];
      b_id = 2 ∷ 1 ∷ 3 ∷ 3 ∷ [];
      top = 1 ∷ 0 ∷ 0 ∷ 1 ∷ [];
      state = 0 ∷ 0 ∷ 0 ∷ 0 ∷ [];
      start = 0 ∷ 2 ∷ 4 ∷ 6 ∷ 8 ∷ [];
      list = 0 ∷ 1 ∷ 1 ∷ 2 ∷ 0 ∷ 3 ∷ 2 ∷ 3 ∷ [];
    })
unfolding e1 e2 e2_links e2_nodes u16_at u32_at u64_at signed record_number step_at run_from settings_right form_of every flat_list starts_of
square = refl

-- ---- refusals, at the first byte of the record at fault

abbrev RefusedAt : List ℕ → Reason → ℕ → Type 0
RefusedAt s reason at = file_of s ≡ refused_file (refusal reason at)

-- no record at all
nothing : RefusedAt ([]) WrongFile 0
unfolding e1 e2 e2_links e2_nodes u16_at u32_at u64_at signed record_number step_at run_from settings_right form_of every flat_list starts_of
nothing = refl

-- direction 2
direction : RefusedAt (set e2 6 2) WrongFile 0
unfolding e1 e2 e2_links e2_nodes u16_at u32_at u64_at signed record_number step_at run_from settings_right form_of every flat_list starts_of
direction = refl

-- links before the settings
links_first : RefusedAt (e2_links) WrongFile 0
unfolding e1 e2 e2_links e2_nodes u16_at u32_at u64_at signed record_number step_at run_from settings_right form_of every flat_list starts_of
links_first = refl

-- the settings' last byte is missing
cut_settings : RefusedAt (take 14 e1) WrongFile 0
unfolding e1 e2 e2_links e2_nodes u16_at u32_at u64_at signed record_number step_at run_from settings_right form_of every flat_list starts_of
cut_settings = refl

-- a second record of kind 3
settings_twice : RefusedAt (e1 ++ e2) WrongFile 15
unfolding e1 e2 e2_links e2_nodes u16_at u32_at u64_at signed record_number step_at run_from settings_right form_of every flat_list starts_of
settings_twice = refl

-- the third link is of kind 4
kind_four : RefusedAt (set e2 75 4) WrongFile 71
unfolding e1 e2 e2_links e2_nodes u16_at u32_at u64_at signed record_number step_at run_from settings_right form_of every flat_list starts_of
kind_four = refl

-- the first link says 23 bytes
long_link : RefusedAt (set e2 15 23) WrongFile 15
unfolding e1 e2 e2_links e2_nodes u16_at u32_at u64_at signed record_number step_at run_from settings_right form_of every flat_list starts_of
long_link = refl

-- the file ends in the fourth link
cut_link : RefusedAt (take 126 e2) WrongFile 99
unfolding e1 e2 e2_links e2_nodes u16_at u32_at u64_at signed record_number step_at run_from settings_right form_of every flat_list starts_of
cut_link = refl

-- the file ends in the fourth link's head
cut_head : RefusedAt (take 104 e2) WrongFile 99
unfolding e1 e2 e2_links e2_nodes u16_at u32_at u64_at signed record_number step_at run_from settings_right form_of every flat_list starts_of
cut_head = refl

-- a link after the nodes
link_after_node : RefusedAt (e2 ++ e2_links) WrongFile 167
unfolding e1 e2 e2_links e2_nodes u16_at u32_at u64_at signed record_number step_at run_from settings_right form_of every flat_list starts_of
link_after_node = refl

-- a node of three bytes
odd_node : RefusedAt (set e2 127 3) WrongFile 127
unfolding e1 e2 e2_links e2_nodes u16_at u32_at u64_at signed record_number step_at run_from settings_right form_of every flat_list starts_of
odd_node = refl

-- the last node's last byte is missing
cut_node : RefusedAt (take 166 e2) WrongFile 157
unfolding e1 e2 e2_links e2_nodes u16_at u32_at u64_at signed record_number step_at run_from settings_right form_of every flat_list starts_of
cut_node = refl

-- one byte after the last record
one_more : RefusedAt (e2 ++ (0 ∷ [])) WrongFile 167
unfolding e1 e2 e2_links e2_nodes u16_at u32_at u64_at signed record_number step_at run_from settings_right form_of every flat_list starts_of
one_more = refl

-- ---- the limits, judged at a head of six bytes whose body is not there

link_head : List ℕ
link_head = 22 ∷ 0 ∷ 0 ∷ 0 ∷ 1 ∷ 0 ∷ []

node_head : List ℕ
node_head = 4 ∷ 0 ∷ 0 ∷ 0 ∷ 2 ∷ 0 ∷ []

link_above : step_at 1 link_head (run_to 0 max_links 0) ≡ Err (refusal TooManyLinks 0)
unfolding link_head step_at record_number u16_at u32_at
link_above = refl

-- the 4,096th is cut
link_last : step_at 1 link_head (run_to 0 (max_links - 1) 0) ≡ Err (refusal WrongFile 0)
unfolding link_head step_at record_number u16_at u32_at
link_last = refl

node_above : step_at 2 node_head (run_to 0 max_nodes 0) ≡ Err (refusal WrongNodes 0)
unfolding node_head step_at record_number u16_at u32_at
node_above = refl

-- two entries more than 8,191
entry_above : step_at 2 node_head (run_to 0 1 (2 * max_entries - 2)) ≡ Err (refusal WrongNodes 0)
unfolding node_head step_at record_number u16_at u32_at
entry_above = refl

entry_last : step_at 2 (node_head ++ (7 ∷ 0 ∷ 8 ∷ 0 ∷ [])) (run_to 0 1 (2 * max_entries - 4)) ≡ Ok (Some (run_to 10 2 (2 * max_entries)))
unfolding node_head step_at record_number u16_at u32_at
entry_last = refl

-- -524,288 and -1
below_zero : (i32_at (0 ∷ 0 ∷ 248 ∷ 255 ∷ []) 0 ≡ negsuc (max_coordinate - 1)) × (i32_at (255 ∷ 255 ∷ 255 ∷ 255 ∷ []) 0 ≡ negsuc 0)
unfolding signed u32_at u16_at
below_zero = (refl, refl)
