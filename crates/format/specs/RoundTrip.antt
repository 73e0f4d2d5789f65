-- Writing the file of a graph and reading it gives the graph back.
use Prim.Native.Nat.{ℕ, zero, suc, ◌+◌, ◌-◌, ◌*◌, ◌/◌, ◌%◌, ◌≤◌, ◌<◌}
use Rattle.std.specs.Prelude.{◌≡◌, Bool, true, false, eqb, ℤ, pos, negsuc, take, drop, Some, None, Ok}
use Rattle.std.proofs.Math.Path.{refl, sym, ap, ap₂}
use Rattle.std.proofs.Common.{◌∙◌, subst, add_assoc, add-zero}
use mathlib.Core.List.{List, [], ◌∷◌, ◌++◌, map, append_assoc, append-nil}
use native.Mathlib.Omega.{arith}
use borrow.Author.Tests.{lt-ltb, le-ltb, le-leb, eq-eqb}
use Rattle.std.proofs.Math.ListN.{length, get_or, length-append, get_or-append}
use Rattle.std.proofs.lemmas.List.{length-map}
use Rattle.std.proofs.Math.Seq.{get_or-append-add, drop-append-add, take-append_seam}
use Rattle.std.specs.Int.Signed.{mag}
use Rattle.laws.specs.Test.{pick, true_and}
use Rattle.turn.specs.Limits.{max_links}
use Rattle.format_records.specs.Limits.{max_nodes, max_entries}
use Rattle.format_numbers.specs.Bytes.{u16_at, u32_at, u64_at, i32_at, signed, every}
use Rattle.format_records.specs.Records.{length_at, kind_at, body_at, head_number, node_number, run_to, past, step_at, ran, with, run_from, looks}
use Rattle.format_records.specs.Records.{settings_right, form, form_of, node_entries, flat_list}
use Rattle.format.specs.File.{starts_of, holding, file_of}
use Rattle.format.specs.Encoded.{little, bits_of, record_bytes, records_bytes, LinkRecord, link_body, node_body, settings_body, encoded, joined}
use Rattle.format.specs.Encoded.{positions, graph_contents, LinkFits, LinksFit, NodeFits, NodesFit, FileFits}
use Rattle.format_records.specs.Steps.{step_cut, step_kind, step_next}
use Rattle.format_records.specs.declared.Run.{Run}

-- ---- numbers read where they were written

module _ (before rest : List ℕ) where
  moved16 : (i : ℕ) → u16_at (before ++ rest) (length before + i) ≡ u16_at rest i
  unfolding u16_at
  moved16 i =
      ap₂ (λ x y. x + 256 * y) (get_or-append-add before rest i 0)
      (ap (λ k. get_or (before ++ rest) k 0) (add_assoc (length before) i 1) ∙ get_or-append-add before rest (i + 1) 0)

  moved32 : (i : ℕ) → u32_at (before ++ rest) (length before + i) ≡ u32_at rest i
  unfolding u32_at
  moved32 i =
      ap₂ (λ x y. x + 65536 * y) (moved16 i)
      (ap (u16_at (before ++ rest)) (add_assoc (length before) i 2) ∙ moved16 (i + 2))

two_bytes : (n : ℕ) → n < 65536 → n % 256 + 256 * (n / 256 % 256) ≡ n
two_bytes n h = omega arith

four_bytes : (n : ℕ) → n < 4294967296
    → n % 256 + 256 * (n / 256 % 256) + 65536 * (n / 256 / 256 % 256 + 256 * (n / 256 / 256 / 256 % 256)) ≡ n
four_bytes n h = omega arith

-- ---- a record read where it was written

module _ (kind : ℕ) (body rest : List ℕ) (k : kind < 65536) (l : length body < 4294967296) where
  own_length : u32_at (record_bytes kind body ++ rest) 0 ≡ length body
  unfolding u32_at u16_at
  own_length = four_bytes (length body) l

  own_kind : u16_at (record_bytes kind body ++ rest) 4 ≡ kind
  unfolding u16_at
  own_kind = two_bytes kind k

  module _ (s before : List ℕ) (at : ℕ) (p : at ≡ length before) (e : s ≡ before ++ (record_bytes kind body ++ rest)) where
    length_there : length_at s at ≡ length body
    length_there =
        ap₂ u32_at e (p ∙ sym (add-zero (length before))) ∙ moved32 before (record_bytes kind body ++ rest) 0 ∙ own_length

    kind_there : kind_at s at ≡ kind
    kind_there = ap₂ (λ t i. u16_at t (i + 4)) e p ∙ moved16 before (record_bytes kind body ++ rest) 4 ∙ own_kind

    body_there : body_at s at ≡ body
    body_there =
        ap₂ (λ n (t : List ℕ). take n t) length_there
        (ap₂ (λ (t : List ℕ) i. drop (i + 6) t) e p ∙ drop-append-add before (record_bytes kind body ++ rest) 6)
        ∙ take-append_seam body rest

    long_enough : at + 6 + length body ≤ length s
    long_enough =
        omega (arith, ap length e, length-append before (record_bytes kind body ++ rest), length-append body rest)

-- ---- a run read where it was written

-- each head is right where it stands
abbrev HeadsRight : ℕ → ℕ → ℕ → List (List ℕ) → Type 0
HeadsRight kind count size [] = Unit
HeadsRight kind count size (b ∷ bs) =
    (head_number kind count size (length b) ≡ None) × (length b < 4294967296) × HeadsRight kind (count + 1) (size + length b) bs

record Reaches (kind n : ℕ) (s : List ℕ) (r : Run) (bs : List (List ℕ)) (place : ℕ) : Type 0 where
  last : Run
  is : run_from n kind s r ≡ ran last bs
  ends : last.at ≡ place

module _ (kind : ℕ) (k : kind < 65536) (s : List ℕ) (place : ℕ) (stop : (r : Run) → r.at ≡ place → step_at kind s r ≡ Ok None) where
  reached : (n : ℕ) (r : Run) → r.at ≡ place → Reaches kind (suc n) s r [] place
  unfolding run_from
  reached n r e = record { last = r; is = rw (stop r e); ends = e }

  one_step : (n : ℕ) (r : Run) (b : List ℕ) (bs : List (List ℕ)) → step_at kind s r ≡ Ok (Some (past s r)) → body_at s r.at ≡ b
      → Reaches kind n s (past s r) bs place → Reaches kind (suc n) s r (b ∷ bs) place
  unfolding run_from
  one_step n r b bs e q h =
      record { last = h.last; is = rw e (ap (with (body_at s r.at)) h.is ∙ ap (λ (c : List ℕ). ran h.last (c ∷ bs)) q); ends = h.ends }

  reaches : (bs : List (List ℕ)) (n : ℕ) (before after : List ℕ) (r : Run) → length bs ≤ n → HeadsRight kind r.count r.size bs
      → r.at ≡ length before → place ≡ length before + length (records_bytes kind bs) → s ≡ before ++ (records_bytes kind bs ++ after)
      → Reaches kind (suc n) s r bs place
  unfolding records_bytes
  reaches [] n before after r m g p q e = reached n r (p ∙ omega (arith, q))
  reaches (b ∷ bs) zero before after r m g p q e = absurd (never (length bs) m)
    where
      never : (x : ℕ) → suc x ≤ 0 → ⊥
      never x h = omega arith
  reaches (b ∷ bs) (suc n) before after r m g p q e =
      let rest = records_bytes kind bs ++ after in
      let e' : s ≡ before ++ (record_bytes kind b ++ rest) = e
      ∙ ap (λ (t : List ℕ). before ++ t) (append_assoc (record_bytes kind b) (records_bytes kind bs) after) in
      let l = length_there kind b rest k g.1 s before r.at p e' in
      let long = long_enough kind b rest k g.1 s before r.at p e' in
      let step = step_next kind s r (omega arith) (kind_there kind b rest k g.1 s before r.at p e')
      (ap (head_number kind r.count r.size) l ∙ g.0)
      (omega arith) in
      one_step (suc n) r b bs step (body_there kind b rest k g.1 s before r.at p e')
      (reaches bs n (before ++ record_bytes kind b) after (past s r) (omega arith)
      (subst (λ z. HeadsRight kind (r.count + 1) (r.size + z) bs) (sym l) g.2)
      (omega (arith, length-append before (record_bytes kind b)))
      (omega (arith, length-append before (record_bytes kind b), length-append (record_bytes kind b) (records_bytes kind bs)))
      (e' ∙ sym (append_assoc before (record_bytes kind b) rest)))

-- ---- the form

-- the nodes' first record does not belong to the links
not_a_link : (before : List ℕ) (ns : List (List ℕ)) → HeadsRight 2 0 0 ns → (r : Run) → r.at ≡ length before
    → step_at 1 (before ++ records_bytes 2 ns) r ≡ Ok None
unfolding records_bytes
not_a_link before [] g r p = step_cut 1 (before ++ []) r (omega (arith, length-append before []))
not_a_link before (b ∷ bs) g r p =
    let s = before ++ (record_bytes 2 b ++ records_bytes 2 bs) in
    let k : kind_at s r.at ≡ 2 = kind_there 2 b (records_bytes 2 bs) (omega arith) g.1 s before r.at p refl in
    let long = long_enough 2 b (records_bytes 2 bs) (omega arith) g.1 s before r.at p refl in
    step_kind 1 s r (omega arith) (λ h. never (sym k ∙ h))
  where
    never : ◌≡◌ {A = ℕ} 2 1 → ⊥
    never e = omega arith

module _ (settings : List ℕ) (nine : length settings ≡ 9) (dir : get_or settings 0 0 ≤ 1) (links nodes : List (List ℕ))
    (goes-links : HeadsRight 1 0 0 links) (few_links : length links ≤ max_links) (goes-nodes : HeadsRight 2 0 0 nodes)
    (few_nodes : length nodes ≤ max_nodes) where
  right : settings_right (record_bytes 3 settings ++ (records_bytes 1 links ++ records_bytes 2 nodes)) ≡ true
  unfolding settings_right
  right =
      let rest = records_bytes 1 links ++ records_bytes 2 nodes in
      let s = record_bytes 3 settings ++ rest in
      let long : 15 ≤ length s = omega (arith, length-append settings rest, nine) in
      let direction : get_or s 6 0 ≤ 1 = rw (get_or-append settings rest 0 0 (omega (arith, nine))) dir in
      true_and _ _ (le-leb 15 (length s) long)
      (true_and _ _ (eq-eqb (length_at s 0) 9 (own_length 3 settings rest (omega arith) (omega (arith, nine)) ∙ nine))
      (true_and _ _ (eq-eqb (kind_at s 0) 3 (own_kind 3 settings rest (omega arith) (omega (arith, nine))))
      (le-leb (get_or s 6 0) 1 direction)))

  regrouped : (record_bytes 3 settings ++ records_bytes 1 links) ++ records_bytes 2 nodes
      ≡ record_bytes 3 settings ++ (records_bytes 1 links ++ records_bytes 2 nodes)
  regrouped = append_assoc (record_bytes 3 settings) (records_bytes 1 links) (records_bytes 2 nodes)

  links_reach : Reaches 1 looks (record_bytes 3 settings ++ (records_bytes 1 links ++ records_bytes 2 nodes)) (run_to 15 0 0) links
      (length (record_bytes 3 settings ++ records_bytes 1 links))
  links_reach =
      reaches 1 (omega arith) _ (length (record_bytes 3 settings ++ records_bytes 1 links))
      (λ r p. subst (λ (t : List ℕ). step_at 1 t r ≡ Ok None) regrouped (not_a_link (record_bytes 3 settings ++ records_bytes 1 links) nodes goes-nodes r p))
      links max_links (record_bytes 3 settings) (records_bytes 2 nodes) (run_to 15 0 0) few_links goes-links (omega (arith, nine))
      (length-append (record_bytes 3 settings) (records_bytes 1 links)) refl

  nodes_reach : (at : ℕ) → at ≡ length (record_bytes 3 settings ++ records_bytes 1 links)
      → Reaches 2 looks (record_bytes 3 settings ++ (records_bytes 1 links ++ records_bytes 2 nodes)) (run_to at 0 0) nodes
      (length (record_bytes 3 settings ++ (records_bytes 1 links ++ records_bytes 2 nodes)))
  nodes_reach at p =
      reaches 2 (omega arith) _ (length (record_bytes 3 settings ++ (records_bytes 1 links ++ records_bytes 2 nodes)))
      (λ r q. step_cut 2 _ r (omega (arith, q)))
      nodes max_nodes (record_bytes 3 settings ++ records_bytes 1 links) [] (run_to at 0 0) few_nodes goes-nodes p
      (ap length (sym regrouped) ∙ length-append (record_bytes 3 settings ++ records_bytes 1 links) (records_bytes 2 nodes))
      (sym regrouped ∙ ap (λ (t : List ℕ). (record_bytes 3 settings ++ records_bytes 1 links) ++ t) (sym (append-nil (records_bytes 2 nodes))))

  -- a file of right form is read as its bodies
  pub form_read : form_of (record_bytes 3 settings ++ (records_bytes 1 links ++ records_bytes 2 nodes)) ≡ form links nodes
  unfolding form_of
  form_read =
      let a = links_reach in
      let b = nodes_reach a.last.at a.ends in
      rw (right, a.is, b.is, eq-eqb b.last.at _ b.ends)

-- ---- the numbers of a link

bits_small : (z : ℤ) → mag z < 2147483648 → bits_of z < 4294967296
bits_small (pos n) h = omega arith
bits_small (negsuc n) h = omega arith

signed_bits : (z : ℤ) → mag z < 2147483648 → signed (bits_of z) ≡ z
unfolding signed
signed_bits (pos n) h = rw (lt-ltb n 2147483648 h)
signed_bits (negsuc n) h = rw (le-ltb (4294967295 - n) 2147483648 (omega arith)) (ap negsuc (omega arith))

four_signed : (z : ℤ) → mag z < 2147483648
    → signed (bits_of z % 256 + 256 * (bits_of z / 256 % 256) + 65536 * (bits_of z / 256 / 256 % 256 + 256 * (bits_of z / 256 / 256 / 256 % 256))) ≡ z
four_signed z h = ap signed (four_bytes (bits_of z) (bits_small z h)) ∙ signed_bits z h

module _ (l : LinkRecord) (f : LinkFits l) where
  ax_read : i32_at (link_body l) 0 ≡ l.ax
  unfolding link_body u16_at u32_at
  ax_read = four_signed l.ax f.ax

  ay_read : i32_at (link_body l) 4 ≡ l.ay
  unfolding link_body u16_at u32_at
  ay_read = four_signed l.ay f.ay

  bx_read : i32_at (link_body l) 8 ≡ l.bx
  unfolding link_body u16_at u32_at
  bx_read = four_signed l.bx f.bx

  by_read : i32_at (link_body l) 12 ≡ l.by
  unfolding link_body u16_at u32_at
  by_read = four_signed l.by f.by

  a_id_read : u16_at (link_body l) 16 ≡ l.a_id
  unfolding link_body u16_at
  a_id_read = two_bytes l.a_id f.a_id

  b_id_read : u16_at (link_body l) 18 ≡ l.b_id
  unfolding link_body u16_at
  b_id_read = two_bytes l.b_id f.b_id

  top_read : get_or (link_body l) 20 0 ≡ l.top
  unfolding link_body
  top_read = refl

  state_read : get_or (link_body l) 21 0 ≡ l.state
  unfolding link_body
  state_read = refl

column_read : {A : Type 0} (of : List ℕ → A) (field : LinkRecord → A) → ((l : LinkRecord) → LinkFits l → of (link_body l) ≡ field l)
    → (ls : List LinkRecord) → LinksFit ls → map of (map link_body ls) ≡ map field ls
column_read of field same [] h = refl
column_read of field same (l ∷ ls) h = ap₂ (λ (x : _) (xs : List _). x ∷ xs) (same l h.0) (column_read of field same ls h.1)

links_go : (ls : List LinkRecord) (count size : ℕ) → count + length ls ≤ max_links → HeadsRight 1 count size (map link_body ls)
unfolding link_body
links_go [] count size h = tt
links_go (l ∷ ls) count size h = (rw (lt-ltb count max_links (omega arith)), omega arith, links_go ls (count + 1) (size + 22) (omega arith))

-- ---- the entries of a node

length_node : (ks : List ℕ) → length (node_body ks) ≡ 2 * length ks
unfolding node_body
length_node [] = refl
length_node (k ∷ ks) = omega (arith, length_node ks)

first_entry : (k : ℕ) (rest : List ℕ) → k < 65536 → u16_at (k % 256 ∷ k / 256 % 256 ∷ rest) 0 ≡ k
unfolding u16_at
first_entry k rest h = two_bytes k h

node_read : (ks : List ℕ) (s before : List ℕ) (at : ℕ) → NodeFits ks → at ≡ length before → s ≡ before ++ node_body ks → every (u16_at s) 2 at (length ks) ≡ ks
unfolding node_body every
node_read [] s before at f p e = refl
node_read (k ∷ ks) s before at f p e =
    ap₂ (λ x (xs : List ℕ). x ∷ xs)
    (ap₂ u16_at e (p ∙ sym (add-zero (length before))) ∙ moved16 before (k % 256 ∷ k / 256 % 256 ∷ node_body ks) 0 ∙ first_entry k (node_body ks) f.0)
    (node_read ks s (before ++ (k % 256 ∷ k / 256 % 256 ∷ [])) (at + 2) f.1 (omega (arith, length-append before (k % 256 ∷ k / 256 % 256 ∷ [])))
    (e ∙ sym (append_assoc before (k % 256 ∷ k / 256 % 256 ∷ []) (node_body ks))))

half_length : (ks : List ℕ) → length (node_body ks) / 2 ≡ length ks
half_length ks = omega (arith, length_node ks)

entries_read : (ks : List ℕ) → NodeFits ks → node_entries (node_body ks) ≡ ks
entries_read ks f = ap (every (u16_at (node_body ks)) 2 0) (half_length ks) ∙ node_read ks (node_body ks) [] 0 f refl refl

list_read : (ns : List (List ℕ)) → NodesFit ns → flat_list (map node_body ns) ≡ joined ns
unfolding flat_list joined
list_read [] f = refl
list_read (n ∷ ns) f = ap₂ ◌++◌ (entries_read n f.0) (list_read ns f.1)

starts_read : (ns : List (List ℕ)) (e : ℕ) → starts_of e (map node_body ns) ≡ positions e ns
unfolding starts_of positions
starts_read [] e = refl
starts_read (n ∷ ns) e =
    ap (λ (xs : List ℕ). e ∷ xs) (ap (λ k. starts_of (e + k) (map node_body ns)) (half_length n) ∙ starts_read ns (e + length n))

nodes_go : (ns : List (List ℕ)) (count size : ℕ) → count + length ns ≤ max_nodes → size + 2 * length (joined ns) ≤ 2 * max_entries
    → HeadsRight 2 count size (map node_body ns)
unfolding joined
nodes_go [] count size h r = tt
nodes_go (n ∷ ns) count size h r =
    let l = length_node n in
    let j = length-append n (joined ns) in (
      right_head (length (node_body n)) (omega arith) (omega arith),
      omega arith,
      nodes_go ns (count + 1) (size + length (node_body n)) (omega arith) (omega arith),
    )
  where
    right_head : (len : ℕ) → len % 2 ≡ 0 → size + len ≤ 2 * max_entries → node_number count size len ≡ None
    right_head len e f = rw (eq-eqb (len % 2) 0 e, lt-ltb count max_nodes (omega arith), le-leb (size + len) (2 * max_entries) f)

-- ---- the whole file

-- the minimum, after the seven bytes before it
minimum_read : (a b c d e f g m : ℕ) (rest : List ℕ) → m < 18446744073709551616 → u64_at (a ∷ b ∷ c ∷ d ∷ e ∷ f ∷ g ∷ (little 8 m ++ rest)) 7 ≡ m
unfolding u64_at u32_at u16_at
minimum_read a b c d e f g m rest h = omega arith

same_graph : {w w' : Bool} {m m' : ℕ} {ax ax' ay ay' bx bx' by by' : List ℤ} {a a' b b' t t' s s' st st' l l' : List ℕ}
    → w ≡ w' → m ≡ m' → ax ≡ ax' → ay ≡ ay' → bx ≡ bx' → by ≡ by' → a ≡ a' → b ≡ b' → t ≡ t' → s ≡ s' → st ≡ st' → l ≡ l'
    → holding (record { clockwise = w; minimum = m; ax = ax; ay = ay; bx = bx; by = by; a_id = a; b_id = b; top = t; state = s; start = st; list = l })
    ≡ holding
    (record { clockwise = w'; minimum = m'; ax = ax'; ay = ay'; bx = bx'; by = by'; a_id = a'; b_id = b'; top = t'; state = s'; start = st'; list = l' })
same_graph e1 e2 e3 e4 e5 e6 e7 e8 e9 e10 e11 e12 = rw (e1, e2, e3, e4, e5, e6, e7, e8, e9, e10, e11, e12)

direction_read : (w : Bool) → eqb (pick w 1 0) 1 ≡ w
direction_read true = refl
direction_read false = refl

direction_small : (w : Bool) → pick w 1 0 ≤ 1
direction_small true = omega arith
direction_small false = omega arith

-- what was written is read
pub file_read : (clockwise : Bool) (minimum : ℕ) (links : List LinkRecord) (nodes : List (List ℕ)) → FileFits minimum links nodes
    → file_of (encoded clockwise minimum links nodes) ≡ holding (graph_contents clockwise minimum links nodes)
file_read w m ls ns f =
    let fl = f.links in
    rw (form_read (settings_body w m) refl (direction_small w) (map link_body ls) (map node_body ns) (links_go ls 0 0 (omega (arith, f.few_links)))
    (omega (arith, length-map ls link_body, f.few_links))
    (nodes_go ns 0 0 (omega (arith, f.few_nodes)) (omega (arith, f.few_entries_lem)))
    (omega (arith, length-map ns node_body, f.few_nodes)))
    (same_graph (direction_read w) (minimum_read _ _ _ _ _ _ _ m (records_bytes 1 (map link_body ls) ++ records_bytes 2 (map node_body ns)) f.minimum)
    (column_read (λ b. i32_at b 0) (λ (l : LinkRecord). l.ax) ax_read ls fl)
    (column_read (λ b. i32_at b 4) (λ (l : LinkRecord). l.ay) ay_read ls fl)
    (column_read (λ b. i32_at b 8) (λ (l : LinkRecord). l.bx) bx_read ls fl)
    (column_read (λ b. i32_at b 12) (λ (l : LinkRecord). l.by) by_read ls fl)
    (column_read (λ b. u16_at b 16) (λ (l : LinkRecord). l.a_id) a_id_read ls fl)
    (column_read (λ b. u16_at b 18) (λ (l : LinkRecord). l.b_id) b_id_read ls fl)
    (column_read (λ b. get_or b 20 0) (λ (l : LinkRecord). l.top) top_read ls fl)
    (column_read (λ b. get_or b 21 0) (λ (l : LinkRecord). l.state) state_read ls fl)
    (starts_read ns 0)
    (list_read ns f.nodes))
