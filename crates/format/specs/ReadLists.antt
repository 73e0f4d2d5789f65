-- The lists that are read where the records of a file of right form stand are the definition's.
use Rattle.std.specs.Prelude.{ℕ, zero, suc, ◌+◌, ◌*◌, ◌/◌, ◌≤◌, ◌<◌, ◌≡◌, refl, Bool, List, [], ◌∷◌, ◌++◌, map, eqb, ℤ, length, drop, Ok, Err}
use Rattle.std.proofs.Common.{sym, ap, ◌∙◌, add_assoc, add-zero, arith, get_or-take, get_or-drop}
use Rattle.std.proofs.Math.Path.{ap₂}
use Rattle.std.proofs.Math.ListN.{get_or}
use Rattle.std.proofs.lemmas.List.{length-map}
use Rattle.writing.specs.Put.{at_front}
use Rattle.format_numbers.specs.Bytes.{u16_at, u32_at, u64_at, i32_at, signed, every}
use Rattle.turn.specs.Limits.{max_links}
use Rattle.format_records.specs.Limits.{max_nodes, max_entries}
use Rattle.format_records.specs.Records.{length_at, body_at, record_end, run_to, past, form_of, flat_list}
use Rattle.format.specs.File.{starts_of, file_of, FileLists, file_lists, reading, read_into}
use Rattle.format_shape.specs.Shape.{file_shape_of}
use Rattle.format_lists.specs.Columns.{Columns, columns, column, links_into}
use Rattle.format_lists.specs.NodeLists.{entries_from, starts_from, NodesStand}
use Rattle.format_records.specs.Steps.{link_none, node_none}
use Rattle.format_shape.specs.Runs.{RecordsStand}
use Rattle.format_shape.specs.Forms.{length_body, stands_count, stands_few, stands_inside, stands_links, settings_long, Formed, wronged, FormPlaced}
use Rattle.format_shape.specs.Forms.{form_placed}
use Rattle.format_records.specs.declared.Run.{Run}
use Rattle.turn.specs.declared.Refusal.{Refusal}

-- ---- the bytes of a body, where they stand in the file

module _ (s : List ℕ) (at : ℕ) where
  body_byte : (i : ℕ) → i < length_at s at → get_or s (at + 6 + i) 0 ≡ get_or (body_at s at) i 0
  body_byte i h = sym (get_or-take (length_at s at) (drop (at + 6) s) i 0 h ∙ get_or-drop (at + 6) s i 0)

  body_u16 : (i : ℕ) → i + 2 ≤ length_at s at → u16_at s (at + 6 + i) ≡ u16_at (body_at s at) i
  unfolding u16_at
  body_u16 i h =
      ap₂ (λ x y. x + 256 * y) (body_byte i (omega arith))
      (ap (λ k. get_or s k 0) (add_assoc (at + 6) i 1) ∙ body_byte (i + 1) (omega arith))

  body_u32 : (i : ℕ) → i + 4 ≤ length_at s at → u32_at s (at + 6 + i) ≡ u32_at (body_at s at) i
  unfolding u32_at
  body_u32 i h =
      ap₂ (λ x y. x + 65536 * y) (body_u16 i (omega arith))
      (ap (u16_at s) (add_assoc (at + 6) i 2) ∙ body_u16 (i + 2) (omega arith))

-- ---- a column of the links

column_is : {A : Type 0} (s : List ℕ) (f : ℕ → A) (g : List ℕ → A) (j : ℕ) → ((at : ℕ) → length_at s at ≡ 22 → f (at + 6 + j) ≡ g (body_at s at))
    → (bs : List (List ℕ)) (r r' : Run) → RecordsStand 1 s r bs r' → every f 28 (r.at + 6 + j) (length bs) ≡ map g bs
unfolding every
column_is s f g j agree [] r r' h = refl
column_is s f g j agree (b ∷ bs) r r' h =
    let l = (link_none r.count (length_at s r.at) h.0.number).0 in
    let e : r.at + 6 + j + 28 ≡ record_end s r.at + 6 + j = omega arith in
    ap₂ (λ (x : _) (xs : List _). x ∷ xs) (agree r.at l ∙ ap g (sym h.1))
    (ap (λ i. every f 28 i (length bs)) e ∙ column_is s f g j agree bs (past s r) r' h.2)

-- ---- the nodes

every_moved : {A : Type 0} (f g : ℕ → A) (p top : ℕ) → ((i : ℕ) → i + 2 ≤ top → f (p + i) ≡ g i) → (n i : ℕ) → i + 2 * n ≤ top → every f 2 (p + i) n
    ≡ every g 2 i n
unfolding every
every_moved f g p top same zero i h = refl
every_moved f g p top same (suc n) i h =
    ap₂ (λ (x : _) (xs : List _). x ∷ xs) (same i (omega arith))
    (ap (λ k. every f 2 k n) (add_assoc p i 2) ∙ every_moved f g p top same n (i + 2) (omega arith))

entries_here : (s : List ℕ) (at : ℕ) → every (u16_at s) 2 (at + 6) (length_at s at / 2) ≡ every (u16_at (body_at s at)) 2 0 (length_at s at / 2)
entries_here s at =
    ap (λ k. every (u16_at s) 2 k (length_at s at / 2)) (sym (add-zero (at + 6)))
    ∙ every_moved (u16_at s) (u16_at (body_at s at)) (at + 6) (length_at s at) (body_u16 s at) (length_at s at / 2) 0 (omega arith)

entries_are : (s : List ℕ) (bs : List (List ℕ)) (r r' : Run) → RecordsStand 2 s r bs r' → entries_from s (length bs) r.at ≡ flat_list bs
unfolding entries_from flat_list
entries_are s [] r r' h = refl
entries_are s (b ∷ bs) r r' h =
    let l : length_at s r.at ≡ length b = sym (ap length h.1 ∙ length_body 2 s r h.0) in
    ap₂ ◌++◌
    (entries_here s r.at ∙ ap₂ (λ (c : List ℕ) k. every (u16_at c) 2 0 (k / 2)) (sym h.1) l)
    (entries_are s bs (past s r) r' h.2)

starts_are : (s : List ℕ) (bs : List (List ℕ)) (r r' : Run) (e : ℕ) → RecordsStand 2 s r bs r' → starts_from s (length bs) r.at e ≡ starts_of e bs
unfolding starts_from starts_of
starts_are s [] r r' e h = refl
starts_are s (b ∷ bs) r r' e h =
    let l : length_at s r.at ≡ length b = sym (ap length h.1 ∙ length_body 2 s r h.0) in
    ap (λ (xs : List ℕ). e ∷ xs) (starts_are s bs (past s r) r' (e + length_at s r.at / 2) h.2 ∙ ap (λ k. starts_of (e + k / 2) bs) l)

nodes_stand : (s : List ℕ) (bs : List (List ℕ)) (r r' : Run) (e : ℕ) → r.size ≡ 2 * e → e ≤ max_entries → RecordsStand 2 s r bs r'
    → NodesStand s max_entries (length bs) r.at e
unfolding NodesStand
nodes_stand s [] r r' e z few h = few
nodes_stand s (b ∷ bs) r r' e z few h =
    let n = node_none r.count r.size (length_at s r.at) h.0.number in
    let room : e + length_at s r.at / 2 ≤ max_entries = omega (arith, n.2) in
    (h.0.whole, (n.0, (room, nodes_stand s bs (past s r) r' (e + length_at s r.at / 2) (omega (arith, n.0)) room h.2)))

length_starts : (e : ℕ) (bs : List (List ℕ)) → length (starts_of e bs) ≡ suc (length bs)
unfolding starts_of
length_starts e [] = refl
length_starts e (b ∷ bs) = ap suc (length_starts (e + length b / 2) bs)

-- ---- a file of right form

over_by : {A : Type 0} {l l' : List A} → l ≡ l' → (b : List A) → at_front l b ≡ at_front l' b
over_by e b = ap (λ (l : List _). at_front l b) e

same_reading : {n n' m m' e e' min min' : ℕ} {w w' : Bool} {ax ax' ay ay' bx bx' by by' : List ℤ} {a a' b b' t t' s s' st st' l l' : List ℕ}
    → n ≡ n' → m ≡ m' → e ≡ e' → w ≡ w' → min ≡ min'
    → ax ≡ ax' → ay ≡ ay' → bx ≡ bx' → by ≡ by' → a ≡ a' → b ≡ b' → t ≡ t' → s ≡ s' → st ≡ st' → l ≡ l'
    → reading (Ok (record { links = n; nodes = m; entries = e; clockwise = w; minimum = min })) (file_lists ax ay bx by a b t s st l)
    ≡ reading (Ok (record { links = n'; nodes = m'; entries = e'; clockwise = w'; minimum = min' })) (file_lists ax' ay' bx' by' a' b' t' s' st' l')
same_reading e1 e2 e3 e4 e5 e6 e7 e8 e9 e10 e11 e12 e13 e14 e15 = rw (e1, e2, e3, e4, e5, e6, e7, e8, e9, e10, e11, e12, e13, e14, e15)

-- what the functions that fill the lists are asked, and what they then leave
module _ (s : List ℕ) (n m e : ℕ) (f : Formed s n m e) where
  is_placed : FormPlaced s f.links f.nodes
  is_placed = form_placed s f.links f.nodes f.is

  pub file_long : 15 ≤ length s
  file_long = settings_long s is_placed.right

  -- the nodes begin after the links
  nodes_at : is_placed.between.at ≡ 15 + 28 * n
  nodes_at =
      stands_links s f.links (run_to 15 0 0) is_placed.between is_placed.links_stand
      ∙ ap (λ k. 15 + 28 * k) (sym f.n_is)

  pub links_fit : 15 + 28 * n ≤ length s
  links_fit =
      let i = stands_inside 1 s f.links (run_to 15 0 0) is_placed.between file_long is_placed.links_stand in
      omega (arith, nodes_at)

  pub links_few : n ≤ max_links
  links_few =
      omega (
        arith,
        f.n_is,
        stands_count 1 s f.links (run_to 15 0 0) is_placed.between is_placed.links_stand,
        stands_few 1 s f.links (run_to 15 0 0) is_placed.between (omega arith) is_placed.links_stand,
      )

  pub nodes_few : m ≤ max_nodes
  nodes_few =
      omega (
        arith,
        f.m_is,
        stands_count 2 s f.nodes (run_to is_placed.between.at 0 0) is_placed.last is_placed.nodes_stand,
        stands_few 2 s f.nodes (run_to is_placed.between.at 0 0) is_placed.last (omega arith) is_placed.nodes_stand,
      )

  pub nodes_fit : NodesStand s max_entries m (15 + 28 * n) 0
  nodes_fit =
      rw (f.m_is, ← nodes_at)
      (nodes_stand s f.nodes (run_to is_placed.between.at 0 0) is_placed.last 0 refl (omega arith) is_placed.nodes_stand)

  column_of : {A : Type 0} (at : ℕ → A) (of : List ℕ → A) (j : ℕ) → ((p : ℕ) → length_at s p ≡ 22 → at (p + 6 + j) ≡ of (body_at s p))
      → column at j n ≡ map of f.links
  column_of at of j agree =
      ap (λ k. every at 28 (21 + j) k) f.n_is ∙ column_is s at of j agree f.links (run_to 15 0 0) is_placed.between is_placed.links_stand

  i32_column : (j : ℕ) → j + 4 ≤ 22 → column (i32_at s) j n ≡ map (λ b. i32_at b j) f.links
  i32_column j h = column_of (i32_at s) (λ b. i32_at b j) j (λ p l. ap signed (body_u32 s p j (omega arith)))

  u16_column : (j : ℕ) → j + 2 ≤ 22 → column (u16_at s) j n ≡ map (λ b. u16_at b j) f.links
  u16_column j h = column_of (u16_at s) (λ b. u16_at b j) j (λ p l. body_u16 s p j (omega arith))

  u8_column : (j : ℕ) → j < 22 → column (λ i. get_or s i 0) j n ≡ map (λ b. get_or b j 0) f.links
  u8_column j h = column_of (λ i. get_or s i 0) (λ b. get_or b j 0) j (λ p l. body_byte s p j (omega arith))

  starts_of_lem : (b : List ℕ) → at_front (starts_from s m (15 + 28 * n) 0) b ≡ at_front (starts_of 0 f.nodes) b
  starts_of_lem b =
      ap₂ (λ k p. at_front (starts_from s k p 0) b) f.m_is (sym nodes_at)
      ∙ ap (λ (l : List ℕ). at_front l b) (starts_are s f.nodes (run_to is_placed.between.at 0 0) is_placed.last 0 is_placed.nodes_stand)

  entries_of_lem : (b : List ℕ) → at_front (entries_from s m (15 + 28 * n)) b ≡ at_front (flat_list f.nodes) b
  entries_of_lem b =
      ap₂ (λ k p. at_front (entries_from s k p) b) f.m_is (sym nodes_at)
      ∙ ap (λ (l : List ℕ). at_front l b) (entries_are s f.nodes (run_to is_placed.between.at 0 0) is_placed.last is_placed.nodes_stand)

  -- the answer and the lists, filled column by column, are the definition's
  pub read_right : (b : FileLists) (clockwise : Bool) (minimum : ℕ) (c : Columns) (start list : List ℕ)
      → clockwise ≡ eqb (get_or s 6 0) 1
      → minimum ≡ u64_at s 7
      → c ≡ links_into s n (columns b.ax b.ay b.bx b.by b.a_id b.b_id b.top b.state)
      → start ≡ at_front (starts_from s m (15 + 28 * n) 0) b.start
      → list ≡ at_front (entries_from s m (15 + 28 * n)) b.list
      → reading (Ok (record { links = n; nodes = m; entries = e; clockwise = clockwise; minimum = minimum }))
      (file_lists c.ax c.ay c.bx c.by c.a_id c.b_id c.top c.state start list)
      ≡ read_into (file_of s) b
  read_right b clockwise minimum c start list p q h i j =
      rw f.is
      (same_reading (f.n_is ∙ sym (length-map f.links (λ b. u16_at b 16))) (f.m_is ∙ omega (arith, length_starts 0 f.nodes)) f.e_is p q
      (ap (λ (x : Columns). x.ax) h ∙ over_by (i32_column 0 (omega arith)) b.ax)
      (ap (λ (x : Columns). x.ay) h ∙ over_by (i32_column 4 (omega arith)) b.ay)
      (ap (λ (x : Columns). x.bx) h ∙ over_by (i32_column 8 (omega arith)) b.bx)
      (ap (λ (x : Columns). x.by) h ∙ over_by (i32_column 12 (omega arith)) b.by)
      (ap (λ (x : Columns). x.a_id) h ∙ over_by (u16_column 16 (omega arith)) b.a_id)
      (ap (λ (x : Columns). x.b_id) h ∙ over_by (u16_column 18 (omega arith)) b.b_id)
      (ap (λ (x : Columns). x.top) h ∙ over_by (u8_column 20 (omega arith)) b.top)
      (ap (λ (x : Columns). x.state) h ∙ over_by (u8_column 21 (omega arith)) b.state)
      (i ∙ starts_of_lem b.start)
      (j ∙ entries_of_lem b.list))

pub read_wrong : (s : List ℕ) (e : Refusal) (b : FileLists) → Err e ≡ file_shape_of (form_of s) → reading (Err e) b ≡ read_into (file_of s) b
read_wrong s e b h = rw (wronged s e h)
