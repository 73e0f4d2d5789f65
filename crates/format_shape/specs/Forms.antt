-- What a file of right form holds: where its links and nodes stand, how many they are, and that the lists read there are those of the definition.
use Rattle.std.specs.Prelude.{ℕ, ◌+◌, ◌*◌, ◌/◌, ◌≤◌, ◌≡◌, refl, true, false, List, [], ◌∷◌, leb, eqb, length, Result, Ok, Err}
use Rattle.std.proofs.Common.{sym, ap, ap₂, ◌∙◌, subst, arith, length-take, length-drop, length-append}
use borrow.Author.Tests.{eq-eqb, ne_eqb, leb-true, eqb-true}
use Rattle.laws.specs.Test.{and_true, pick_ind, pick}
use Rattle.format_numbers.specs.Bytes.{u16_at, length_every}
use Rattle.format_records.specs.Limits.{max_records}
use Rattle.format_records.specs.Records.{length_at, body_at, refusal, run_to, past, RunBodies, ran, fault, run_at, looks, form, nodes_after, form_of}
use Rattle.format_records.specs.Records.{settings_right, node_entries, flat_list, on_ran, Form, refused}
use Rattle.format_shape.specs.Shape.{run_end_of, sizes_of, right_sizes, file_shape_of}
use Rattle.format_records.specs.Steps.{Told, link_none, node_none, count_below}
use Rattle.format_shape.specs.Runs.{never, RecordsStand, stands}
use Rattle.format_records.specs.declared.Run.{Run}
use Rattle.turn.specs.declared.Reason.TheVariants.{WrongFile}
use Rattle.turn.specs.declared.Refusal.{Refusal}
use Rattle.format_shape.specs.declared.Sizes.{Sizes}

-- ---- a run's end with the bodies that were taken

pub record Taken (t : RunBodies) (r : Run) : Type 0 where
  pub bodies : List (List ℕ)
  pub is : t ≡ ran r bodies

pub taken : (t : RunBodies) (r : Run) → Ok r ≡ run_end_of t → Taken t r
taken (ran x bs) r e = record { bodies = bs; is = (cc) }
taken (fault f) r e = let z : ◌≡◌ {A = ℕ} 0 1 = cc in absurd (never z)

pub faulted : (t : RunBodies) (f : Refusal) → Err f ≡ run_end_of t → t ≡ fault f
faulted (fault g) f e = cc
faulted (ran x bs) f e = let z : ◌≡◌ {A = ℕ} 0 1 = cc in absurd (never z)

-- ---- counts

pub length_body : (kind : ℕ) (s : List ℕ) (r : Run) → Told kind s r → length (body_at s r.at) ≡ length_at s r.at
length_body kind s r t = simp (length-take, length-drop) (omega (arith, t.whole))

module _ (kind : ℕ) (s : List ℕ) where
  pub stands_count : (bs : List (List ℕ)) (r r' : Run) → RecordsStand kind s r bs r' → r'.count ≡ r.count + length bs
  stands_count [] r r' h = let e : r'.count ≡ r.count = ap (λ (x : Run). x.count) (sym h) in omega arith
  stands_count (b ∷ bs) r r' h = let e = stands_count bs (past s r) r' h.2 in omega arith

  pub stands_few : (bs : List (List ℕ)) (r r' : Run) → r.count ≤ max_records → RecordsStand kind s r bs r' → r'.count ≤ max_records
  stands_few [] r r' few h = let e : r'.count ≡ r.count = ap (λ (x : Run). x.count) (sym h) in omega arith
  stands_few (b ∷ bs) r r' few h =
      stands_few bs (past s r) r' (omega (arith, count_below kind r.count r.size (length_at s r.at) h.0.number)) h.2

  pub stands_inside : (bs : List (List ℕ)) (r r' : Run) → r.at ≤ length s → RecordsStand kind s r bs r' → r'.at ≤ length s
  stands_inside [] r r' i h = let e : r'.at ≡ r.at = ap (λ (x : Run). x.at) (sym h) in omega arith
  stands_inside (b ∷ bs) r r' i h = stands_inside bs (past s r) r' h.0.whole h.2

-- 28 bytes a link
pub stands_links : (s : List ℕ) (bs : List (List ℕ)) (r r' : Run) → RecordsStand 1 s r bs r' → r'.at ≡ r.at + 28 * length bs
stands_links s [] r r' h = let e : r'.at ≡ r.at = ap (λ (x : Run). x.at) (sym h) in omega arith
stands_links s (b ∷ bs) r r' h =
    let e = stands_links s bs (past s r) r' h.2 in
    let l = (link_none r.count (length_at s r.at) h.0.number).0 in
    omega arith

-- two bytes an entry
pub stands_nodes : (s : List ℕ) (bs : List (List ℕ)) (r r' : Run) → RecordsStand 2 s r bs r' → r'.size ≡ r.size + 2 * length (flat_list bs)
unfolding flat_list
stands_nodes s [] r r' h = let e : r'.size ≡ r.size = ap (λ (x : Run). x.size) (sym h) in omega arith
stands_nodes s (b ∷ bs) r r' h =
    let e = stands_nodes s bs (past s r) r' h.2 in
    let z = node_none r.count r.size (length_at s r.at) h.0.number in
    let l : length b ≡ length_at s r.at = ap length h.1 ∙ length_body 2 s r h.0 in
    omega (arith, z.0, length-append (node_entries b) (flat_list bs), length_every (u16_at b) 2 0 (length b / 2))

-- ---- the form by its parts

module _ (s : List ℕ) (at : ℕ) (r : Run) (links : List (List ℕ)) (n : ℕ) (count : length links ≡ n) where
  whole : (bodies : List (List ℕ)) → run_at 2 s at ≡ ran r bodies → r.at ≡ length s → r.count ≡ length bodies → r.size / 2 ≡ length (flat_list bodies)
      → right_sizes n r.count (r.size / 2) ≡ file_shape_of (nodes_after s links at)
  whole bodies is e c z = rw (is, eq-eqb r.at (length s) e, count) (ap₂ (right_sizes n) c z)

  pub nodes_right : Ok r ≡ run_end_of (run_at 2 s at) → r.at ≡ length s → right_sizes n r.count (r.size / 2) ≡ file_shape_of (nodes_after s links at)
  nodes_right h e =
      let t = taken (run_at 2 s at) r h in
      let st = stands 2 s looks (run_to at 0 0) r t.bodies t.is in
      let c : r.count ≡ length t.bodies = stands_count 2 s t.bodies (run_to at 0 0) r st ∙ omega arith in
      let z : r.size / 2 ≡ length (flat_list t.bodies) = omega (arith, stands_nodes s t.bodies (run_to at 0 0) r st) in
      whole t.bodies t.is e c z

  pub nodes_wrong : Ok r ≡ run_end_of (run_at 2 s at) → (r.at ≡ length s → ⊥) → Err (refusal WrongFile r.at) ≡ file_shape_of (nodes_after s links at)
  nodes_wrong h e = let t = taken (run_at 2 s at) r h in rw (t.is, ne_eqb r.at (length s) e)

pub nodes_fault : (s : List ℕ) (at : ℕ) (f : Refusal) (links : List (List ℕ)) → Err f ≡ run_end_of (run_at 2 s at) → Err f
    ≡ file_shape_of (nodes_after s links at)
nodes_fault s at f links h = rw (faulted (run_at 2 s at) f h)

module _ (s : List ℕ) where
  pub settings_wrong : settings_right s ≡ false → Err (refusal WrongFile 0) ≡ file_shape_of (form_of s)
  unfolding form_of
  settings_wrong h = rw h

  pub settings_long : settings_right s ≡ true → 15 ≤ length s
  unfolding settings_right
  settings_long h = leb-true 15 (length s) (and_true (leb 15 (length s)) _ h).0

  pub links_fault : settings_right s ≡ true → (f : Refusal) → Err f ≡ run_end_of (run_at 1 s 15) → Err f ≡ file_shape_of (form_of s)
  unfolding form_of
  links_fault h f e = rw (h, faulted (run_at 1 s 15) f e)

  -- the end of the links lies within the file
  pub links_inside : settings_right s ≡ true → (r : Run) → Ok r ≡ run_end_of (run_at 1 s 15) → r.at ≤ length s
  links_inside h r e =
      let t = taken (run_at 1 s 15) r e in
      stands_inside 1 s t.bodies (run_to 15 0 0) r (settings_long h) (stands 1 s looks (run_to 15 0 0) r t.bodies t.is)

  pub links_then : settings_right s ≡ true → (r : Run) → Ok r ≡ run_end_of (run_at 1 s 15)
      → (x : Result Sizes Refusal)
      → ((bodies : List (List ℕ)) → length bodies ≡ r.count → x ≡ file_shape_of (nodes_after s bodies r.at)) → x ≡ file_shape_of (form_of s)
  unfolding form_of
  links_then h r e x f =
      let t = taken (run_at 1 s 15) r e in
      let st = stands 1 s looks (run_to 15 0 0) r t.bodies t.is in
      rw (h, t.is) (f t.bodies (omega (arith, stands_count 1 s t.bodies (run_to 15 0 0) r st)))

-- ---- a file of right form

-- its links and its nodes, and where they stand
pub record FormPlaced (s : List ℕ) (links nodes : List (List ℕ)) : Type 0 where
  pub right : settings_right s ≡ true
  pub between : Run
  pub last : Run
  pub links_stand : RecordsStand 1 s (run_to 15 0 0) links between
  pub nodes_stand : RecordsStand 2 s (run_to between.at 0 0) nodes last
  pub ends : last.at ≡ length s

module _ (s : List ℕ) (links nodes : List (List ℕ)) (right : settings_right s ≡ true) where
  placed_nodes : (ls : List (List ℕ)) (r : Run) (t : RunBodies) → RecordsStand 1 s (run_to 15 0 0) ls r → run_at 2 s r.at ≡ t
      → on_ran t (λ x ns. pick (eqb x.at (length s)) (form ls ns) (refused (refusal WrongFile x.at))) ≡ form links nodes → FormPlaced s links nodes
  placed_nodes ls r (fault f) st q = λ e. let z : ◌≡◌ {A = ℕ} 0 1 = cc in absurd (never z)
  placed_nodes ls r (ran x ns) st q =
      pick_ind (eqb x.at (length s)) (form ls ns) (refused (refusal WrongFile x.at)) (λ z. z ≡ form links nodes → FormPlaced s links nodes)
      (λ h e.
      let p : ls ≡ links = cc in
      let p' : ns ≡ nodes = cc in
      record {
        right = right;
        between = r;
        last = x;
        links_stand = subst (λ (l : List (List ℕ)). RecordsStand 1 s (run_to 15 0 0) l r) p st;
        nodes_stand = subst (λ (l : List (List ℕ)). RecordsStand 2 s (run_to r.at 0 0) l x) p' (stands 2 s looks (run_to r.at 0 0) x ns q);
        ends = eqb-true x.at (length s) h;
      })
      (λ h e. let z : ◌≡◌ {A = ℕ} 0 1 = cc in absurd (never z))

  placed_links : (t : RunBodies) → run_at 1 s 15 ≡ t → on_ran t (λ r ls. nodes_after s ls r.at) ≡ form links nodes → FormPlaced s links nodes
  placed_links (fault f) q e = let z : ◌≡◌ {A = ℕ} 0 1 = cc in absurd (never z)
  placed_links (ran r ls) q e = placed_nodes ls r (run_at 2 s r.at) (stands 1 s looks (run_to 15 0 0) r ls q) refl e

pub form_placed : (s : List ℕ) (links nodes : List (List ℕ)) → form_of s ≡ form links nodes → FormPlaced s links nodes
unfolding form_of
form_placed s links nodes =
    pick_ind (settings_right s) (on_ran (run_at 1 s 15) (λ r ls. nodes_after s ls r.at)) (refused (refusal WrongFile 0))
    (λ z. z ≡ form links nodes → FormPlaced s links nodes)
    (λ h e. placed_links s links nodes h (run_at 1 s 15) refl e)
    (λ h e. let z : ◌≡◌ {A = ℕ} 0 1 = cc in absurd (never z))

pub record Formed (s : List ℕ) (n m e : ℕ) : Type 0 where
  pub links : List (List ℕ)
  pub nodes : List (List ℕ)
  pub is : form_of s ≡ form links nodes
  pub n_is : n ≡ length links
  pub m_is : m ≡ length nodes
  pub e_is : e ≡ length (flat_list nodes)

pub formed : (s : List ℕ) (n m e : ℕ) → right_sizes n m e ≡ file_shape_of (form_of s) → Formed s n m e
formed s n m e = by (form_of s) refl
  where
    by : (x : Form) → form_of s ≡ x → right_sizes n m e ≡ file_shape_of x → Formed s n m e
    by (form ls ns) q h =
        let z : sizes_of n m e ≡ sizes_of (length ls) (length ns) (length (flat_list ns)) = cc in
        record {
          links = ls;
          nodes = ns;
          is = q;
          n_is = ap (λ (x : Sizes). x.links) z;
          m_is = ap (λ (x : Sizes). x.nodes) z;
          e_is = ap (λ (x : Sizes). x.entries) z;
        }
    by (refused f) q h = let z : ◌≡◌ {A = ℕ} 0 1 = cc in absurd (never z)

pub wronged : (s : List ℕ) (f : Refusal) → Err f ≡ file_shape_of (form_of s) → form_of s ≡ refused f
wronged s f = by (form_of s)
  where
    by : (x : Form) → Err f ≡ file_shape_of x → x ≡ refused f
    by (refused g) h = cc
    by (form ls ns) h = let z : ◌≡◌ {A = ℕ} 0 1 = cc in absurd (never z)
