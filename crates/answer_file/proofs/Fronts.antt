-- After reading, a graph's lists stand at the fronts of the buffers: they fit, and cut off they are the file's. What the lists hold in the end.
use Rattle.std.specs.Prelude.{Result}
use Prim.Native.Nat.{ℕ, ◌+◌, ◌-◌, ◌≤◌}
use native.Mathlib.Omega.{arith}
use mathlib.Core.Path.{◌≡◌, refl, sym, ap, ◌∙◌, subst}
use mathlib.Core.List.{List, [], ◌∷◌, map}
use lib.ListN.{length, drop, length-map}
use lib.Seq.{drop_at}
use Rattle.writing.specs.Put.{put_at, at_front, front_long, front_cut}
use Rattle.format_records.specs.Records.{Form, form, refused, form_of}
use Rattle.format.specs.File.{Contents, holding, contents_of, contents_into, file_of, file_from, starts_of, FileLists, Reading, reading, read_into}
use Rattle.writing.specs.Cuts.{cut}
use Rattle.answer_read.specs.ReadText.{ReadFits, read_text, read_states}
use Rattle.answer_file.specs.FileText.{file_text, with_states, states_left, file_left}
use Rattle.turn.specs.Refusals.{numbered}
use Rattle.turn.specs.declared.Refusal.{Refusal}
use Rattle.turn.specs.declared.NumberedRefusal.{NumberedRefusal}
use Rattle.format.specs.declared.FileCounts.{FileCounts}

-- past what was written at its front a list is as it was
front_rest : {A : Type 0} (n : ℕ) (t l : List A) → length t ≡ n → drop n (at_front t l) ≡ drop n l
unfolding put_at
front_rest n t l e =
    let from : 0 + length t ≡ n = omega (arith, e) in drop_at t (drop (0 + length t) l) n e ∙ ap (λ k. drop k l) from

starts_some : (nodes : List (List ℕ)) → 1 ≤ length (starts_of 0 nodes)
unfolding starts_of
starts_some [] = omega arith
starts_some (b ∷ bs) = omega arith

-- a graph whose columns have one length, and some start
pub record OneLength (g : Contents) : Type 0 where
  pub ax : length g.ax ≡ length g.a_id
  pub ay : length g.ay ≡ length g.a_id
  pub bx : length g.bx ≡ length g.a_id
  pub by : length g.by ≡ length g.a_id
  pub b_id : length g.b_id ≡ length g.a_id
  pub top : length g.top ≡ length g.a_id
  pub state : length g.state ≡ length g.a_id
  pub start : 1 ≤ length g.start

columns_even : {A B : Type 0} (f : List ℕ → A) (h : List ℕ → B) (links : List (List ℕ)) → length (map f links) ≡ length (map h links)
columns_even f h links = length-map links f ∙ sym (length-map links h)

file_even : (s : List ℕ) (links nodes : List (List ℕ)) → OneLength (contents_of s links nodes)
file_even s links nodes = record {
  ax = columns_even _ _ links;
  ay = columns_even _ _ links;
  bx = columns_even _ _ links;
  by = columns_even _ _ links;
  b_id = columns_even _ _ links;
  top = columns_even _ _ links;
  state = columns_even _ _ links;
  start = starts_some nodes;
}

module _ (g : Contents) (b : FileLists) (h : OneLength g) where
  graph_fronts : ReadFits (numbered (read_into (holding g) b).answer) (read_into (holding g) b).lent
  graph_fronts = record {
    ax = cut _ _ (omega (arith, front_long g.ax b.ax, h.ax));
    ay = cut _ _ (omega (arith, front_long g.ay b.ay, h.ay));
    bx = cut _ _ (omega (arith, front_long g.bx b.bx, h.bx));
    by = cut _ _ (omega (arith, front_long g.by b.by, h.by));
    a_id = cut _ _ (omega (arith, front_long g.a_id b.a_id));
    b_id = cut _ _ (omega (arith, front_long g.b_id b.b_id, h.b_id));
    top = cut _ _ (omega (arith, front_long g.top b.top, h.top));
    state = cut _ _ (omega (arith, front_long g.state b.state, h.state));
    start = cut _ _ (omega (arith, front_long g.start b.start, h.start));
    list = cut _ _ (omega (arith, front_long g.list b.list));
  }

  graph_text_lem : read_text (numbered (read_into (holding g) b).answer) (read_into (holding g) b).lent ≡ file_text (holding g)
  unfolding file_text
  graph_text_lem =
      rw (
        front_cut (length g.a_id) g.ax b.ax h.ax,
        front_cut (length g.a_id) g.ay b.ay h.ay,
        front_cut (length g.a_id) g.bx b.bx h.bx,
        front_cut (length g.a_id) g.by b.by h.by,
        front_cut (length g.a_id) g.a_id b.a_id refl,
        front_cut (length g.a_id) g.b_id b.b_id h.b_id,
        front_cut (length g.a_id) g.top b.top h.top,
        front_cut (length g.a_id) g.state b.state h.state,
        front_cut (length g.start - 1 + 1) g.start b.start (omega (arith, h.start)),
        front_cut (length g.list) g.list b.list refl,
      )

  graph_states_lem : read_states (numbered (read_into (holding g) b).answer) (read_into (holding g) b).lent ≡ states_left g b.state
  graph_states_lem =
      rw (
        front_cut (length g.a_id) g.ax b.ax h.ax,
        front_cut (length g.a_id) g.ay b.ay h.ay,
        front_cut (length g.a_id) g.bx b.bx h.bx,
        front_cut (length g.a_id) g.by b.by h.by,
        front_cut (length g.a_id) g.a_id b.a_id refl,
        front_cut (length g.a_id) g.b_id b.b_id h.b_id,
        front_cut (length g.a_id) g.top b.top h.top,
        front_cut (length g.a_id) g.state b.state h.state,
        front_cut (length g.start - 1 + 1) g.start b.start (omega (arith, h.start)),
        front_cut (length g.list) g.list b.list refl,
        front_rest (length g.a_id) g.state b.state h.state,
      )

-- ---- what answering is asked, what it then prints, and what the lists then hold
form_fits : (s : List ℕ) (b : FileLists) (f : Form) → ReadFits (numbered (read_into (file_from s f) b).answer) (read_into (file_from s f) b).lent
form_fits s b (form links nodes) = graph_fronts (contents_of s links nodes) b (file_even s links nodes)
form_fits s b (refused why) = tt

form_text : (s : List ℕ) (b : FileLists) (f : Form)
    → read_text (numbered (read_into (file_from s f) b).answer) (read_into (file_from s f) b).lent ≡ file_text (file_from s f)
unfolding file_text
form_text s b (form links nodes) = graph_text_lem (contents_of s links nodes) b (file_even s links nodes)
form_text s b (refused why) = refl

-- what reading leaves, with the states that answering leaves
abbrev left_by : Reading → FileLists
left_by x = with_states (read_states (numbered x.answer) x.lent) x.lent

form_left : (s : List ℕ) (b : FileLists) (f : Form) → left_by (read_into (file_from s f) b) ≡ file_left (file_from s f) b
unfolding file_left
form_left s b (form links nodes) =
    let g = contents_of s links nodes in ap (λ (l : List ℕ). with_states l (contents_into g b)) (graph_states_lem g b (file_even s links nodes))
form_left s b (refused why) = refl

module _ (s : List ℕ) (b : FileLists) {a : Result FileCounts Refusal} {b' : FileLists} (e : reading a b' ≡ read_into (file_of s) b) where
  pub read_fits : {n : Result FileCounts NumberedRefusal} → n ≡ numbered a → ReadFits n b'
  read_fits h =
      subst (λ (n : Result FileCounts NumberedRefusal). ReadFits n b') (sym h)
      (subst (λ (x : Reading). ReadFits (numbered x.answer) x.lent) (sym e) (form_fits s b (form_of s)))

  pub read_text_lem : {n : Result FileCounts NumberedRefusal} → n ≡ numbered a → read_text n b' ≡ file_text (file_of s)
  read_text_lem h =
      ap (λ (n : Result FileCounts NumberedRefusal). read_text n b') h
      ∙ ap (λ (x : Reading). read_text (numbered x.answer) x.lent) e ∙ form_text s b (form_of s)

  pub read_left : {n : Result FileCounts NumberedRefusal} → n ≡ numbered a → {state : List ℕ} → state ≡ read_states n b'
      → with_states state b' ≡ file_left (file_of s) b
  read_left h w =
      ap (λ (x : List ℕ). with_states x b') (w ∙ ap (λ (n : Result FileCounts NumberedRefusal). read_states n b') h) ∙ ap left_by e
      ∙ form_left s b (form_of s)
