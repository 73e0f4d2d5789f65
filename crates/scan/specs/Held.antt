-- The link that the scan holds while it stands at link k (rule 7): the first link of the last walk from there, or none.
use Rattle.std.specs.Prelude.{ℕ, suc, ◌*◌, ◌≤◌, ◌<◌, ◌≡◌, refl, Bool, true, false, not, List, ℤ, length, get_or, set, Option, Some, None, is_some}
use Rattle.std.specs.Option.{ForSome}
use Rattle.std.proofs.Common.{arith, sym, ap, ◌∙◌, subst, true≢false}
use Rattle.laws.specs.Test.{pick}
use Rattle.graph.specs.Graph.{Graph}
use Rattle.next.specs.Next.{is_unvisited, next_link, first_link, unvisited}
use Rattle.next.specs.States.{unvisited_below}
use Rattle.rings.specs.Ends.{a_end}
use Rattle.rings.specs.Field.{cross_mark, Field, Fielded}
use Rattle.rings.proofs.Steering.{later_same}
use Rattle.rings.proofs.Descent.{descends}
use Rattle.first.specs.Leading.{Resumes, Asked}
use Rattle.walk.specs.Walk.{Step, Walked, stuck, done, cons_step, on_next, walk_on, walk_from, mark_of}
use Rattle.walk.specs.Code.{Kept}
use Rattle.walk.specs.Later.{kept_later}
use Rattle.walk.specs.States.{Unvisited, Mark, set_same}
use Rattle.walk.specs.Visits.{one, fresh_times, Leaves, walk_leaves, mark_of_lem}
use Rattle.walk.specs.Named.{LinkUnvisited, first_is_unvisited}
use Rattle.keep.specs.declared.Counts.{Counts}
use Rattle.keep.specs.Tables.{Tables}
use Rattle.scan.specs.Scan.{sense_of, walk_of}
use Rattle.contour.specs.Notes.{WalkNoted, entered, entered_same}
use Rattle.scan.specs.Notes.{FirstNoted}

-- rule 1 named held at link k in states of which some have been marked since, its own among them
pub record Named (g : Graph) (st : List ℕ) (k held : ℕ) : Type 0 where
  pub old : List ℕ
  pub kept : Kept old st
  pub lowest : (x : ℕ) → is_unvisited old x ≡ true → k ≤ x
  pub is : first_link g old k ≡ Some held
  pub visited : is_unvisited st held ≡ false

-- what is held was named so, or there is none
abbrev pub Held : Graph → List ℕ → ℕ → Option ℕ → Type 0
Held g st k held = ForSome held (Named g st k)

pub no_link : (g : Graph) (st : List ℕ) (k : ℕ) → Held g st k None
no_link g st k h e = absurd (true≢false (sym (ap is_some e)))

pub one_link : (g : Graph) (st : List ℕ) (k h : ℕ) → Named g st k h → Held g st k (Some h)
one_link g st k h n x e = subst (Named g st k) same n
  where
    same : h ≡ x
    same = cc

-- the field of ends of a graph, and what is held of it: there is such a graph
pub record Standing (ax ay bx by : List ℤ) (top nxt prv lead st : List ℕ) (k : ℕ) (held : Option ℕ) : Type 0 where
  pub fielded : Fielded ax ay bx by top nxt prv lead st
  pub holds : Held fielded.graph st k held

-- ---- rule 1 goes on from there
module _ {ax ay bx by : List ℤ} {top nxt prv lead st : List ℕ} {k : ℕ} {held : Option ℕ} (o : is_unvisited st k ≡ true) where
  pub resumes : {g : Graph} → Field g ax ay bx by top nxt prv lead st → Held g st k held → Resumes g nxt prv st k held
  resumes {g} f holds h e c =
      let n = holds h e in
      descends f.steers (f.firsts.again k (subst (λ m. k < m) (sym f.firsts.size) (unvisited_below st k o)) (λ e. not_bridge c e)
      n.old st (later_same st) (kept_later n.kept) o n.lowest h n.is n.visited) n.visited
    where
      not_bridge : cross_mark ≤ get_or nxt (a_end k) 0 → get_or nxt (a_end k) 0 < cross_mark → ⊥
      not_bridge c e = omega arith

  pub asked : Standing ax ay bx by top nxt prv lead st k held → Asked ax ay bx by nxt prv lead st k held
  asked s =
      let f = s.fielded.field in
      record {
        begun = record { graph = s.fielded.graph; firsts = f.firsts; reads = f.reads };
        prv_long = subst (λ n. 2 * n ≤ length prv) f.steers.size f.steers.prv_long;
        resumes = resumes f s.holds;
      }

-- ---- a walk visits its first link
abbrev Shuts : ℕ → Walked → Type 0
Shuts s (stuck reason) = Unit {0}
Shuts s (done l after) = is_unvisited after s ≡ false

shuts_cons : (s : ℕ) (x : Step) (o : Walked) → Shuts s o → Shuts s (cons_step x o)
shuts_cons s x (stuck reason) h = tt
shuts_cons s x (done l after) h = h

none_of : (b : Bool) → one b ≡ 0 → b ≡ false
none_of true e = absurd (some e)
  where
    some : ◌≡◌ {A = ℕ} 1 0 → ⊥
    some e = omega arith
none_of false e = refl

shuts_leaves : (m s : ℕ) (st : List ℕ) → Mark m → is_unvisited st s ≡ false → (o : Walked) → Leaves m st o → Shuts s o
shuts_leaves m s st n c (stuck reason) h = tt
shuts_leaves m s st n c (done l after) h =
    none_of (is_unvisited after s)
    (omega (arith, fresh_times s m st l n h.1, ap one c, ap (λ (a : List ℕ). one (is_unvisited a s)) h.0))

shuts_from : (g : Graph) (forward sense : Bool) (mark : ℕ) (st : List ℕ) (s : ℕ) → Mark mark → Unvisited st s
    → Shuts s (walk_from g forward sense mark st s)
unfolding walk_from
shuts_from g forward sense mark st s n o = by (next_link g (not sense) (set st s mark) (pick forward (g.a_node s) (g.b_node s)) s)
  where
    home : ℕ
    home = pick forward (g.a_node s) (g.b_node s)

    ahead : ℕ
    ahead = pick forward (g.b_node s) (g.a_node s)

    by : (x : Option ℕ)
        → Shuts s
        (on_next (λ last. cons_step (record { link = s; forward = forward })
        (walk_on (suc (unvisited (set st s mark))) g sense home last mark ahead s (set st s mark))) x)
    by None = tt
    by (Some last) =
        shuts_cons s (record { link = s; forward = forward })
        (walk_on (suc (unvisited (set st s mark))) g sense home last mark ahead s (set st s mark))
        (shuts_leaves mark s (set st s mark) n (set_same st s mark o n)
        (walk_on (suc (unvisited (set st s mark))) g sense home last mark ahead s (set st s mark))
        (walk_leaves g sense home last mark (suc (unvisited (set st s mark))) ahead s (set st s mark)))

-- ---- so a walk that is entered leaves held what it tells
module _ (g : Graph) (cw : Bool) (minimum : ℕ) (t : Tables) (st : List ℕ) (k : ℕ) (st' : List ℕ) (pts' : List ℤ) (first' len' kind' : List ℕ)
    (d : Counts) (s : ℕ) where
  walk_told : (hole : Bool) (f : ℕ) (o : Walked) → Shuts f o → WalkNoted g minimum t hole f o (entered d s) st' pts' first' len' kind'
      → (Some f ≡ Some s) × (is_unvisited st' s ≡ false)
  walk_told hole f (stuck reason) c h = absurd (true≢false (cc))
  walk_told hole f (done l u) c h =
      let q : s ≡ f = (entered_same _ _ s f h.0).1 in
      (ap Some (sym q), ap (is_unvisited st') q ∙ ap (λ (a : List ℕ). is_unvisited a f) h.1 ∙ c)

  told : (n : Option ℕ) → LinkUnvisited st n → FirstNoted g cw minimum t st n (entered d s) st' pts' first' len' kind'
      → (n ≡ Some s) × (is_unvisited st' s ≡ false)
  told None u h = absurd (true≢false (cc))
  told (Some f) u h =
      walk_told (g.top f) f (walk_of g cw st f)
      (shuts_from g (not (sense_of g cw f)) (sense_of g cw f) (mark_of (g.top f)) st f (mark_of_lem (g.top f)) u) h

  pub named_then : is_unvisited st k ≡ true → ((x : ℕ) → is_unvisited st x ≡ true → k ≤ x) → Kept st st'
      → FirstNoted g cw minimum t st (first_link g st k) (entered d s) st' pts' first' len' kind' → Named g st' k s
  named_then o low m h =
      let e = told (first_link g st k) (first_is_unvisited g st k o) h in
      record { old = st; kept = m; lowest = low; is = e.0; visited = e.1 }
