-- What extraction leaves: after a walk that is refused, and after all walks.
use Rattle.std.specs.Prelude.{Result, Ok, Err}
use Prim.Native.Nat.{ℕ, ◌*◌, ◌≤◌}
use mathlib.Core.Path.{◌≡◌, refl, sym, ap, ◌∙◌}
use mathlib.Core.Bool.{Bool, true≢false}
use mathlib.Core.List.{List, map}
use native.Mathlib.Omega.{arith}
use lib.ListN.{length, replicate}
use lib.IntN.{ℤ, pos}
use Rattle.laws.specs.Lists.{map_from, map_const}
use Rattle.graph.specs.Graph.{Graph}
use Rattle.keep.specs.declared.Counts.{Counts}
use Rattle.walk.specs.Walk.{Walk}
use Rattle.scan.specs.Scan.{Scanned, stopped, walks, scan}
use Rattle.scan.specs.Visits.{scanned}
use Rattle.keep.specs.Ledger.{Fits, finished}
use Rattle.keep.specs.Tables.{Tables, tables, no_counts, all_noted}
use Rattle.finish.specs.Finish.{finished_by, Holds, Buffers, buffers}
use Rattle.contour.specs.Notes.{Roomy}
use Rattle.scan.specs.Notes.{Ends, ScanLeaves}
use Rattle.walk.specs.Code.{Kept, unmark}
use Rattle.walk.specs.States.{unvisited_some}
use Rattle.extraction.specs.Extract.{extracted_as, after_scan}
use Rattle.turn.specs.Refusals.{refused}
use Rattle.turn.specs.declared.Reason.{Reason}
use Rattle.turn.specs.declared.Refusal.{Refusal}

zeros : {A : Type 0} (z : A) (l l' l'' : List A) → length l' ≡ length l → l'' ≡ map_from (λ _. z) 0 l' → l'' ≡ replicate (length l) z
zeros z l l' l'' e q = q ∙ map_const z l' ∙ ap (λ k. replicate k z) e

-- ---- a walk was refused
abbrev refusal_at : Reason → ℕ → Refusal
refusal_at reason place = record { reason = reason; place = place }

module _ (g : Graph) (minimum : ℕ) (b : Buffers) (t : Tables) (reason : Reason) (place : ℕ) (r : Result Counts Refusal) (st' : List ℕ) (pts' : List ℤ)
    (first' len' kind' : List ℕ) where
  RefusedAt : (o : Scanned) → ScanLeaves g minimum t o r st' pts' first' len' kind' → r ≡ refused reason place → o ≡ stopped reason place
  RefusedAt (stopped m p) h e =
      let q : refused m p ≡ refused reason place = sym h ∙ e in
      let z : refusal_at m p ≡ refusal_at reason place = cc in λ i. stopped (z i).reason (z i).place
  RefusedAt (walks ws st) h e = absurd (true≢false (cc))

  all_refused : (o : Scanned) → ScanLeaves g minimum t o r st' pts' first' len' kind' → r ≡ refused reason place
      → map unmark b.state ≡ b.state → Kept b.state st' → length pts' ≡ length b.points → length first' ≡ length b.first → length len'
      ≡ length b.len → length kind' ≡ length b.kind
      → (st'' : List ℕ) (pts'' : List ℤ) (first'' len'' kind'' : List ℕ) → st'' ≡ map_from unmark 0 st' → pts'' ≡ map_from (λ _. pos 0) 0 pts'
      → first'' ≡ map_from (λ _. 0) 0 first' → len'' ≡ map_from (λ _. 0) 0 len' → kind'' ≡ map_from (λ _. 0) 0 kind'
      → extracted_as (refused reason place) (buffers st'' pts'' first'' len'' kind'') ≡ after_scan g minimum b o
  all_refused o h e u k lp lf ll lk st'' pts'' first'' len'' kind'' qs qp qf ql qk =
      let s : st'' ≡ b.state = qs ∙ k.marks ∙ u in
      let p = zeros (pos 0) b.points pts' pts'' lp qp in
      let x = zeros 0 b.first first' first'' lf qf in
      let y = zeros 0 b.len len' len'' ll ql in
      let z = zeros 0 b.kind kind' kind'' lk qk in
      (λ i. extracted_as (refused reason place) (buffers (s i) (p i) (x i) (y i) (z i)))
      ∙ ap (after_scan g minimum b) (sym (RefusedAt o h e))

-- ---- all walks were done
module _ (g : Graph) (cw : Bool) (minimum : ℕ) (b : Buffers)
    (room : Roomy (length b.state) (length b.points) (length b.first) (length b.len) (length b.kind))
    (c : Counts) (r : Result Counts Refusal) (st' : List ℕ) (pts' : List ℤ) (first' len' kind' : List ℕ) where
  abbrev t₀ : Tables
  t₀ = tables b.points b.first b.len b.kind no_counts

  fits : (ws : List Walk) (after : List ℕ) → scan g cw b.state ≡ walks ws after → Fits t₀ ws
  fits ws after e =
      let w = scanned g cw b.state ws after e in
      record {
        points_fit = omega (arith, w.count, unvisited_some b.state, room.points_room);
        threes = omega arith;
        first_fit = omega (arith, w.count, unvisited_some b.state, room.first_room);
        len_fit = room.len_room;
        kind_fit = room.kind_room;
      }

  finish : (o : Scanned) → scan g cw b.state ≡ o → ScanLeaves g minimum t₀ o r st' pts' first' len' kind' → r ≡ Ok c
      → (pts'' : List ℤ) (first'' len'' kind'' : List ℕ) → pts'' ≡ map_from (λ _. pos 0) (c.points * 2) pts'
      → first'' ≡ map_from (λ _. 0) c.contours first' → len'' ≡ map_from (λ _. 0) c.contours len' → kind'' ≡ map_from (λ _. 0) c.contours kind'
      → extracted_as (Ok c) (buffers st' pts'' first'' len'' kind'') ≡ after_scan g minimum b o
  finish (stopped reason place) e h q pts'' first'' len'' kind'' qp qf ql qk = absurd (true≢false (cc))
  finish (walks ws after) e h q pts'' first'' len'' kind'' qp qf ql qk =
      let f = finished g minimum ws b.points b.first b.len b.kind (fits ws after e) in
      let z : Ok c ≡ Ok (all_noted g minimum t₀ ws).counts = sym q ∙ h.0 in
      let k : c ≡ (all_noted g minimum t₀ ws).counts = cc in
      let s = h.1 ∙ (scanned g cw b.state ws after e).states in
      let p = qp ∙ ap (λ x. map_from (λ _. pos 0) (x.points * 2) pts') k ∙ ap (map_from (λ _. pos 0) ((all_noted g minimum t₀ ws).counts.points * 2))
      h.2 ∙ f.points_are in
      let x = qf ∙ ap (λ x. map_from (λ _. 0) x.contours first') k ∙ ap (map_from (λ _. 0) (all_noted g minimum t₀ ws).counts.contours) h.3
      ∙ f.first_are in
      let y = ql ∙ ap (λ x. map_from (λ _. 0) x.contours len') k ∙ ap (map_from (λ _. 0) (all_noted g minimum t₀ ws).counts.contours) h.4 ∙ f.len_are in
      let v = qk ∙ ap (λ x. map_from (λ _. 0) x.contours kind') k ∙ ap (map_from (λ _. 0) (all_noted g minimum t₀ ws).counts.contours) h.5 ∙ f.kind_are in
      let d = k ∙ f.counts_are in
      λ i. extracted_as (Ok (d i)) (buffers (s i) (p i) (x i) (y i) (v i))

  all_done : ScanLeaves g minimum t₀ (scan g cw b.state) r st' pts' first' len' kind' → r ≡ Ok c
      → (pts'' : List ℤ) (first'' len'' kind'' : List ℕ) → pts'' ≡ map_from (λ _. pos 0) (c.points * 2) pts'
      → first'' ≡ map_from (λ _. 0) c.contours first' → len'' ≡ map_from (λ _. 0) c.contours len' → kind'' ≡ map_from (λ _. 0) c.contours kind'
      → extracted_as (Ok c) (buffers st' pts'' first'' len'' kind'') ≡ after_scan g minimum b (scan g cw b.state)
  all_done = finish (scan g cw b.state) refl

-- ---- what the scan wrote lies within the buffers
module _ (b b' : Buffers) (room : Roomy (length b.state) (length b.points) (length b.first) (length b.len) (length b.kind))
    (lp : length b'.points ≡ length b.points) (lf : length b'.first ≡ length b.first)
    (ll : length b'.len ≡ length b.len) (lk : length b'.kind ≡ length b.kind) where
  pub holds : (r : Result Counts Refusal) → Ends (length b.state) r → Holds r b'
  holds (Err r) w = tt
  holds (Ok c) w =
      let f : c.contours ≤ length b.first = omega (arith, w.contours, w.points, w.links, room.first_room) in (
        omega (arith, w.points, w.links, room.points_room, lp),
        omega (arith, f, lf),
        omega (arith, f, room.len_room, ll),
        omega (arith, f, room.kind_room, lk),
      )

  -- and what is finished is what the definition leaves
  module _ (g : Graph) (cw : Bool) (minimum : ℕ) (u : map unmark b.state ≡ b.state) (k : Kept b.state b'.state) (b'' : Buffers) where
    pub finished_as : (r : Result Counts Refusal)
        → ScanLeaves g minimum (tables b.points b.first b.len b.kind no_counts) (scan g cw b.state) r b'.state b'.points
        b'.first b'.len b'.kind
        → b'' ≡ finished_by r b' → extracted_as r b'' ≡ after_scan g minimum b (scan g cw b.state)
    finished_as (Err r) h q =
        ap (extracted_as (Err r)) q
        ∙ all_refused g minimum b (tables b.points b.first b.len b.kind no_counts) r.reason r.place (Err r) b'.state b'.points
        b'.first b'.len b'.kind
        (scan g cw b.state) h refl u k lp lf ll lk _ _ _ _ _ refl refl refl refl refl
    finished_as (Ok c) h q =
        ap (extracted_as (Ok c)) q
        ∙ all_done g cw minimum b room c (Ok c) b'.state b'.points b'.first b'.len b'.kind h refl _ _ _ _ refl refl refl refl
