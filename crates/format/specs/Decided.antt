-- The first `file_bytes` bytes decide every input: a reader need not look further.
use Prim.Native.Nat.{ℕ, zero, suc, ◌+◌, ◌*◌, ◌≤◌, ◌<◌}
use Rattle.std.specs.Prelude.{◌≡◌, Bool, List, [], ◌∷◌, ltb, leb, length, take, drop, Option, Some, None, Result, Ok, Err}
use Rattle.std.proofs.Math.Path.{refl, ap, ap₂}
use Rattle.std.proofs.Common.{sym, ◌∙◌, subst, arith, length-take, length-drop, get_or-drop, length-take-le, take_all, ext_get_or}
use Rattle.std.proofs.Math.Bool.{true, false}
use borrow.Author.Tests.{le-leb, ne_eqb, ltb-true, ltb-false}
use Rattle.std.proofs.Math.Dec.{eqb}
use Rattle.std.proofs.Math.Seq.{get_or-take}
use Rattle.laws.specs.Test.{pick}
use Rattle.format_numbers.specs.Bytes.{u16_at, u32_at}
use Rattle.turn.specs.Limits.{max_links}
use Rattle.format_records.specs.Limits.{max_entries, file_bytes, max_records}
use Rattle.format_records.specs.Records.{length_at, body_at, record_end, head_number, body_number, first_number, record_number, refusal, run_to, past, step_at}
use Rattle.format_records.specs.Records.{RunBodies, ran, fault, with, on_step, run_from, run_at, looks, settings_right, Form, form, refused, on_ran}
use Rattle.format_records.specs.Records.{nodes_after, form_of}
use Rattle.format.specs.File.{file_from, file_of}
use Rattle.format_records.specs.Steps.{Told, next_tells, link_none, node_none}
use Rattle.format_shape.specs.Runs.{RecordsStand, stands}
use Rattle.format_shape.specs.Forms.{form_placed}
use Rattle.format_records.specs.declared.Run.{Run}
use Rattle.turn.specs.declared.Reason.{Reason}
use Rattle.turn.specs.declared.Reason.TheVariants.{WrongFile}
use Rattle.turn.specs.declared.Refusal.{Refusal}

-- a place before the end
before_end : (n p l : ℕ) → p + 6 ≤ n → n ≤ l → p ≡ l → ⊥
before_end n p l h k e = omega arith

-- ---- a file that is longer than that, and its first bytes

module _ (n : ℕ) (enough : file_bytes ≤ n) (s : List ℕ) (more : n < length s) where
  short_length : length (take n s) ≡ n
  short_length = length-take-le n s (omega arith)

  same_u16 : (i : ℕ) → i + 2 ≤ n → u16_at (take n s) i ≡ u16_at s i
  unfolding u16_at
  same_u16 i h =
      ap₂ (λ x y. x + 256 * y) (get_or-take n s i 0 (omega arith)) (get_or-take n s (i + 1) 0 (omega arith))

  same_u32 : (i : ℕ) → i + 4 ≤ n → u32_at (take n s) i ≡ u32_at s i
  unfolding u32_at
  same_u32 i h = ap₂ (λ x y. x + 65536 * y) (same_u16 i (omega arith)) (same_u16 (i + 2) (omega arith))

  same_body : (at : ℕ) → at + 6 ≤ n → record_end s at ≤ n → body_at (take n s) at ≡ body_at s at
  same_body at h k =
      let e = same_u32 at (omega arith) in
      ap (λ j. take j (drop (at + 6) (take n s))) e ∙ by_bytes (length_at s at) k
    where
      by_bytes : (k : ℕ) → at + 6 + k ≤ n → take k (drop (at + 6) (take n s)) ≡ take k (drop (at + 6) s)
      by_bytes k h =
          let a : length (take k (drop (at + 6) (take n s))) ≡ k = simp (length-take, length-drop) (omega arith) in
          let b : length (take k (drop (at + 6) s)) ≡ k = simp (length-take, length-drop) (omega arith) in
          ext_get_or 0 _ _ (a ∙ sym b) (λ i l.
          get_or-take k (drop (at + 6) (take n s)) i 0 (omega (arith, a))
          ∙ get_or-drop (at + 6) (take n s) i 0
          ∙ get_or-take n s (at + 6 + i) 0 (omega (arith, a))
          ∙ sym (get_or-drop (at + 6) s i 0)
          ∙ sym (get_or-take k (drop (at + 6) s) i 0 (omega (arith, a))))

  -- a step that looks at these bytes alone
  module _ (kind : ℕ) (r : Run) (h : r.at + 6 ≤ n)
      (fine : head_number kind r.count r.size (length_at s r.at) ≡ None → record_end s r.at ≤ n) where
    same_length : length_at (take n s) r.at ≡ length_at s r.at
    same_length = same_u32 r.at (omega arith)

    same_number : record_number kind (take n s) r ≡ record_number kind s r
    unfolding record_number
    same_number = rw same_length (by_head (head_number kind r.count r.size (length_at s r.at)) refl)
      where
        by_head : (m : Option Reason) → head_number kind r.count r.size (length_at s r.at) ≡ m
            → first_number m (pick (leb (record_end s r.at) (length (take n s))) None (Some WrongFile)) ≡ first_number m (body_number s r.at)
        by_head (Some reason) e = refl
        by_head None e =
            let k = fine e in
            rw (short_length, le-leb (record_end s r.at) n k, le-leb (record_end s r.at) (length s) (omega arith))

    same_step : step_at kind (take n s) r ≡ step_at kind s r
    unfolding step_at
    same_step =
        rw (same_number, same_length, short_length, le-leb (r.at + 6) n h, le-leb (r.at + 6) (length s) (omega arith), same_u16 (r.at + 4) (omega arith))

  -- a run that stays within these bytes, by a bound that its records keep
  module _ (kind : ℕ) (Within : Run → Type 0) (near : (r : Run) → Within r → r.at + 6 ≤ n)
      (fine : (r : Run) → Within r → head_number kind r.count r.size (length_at s r.at) ≡ None → record_end s r.at ≤ n)
      (keeps : (r : Run) → Within r → Told kind s r → Within (past s r)) where
    by_step : (m : ℕ) (r : Run) → Within r → ((y : Run) → Within y → run_from m kind (take n s) y ≡ run_from m kind s y)
        → (x : Result (Option Run) Refusal) → step_at kind s r ≡ x
        → on_step x (λ y. with (body_at (take n s) r.at) (run_from m kind (take n s) y)) (ran r [])
        ≡ on_step x (λ y. with (body_at s r.at) (run_from m kind s y)) (ran r [])
    by_step m r w ih (Ok (Some y)) e =
        let t = next_tells kind s r y e in
        ap₂ with (same_body r.at (near r w) (fine r w t.1.number)) (ih y (subst Within (sym t.0) (keeps r w t.1)))
    by_step m r w ih (Ok None) e = refl
    by_step m r w ih (Err f) e = refl

    same_run : (m : ℕ) (r : Run) → Within r → run_from m kind (take n s) r ≡ run_from m kind s r
    unfolding run_from
    same_run zero r w = refl
    same_run (suc m) r w =
        ap (λ (x : Result (Option Run) Refusal). on_step x (λ y. with (body_at (take n s) r.at) (run_from m kind (take n s) y)) (ran r []))
        (same_step kind r (near r w) (fine r w))
        ∙ by_step m r w (λ y v. same_run m y v) (step_at kind s r) refl

    within_end : (bs : List (List ℕ)) (r r' : Run) → Within r → RecordsStand kind s r bs r' → Within r'
    within_end [] r r' w h = subst Within h w
    within_end (b ∷ bs) r r' w h = within_end bs (past s r) r' (keeps r w h.0) h.2

  -- ---- the links

  record LinksWithin (r : Run) : Type 0 where
    place : r.at ≡ 15 + 28 * r.count
    few : r.count ≤ max_records

  links_near : (r : Run) → LinksWithin r → r.at + 6 ≤ n
  links_near r w = omega (arith, w.place, w.few)

  links_fine : (r : Run) → LinksWithin r → head_number 1 r.count r.size (length_at s r.at) ≡ None → record_end s r.at ≤ n
  links_fine r w z = let l = link_none r.count (length_at s r.at) z in omega (arith, w.place, w.few, l.0, l.1)

  links_keep : (r : Run) → LinksWithin r → Told 1 s r → LinksWithin (past s r)
  links_keep r w t =
      let l = link_none r.count (length_at s r.at) t.number in
      record { place = omega (arith, w.place, l.0); few = omega (arith, l.1) }

  links_begin : LinksWithin (run_to 15 0 0)
  links_begin = record { place = refl; few = omega arith }

  same_links : run_at 1 (take n s) 15 ≡ run_at 1 s 15
  same_links = same_run 1 LinksWithin links_near links_fine links_keep looks (run_to 15 0 0) links_begin

  -- they end at most here
  links_end : (r : Run) (ls : List (List ℕ)) → RecordsStand 1 s (run_to 15 0 0) ls r → r.at ≤ 15 + 28 * max_links
  links_end r ls h =
      let w = within_end 1 LinksWithin links_near links_fine links_keep ls (run_to 15 0 0) r links_begin h in
      omega (arith, w.place, w.few)

  -- ---- the nodes, from there on

  module _ (a : ℕ) (low : a ≤ 15 + 28 * max_links) where
    record NodesWithin (r : Run) : Type 0 where
      place : r.at ≡ a + 6 * r.count + r.size
      few : r.count ≤ max_records
      small : r.size ≤ 2 * max_entries

    nodes_near : (r : Run) → NodesWithin r → r.at + 6 ≤ n
    nodes_near r w = omega (arith, w.place, w.few, w.small)

    nodes_fine : (r : Run) → NodesWithin r → head_number 2 r.count r.size (length_at s r.at) ≡ None → record_end s r.at ≤ n
    nodes_fine r w z = let l = node_none r.count r.size (length_at s r.at) z in omega (arith, w.place, w.few, w.small, l.1, l.2)

    nodes_keep : (r : Run) → NodesWithin r → Told 2 s r → NodesWithin (past s r)
    nodes_keep r w t =
        let l = node_none r.count r.size (length_at s r.at) t.number in
        record { place = omega (arith, w.place); few = omega (arith, l.1); small = omega (arith, l.2) }

    nodes_begin : NodesWithin (run_to a 0 0)
    nodes_begin = record { place = omega arith; few = omega arith; small = omega arith }

    same_nodes : run_at 2 (take n s) a ≡ run_at 2 s a
    same_nodes = same_run 2 NodesWithin nodes_near nodes_fine nodes_keep looks (run_to a 0 0) nodes_begin

    -- their end lies before the end of either list
    nodes_end : (x : Run) (ns : List (List ℕ)) → RecordsStand 2 s (run_to a 0 0) ns x → x.at + 6 ≤ n
    nodes_end x ns h = nodes_near x (within_end 2 NodesWithin nodes_near nodes_fine nodes_keep ns (run_to a 0 0) x nodes_begin h)

    same_after : (ls : List (List ℕ)) → nodes_after (take n s) ls a ≡ nodes_after s ls a
    same_after ls =
        ap (λ (t : RunBodies). on_ran t (λ x ns. pick (eqb x.at (length (take n s))) (form ls ns) (refused (refusal WrongFile x.at)))) same_nodes
        ∙ by (run_at 2 s a) refl
      where
        by : (t : RunBodies) → run_at 2 s a ≡ t
            → on_ran t (λ x ns. pick (eqb x.at (length (take n s))) (form ls ns) (refused (refusal WrongFile x.at)))
            ≡ on_ran t (λ x ns. pick (eqb x.at (length s)) (form ls ns) (refused (refusal WrongFile x.at)))
        by (fault f) e = refl
        by (ran x ns) e =
            let k = nodes_end x ns (stands 2 s looks (run_to a 0 0) x ns e) in
            rw (
              ne_eqb x.at (length (take n s)) (before_end n x.at (length (take n s)) k (omega (arith, short_length))),
              ne_eqb x.at (length s) (before_end n x.at (length s) k (omega arith)),
            )

  -- ---- the form

  same_settings : settings_right (take n s) ≡ settings_right s
  unfolding settings_right
  same_settings =
      rw (
        short_length,
        le-leb 15 n (omega arith),
        le-leb 15 (length s) (omega arith),
        same_u32 0 (omega arith),
        same_u16 4 (omega arith),
        get_or-take n s 6 0 (omega arith),
      )

  same_form : form_of (take n s) ≡ form_of s
  unfolding form_of
  same_form =
      ap₂ (λ b (x : Form). pick b x (refused (refusal WrongFile 0))) same_settings
      (ap (λ (t : RunBodies). on_ran t (λ r ls. nodes_after (take n s) ls r.at)) same_links ∙ by (run_at 1 s 15) refl)
    where
      by : (t : RunBodies) → run_at 1 s 15 ≡ t → on_ran t (λ r ls. nodes_after (take n s) ls r.at) ≡ on_ran t (λ r ls. nodes_after s ls r.at)
      by (fault f) e = refl
      by (ran r ls) e = same_after r.at (links_end r ls (stands 1 s looks (run_to 15 0 0) r ls e)) ls

  -- such a file is refused, since it goes on after the last record that it may have
  same_file : file_of (take n s) ≡ file_of s
  same_file = ap (file_from (take n s)) same_form ∙ by (form_of s) refl
    where
      by : (x : Form) → form_of s ≡ x → file_from (take n s) x ≡ file_from s x
      by (refused f) e = refl
      by (form ls ns) e =
          let p = form_placed s ls ns e in
          let low = links_end p.between ls p.links_stand in
          absurd (before_end n p.last.at (length s) (nodes_end p.between.at low p.last ns p.nodes_stand) (omega arith) p.ends)

-- what is read is the same whether the whole input is looked at, or its first n bytes, where n is at least `file_bytes`
pub decided : (n : ℕ) → file_bytes ≤ n → (s : List ℕ) → file_of (take n s) ≡ file_of s
decided n enough s = by (ltb n (length s)) refl
  where
    by : (b : Bool) → ltb n (length s) ≡ b → file_of (take n s) ≡ file_of s
    by true e = same_file n enough s (ltb-true n (length s) e)
    by false e = ap file_of (take_all n s (ltb-false n (length s) e))
