-- The loop that fills the starts and the entries, node by node.
use Prim.Native.Nat.{ℕ, suc, ◌+◌, ◌-◌, ◌/◌, ◌%◌, ◌≤◌, ◌<◌}
use mathlib.Core.Path.{◌≡◌, sym, ap, ap₂, ◌∙◌, subst}
use mathlib.Core.List.{List, [], ◌∷◌, ◌++◌, append_assoc}
use native.Mathlib.Nat.{add_assoc}
use native.Mathlib.Omega.{arith}
use lib.ListN.{length, set, take, drop, length-set}
use Rattle.std.proofs.lemmas.List.{take_more_set, take_all}
use Rattle.writing.specs.Put.{put_at, at_front, put_none, put_put, put_set}
use Rattle.format_numbers.specs.Bytes.{u16_at, every, length_every}
use Rattle.format_records.specs.Limits.{max_entries}
use Rattle.format_records.specs.Records.{length_at, record_end}
use Rattle.format_lists.specs.NodeLists.{entries_from, starts_from, NodesStand}

-- k of m nodes are done, and the record of the next is at `at`: `starts` has the starts so far, and from here on the entries become what they
-- become from the start
pub record Noding (s : List ℕ) (from m : ℕ) (list₀ starts list : List ℕ) (at e k : ℕ) : Type 0 where
  pub long : length starts ≡ m
  pub list_long : length list ≡ length list₀
  pub stand : NodesStand s max_entries (m - k) at e
  pub so_far : take k starts ++ starts_from s (m - k) at e ≡ starts_from s m from 0
  pub entries : put_at list e (entries_from s (m - k) at) ≡ at_front (entries_from s m from) list₀

-- the next node's record
pub record Here (s : List ℕ) (at e : ℕ) : Type 0 where
  pub whole : record_end s at ≤ length s
  pub even : length_at s at % 2 ≡ 0
  pub room : e + length_at s at / 2 ≤ max_entries

here : (s : List ℕ) (m at e : ℕ) → NodesStand s max_entries (suc m) at e → Here s at e
unfolding NodesStand
here s m at e h = record { whole = h.0; even = h.1.0; room = h.1.1.0 }

beyond : (s : List ℕ) (m at e : ℕ) → NodesStand s max_entries (suc m) at e → NodesStand s max_entries m (record_end s at) (e + length_at s at / 2)
unfolding NodesStand
beyond s m at e h = h.1.1.1

one_start : (s starts : List ℕ) (m at e k : ℕ) → k < length starts
    → take (k + 1) (set starts k e) ++ starts_from s m (record_end s at) (e + length_at s at / 2) ≡ take k starts ++ starts_from s (suc m) at e
unfolding starts_from
one_start s starts m at e k h =
    let rest = starts_from s m (record_end s at) (e + length_at s at / 2) in
    ap (λ (t : List ℕ). t ++ rest) (take_more_set starts k e h) ∙ append_assoc (take k starts) (e ∷ []) rest

one_node : (s : List ℕ) (m at e : ℕ) (list : List ℕ) → e + length_at s at / 2 ≤ length list
    → put_at (put_at list e (every (u16_at s) 2 (at + 6) (length_at s at / 2))) (e + length_at s at / 2) (entries_from s m (record_end s at))
    ≡ put_at list e (entries_from s (suc m) at)
unfolding entries_from
one_node s m at e list h =
    let here = every (u16_at s) 2 (at + 6) (length_at s at / 2) in
    let l : length here ≡ length_at s at / 2 = length_every (u16_at s) 2 (at + 6) (length_at s at / 2) in
    ap (λ i. put_at (put_at list e here) (e + i) (entries_from s m (record_end s at))) (sym l)
    ∙ put_put list e here (entries_from s m (record_end s at)) (omega arith)

module _ {s list₀ starts list : List ℕ} {from m at e k : ℕ} (h : Noding s from m list₀ starts list at e k) where
  left : k < m → m - k ≡ suc (m - (k + 1))
  left l = omega arith

  pub noding_here : k < m → Here s at e
  noding_here l = here s (m - (k + 1)) at e (rw (left l) at h.stand)

  pub noding_next : k < m → max_entries ≤ length list₀ → (len : ℕ) → len ≡ length_at s at
      → (list' : List ℕ) → list' ≡ put_at list e (every (u16_at s) 2 (at + 6) (len / 2)) → length list' ≡ length list
      → Noding s from m list₀ (set starts k e) list' (at + (6 + len)) (e + len / 2) (k + 1)
  noding_next l room len p list' q long =
      subst (λ n. Noding s from m list₀ (set starts k e) list' (at + (6 + n)) (e + n / 2) (k + 1)) (sym p)
      (rw (← add_assoc at 6 (length_at s at))
      (record {
        long = length-set starts k e ∙ h.long;
        list_long = long ∙ h.list_long;
        stand = beyond s (m - (k + 1)) at e (rw (left l) at h.stand);
        so_far = one_start s starts (m - (k + 1)) at e k (omega (arith, h.long))
            ∙ ap (λ i. take k starts ++ starts_from s i at e) (sym (left l))
            ∙ h.so_far;
        entries = ap (λ (t : List ℕ). put_at t (e + length_at s at / 2) (entries_from s (m - (k + 1)) (record_end s at)))
            (q ∙ ap (λ n. put_at list e (every (u16_at s) 2 (at + 6) (n / 2))) p)
            ∙ one_node s (m - (k + 1)) at e list (omega (arith, (noding_here l).room, h.list_long))
            ∙ ap (λ i. put_at list e (entries_from s i at)) (sym (left l))
            ∙ h.entries;
      }))

  none_left : m ≤ k → m - k ≡ 0
  none_left l = omega arith

  pub noding_starts : m ≤ k → (start₀ : List ℕ) → m < length start₀ → set (starts ++ drop m start₀) m e ≡ at_front (starts_from s m from 0) start₀
  unfolding starts_from put_at
  noding_starts l start₀ few =
      let here : m ≡ 0 + length starts = omega (arith, h.long) in
      ap (λ i. set (starts ++ drop i start₀) i e) here
      ∙ put_set start₀ 0 starts e (omega (arith, h.long))
      ∙ ap (λ (t : List ℕ). at_front t start₀)
      (ap₂ (λ (t : List ℕ) i. t ++ starts_from s i at e) (sym (take_all k starts (omega (arith, h.long)))) (sym (none_left l)) ∙ h.so_far)

  pub noding_list : m ≤ k → list ≡ at_front (entries_from s m from) list₀
  unfolding entries_from
  noding_list l = sym (put_none list e) ∙ ap (λ i. put_at list e (entries_from s i at)) (sym (none_left l)) ∙ h.entries
