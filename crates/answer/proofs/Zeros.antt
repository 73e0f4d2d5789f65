-- The lists that a file is read into, all zero: they have room for every file, and fix the states when it is answered.
use Prim.Native.Nat.{ℕ, ◌+◌}
use native.Mathlib.Omega.{arith}
use mathlib.Core.Path.{◌≡◌, sym, ap, ◌∙◌, subst}
use mathlib.Core.List.{List}
use lib.IntN.{pos}
use lib.ListN.{length-replicate}
use Rattle.turn.specs.Limits.{max_links}
use Rattle.format_records.specs.Limits.{max_nodes, max_entries}
use Rattle.format.specs.File.{file_of, FileLists, FileRoom}
use Rattle.answer_file.specs.FileText.{with_states, file_left}
use Rattle.answer.specs.AnswerText.{zero_states, zero_lists, kept_states}

zeros_room : FileRoom zero_lists
zeros_room = record {
  ax = omega (arith, length-replicate max_links (pos 0));
  ay = omega (arith, length-replicate max_links (pos 0));
  bx = omega (arith, length-replicate max_links (pos 0));
  by = omega (arith, length-replicate max_links (pos 0));
  a_id = omega (arith, length-replicate {A = ℕ} max_links 0);
  b_id = omega (arith, length-replicate {A = ℕ} max_links 0);
  top = omega (arith, length-replicate {A = ℕ} max_links 0);
  state = omega (arith, length-replicate {A = ℕ} max_links 0);
  start = omega (arith, length-replicate {A = ℕ} (max_nodes + 1) 0);
  list = omega (arith, length-replicate {A = ℕ} max_entries 0);
}

module _ {state : List ℕ} (h : state ≡ zero_states) where
  pub zeros_fit : FileRoom (with_states state zero_lists)
  zeros_fit = subst (λ (l : List ℕ). FileRoom (with_states l zero_lists)) (sym h) zeros_room

  pub zeros_kept : (s : List ℕ) (after : FileLists) → after ≡ file_left (file_of s) (with_states state zero_lists) → after.state ≡ kept_states s
  unfolding kept_states
  zeros_kept s after e = ap (λ (l : FileLists). l.state) e ∙ ap (λ (l : List ℕ). (file_left (file_of s) (with_states l zero_lists)).state) h
