-- Only such files are accepted: a file whose form is right is its settings, its links and its nodes, record after record, and nothing else.
use Rattle.std.specs.Prelude.{ℕ, ◌+◌, ◌*◌, ◌/◌, ◌%◌, ◌≤◌, ◌<◌, ◌≡◌, refl, true, List, [], ◌∷◌, ◌++◌, eqb, leb, length, get_or, drop}
use Rattle.std.proofs.Common.{sym, ap, ap₂, ◌∙◌, append_assoc, append-nil, add-one, arith, eqb-true, leb-true, take-append-drop, length-take, length-drop}
use Rattle.std.proofs.Common.{drop_of_length-le, drop-cons, drop-drop}
use Rattle.laws.specs.Test.{and_true}
use Rattle.format_numbers.specs.Bytes.{u16_at, u32_at}
use Rattle.format_records.specs.Records.{length_at, kind_at, body_at, record_end, run_to, past, settings_right, form, form_of}
use Rattle.format.specs.Encoded.{little, record_bytes, records_bytes}
use Rattle.format_shape.specs.Runs.{RecordsStand}
use Rattle.format_shape.specs.Forms.{form_placed}
use Rattle.format_records.specs.declared.Run.{Run}

-- a list of bytes
abbrev pub Bytes : List ℕ → Type 0
Bytes s = (i : ℕ) → get_or s i 0 < 256

-- ---- bytes from numbers and back

two_back : (a b : ℕ) → a < 256 → b < 256 → little 2 (a + 256 * b) ≡ a ∷ b ∷ []
two_back a b h k = ap₂ (λ x y. x ∷ y ∷ []) (omega arith) (omega arith)

four_back : (a b c d : ℕ) → a < 256 → b < 256 → c < 256 → d < 256 → little 4 (a + 256 * b + 65536 * (c + 256 * d)) ≡ a ∷ b ∷ c ∷ d ∷ []
four_back a b c d h k l m = ap₂ (λ (x : List ℕ) (y : List ℕ). x ++ y) first second
  where
    n : ℕ
    n = a + 256 * b + 65536 * (c + 256 * d)

    first : n % 256 ∷ n / 256 % 256 ∷ [] ≡ a ∷ b ∷ []
    first = ap₂ (λ x y. x ∷ y ∷ []) (omega arith) (omega arith)

    second : n / 256 / 256 % 256 ∷ n / 256 / 256 / 256 % 256 ∷ [] ≡ c ∷ d ∷ []
    second = ap₂ (λ x y. x ∷ y ∷ []) (omega arith) (omega arith)

-- ---- a record where it stands

module _ (s : List ℕ) (bytes : Bytes s) (at : ℕ) where
  byte : (i j : ℕ) → j ≡ i + 1 → i < length s → drop i s ≡ get_or s i 0 ∷ drop j s
  byte i j e h = drop-cons s i 0 h ∙ ap (λ k. get_or s i 0 ∷ drop k s) (sym (e ∙ add-one i))

  head_bytes : at + 6 ≤ length s
      → drop at s ≡ get_or s at 0 ∷ get_or s (at + 1) 0 ∷ get_or s (at + 2) 0 ∷ get_or s (at + 2 + 1) 0 ∷ get_or s (at + 4) 0 ∷ get_or s (at + 4 + 1) 0 ∷
      drop (at + 6) s
  head_bytes h =
      byte at (at + 1) refl (omega arith)
      ∙ ap (λ (t : List ℕ). get_or s at 0 ∷ t) (byte (at + 1) (at + 2) (omega arith) (omega arith)
      ∙ ap (λ (t : List ℕ). get_or s (at + 1) 0 ∷ t) (byte (at + 2) (at + 2 + 1) refl (omega arith)
      ∙ ap (λ (t : List ℕ). get_or s (at + 2) 0 ∷ t) (byte (at + 2 + 1) (at + 4) (omega arith) (omega arith)
      ∙ ap (λ (t : List ℕ). get_or s (at + 2 + 1) 0 ∷ t) (byte (at + 4) (at + 4 + 1) refl (omega arith)
      ∙ ap (λ (t : List ℕ). get_or s (at + 4) 0 ∷ t) (byte (at + 4 + 1) (at + 6) (omega arith) (omega arith))))))

  length_back : little 4 (length_at s at) ≡ get_or s at 0 ∷ get_or s (at + 1) 0 ∷ get_or s (at + 2) 0 ∷ get_or s (at + 2 + 1) 0 ∷ []
  unfolding u32_at u16_at
  length_back = four_back _ _ _ _ (bytes at) (bytes (at + 1)) (bytes (at + 2)) (bytes (at + 2 + 1))

  kind_back : little 2 (kind_at s at) ≡ get_or s (at + 4) 0 ∷ get_or s (at + 4 + 1) 0 ∷ []
  unfolding u16_at
  kind_back = two_back _ _ (bytes (at + 4)) (bytes (at + 4 + 1))

  body_back : drop (at + 6) s ≡ body_at s at ++ drop (record_end s at) s
  body_back =
      sym (take-append-drop (length_at s at) (drop (at + 6) s))
      ∙ ap (λ (t : List ℕ). body_at s at ++ t) (drop-drop (length_at s at) (at + 6) s)

  -- the record, and what comes after it
  record_back : at + 6 ≤ length s → record_end s at ≤ length s → drop at s ≡ record_bytes (kind_at s at) (body_at s at) ++ drop (record_end s at) s
  record_back h w =
      let l : length (body_at s at) ≡ length_at s at = simp (length-take, length-drop) (omega arith) in
      head_bytes h
      ∙ ap₂ (λ (x : List ℕ) (y : List ℕ). x ++ y) (sym length_back ∙ ap (little 4) (sym l))
      (ap₂ (λ (x : List ℕ) (y : List ℕ). x ++ y) (sym kind_back) body_back)

-- ---- a run, and the whole file

stands_back : (kind : ℕ) (s : List ℕ) → Bytes s → (bs : List (List ℕ)) (r r' : Run) → RecordsStand kind s r bs r' → drop r.at s
    ≡ records_bytes kind bs ++ drop r'.at s
unfolding records_bytes
stands_back kind s bytes [] r r' h = ap (λ (x : Run). drop x.at s) h
stands_back kind s bytes (b ∷ bs) r r' h =
    record_back s bytes r.at h.0.head h.0.whole
    ∙ ap₂ (λ (x : List ℕ) (y : List ℕ). x ++ y)
    (ap₂ record_bytes h.0.kind_is (sym h.1))
    (stands_back kind s bytes bs (past s r) r' h.2)
    ∙ sym (append_assoc (record_bytes kind b) (records_bytes kind bs) (drop r'.at s))

-- the settings, in numbers
record Settings (s : List ℕ) : Type 0 where
  long : 15 ≤ length s
  nine : length_at s 0 ≡ 9
  three : kind_at s 0 ≡ 3

settings_say : (s : List ℕ) → settings_right s ≡ true → Settings s
unfolding settings_right
settings_say s h =
    let a = and_true (leb 15 (length s)) _ h in
    let b = and_true (eqb (length_at s 0) 9) _ a.1 in
    let c = and_true (eqb (kind_at s 0) 3) _ b.1 in
    record {
      long = leb-true 15 (length s) a.0;
      nine = eqb-true (length_at s 0) 9 b.0;
      three = eqb-true (kind_at s 0) 3 c.0;
    }

-- a file of right form is its records and nothing else
pub accepted : (s : List ℕ) → Bytes s → (links nodes : List (List ℕ)) → form_of s ≡ form links nodes
    → s ≡ record_bytes 3 (body_at s 0) ++ (records_bytes 1 links ++ records_bytes 2 nodes)
accepted s bytes links nodes e =
    let p = form_placed s links nodes e in
    let t = settings_say s p.right in
    record_back s bytes 0 (omega (arith, t.long)) (omega (arith, t.long, t.nine))
    ∙ ap₂ (λ (x : List ℕ) (y : List ℕ). x ++ y) (ap (λ k. record_bytes k (body_at s 0)) t.three)
    (ap (λ n. drop (0 + 6 + n) s) t.nine
    ∙ stands_back 1 s bytes links (run_to 15 0 0) p.between p.links_stand
    ∙ ap (λ (x : List ℕ). records_bytes 1 links ++ x)
    (stands_back 2 s bytes nodes (run_to p.between.at 0 0) p.last p.nodes_stand
    ∙ ap (λ (x : List ℕ). records_bytes 2 nodes ++ x) (drop_of_length-le s {i = p.last.at} (omega (arith, p.ends)))
    ∙ append-nil (records_bytes 2 nodes)))
