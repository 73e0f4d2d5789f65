-- What every writer promises: the buffer is the old one with these bytes from a position on, and the answer is the position after them. How writings join.
use Rattle.std.specs.Prelude.{ℕ, ◌+◌, ◌≤◌, ◌<◌, ◌≡◌, refl, List, [], ◌∷◌, ◌++◌, length, set, drop}
use Rattle.std.proofs.Common.{sym, ap, ap₂, ◌∙◌, subst, add_assoc, arith, length-append}
use Rattle.writing.specs.Cuts.{Cut, cut}
use Rattle.writing.specs.Put.{put_at, put_none, put_put, set_put, length_put}

pub record Wrote (old new : List ℕ) (at after : ℕ) (t : List ℕ) : Type 0 where
  pub next : after ≡ at + length t
  pub bytes : new ≡ put_at old at t

module _ (a b c : List ℕ) (p q r : ℕ) (t u : List ℕ) where
  -- one after the other
  pub wrote_both : p + length t ≤ length a → Wrote a b p q t → Wrote b c q r u → Wrote a c p r (t ++ u)
  wrote_both h x y = record {
    next = y.next ∙ ap (λ i. i + length u) x.next ∙ add_assoc p (length t) (length u) ∙ ap (λ i. p + i) (sym (length-append t u));
    bytes = y.bytes ∙ ap₂ (λ (l : List ℕ) i. put_at l i u) x.bytes x.next ∙ put_put a p t u h;
  }

-- one byte
pub wrote_byte : (a : List ℕ) (p x : ℕ) → p < length a → Wrote a (set a p x) p (p + 1) (x ∷ [])
wrote_byte a p x h = record { next = refl; bytes = set_put a p x h }

-- the length stays
pub wrote_long : {a b : List ℕ} {p q : ℕ} {t : List ℕ} → p + length t ≤ length a → Wrote a b p q t → length b ≡ length a
wrote_long {a} {b} {p} {q} {t} h x = ap length x.bytes ∙ length_put a p t h

-- a writing of one text is one of an equal text
pub wrote_as : {old new : List ℕ} {at after : ℕ} {t u : List ℕ} → t ≡ u → Wrote old new at after t → Wrote old new at after u
wrote_as {old} {new} {at} {after} e w = subst (λ (x : List ℕ). Wrote old new at after x) e w

-- what was written from the start of a buffer may be cut off
pub wrote_cut : {old new : List ℕ} {next : ℕ} {t : List ℕ} → Wrote old new 0 next t → Cut next new
unfolding put_at
wrote_cut {old} {new} {next} {t} w =
    cut next new (omega (arith, w.next, ap length w.bytes, length-append t (drop (0 + length t) old)))

-- ---- writing piece after piece: what is written of `whole`, from `at` on, up to `next`, and what is left of it

pub record Unwritten (old new : List ℕ) (at next : ℕ) (left whole : List ℕ) : Type 0 where
  pub long : length new ≡ length old
  pub room : next + length left ≡ at + length whole
  pub fits : at + length whole ≤ length old
  pub same : put_at new next left ≡ put_at old at whole

pub left_all : (old : List ℕ) (at : ℕ) (whole : List ℕ) → at + length whole ≤ length old → Unwritten old old at at whole whole
left_all old at whole h = record { long = refl; room = refl; fits = h; same = refl }

pub left_from_0 : (old whole : List ℕ) → length whole ≤ length old → Unwritten old old 0 0 whole whole
left_from_0 old whole h = left_all old 0 whole (omega arith)

module _ {old new : List ℕ} {at next : ℕ} {whole : List ℕ} (piece left : List ℕ) (w : Unwritten old new at next (piece ++ left) whole) where
  pub piece_fits : next + length piece ≤ length new
  piece_fits = omega (arith, w.long, w.room, w.fits, length-append piece left)

  pub left_after : {new' : List ℕ} {next' : ℕ} → Wrote new new' next next' piece → Unwritten old new' at next' left whole
  left_after x = record {
    long = wrote_long piece_fits x ∙ w.long;
    room = omega (arith, x.next, w.room, length-append piece left);
    fits = w.fits;
    same = ap₂ (λ (l : List ℕ) i. put_at l i left) x.bytes x.next ∙ put_put new next piece left piece_fits ∙ w.same;
  }

pub left_none : {old new : List ℕ} {at next : ℕ} {whole : List ℕ} → Unwritten old new at next [] whole → Wrote old new at next whole
left_none {old} {new} {at} {next} w = record { next = omega (arith, w.room); bytes = sym (put_none new next) ∙ w.same }

-- the last piece
module _ {old new : List ℕ} {at next : ℕ} {whole : List ℕ} (piece : List ℕ) (w : Unwritten old new at next piece whole) where
  pub last_fits : next + length piece ≤ length new
  last_fits = omega (arith, w.long, w.room, w.fits)

  pub left_last : {new' : List ℕ} {next' : ℕ} → Wrote new new' next next' piece → Wrote old new' at next' whole
  left_last x = record {
    next = omega (arith, x.next, w.room);
    bytes = x.bytes ∙ w.same;
  }
