-- A part of a list that has the value of every d-th byte at each of its places.
use Rattle.std.proofs.Common.{◌≡◌, refl, sym, ap, ap₂, ◌∙◌, ℕ, suc, ◌+◌, ◌*◌, ◌<◌, mul-zero, mul-suc, zero-add, arith}
use Rattle.std.proofs.Common.{List, [], ◌∷◌, ◌++◌, length, get_or, take, drop}
use Rattle.writing.specs.Put.{put_at, at_front}
use Rattle.format_numbers.specs.Bytes.{every, length_every}

all_every : {A : Type 0} (f : ℕ → A) (d from : ℕ) (z : A) (ys : List A) → ((k : ℕ) → k < length ys → get_or ys k z ≡ f (from + d * k))
    → ys ≡ every f d from (length ys)
unfolding every
all_every f d from z [] h = refl
all_every f d from z (y ∷ ys) h =
    ap₂ (λ x (l : List _). x ∷ l) (h 0 (omega arith) ∙ ap f (omega (arith, mul-zero d)))
    (all_every f d (from + d) z ys (λ k l. h (suc k) (omega arith) ∙ ap f (omega (arith, mul-suc d k))))

pub filled : {A : Type 0} (f : ℕ → A) (d from n to : ℕ) (z : A) (ys out : List A) → length ys ≡ n
    → ((k : ℕ) → k < n → get_or ys k z ≡ f (from + d * k)) → take to out ++ (ys ++ drop (to + n) out) ≡ put_at out to (every f d from n)
unfolding put_at
filled {A} f d from n to z ys out long h =
    let e : ys ≡ every f d from n = all_every f d from z ys (λ k l. h k (omega arith)) ∙ ap (every f d from) long in
    ap₂ (λ (l : List A) m. take to out ++ (l ++ drop (to + m) out)) e (sym (length_every f d from n))

pub filled_front : {A : Type 0} (f : ℕ → A) (d from n : ℕ) (z : A) (ys out : List A) → length ys ≡ n
    → ((k : ℕ) → k < n → get_or ys k z ≡ f (from + d * k)) → ys ++ drop n out ≡ at_front (every f d from n) out
filled_front {A} f d from n z ys out long h = rw zero-add at (filled {A = A} f d from n 0 z ys out long h)
