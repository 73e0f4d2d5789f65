-- One fact exactly where another holds, and what a test says by failing: the plain fact that holds exactly there.
use Rattle.std.specs.Prelude.{ℕ, ◌≤◌, ◌<◌, ◌≡◌, Bool, true, false, not, ◌||◌, ltb, leb, eqb}
use Rattle.std.proofs.Common.{ap, ltb-false, leb-false, eqb-true, le-ltb, eq-eqb, ne_eqb}
use Rattle.std.proofs.lemmas.Bool.{eqb-false, lt-leb, not-false}
use Rattle.laws.specs.Test.{or_false, false_or}
use Rattle.laws.specs.Lowest.{some, none_of, some_no}

-- ---- one fact exactly where another
pub record Iff (P Q : Type 0) : Type 0 where
  pub to : P → Q
  pub from : Q → P

-- the test fails exactly where P holds
abbrev pub Fails : Bool → Type 0 → Type 0
Fails b P = Iff (b ≡ false) P

pub then : {P Q R : Type 0} → Iff P Q → Iff Q R → Iff P R
then h k = record { to = λ p. k.to (h.to p); from = λ r. h.from (k.from r) }

pub both : {P Q R S : Type 0} → Iff P Q → Iff R S → Iff (P × R) (Q × S)
both h k = record { to = λ p. (h.to p.0, k.to p.1); from = λ q. (h.from q.0, k.from q.1) }

-- ---- tests of numbers
pub lt_fails : (m n : ℕ) → Fails (ltb m n) (n ≤ m)
lt_fails m n = record { to = ltb-false m n; from = le-ltb m n }

pub le_fails : (m n : ℕ) → Fails (leb m n) (n < m)
le_fails m n = record { to = leb-false m n; from = lt-leb m n }

pub eq_fails : (m n : ℕ) → Fails (eqb m n) (m ≡ n → ⊥)
eq_fails m n = record { to = eqb-false m n; from = ne_eqb m n }

pub ne_fails : (m n : ℕ) → Fails (not (eqb m n)) (m ≡ n)
ne_fails m n = record { to = λ e. eqb-true m n (not-false (eqb m n) e); from = λ e. ap not (eq-eqb m n e) }

pub not_fails : (b : Bool) → Fails (not b) (b ≡ true)
not_fails b = record { to = not-false b; from = ap not }

-- ---- tests joined
pub or_fails : {a b : Bool} {P Q : Type 0} → Fails a P → Fails b Q → Fails (a || b) (P × Q)
or_fails {a} {b} h k = then (record { to = or_false a b; from = λ p. false_or a b p.0 p.1 }) (both h k)

pub some_fails : {test : ℕ → Bool} {P : ℕ → Type 0} (n : ℕ) → ((k : ℕ) → Fails (test k) (P k)) → Fails (some test n) ((k : ℕ) → k < n → P k)
some_fails {test} n h = record { to = λ e k l. (h k).to (none_of test n e k l); from = λ p. some_no test n (λ k l. (h k).from (p k l)) }
