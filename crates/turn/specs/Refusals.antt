-- What a check answers: each check refuses for document 01's reason and at its place, or lets the next one say. Every layer's checks are put together so.
use Rattle.std.specs.Prelude.{ℕ, ◌≡◌, refl, Bool, true, false, Some, None, Result, Ok, Err}
use Rattle.std.proofs.Common.{sym, ap, ◌∙◌}
use Rattle.laws.specs.Test.{pick, pick_true, pick_false, true≢false}
use Rattle.laws.specs.Fails.{Iff}
use Rattle.laws.specs.Lowest.{lowest, lowest_if, some, if_some, if_none}
use Rattle.laws.specs.Unique.{Determines}
use Rattle.turn.specs.declared.Reason.{Reason}
use Rattle.turn.specs.declared.Refusal.{Refusal}
use Rattle.turn.specs.declared.NumberedRefusal.{NumberedRefusal}
use Rattle.turn.specs.Reasons

-- nothing is wrong, or a refusal
abbrev pub Checked : Type 0
Checked = Result Unit Refusal

abbrev pub no_fault : Checked
no_fault = Ok (tt {0})

-- a refusal in place of any answer
abbrev pub refused : {A : Type 0} → Reason → ℕ → Result A Refusal
refused reason place = Err (record { reason = reason; place = place })

-- a check refuses the lowest place below n at which its test passes; else the next check says
abbrev pub refuse_at : Reason → (ℕ → Bool) → ℕ → Checked → Checked
refuse_at reason test n next = pick (some test n) (refused reason (lowest test n)) next

-- a check without a place refuses at 0
abbrev pub refuse_if : Reason → Bool → Checked → Checked
refuse_if reason test next = pick test (refused reason 0) next

-- two checks, the second asked where the first finds nothing
abbrev pub followed_by : Checked → Checked → Checked
followed_by (Ok u) next = next
followed_by (Err r) next = Err r

-- document 01's number and place for each answer: 0 is done
abbrev pub number_of : Checked → ℕ
number_of (Ok u) = 0
number_of (Err r) = Reasons.number_of r.reason

abbrev pub place_of : Checked → ℕ
place_of (Ok u) = 0
place_of (Err r) = r.place

-- a refusal by number, and an answer whose refusal is one
abbrev pub by_number : Refusal → NumberedRefusal
by_number r = record { number = Reasons.number_of r.reason; place = r.place }

abbrev pub numbered : {A : Type 0} → Result A Refusal → Result A NumberedRefusal
numbered (Ok x) = Ok x
numbered (Err r) = Err (by_number r)

-- an answer is the one that is defined: the number and the place that document 01 gives it, and the case itself
abbrev pub Tells : Checked → Checked → Type 0
Tells r defined = (number_of r ≡ number_of defined) × (place_of r ≡ place_of defined) × (r ≡ defined)

pub tells : {r defined : Checked} → r ≡ defined → Tells r defined
tells e = (ap number_of e, ap place_of e, e)

pub tells_once : (defined : Checked) → Determines (λ r. Tells r defined)
tells_once defined r s p q = p.2 ∙ sym q.2

abbrev pub is_fine : Checked → Bool
is_fine (Ok u) = true
is_fine (Err r) = false

-- ---- laws: what it takes that nothing is refused
refused_not_fine : (r : Refusal) → Err r ≡ no_fault → ⊥
refused_not_fine r e = true≢false (ap is_fine e) refl

pub refuses : (b : Bool) (k : Reason) (p : ℕ) (next : Checked) → Iff (pick b (refused k p) next ≡ no_fault) ((b ≡ false) × (next ≡ no_fault))
refuses true k p next = record { to = λ e. absurd (refused_not_fine _ e); from = λ e. absurd (true≢false refl e.0) }
refuses false k p next = record { to = λ e. (refl, e); from = λ e. e.1 }

pub both_fine : (a b : Checked) → Iff (followed_by a b ≡ no_fault) ((a ≡ no_fault) × (b ≡ no_fault))
both_fine (Ok u) b = record { to = λ e. (refl, e); from = λ e. e.1 }
both_fine (Err r) b = record { to = λ e. absurd (refused_not_fine r e); from = λ e. e.0 }

pub first_fine : (a b : Checked) → followed_by a b ≡ no_fault → a ≡ no_fault
first_fine a b e = ((both_fine a b).to e).0

pub fine_is : (k : Checked) → is_fine k ≡ true → k ≡ no_fault
fine_is (Ok u) e = refl
fine_is (Err r) e = absurd (true≢false e refl)

-- ---- what a check says by its lowest place, or by that it has none
pub refuses_at : (reason : Reason) (test : ℕ → Bool) (n i : ℕ) (next : Checked) → lowest_if test n ≡ Some i → refuse_at reason test n next ≡ refused reason i
refuses_at reason test n i next e = let h = if_some test n i e in pick_true _ _ h.0 ∙ ap (λ k. refused reason k) h.1

pub passes_at : (reason : Reason) (test : ℕ → Bool) (n : ℕ) (next : Checked) → lowest_if test n ≡ None → refuse_at reason test n next ≡ next
passes_at reason test n next e = pick_false _ _ (if_none test n e)
