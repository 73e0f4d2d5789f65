-- What a whole run is: the loop that finds its end, and where its records stand.
use Rattle.std.specs.Prelude.{ℕ, zero, suc, ◌+◌, ◌-◌, ◌≤◌, ◌<◌, ◌≡◌, refl, List, [], ◌∷◌, length, Option, Some, None, Result, Ok, Err}
use Rattle.std.proofs.Common.{sym, ap, ◌∙◌, subst, arith}
use Rattle.format_records.specs.Limits.{max_records}
use Rattle.format_records.specs.Records.{length_at, body_at, run_to, past, step_at, RunBodies, ran, fault, with, on_step, run_from, run_at, looks}
use Rattle.format_shape.specs.Shape.{run_end_of}
use Rattle.format_records.specs.Steps.{Told, next_tells, count_below}
use Rattle.format_records.specs.declared.Run.{Run}
use Rattle.turn.specs.declared.Refusal.{Refusal}

-- ---- the loop that looks for a run's end

end_with : (b : List ℕ) (t : RunBodies) → run_end_of (with b t) ≡ run_end_of t
end_with b (ran r bs) = refl
end_with b (fault e) = refl

module _ (kind : ℕ) (s : List ℕ) (n : ℕ) (r : Run) where
  end_next : (x : Run) → step_at kind s r ≡ Ok (Some x) → run_end_of (run_from (suc n) kind s r) ≡ run_end_of (run_from n kind s x)
  unfolding run_from
  end_next x e = rw e (end_with (body_at s r.at) (run_from n kind s x))

  end_other : step_at kind s r ≡ Ok None → run_end_of (run_from (suc n) kind s r) ≡ Ok r
  unfolding run_from
  end_other e = rw e

  end_fault : (f : Refusal) → step_at kind s r ≡ Err f → run_end_of (run_from (suc n) kind s r) ≡ Err f
  unfolding run_from
  end_fault f e = rw e

-- the run from r on ends as the whole run from `at` on does
pub record Running (kind : ℕ) (s : List ℕ) (at : ℕ) (r : Run) : Type 0 where
  pub inside : r.at ≤ length s
  pub size : r.size ≤ r.at
  pub few : r.count ≤ max_records
  pub same : run_end_of (run_from (looks - r.count) kind s r) ≡ run_end_of (run_at kind s at)

module _ (kind : ℕ) (s : List ℕ) (at : ℕ) where
  pub running_first : at ≤ length s → Running kind s at (run_to at 0 0)
  running_first h = record { inside = h; size = omega arith; few = omega arith; same = refl }

  module _ (r : Run) (i : Running kind s at r) where
    look : looks - r.count ≡ suc (max_records - r.count)
    look = omega (arith, i.few)

    at_look : run_end_of (run_from (suc (max_records - r.count)) kind s r) ≡ run_end_of (run_at kind s at)
    at_look = ap (λ n. run_end_of (run_from n kind s r)) (sym look) ∙ i.same

    pub running_other : step_at kind s r ≡ Ok None → Ok r ≡ run_end_of (run_at kind s at)
    running_other e = sym (end_other kind s (max_records - r.count) r e) ∙ at_look

    pub running_fault : (f : Refusal) → step_at kind s r ≡ Err f → Err f ≡ run_end_of (run_at kind s at)
    running_fault f e = sym (end_fault kind s (max_records - r.count) r f e) ∙ at_look

    pub running_next : (x : Run) → step_at kind s r ≡ Ok (Some x) → Running kind s at x
    running_next x e =
        let t = next_tells kind s r x e in
        let b = count_below kind r.count r.size (length_at s r.at) t.1.number in
        let p : Running kind s at (past s r) = record {
          inside = t.1.whole;
          size = omega (arith, i.size);
          few = omega arith;
          same = ap (λ n. run_end_of (run_from n kind s (past s r))) (after b)
              ∙ sym (end_next kind s (max_records - r.count) r (past s r) (e ∙ ap (λ (y : Run). Ok (Some y)) t.0))
              ∙ at_look;
        } in subst (Running kind s at) (sym t.0) p
      where
        after : r.count < max_records → looks - (r.count + 1) ≡ max_records - r.count
        after h = omega arith

    pub running_less : (x : Run) → step_at kind s r ≡ Ok (Some x) → looks - x.count < looks - r.count
    running_less x e =
        let t = next_tells kind s r x e in
        let b = count_below kind r.count r.size (length_at s r.at) t.1.number in
        subst (λ (y : Run). looks - y.count < looks - r.count) (sym t.0) (less b)
      where
        less : r.count < max_records → looks - (r.count + 1) < looks - r.count
        less h = omega arith

-- ---- where the records of a run stand

-- the bodies bs stand one after the other from r on, up to r'
abbrev pub RecordsStand : ℕ → List ℕ → Run → List (List ℕ) → Run → Type 0
RecordsStand kind s r [] r' = r ≡ r'
RecordsStand kind s r (b ∷ bs) r' = Told kind s r × (b ≡ body_at s r.at) × RecordsStand kind s (past s r) bs r'

-- two constructors are never equal: `cc` then finds 0 ≡ 1
pub never : ◌≡◌ {A = ℕ} 0 1 → ⊥
never e = omega arith

module _ (kind : ℕ) (s : List ℕ) (r r' : Run) (bs : List (List ℕ)) where
  stands_none : (ran r []) ≡ ran r' bs → RecordsStand kind s r bs r'
  stands_none e =
      let p : r ≡ r' = cc in
      let q : [] ≡ bs = cc in
      subst (λ (l : List (List ℕ)). RecordsStand kind s r l r') q p

  stands_one : (y : Run) (t : RunBodies) → step_at kind s r ≡ Ok (Some y) → ((x : Run) (cs : List (List ℕ)) → t ≡ ran x cs → RecordsStand kind s y cs x)
      → with (body_at s r.at) t ≡ ran r' bs → RecordsStand kind s r bs r'
  stands_one y (fault f) q ih e = let z : ◌≡◌ {A = ℕ} 0 1 = cc in absurd (never z)
  stands_one y (ran x cs) q ih e =
      let p : x ≡ r' = cc in
      let l : body_at s r.at ∷ cs ≡ bs = cc in
      let t = next_tells kind s r y q in
      subst (λ (l : List (List ℕ)). RecordsStand kind s r l r') l
      (t.1, refl, subst (λ (z : Run). RecordsStand kind s (past s r) cs z) p (subst (λ (z : Run). RecordsStand kind s z cs x) t.0 (ih x cs refl)))

  stands_step : (n : ℕ) (x : Result (Option Run) Refusal) → step_at kind s r ≡ x
      → ((y z : Run) (cs : List (List ℕ)) → run_from n kind s y ≡ ran z cs → RecordsStand kind s y cs z)
      → on_step x (λ y. with (body_at s r.at) (run_from n kind s y)) (ran r []) ≡ ran r' bs → RecordsStand kind s r bs r'
  stands_step n (Ok (Some y)) q ih e = stands_one y (run_from n kind s y) q (ih y) e
  stands_step n (Ok None) q ih e = stands_none e
  stands_step n (Err f) q ih e = let z : ◌≡◌ {A = ℕ} 0 1 = cc in absurd (never z)

pub stands : (kind : ℕ) (s : List ℕ) (n : ℕ) (r r' : Run) (bs : List (List ℕ)) → run_from n kind s r ≡ ran r' bs → RecordsStand kind s r bs r'
unfolding run_from
stands kind s zero r r' bs e = stands_none kind s r r' bs e
stands kind s (suc n) r r' bs e = stands_step kind s r r' bs n (step_at kind s r) refl (λ y z cs. stands kind s n y z cs) e
