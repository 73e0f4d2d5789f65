-- A dropped contour has the signed area of the full one, whatever its points: a point on one line with its neighbours adds nothing.
use Rattle.std.specs.Prelude.{ℕ, zero, suc, ◌≡◌, refl, Bool, true, false, List, [], ◌∷◌, length, ltb, ℤ, pos, ◌+ℤ◌}
use Rattle.std.proofs.Common.{sym, ap, ◌∙◌}
use Rattle.std.proofs.Math.IntN.{+ℤ_idr, +ℤ_assoc, +ℤ_comm}
use Rattle.laws.specs.Test.{pick, true_is}
use Rattle.laws.specs.Ring.{ring, var, con, ◌:+◌, ◌:-◌, ◌:*◌}
use Rattle.laws.specs.Sign.{eq_s_eq, sgn_zer}
use Rattle.turn.specs.declared.Point.{Point}
use Rattle.turn.specs.Points.{turn}
use Rattle.turn.specs.Area.{wedge, area_to, area}
use Rattle.straight.specs.Straight.{on_line, head_or, last_or, without, remove_lowest, removal, removals, drop_straight}

-- past a point on one line with its neighbours, or straight from the one to the other
passed : (a b c : Point) → on_line a b c ≡ true → wedge a b +ℤ wedge b c ≡ wedge a c
passed a b c e = split ∙ ap (λ t. wedge a c +ℤ t) (sgn_zer (turn a b c) (eq_s_eq (true_is e))) ∙ +ℤ_idr (wedge a c)
  where
    split : wedge a b +ℤ wedge b c ≡ wedge a c +ℤ turn a b c
    split =
        let ax = var 0 in let ay = var 1 in let bx = var 2 in let by = var 3 in let cx = var 4 in let cy = var 5 in
        ring (a.x ∷ a.y ∷ b.x ∷ b.y ∷ c.x ∷ c.y ∷ [])
        ((ax :* by :- ay :* bx) :+ (bx :* cy :- by :* cx))
        ((ax :* cy :- ay :* cx) :+ ((bx :- ax) :* (cy :- ay) :- (by :- ay) :* (cx :- ax))) tt

-- the sum from a point along others and home
abbrev along : Point → Point → List Point → ℤ
along home p l = area_to home (p ∷ l)

along_without : (prev home : Point) (l : List Point) → along home prev (without prev home l) ≡ along home prev l
along_without prev home [] = refl
along_without prev home (p ∷ l) = by (on_line prev p (head_or home l)) refl (along_without p home l)
  where
    gone : (l : List Point) → on_line prev p (head_or home l) ≡ true → along home prev l ≡ wedge prev p +ℤ along home p l
    gone [] e = sym (passed prev p home e)
    gone (q ∷ l) e = ap (λ t. t +ℤ along home q l) (sym (passed prev p q e)) ∙ +ℤ_assoc (wedge prev p) (wedge p q) (along home q l)

    by : (b : Bool) → on_line prev p (head_or home l) ≡ b → along home p (without p home l) ≡ along home p l
        → along home prev (pick b l (p ∷ without p home l)) ≡ wedge prev p +ℤ along home p l
    by true e r = gone l e
    by false e r = ap (λ t. wedge prev p +ℤ t) r

-- home by way of one point more
home_by : (home there p : Point) (l : List Point) → wedge (last_or p l) home +ℤ wedge home there ≡ wedge (last_or p l) there
    → along home p l +ℤ wedge home there ≡ along there p l
home_by home there p [] e = e
home_by home there p (q ∷ l) e = +ℤ_assoc (wedge p q) (along home q l) (wedge home there) ∙ ap (λ t. wedge p q +ℤ t) (home_by home there q l e)

area_first : (h : Point) (l : List Point) → on_line (last_or h l) h (head_or h l) ≡ true → area l ≡ area (h ∷ l)
area_first h [] e = ring (h.x ∷ h.y ∷ []) (con (pos 0)) (var 0 :* var 1 :- var 1 :* var 0) tt
area_first h (q ∷ l) e = sym (home_by h q q l (passed (last_or q l) h q e)) ∙ +ℤ_comm (along h q l) (wedge h q)

area_lowest : (l : List Point) → area (remove_lowest l) ≡ area l
area_lowest [] = refl
area_lowest (h ∷ l) = by (on_line (last_or h l) h (head_or h l)) refl
  where
    by : (b : Bool) → on_line (last_or h l) h (head_or h l) ≡ b → area (pick b l (h ∷ without h h l)) ≡ area (h ∷ l)
    by true e = area_first h l e
    by false e = along_without h h l

area_removal : (l : List Point) → area (removal l) ≡ area l
area_removal l = by (ltb (length l) 3)
  where
    by : (b : Bool) → area (pick b l (remove_lowest l)) ≡ area l
    by true = refl
    by false = area_lowest l

area_removals : (n : ℕ) (l : List Point) → area (removals n l) ≡ area l
area_removals zero l = refl
area_removals (suc n) l = area_removals n (removal l) ∙ area_removal l

pub area_stays : (l : List Point) → area (drop_straight l) ≡ area l
unfolding drop_straight
area_stays l = area_removals (length l) l
