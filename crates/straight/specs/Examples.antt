-- The rule on bare lists of points, by computing.
use Rattle.std.specs.Prelude.{ℕ, ◌≡◌, refl, [], ◌∷◌, pos}
use Rattle.turn.specs.declared.Point.{Point}
use Rattle.straight.specs.Straight.{drop_straight}

abbrev at : ℕ → ℕ → Point
at x y = record { x = pos x; y = pos y }

-- a square with a joint on each edge: its corners are left
joints : drop_straight (at 0 0 ∷ at 2 0 ∷ at 4 0 ∷ at 4 2 ∷ at 4 4 ∷ at 2 4 ∷ at 0 4 ∷ at 0 2 ∷ []) ≡ at 0 0 ∷ at 4 0 ∷ at 4 4 ∷ at 0 4 ∷ []
unfolding drop_straight
joints = refl

-- the neighbours are taken past position 0: the first point lies between the last and the second, the last between the one before it and the first
first_round : drop_straight (at 2 0 ∷ at 4 0 ∷ at 4 4 ∷ at 0 4 ∷ at 0 0 ∷ []) ≡ at 4 0 ∷ at 4 4 ∷ at 0 4 ∷ at 0 0 ∷ []
unfolding drop_straight
first_round = refl

last_round : drop_straight (at 0 0 ∷ at 4 0 ∷ at 4 4 ∷ at 0 4 ∷ at 0 2 ∷ []) ≡ at 0 0 ∷ at 4 0 ∷ at 4 4 ∷ at 0 4 ∷ []
unfolding drop_straight
last_round = refl

-- equal neighbours: one of them goes
equal_neighbours : drop_straight (at 0 0 ∷ at 4 0 ∷ at 4 0 ∷ at 4 4 ∷ []) ≡ at 0 0 ∷ at 4 0 ∷ at 4 4 ∷ []
unfolding drop_straight
equal_neighbours = refl

-- the order shows: the first and the last are equal, and the lower position goes; were it the higher one, the rest would begin with (0,0)
order_shows : drop_straight (at 0 0 ∷ at 4 0 ∷ at 4 4 ∷ at 0 0 ∷ []) ≡ at 4 0 ∷ at 4 4 ∷ at 0 0 ∷ []
unfolding drop_straight
order_shows = refl

-- a spike vanishes: its foot (4,0) goes, then its tip (6,0), and where it comes back (4,0) is a corner
spike_vanishes : drop_straight (at 0 0 ∷ at 4 0 ∷ at 6 0 ∷ at 4 0 ∷ at 4 4 ∷ []) ≡ at 0 0 ∷ at 4 0 ∷ at 4 4 ∷ []
unfolding drop_straight
spike_vanishes = refl

-- all on one line: it falls under 3 points, and no more go; here too the lower positions went
falls_under : drop_straight (at 0 0 ∷ at 1 0 ∷ at 2 0 ∷ at 3 0 ∷ []) ≡ at 2 0 ∷ at 3 0 ∷ []
unfolding drop_straight
falls_under = refl
