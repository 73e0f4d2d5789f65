-- Lists whose front is written anew: from a place on they are as they were, so what stands before that place determines the whole.
use Rattle.std.specs.Prelude.{ℕ, ◌+◌, ◌≤◌, ◌<◌, ◌≡◌, refl, List, length, get_or, set}
use Rattle.std.proofs.Common.{arith, sym, ◌∙◌, length-set, ext_get_or, get_or-set_other}
use Rattle.std.proofs.Math.Decide.{dec_le}
use Rattle.laws.specs.Lists.{put_above}

-- the new list is as long as the old one, and from place m on it is the same
pub record KeptFrom {A : Type 0} (d : A) (m : ℕ) (old new : List A) : Type 0 where
  pub len : length new ≡ length old
  pub rest : (i : ℕ) → m ≤ i → get_or new i d ≡ get_or old i d

module _ {A : Type 0} (d : A) where
  pub kept_all : (m : ℕ) (l : List A) → KeptFrom d m l l
  kept_all m l = record { len = refl; rest = λ i h. refl }

  module _ (m : ℕ) (old new : List A) (k : KeptFrom d m old new) where
    -- a store at the first kept place
    pub kept_set : (v : A) → KeptFrom d (m + 1) old (set new m v)
    kept_set v = record { len = length-set new m v ∙ k.len; rest = put_above d (λ i. get_or old i d) new m v k.rest }

    -- a store before the kept places
    pub kept_before : (i : ℕ) (v : A) → i < m → KeptFrom d m old (set new i v)
    kept_before i v h = record { len = length-set new i v ∙ k.len; rest = λ j l. get_or-set_other new i j v d (λ e. omega arith) ∙ k.rest j l }

    -- less is kept
    pub kept_less : (n : ℕ) → m ≤ n → KeptFrom d n old new
    kept_less n h = record { len = k.len; rest = λ i l. k.rest i (omega arith) }

    -- two lists that keep the same, and have the same in front, are equal
    pub kept_once : (new' : List A) → KeptFrom d m old new' → ((i : ℕ) → i < m → get_or new i d ≡ get_or new' i d) → new ≡ new'
    kept_once new' k' front = ext_get_or d new new' (k.len ∙ sym k'.len) (λ i l. go i (dec_le m i))
      where
        go : (i : ℕ) → Dec (m ≤ i) → get_or new i d ≡ get_or new' i d
        go i (yes h) = k.rest i h ∙ sym (k'.rest i h)
        go i (no h) = front i (omega arith)

  pub kept_then : (m : ℕ) (old mid new : List A) → KeptFrom d m old mid → KeptFrom d m mid new → KeptFrom d m old new
  kept_then m old mid new k l = record { len = l.len ∙ k.len; rest = λ i h. l.rest i h ∙ k.rest i h }
