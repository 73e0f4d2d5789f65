-- What each public function promises, written once: its contract names it, and any two outcomes that it allows are equal.
use Rattle.std.specs.Prelude.{◌≡◌, Result}
use Rattle.laws.specs.Unique.{same_part}
use Rattle.finish.specs.Finish.{Buffers, finished_by}
use Rattle.keep.specs.declared.Counts.{Counts}

abbrev pub FinishSays : {E : Type 0} → Result Counts E → Buffers → Buffers → Type 0
FinishSays answer before after = after ≡ finished_by answer before

-- each of the five buffers
pub record SameBuffers (b c : Buffers) : Type 0 where
  pub state : b.state ≡ c.state
  pub points : b.points ≡ c.points
  pub first : b.first ≡ c.first
  pub len : b.len ≡ c.len
  pub kind : b.kind ≡ c.kind

pub same_buffers : {b c defined : Buffers} → b ≡ defined → c ≡ defined → SameBuffers b c
same_buffers p q = record {
  state = same_part (λ (o : Buffers). o.state) p q;
  points = same_part (λ (o : Buffers). o.points) p q;
  first = same_part (λ (o : Buffers). o.first) p q;
  len = same_part (λ (o : Buffers). o.len) p q;
  kind = same_part (λ (o : Buffers). o.kind) p q;
}

pub finish_once : {E : Type 0} (answer : Result Counts E) (before b c : Buffers) → FinishSays answer before b → FinishSays answer before c → SameBuffers b c
finish_once answer before b c p q = same_buffers p q
