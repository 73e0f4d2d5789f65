-- `print_text::write_text` meets its contract.
use Rattle.std.proofs.Common.{refl, rules}
use Rattle.std.proofs.lemmas.Slice.{overwrites}
use Rattle.writing.specs.Put.{put_at}
use Rattle.print_text.proofs.write_text.Goals as goal

pub returns : goal.returns
unfolding put_at
returns c = record { next = refl; bytes = search (rules, overwrites) }
