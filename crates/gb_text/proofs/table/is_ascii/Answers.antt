use Rattle.gb_text.proofs.PushLemmas.{ascii_fields}
use Rattle.gb_text.proofs.table.is_ascii.Goals as goal

pub returns : goal.returns
returns c = λ plain. ascii_fields 0 _ _ (rw (plain, c.as_slice.ensures) at c.is_ascii.ensures.cases)
