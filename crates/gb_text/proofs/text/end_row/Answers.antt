use Rattle.gb_text.proofs.TextLemmas.{begun_next}
use Rattle.gb_text.proofs.text.end_row.Goals as goal
use Rattle.gb_text.proofs.text.end_row.Goals.{in-Ok, in-Err}

pub returns : goal.returns
returns c =
    elim c.match-end_record.branch [
      | in-Ok w ↦ let says = w.in-Ok.ensures in
          rw w.result-is (λ before fields h. begun_next _ _ before fields says.bytes says.fields says.wrote says.same h)
      | in-Err w ↦ rw w.result-is tt
    ]
