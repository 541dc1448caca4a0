use Rattle.gb_text.proofs.TextLemmas.{begun_more}
use Rattle.gb_text.proofs.text.put_field.Goals as goal
use Rattle.gb_text.proofs.text.put_field.Goals.{in-Ok, in-Err}

pub returns : goal.returns
returns c =
    elim c.match-write_field.branch [
      | in-Ok w ↦ let says = w.in-Ok.ensures in
          rw w.result-is (λ before fields few h. begun_more _ _ _ before fields says.text says.same says.count says.wrote says.stays few h)
      | in-Err w ↦ rw w.result-is tt
    ]
