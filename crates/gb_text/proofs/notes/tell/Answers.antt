use Rattle.std.proofs.Common.{List, ℕ, subst}
use Rattle.gb_text.specs.Moved.{HasWritten}
use Rattle.gb_text.proofs.NoteLemmas.{noted}
use Rattle.gb_text.proofs.notes.tell.Goals as goal

pub returns-in-Err-clause-written : goal.returns-in-Err-clause-written
returns-in-Err-clause-written g c =
    subst
    (λ (line : List ℕ). HasWritten line (g.E.Sink.held c.args.notes.now) (g.E.Sink.held c.note-in-Err.new.notes) (g.E.Sink.faults c.args.notes.now) (g.E.Sink.faults c.note-in-Err.new.notes))
    c.as_bytes-in-Err.ensures.value
    (noted _ c.note-in-Err.result _ _ _ _ c.note-in-Err.ensures.whole c.note-in-Err.ensures.failed c.note-in-Err.ensures.part)
