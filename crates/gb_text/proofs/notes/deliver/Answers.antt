use Rattle.std.proofs.Common.{List, ℕ, ap, subst}
use Rattle.gb_text.specs.Moved.{HasWritten}
use Rattle.gb_text.proofs.NoteLemmas.{both_noted}
use Rattle.gb_text.proofs.notes.deliver.Goals as goal

pub returns-in-Err-clause-noted : goal.returns-in-Err-clause-noted
returns-in-Err-clause-noted g c =
    let told = c.note-told.ensures in
    let behind = c.note_behind.ensures in
    both_noted c.args.line.now _ c.note-told.result _ _ _ _ _ _ told.whole told.failed told.part told.kept
    (λ t. subst (λ (line : List ℕ). HasWritten line (g.E.Sink.held c.note-told.new.notes) (g.E.Sink.held c.note_behind.new.notes) (g.E.Sink.faults c.note-told.new.notes) (g.E.Sink.faults c.note_behind.new.notes)) c.as_bytes.ensures.value (behind.written t))
    (λ f. ap g.E.Sink.held (behind.nothing f)) behind.kept
