-- How a run ends: what the cause of its status says, and what its notes do.
use Rattle.std.proofs.Common.{◌≡◌, ◌<◌, ◌≤◌, ◌⊎◌, ℕ, Bool, true, false, List, [], ◌∷◌, ◌++◌, ◌∙◌, length, Option, Some, None, IfSome, inl, inr, refl, sym, subst, arith}
use Rattle.gb_defs.specs.Fault as fault
use Rattle.gb_defs.specs.Request as asked
use Rattle.gb_defs.specs.Outcome.{Outcome, BadTable, BadGroup, Report}
use Rattle.gb_base.specs.declared.error.PolarsError.{PolarsError}
use Rattle.gb_text.specs.declared.status.Status.{Status}
use Rattle.gb_text.specs.declared.status.Status.TheVariants.{Done, Usage, Table, Group, ReadFault, WriteFault, TooLong, NoMemory}
use Rattle.gb_base.specs.Device.{Rose}
use Rattle.gb_text.specs.Moved.{HasWritten, Holds, HoldsPart}
use Rattle.gb_text.specs.StatusLine.{IsToldAs, status_line}
use Rattle.gb_defs.specs.Notes.{IsTraceLine, IsTracedIn, asks_trace}
use Rattle.gb_run.specs.Run.{AreNotes, Comes, HasCause, HasNoAnswer, HasTraceLine, IsAnswer, IsAnswerTo, IsOneOf, IsRefusedText, Run, Task}
use Rattle.gb_defs.specs.Outcome.{outcome}
use Rattle.gb_text.specs.Status.{Tells, fault_value}
use Rattle.gb_text.specs.Stream.{HasReadAll}
use Rattle.gb_text.proofs.RecordLemmas.{some_of}

module _ (task : Task) (q : asked.Request) (bytes : List ℕ) (e : task.request ≡ Some q) (t : task.input ≡ Some bytes) (long : task.limit < length bytes) where
  -- an outcome comes of an input within the limit
  pub too_short : {B : Type 0} (o : Outcome) → Comes task o → B
  too_short o c = let few : length bytes ≤ task.limit = (c.comes q bytes e t).0 in absurd (omega arith)

module _ (run : Run) (q : asked.Request) (bytes : List ℕ) (e : run.task.request ≡ Some q) (t : run.task.input ≡ Some bytes) (long : run.task.limit < length bytes) where
  short : {B : Type 0} (o : Outcome) → Comes run.task o → B
  short = too_short run.task q bytes e t long

  pub long_input : (s : Status) → HasCause run s → IsOneOf (TooLong ∷ ReadFault ∷ NoMemory ∷ []) s
  long_input Done h = short (Report h.0) h.1
  long_input Usage h = cc
  long_input (Table fault) h = short (BadTable (fault_value fault)) h
  long_input (Group x) h = short (BadGroup h.0) h.2
  long_input ReadFault h = inr (inl refl)
  long_input WriteFault h = short (Report h.0.0) h.0.1
  long_input TooLong h = inl refl
  long_input NoMemory h = inr (inr (inl refl))

-- an error of the grouping tells the fault that the task comes to
pub group_told : (run : Run) (s : Status) → HasCause run s → (e : PolarsError) → s ≡ Group e → (f : fault.Fault) × Tells e f × Comes run.task (BadGroup f)
group_told run s cause e is = subst (HasCause run) is cause

-- ---- what a report says of the source

module _ (words : Option asked.Request) (q : asked.Request) (limit : ℕ) (before after : Option (List ℕ)) (is : words ≡ Some q) where
  abbrev pub asked_task : Task
  asked_task = record { request = words; input = before; limit = limit }

  -- the outcome of the bytes that the source told
  pub comes_of : (o : Outcome) → HasReadAll limit before after (λ bytes. outcome q bytes ≡ o) → Comes asked_task o
  comes_of o h = record {
    asked = rw is refl;
    comes = λ other bytes e t.
        let same : q ≡ other = some_of (sym is ∙ e) in
        let told : h.bytes ≡ bytes = rw t at h.told in
        (rw (← told) h.within, rw (← told, ← same) h.holds);
  }

  -- why there is no text is why the task has no answer
  pub refused_cause : (faults faults_after : ℕ) (s : Status) → IsRefusedText (outcome q) faults faults_after limit before after s → HasNoAnswer asked_task faults faults_after s
  refused_cause faults faults_after (Table fault) h = comes_of (BadTable (fault_value fault)) h
  refused_cause faults faults_after (Group e) h = (
    h.holds.0,
    h.holds.1,
    comes_of (BadGroup h.holds.0) (record { bytes = h.bytes; told = h.told; ended = h.ended; within = h.within; holds = h.holds.2 }),
  )
  refused_cause faults faults_after ReadFault h = (rw is refl, h)
  refused_cause faults faults_after TooLong h = record { asked = rw is refl; long = h }
  refused_cause faults faults_after NoMemory h = tt
  refused_cause faults faults_after Done h = absurd h.holds
  refused_cause faults faults_after Usage h = absurd h.holds
  refused_cause faults faults_after WriteFault h = absurd h.holds

  line_of : (q' : asked.Request) (bytes : List ℕ) (input : Option (List ℕ)) → IfSome input (λ told. bytes ≡ told) → (asks : Bool) (line : List ℕ)
      → IsTraceLine asks (IsTracedIn bytes q') line → IsTraceLine asks (λ trace. IfSome input (λ told. IsTracedIn told q' trace)) line
  line_of q' bytes None told true line h = (h.0, tt, h.2)
  line_of q' bytes (Some input) told true line h = (h.0, subst (λ (b : List ℕ). IsTracedIn b q' h.0) told h.1, h.2)
  line_of q' bytes input told false line h = h

  -- the answer over the bytes that the source told
  pub answer_of : (text line : List ℕ) → HasReadAll limit before after (λ bytes. IsAnswerTo q bytes text line) → IsAnswer asked_task text line
  answer_of text line h = record {
    comes = comes_of (Report text) (record { bytes = h.bytes; told = h.told; ended = h.ended; within = h.within; holds = h.holds.text_is });
    traced = λ other e.
        let same : q ≡ other = some_of (sym is ∙ e) in
        rw (← same) (line_of q h.bytes before h.told (asks_trace q) line h.holds.traced);
  }

-- ---- a run

module _ (run : Run) (s told : Status) (alike : IsToldAs s told) (refused : HasNoAnswer run.task run.read_faults run.read_faults_after s) where
  no_answer : (s : Status) → HasNoAnswer run.task run.read_faults run.read_faults_after s → HasCause run s
  no_answer Done h = absurd h
  no_answer WriteFault h = absurd h
  no_answer Usage h = h
  no_answer (Table fault) h = h
  no_answer (Group e) h = h
  no_answer ReadFault h = h
  no_answer TooLong h = h
  no_answer NoMemory h = h

  pub told_cause : HasCause run told
  told_cause = elim alike [
    | inl same ↦ subst (HasCause run) (sym same) (no_answer s refused)
    | inr none ↦ subst (HasCause run) (sym none.1) tt
  ]

  no_line : (s : Status) → HasNoAnswer run.task run.read_faults run.read_faults_after s → HasTraceLine run.task s []
  no_line Done h = absurd h
  no_line WriteFault h = absurd h
  no_line Usage h = refl
  no_line (Table fault) h = refl
  no_line (Group e) h = refl
  no_line ReadFault h = refl
  no_line TooLong h = refl
  no_line NoMemory h = refl

  pub told_notes : (before after : Option (List ℕ)) (faults faults_after : ℕ) → HasWritten (status_line told) before after faults faults_after → AreNotes run.task told before after faults faults_after
  told_notes before after faults faults_after written = record {
    line = [];
    traced = elim alike [
      | inl same ↦ subst (λ (t : Status). HasTraceLine run.task t []) (sym same) (no_line s refused)
      | inr none ↦ subst (λ (t : Status). HasTraceLine run.task t []) (sym none.1) refl
    ];
    written = written;
  }

-- an answer that was delivered
module _ (run : Run) (text line : List ℕ) (answer : IsAnswer run.task text line) (s : Status) (ends : (s ≡ Done) ⊎ (s ≡ WriteFault)) where
  pub delivered_cause : (s ≡ Done → Holds text run.held run.held_after) → (s ≡ WriteFault → Rose run.write_faults run.write_faults_after) → (s ≡ WriteFault → HoldsPart text run.held run.held_after) → HasCause run s
  delivered_cause whole failed part = elim ends [
    | inl done ↦ subst (HasCause run) (sym done) (text, answer.comes, whole done)
    | inr fault ↦ subst (HasCause run) (sym fault) ((text, answer.comes, part fault), failed fault)
  ]

  pub delivered_notes : (before after : Option (List ℕ)) (faults faults_after : ℕ) → HasWritten (line ++ status_line s) before after faults faults_after → AreNotes run.task s before after faults faults_after
  delivered_notes before after faults faults_after written = record {
    line = line;
    traced = elim ends [
      | inl done ↦ subst (λ (t : Status). HasTraceLine run.task t line) (sym done) answer.traced
      | inr fault ↦ subst (λ (t : Status). HasTraceLine run.task t line) (sym fault) answer.traced
    ];
    written = written;
  }
