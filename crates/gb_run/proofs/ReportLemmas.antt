-- What a request over a table comes to, by what its steps give.
use Rattle.std.proofs.Common.{◌≡◌, ◌≢◌, ℕ, ◌<◌, Bool, true, false, List, [], ◌∷◌, ◌∙◌, Option, Some, None, Result, Ok, Err, cond, length, map, refl, sym, ap, arith}
use Rattle.std.specs.Prelude.{option_map, option_and_then}
use Rattle.std.specs.Result.{result_err}
use Rattle.gb_defs.specs.Column.{Content, Frame, IsFrame, rechunked}
use Rattle.gb_defs.specs.Fault.{Fault}
use Rattle.gb_defs.specs.Fold.{Method}
use Rattle.gb_defs.specs.Outcome.{BadGroup, BadTable, Outcome, Report, grouped, outcome, outcome_of_table, written}
use Rattle.gb_defs.specs.Request.{Given, Group, Request, ToolOptions, asked_keys, given_from, group_of, nothing, request}
use Rattle.gb_defs.specs.Table.{TableFault, table}
use Rattle.gb_defs.specs.Text.{frame_text}
use Rattle.gb_base.specs.PolarsError.{Explains, IsCause, cause_of}
use Rattle.gb_base.specs.declared.error.PolarsError.{PolarsError}
use Rattle.gb_text.specs.declared.status.TableError.{TableError}
use Rattle.gb_text.specs.declared.status.TableError.TheVariants.{Fault as Faulty, NoMemory}
use Rattle.gb_run.specs.Request.{HasKeys, asked_names}
use Rattle.gb_run.specs.Run.{IsRefusedReport, IsRefusedText}
use Rattle.gb_text.specs.Stream.{HasReadAll, IsRefusedInput}
use Rattle.gb_text.specs.Status.{fault_value, IsStatusOf, IsTold, IsToldOf, of_table}
use Rattle.gb_text.specs.declared.status.Status.{Status}
use Rattle.gb_text.specs.declared.status.Status.TheVariants as status
use Rattle.gb_text.specs.Refusal.{IsRefusedTable}
use Rattle.gb_text.specs.Asked.{asked_table, kept}
use Rattle.gb_text.specs.Table.{map_ok}
use Rattle.gb_run.proofs.CutLemmas.{grouped_asked}
use Rattle.gb_text.proofs.ChunkLemmas.{grouped_rechunked}
use Rattle.gb_text.proofs.ReadingLemmas.{table_is_frame}

-- words ask for a key
asked_some : (names : List (List ℕ)) (aggs : List (List ℕ × Method)) (options : ToolOptions) (q : Request) → option_map (λ keys. Group keys aggs options) (asked_keys names) ≡ Some q → HasKeys q
asked_some [] aggs options q e = cc
asked_some (name ∷ names) aggs options (Group keys others its_options) e =
    let same : keys ≡ name ∷ names = cc in omega (arith, ap (λ (xs : List (List ℕ)). length xs) same)

given_some : (given : Option Given) (q : Request) → option_and_then group_of given ≡ Some q → HasKeys q
given_some None q e = cc
given_some (Some g) q e = asked_some g.by g.aggs _ q e

if_asked : (b : Bool) (given : Option Given) (q : Request) → cond b (option_and_then group_of given) None ≡ Some q → HasKeys q
if_asked true given q e = given_some given q e
if_asked false given q e = cc

pub words_some : (words : List (List ℕ)) (q : Request) → request words ≡ Some q → HasKeys q
unfolding request
words_some [] q e = cc
words_some (command ∷ options) q e = if_asked _ (given_from options nothing) q e

module _ (by : List (List ℕ)) (aggs : List (List ℕ × Method)) (options : ToolOptions) (bytes : List ℕ) where
  pub bad_table : (e : TableError) → IsRefusedTable e (table bytes options.null_word) → IsRefusedReport (of_table e) (outcome (Group by aggs options) bytes)
  unfolding outcome
  bad_table (Faulty fault) h = ap (outcome_of_table by aggs options.null_word) h
  bad_table NoMemory h = tt

  told_report : (f g : Fault) (s : Status) → f ≡ g → IsTold f s → IsRefusedReport s (BadGroup g)
  told_report f g (status.Group e) same t = (f, t, ap (λ x. BadGroup x) (sym same))
  told_report f g _ same t = absurd t

  refused_cause : (known : Option Fault) (r : Result (List Content) Fault) (s : Status) → IsCause known (result_err r) → IsToldOf known s → IsRefusedReport s (written options.null_word r)
  refused_cause None r s h t = rw t tt
  refused_cause (Some f) (Ok columns) s h t = cc
  refused_cause (Some f) (Err g) s h t = let same : f ≡ g = cc in told_report f g s same t

-- the table is grouped by the columns that are asked for as it is whole
as_whole : (by : List (List ℕ)) (aggs : List (List ℕ × Method)) (options : ToolOptions) (r : Result Frame TableFault) (frame : Frame) → by ≢ [] → ((whole : Frame) → r ≡ Ok whole → IsFrame whole)
    → map_ok (kept (asked_names by aggs)) r ≡ Ok (map rechunked frame) → outcome_of_table by aggs options.null_word r ≡ written options.null_word (grouped frame by aggs)
as_whole by aggs options (Err fault) frame some whole e = cc
as_whole by aggs options (Ok all) frame some whole e =
    let same : kept (asked_names by aggs) all ≡ map rechunked frame = cc in
    ap (written options.null_word) (sym (grouped_asked all by aggs (whole all refl) some) ∙ ap (λ f. grouped f by aggs) same ∙ grouped_rechunked frame by aggs)

-- names of which there are some
pub some_names : (by : List (List ℕ)) → 0 < length by → by ≢ []
some_names [] some e = absurd (omega (arith, some))
some_names (name ∷ names) some e = cc

module _ (by : List (List ℕ)) (aggs : List (List ℕ × Method)) (options : ToolOptions) (bytes : List ℕ) (frame : Frame) (some : 0 < length by)
    (read : asked_table (asked_names by aggs) bytes options.null_word ≡ Ok (map rechunked frame)) where
  read_outcome : outcome (Group by aggs options) bytes ≡ written options.null_word (grouped frame by aggs)
  unfolding outcome
  read_outcome = as_whole by aggs options (table bytes options.null_word) frame (some_names by some) (table_is_frame options.null_word bytes) read

  pub bad_group : (e : PolarsError) (s : Status) → Explains e (result_err (grouped frame by aggs)) → IsStatusOf e s → IsRefusedReport s (outcome (Group by aggs options) bytes)
  bad_group e s h t = rw read_outcome (refused_cause by aggs options bytes (cause_of e) (grouped frame by aggs) s h t)

  pub good_report : (columns : List Content) (text : List ℕ) → grouped frame by aggs ≡ Ok columns → text ≡ frame_text columns options.null_word → outcome (Group by aggs options) bytes ≡ Report text
  good_report columns text is printed = read_outcome ∙ ap (written options.null_word) is ∙ ap (λ t. Report t) (sym printed)

-- ---- what was read of a source

pub read_map : (limit : ℕ) (before after : Option (List ℕ)) (P Q : List ℕ → Type 0) → ((bytes : List ℕ) → P bytes → Q bytes) → HasReadAll limit before after P → HasReadAll limit before after Q
read_map limit before after P Q f h = record { bytes = h.bytes; told = h.told; ended = h.ended; within = h.within; holds = f h.bytes h.holds }

-- why a table is refused is why there is no text
pub refused_table : (by : List (List ℕ)) (aggs : List (List ℕ × Method)) (options : ToolOptions) (faults faults_after limit : ℕ) (before after : Option (List ℕ)) (s : Status) → IsRefusedInput options.null_word faults faults_after limit before after s
    → IsRefusedText (outcome (Group by aggs options)) faults faults_after limit before after s
refused_table by aggs options faults faults_after limit before after (status.Table fault) h =
    read_map limit before after (λ bytes. table bytes options.null_word ≡ Err (fault_value fault)) (λ bytes. outcome (Group by aggs options) bytes ≡ BadTable (fault_value fault)) (λ bytes bad. bad_table by aggs options bytes (Faulty fault) bad) h
refused_table by aggs options faults faults_after limit before after status.ReadFault h = h
refused_table by aggs options faults faults_after limit before after status.TooLong h = h
refused_table by aggs options faults faults_after limit before after status.NoMemory h = tt
refused_table by aggs options faults faults_after limit before after status.Done h = absurd h
refused_table by aggs options faults faults_after limit before after status.Usage h = absurd h
refused_table by aggs options faults faults_after limit before after status.WriteFault h = absurd h
refused_table by aggs options faults faults_after limit before after (status.Group e) h = absurd h

-- so is why a frame is refused
pub refused_frame : (comes : List ℕ → Outcome) (faults faults_after limit : ℕ) (before after : Option (List ℕ)) (s : Status) → HasReadAll limit before after (λ bytes. IsRefusedReport s (comes bytes)) → IsRefusedText comes faults faults_after limit before after s
refused_frame comes faults faults_after limit before after status.ReadFault h = absurd h.holds
refused_frame comes faults faults_after limit before after status.TooLong h = absurd h.holds
refused_frame comes faults faults_after limit before after status.NoMemory h = tt
refused_frame comes faults faults_after limit before after (status.Table fault) h = h
refused_frame comes faults faults_after limit before after (status.Group e) h = h
refused_frame comes faults faults_after limit before after status.Done h = h
refused_frame comes faults faults_after limit before after status.Usage h = h
refused_frame comes faults faults_after limit before after status.WriteFault h = h
