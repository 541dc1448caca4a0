-- A plain table: its header, and all lines behind it.
use Rattle.std.proofs.Common.{◌≡◌, ◌≢◌, ℕ, ◌+◌, ◌<◌, ◌≤◌, List, [], ◌∷◌, length, map, get_or, drop, refl, ◌∙◌, ap, arith, Some, None, Ok, Err, All}
use Rattle.std.specs.List.{filter_map}
use Rattle.std.proofs.lemmas.List.{drop_all, length-drop}
use Rattle.csv.specs.declared.parser.State.TheVariants as st
use Rattle.csv.specs.Machine.{next_record}
use Rattle.csv.specs.Reading.{Reached, default_config, strip_bom}
use Rattle.gb_defs.specs.Column.{IsFrame}
use Rattle.gb_defs.specs.Table.{TableFault, table}
use Rattle.gb_text.specs.Asked.{asked_table, is_asked}
use Rattle.gb_text.specs.Building.{Building, IsWhole, in_one_chunk, read_if_kept}
use Rattle.gb_text.specs.Part.{IsPart}
use Rattle.gb_text.specs.Plain.{BeginsWith}
use Rattle.gb_text.specs.Table.{columns_of_header}
use Rattle.gb_text.proofs.LinesLemmas.{ReachesBoth, reached_both}
use Rattle.gb_text.specs.Stream.{IsHeaded}
use Rattle.gb_text.proofs.PlainLemmas.{begins, goes_same}
use Rattle.gb_text.specs.Taking.{IsReading}
use Rattle.gb_text.proofs.ReadingLemmas.{header_bad, reading_end, reading_frame, reading_whole}
use Rattle.gb_text.proofs.RecordLemmas.{strip_bom-length}

ends : next_record default_config st.StartRecord [] [] [] ≡ None
unfolding next_record
ends = refl

pub headed : (bytes text : List ℕ) (header : List (List ℕ)) (rest : List ℕ) → text ≡ strip_bom bytes → 0 < length text → (get_or text 0 0 ≢ 10) × (get_or text 0 0 ≢ 13) → BeginsWith header text rest → IsHeaded bytes header rest
headed bytes text header rest is some first begins = record {
  some = rw is at some;
  feed = let f = first.0 in rw is at f;
  return = let r = first.1 in rw is at r;
  begins = rw is at begins;
}

module _ (names : List (List ℕ)) (null_word bytes : List ℕ) (header : List (List ℕ)) (rest : List ℕ) (h : IsHeaded bytes header rest) where
  -- what stands behind the header is shorter
  pub rest_short : length rest ≤ length bytes
  rest_short = let long = ap length h.begins.behind.is ∙ length-drop h.begins.behind.count (strip_bom bytes) in omega (arith, long, strip_bom-length bytes)

  pub plain_reached : Reached default_config st.StartRecord (strip_bom bytes) (header ∷ []) h.begins.state h.begins.left
  unfolding Reached
  plain_reached =
      let read : next_record default_config st.StartRecord [] [] (strip_bom bytes) ≡ Some (header, h.begins.state, h.begins.left) = begins (strip_bom bytes) h.some h.feed h.return ∙ h.begins.reads in
      ((header, h.begins.state, h.begins.left), read, refl, (refl, refl))

  pub plain_no_columns : (fault : TableFault) → columns_of_header (is_asked names) header ≡ Err fault → table bytes null_word ≡ Err fault
  plain_no_columns fault bad = header_bad names null_word bytes header h.begins.state h.begins.left plain_reached fault bad

  module _ (columns : List Building) (p : IsPart names null_word header (drop 0 rest) (drop (length rest) rest) (map in_one_chunk columns)) where
    whole : ReachesBoth (strip_bom bytes) (header ∷ p.rows) []
    whole =
        let goes_on = rw (drop_all (length rest) rest (omega arith)) at p.goes_on in
        reached_both (strip_bom bytes) rest [] (header ∷ []) h.begins.state p.state h.begins.left p.left plain_reached h.begins.goes_on p.rows p.reached goes_on

    all_lines : IsReading names null_word bytes (length p.rows + 1) columns whole.state whole.left
    all_lines = record {
      header = header;
      rows = p.rows;
      heads = p.heads;
      slots = p.slots;
      state = whole.state;
      behind = whole.left;
      reached = whole.reached;
      goes_on = refl;
      counted = refl;
      heads_are = p.heads_are;
      slots_are = p.slots_are 1;
      columns_are = p.columns_are;
    }

    pub plain_whole : length bytes ≤ 4294967295 → All IsWhole columns
    plain_whole few = reading_whole names null_word bytes (length p.rows + 1) columns whole.state whole.left all_lines few

    pub plain_frame : IsFrame (filter_map read_if_kept columns)
    plain_frame = reading_frame names null_word bytes (length p.rows + 1) columns whole.state whole.left all_lines

    pub plain_end : asked_table names bytes null_word ≡ Ok (filter_map read_if_kept columns)
    plain_end = reading_end names null_word bytes (length p.rows + 1) columns whole.state whole.left all_lines (goes_same whole.state whole.left [] whole.goes_on ∙ ends)
