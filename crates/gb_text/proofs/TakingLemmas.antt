-- A reader and the columns of what it has read.
use Rattle.std.proofs.Common.{◌≡◌, ℕ, ◌+◌, ◌≤◌, true, false, inr, List, [], ◌∷◌, ◌++◌, length, map, refl, sym, ◌∙◌, ap, Some, None, Ok, Err, All, Bor}
use Rattle.csv.specs.declared.parser.State.{State}
use Rattle.csv.specs.declared.parser.State.TheVariants as st
use Rattle.csv.specs.declared.reader.Reader.{Reader}
use Rattle.csv.specs.declared.reader.ReaderBuilder.{ReaderBuilder}
use Rattle.csv.specs.declared.reader.Trim.TheVariants as trim
use Rattle.csv.specs.Machine.{Read, next_record}
use Rattle.csv.specs.Reading.{Reached, ReadRecord, default_config, source_of, strip_bom, with_flexible, with_names_headers}
use Rattle.csv.proofs.ReadFacts.{reached-more, rows-end, rows-more}
use Rattle.gb_defs.specs.Table.{TableFault, NoHeader, table}
use Rattle.std.specs.List.{filter_map}
use Rattle.gb_defs.specs.Column.{IsFrame}
use Rattle.gb_text.specs.Asked.{asked_table, is_asked}
use Rattle.gb_text.specs.Building.{Building, IsRoomy, IsWhole, in_one_chunk, read_if_kept}
use Rattle.gb_text.specs.Table.{GivesRecords, HasRecordsOf, columns_with, columns_of_header, left_of}
use Rattle.gb_text.specs.Taking.{IsReading, IsTaking}
use Rattle.gb_text.proofs.ReadingLemmas.{no_header, header_bad, reading_header, reading_more, reading_bad, reading_end, reading_frame, reading_roomy, reading_whole}

-- a reader of a builder that names no headers and is flexible
pub records_given : (new named made : ReaderBuilder) (reader : Reader (Bor (List ℕ))) → named ≡ with_names_headers new false → made ≡ with_flexible named true → new.config ≡ default_config → new.trim ≡ trim.None
    → reader.config ≡ made.config → reader.trim ≡ made.trim → reader.has_headers ≡ made.has_headers → reader.flexible ≡ made.flexible → reader.headers ≡ None → GivesRecords reader
records_given new named made reader e f config how c t h flexible none = record {
  trim = t ∙ ap (λ b. b.trim) (f ∙ ap (λ b. with_flexible b true) e) ∙ how;
  ready = inr (inr (h ∙ ap (λ b. b.has_headers) (f ∙ ap (λ b. with_flexible b true) e), none));
  config = c ∙ ap (λ b. b.config) (f ∙ ap (λ b. with_flexible b true) e) ∙ config;
  flexible = flexible ∙ ap (λ b. b.flexible) f;
}

taken_apart : (s : State) (xs : List ℕ) (fields : List (List ℕ)) (t : State) (z : List ℕ) → Reached default_config s xs (fields ∷ []) t z
    → (p : Read) × (next_record default_config s [] [] xs ≡ Some p) × (fields ≡ p.0) × ((p.1 ≡ t) × (p.2 ≡ z))
unfolding Reached
taken_apart s xs fields t z r = r

reached_as : (xs : List ℕ) (rows : List (List (List ℕ))) (f g : List (List ℕ)) (s t : State) (y z : List ℕ) → f ≡ g → s ≡ t → y ≡ z
    → Reached default_config st.StartRecord xs (rows ++ g ∷ []) s y → Reached default_config st.StartRecord xs (rows ++ f ∷ []) t z
reached_as xs rows f g s t y z e h k r = rw (e, ← h, ← k) r

module _ (names : List (List ℕ)) (null_word bytes : List ℕ) where
  -- ---- the header

  module _ (a b : Reader (Bor (List ℕ))) (start : HasRecordsOf bytes a) where
    pub taking_none : (fields : List (List ℕ)) → ReadRecord left_of a b false fields → table bytes null_word ≡ Err NoHeader
    unfolding Reached
    taking_none fields r =
        no_header names null_word bytes a.state (strip_bom bytes) (sym start.state, refl) (rows-end left_of a b fields default_config (strip_bom bytes) start.gives.config start.source r)

    module _ (header : List (List ℕ)) (r : ReadRecord left_of a b true header) where
      reached : (z : List ℕ) × (source_of left_of b ≡ Some z) × Reached default_config st.StartRecord (strip_bom bytes) (header ∷ []) b.state z
      unfolding Reached
      reached = rows-more left_of a b header default_config st.StartRecord (strip_bom bytes) (strip_bom bytes) [] start.gives.config start.source (sym start.state, refl) r

      pub taking_no_columns : (fault : TableFault) → columns_of_header (is_asked names) header ≡ Err fault → table bytes null_word ≡ Err fault
      taking_no_columns fault e = header_bad names null_word bytes header b.state reached.0 reached.2 fault e

      pub taking_header : GivesRecords b → (columns : List Building) → columns_of_header (is_asked names) header ≡ Ok columns → IsTaking names null_word bytes 1 columns b
      taking_header goes columns e = record {
        gives = goes;
        left = reached.0;
        source = reached.1;
        reading = reading_header names null_word bytes header columns b.state reached.0 reached.2 e;
      }

  -- the same with columns in other chunks
  pub taking_as : (row : ℕ) (columns grown : List Building) (a : Reader (Bor (List ℕ))) → map in_one_chunk grown ≡ map in_one_chunk columns
      → IsTaking names null_word bytes row columns a → IsTaking names null_word bytes row grown a
  taking_as row columns grown a e t = record { gives = t.gives; left = t.left; source = t.source; reading = reading_as t.reading }
    where
      reading_as : {s : State} {left : List ℕ} → IsReading names null_word bytes row columns s left → IsReading names null_word bytes row grown s left
      reading_as r =
          record {
            header = r.header;
            rows = r.rows;
            heads = r.heads;
            slots = r.slots;
            state = r.state;
            behind = r.behind;
            reached = r.reached;
            goes_on = r.goes_on;
            counted = r.counted;
            heads_are = r.heads_are;
            slots_are = r.slots_are;
            columns_are = e ∙ r.columns_are;
          }

  -- ---- the records below it

  module _ (row : ℕ) (columns : List Building) (a : Reader (Bor (List ℕ))) (s : IsTaking names null_word bytes row columns a) where
    pub taking_roomy : length bytes ≤ 4294967295 → All IsRoomy columns
    taking_roomy few = reading_roomy names null_word bytes row columns a.state s.left s.reading few

    pub taking_whole : length bytes ≤ 4294967295 → All IsWhole columns
    taking_whole few = reading_whole names null_word bytes row columns a.state s.left s.reading few

    pub taking_frame : IsFrame (filter_map read_if_kept columns)
    taking_frame = reading_frame names null_word bytes row columns a.state s.left s.reading

    module _ (b : Reader (Bor (List ℕ))) where
      pub taking_all : (fields : List (List ℕ)) → ReadRecord left_of a b false fields → asked_table names bytes null_word ≡ Ok (filter_map read_if_kept columns)
      taking_all fields r =
          reading_end names null_word bytes row columns a.state s.left s.reading (rows-end left_of a b fields default_config s.left s.gives.config s.source r)

      module _ (fields : List (List ℕ)) (r : ReadRecord left_of a b true fields) where
        first : (z : List ℕ) × (source_of left_of b ≡ Some z) × Reached default_config a.state s.left (fields ∷ []) b.state z
        unfolding Reached
        first = rows-more left_of a b fields default_config a.state s.left s.left [] s.gives.config s.source (refl, refl) r

        further : (z : List ℕ) × (source_of left_of b ≡ Some z) × Reached default_config st.StartRecord (strip_bom bytes) ((s.reading.header ∷ s.reading.rows) ++ fields ∷ []) b.state z
        further =
            let read = taken_apart a.state s.left fields b.state first.0 first.2 in
            let more = reached-more default_config st.StartRecord s.reading.state (strip_bom bytes) s.reading.behind (s.reading.header ∷ s.reading.rows) read.0 s.reading.reached (s.reading.goes_on ∙ read.1) in
            (first.0, first.1, reached_as (strip_bom bytes) (s.reading.header ∷ s.reading.rows) fields read.0.0 read.0.1 b.state read.0.2 first.0 read.2 read.3.0 read.3.1 more)

        pub taking_bad : (fault : TableFault) → columns_with null_word row columns fields ≡ Err fault → table bytes null_word ≡ Err fault
        taking_bad fault e = reading_bad names null_word bytes row columns a.state s.left s.reading fields b.state further.0 further.2 fault e

        pub taking_more : GivesRecords b → (columns' : List Building) → columns_with null_word row columns fields ≡ Ok columns'
            → IsTaking names null_word bytes (row + 1) columns' b
        taking_more goes columns' e = record {
          gives = goes;
          left = further.0;
          source = further.1;
          reading = reading_more names null_word bytes row columns a.state s.left s.reading fields columns' b.state further.0 further.2 e;
        }
