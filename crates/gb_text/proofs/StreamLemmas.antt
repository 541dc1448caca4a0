-- A source that is read in pieces: what was read so far, and a table of which a front was read.
use Rattle.std.proofs.Common.{◌≡◌, ◌≢◌, ℕ, ◌+◌, ◌-◌, ◌<◌, ◌≤◌, inl, inr, Bor, Bool, true, false, not, if◌then◌else◌, List, [], ◌∷◌, ◌++◌, append-nil, append_assoc, length, length-append, map, get_or, drop, refl, sym, ◌∙◌, ap, arith, Option, Some, None, option_map, IfSome, Result, Ok, Err, All}
use Rattle.std.specs.List.{filter_map, list_any}
use Rattle.std.specs.Str.{bytes_eq, is_utf8}
use Rattle.std.proofs.lemmas.Bool.{cases_Bool}
use Rattle.std.proofs.lemmas.List.{drop_all, length-drop, length-map, length_push}
use Rattle.csv.specs.declared.parser.Action.{Action}
use Rattle.csv.specs.declared.parser.Action.TheVariants as act
use Rattle.csv.specs.declared.parser.Config.{Config}
use Rattle.csv.specs.declared.parser.State.{State}
use Rattle.csv.specs.declared.parser.State.TheVariants as st
use Rattle.csv.specs.declared.reader.Reader.{Reader}
use Rattle.csv.specs.Machine.{Read, ends_at_end, field_after, fields_after, is_end, next_record, step}
use Rattle.csv.specs.Reading.{default_config, is_bom, strip_bom}
use Rattle.csv.specs.Records.{fields_of}
use Rattle.gb_defs.specs.Column.{IsFrame}
use Rattle.gb_defs.specs.Slot.{Slot, slot_at}
use Rattle.gb_defs.specs.Table.{BadCell, Head, SameName, TableFault, head_of, heads_from, heads_of, onto, slots_of_column, table}
use Rattle.gb_text.specs.Asked.{asked_table, is_asked}
use Rattle.gb_text.specs.Building.{Building, IsWhole, in_one_chunk, kept_slot, read_if_kept}
use Rattle.gb_text.specs.Part.{HasFew, IsPart, emptied, joined}
use Rattle.gb_text.specs.Plain.{BeginsWith, IsBehind}
use Rattle.gb_text.specs.Moved.{HasMoved, HasTaken, IsInputFault}
use Rattle.gb_text.specs.Refusal.{IsRefusedTable}
use Rattle.gb_text.specs.Status.{fault_value, of_table}
use Rattle.gb_text.specs.Stream.{HasFilled, HasReadAll, IsFewFront, IsFront, IsHeaded, IsRefusedInput, IsStarted, IsStreamed, rows_read}
use Rattle.gb_text.specs.Table.{HasRecordsOf, built_from, built_of, columns_of_header}
use Rattle.gb_text.specs.Taking.{IsTaking}
use Rattle.gb_text.specs.declared.status.TableError.{TableError}
use Rattle.gb_text.specs.declared.status.TableError.TheVariants as error
use Rattle.gb_text.specs.declared.table.blocks.Start.{Start}
use Rattle.gb_text.specs.declared.status.Status.{Status}
use Rattle.gb_text.specs.declared.status.Status.TheVariants.{Done, Usage, Table, Group, ReadFault, WriteFault, TooLong, NoMemory}
use Rattle.gb_text.proofs.DeviceLemmas.{ended, left_more, more_than, read_whole, rose_later, taken, taken_behind}
use Rattle.gb_text.proofs.ExtendLemmas.{behind_longer, headed_longer, part_longer, part_shorter}
use Rattle.gb_text.proofs.LinesLemmas.{ReachesBoth, behind_at, few_back, part_alike, part_few, part_join, part_one, part_start, reached_both}
use Rattle.gb_text.proofs.PlainLemmas.{behind_more, blank, goes_same}
use Rattle.gb_text.proofs.PlainTableLemmas.{headed, plain_end, plain_frame, plain_reached, plain_whole, rest_short}
use Rattle.gb_text.proofs.RecordLemmas.{records_few, some_of, strip_bom-length}
use Rattle.gb_text.proofs.TableLemmas.{rows_length}

-- ---- pieces

-- one piece more
pub moved_more : (count more : ℕ) (a b c : List ℕ) (first mid last : Option (List ℕ)) → HasMoved count a b first mid → HasMoved more b c mid last → HasMoved (count + more) a c first last
moved_more count more a b c first mid last p q = record {
  piece = p.piece ++ q.piece;
  long = omega (arith, length-append p.piece q.piece, p.long, q.long);
  bytes_is = q.bytes_is ∙ ap (λ xs. xs ++ q.piece) p.bytes_is ∙ append_assoc a p.piece q.piece;
  left_is = left_more p.piece q.piece first mid last p.left_is q.left_is;
}

pub moved_none : (held : List ℕ) (left : Option (List ℕ)) → HasMoved 0 held held left left
moved_none held None = record { piece = []; long = refl; bytes_is = sym (append-nil held); left_is = refl }
moved_none held (Some rest) = record { piece = []; long = refl; bytes_is = sym (append-nil held); left_is = refl }

pub filled_none : (read : ℕ) (held : List ℕ) (left : Option (List ℕ)) → HasFilled read read held held left left
filled_none read held left = record { count = 0; counted = omega arith; moved = moved_none held left }

-- behind other bytes
pub filled_front : (front : List ℕ) (read now : ℕ) (a b : List ℕ) (first last : Option (List ℕ)) → HasFilled read now a b first last → HasFilled read now (front ++ a) (front ++ b) first last
filled_front front read now a b first last f = record {
  count = f.count;
  counted = f.counted;
  moved = record {
    piece = f.moved.piece;
    long = f.moved.long;
    bytes_is = ap (λ xs. front ++ xs) f.moved.bytes_is ∙ sym (append_assoc front a f.moved.piece);
    left_is = f.moved.left_is;
  };
}

module _ (read now : ℕ) (a b : List ℕ) (first last : Option (List ℕ)) (f : HasFilled read now a b first last) where
  pub filled_more : (count : ℕ) (c : List ℕ) (after : Option (List ℕ)) → HasMoved count b c last after → HasFilled read (now + count) a c first after
  filled_more count c after m = record { count = f.count + count; counted = omega (arith, f.counted); moved = moved_more f.count count a b c first last after f.moved m }

  module _ (limit : ℕ) (within : read ≤ limit) where
    -- what was taken from the source
    pub filled_taken : now ≤ limit + 65536 → HasTaken (limit - read + 65536) first last
    filled_taken few = taken (limit - read + 65536) f.moved.piece first last f.moved.left_is (omega (arith, few, within, f.counted, f.moved.long))

    pub filled_behind : (after : Option (List ℕ)) → now ≤ limit → HasTaken 65536 last after → HasTaken (limit - read + 65536) first after
    filled_behind after few t = taken_behind 65536 (limit - read) f.moved.piece first last after f.moved.left_is (omega (arith, few, within, f.counted, f.moved.long)) t

    -- the source had more than the limit
    pub filled_long : limit < now → IfSome first (λ told. limit - read < length told)
    filled_long many = more_than (limit - read) f.moved.piece first last f.moved.left_is (omega (arith, many, within, f.counted, f.moved.long))

-- ---- what is left of a table, by `csv`

-- a record has a field
record_some : (cfg : Config) (s : State) (fields : List (List ℕ)) (field xs : List ℕ) (p : Read) → next_record cfg s fields field xs ≡ Some p → 0 < length p.0
unfolding next_record
record_some cfg s fields field [] p e = elim (cases_Bool (ends_at_end s)) [
  | inl h ↦ let same = some_of (rw h at e) in rw (← same) (omega (arith, length_push fields field))
  | inr h ↦ let none = rw h at e in cc
]
record_some cfg s fields field (c ∷ rest) p e = elim (cases_Bool (is_end (step cfg s c).1)) [
  | inl h ↦ let same = some_of (rw h at e) in rw (← same) (ended_some (step cfg s c).1 h)
  | inr h ↦ let next = rw h at e in record_some cfg (step cfg s c).0 (fields_after (step cfg s c).1 fields field) (field_after (step cfg s c).1 c field) rest p next
]
  where
    ended_some : (a : Action) → is_end a ≡ true → 0 < length (fields_after a fields field)
    ended_some act.EndRecord h = omega (arith, length_push fields field)
    ended_some act.Skip h = cc
    ended_some act.Copy h = cc
    ended_some act.EndField h = cc

no_heads : (b c : Bool) (f g : TableFault) (h : Head) (r : Result (List Head) TableFault) → (if b then Err f else if c then Err g else onto h r) ≡ Ok [] → ⊥
no_heads true c f g h r e = cc
no_heads false true f g h r e = cc
no_heads false false f g h (Ok heads) e = cc
no_heads false false f g h (Err fault) e = cc

heads_some : (header : List (List ℕ)) (heads : List Head) → heads_of header ≡ Ok heads → 0 < length header → 0 < length heads
heads_some [] heads e some = absurd (omega (arith, some))
heads_some (field ∷ fields) [] e some =
    absurd (no_heads (not (is_utf8 field)) (list_any (bytes_eq (head_of field).name) []) (BadCell 0 1) (SameName 1) (head_of field) (heads_from 2 ((head_of field).name ∷ []) fields) e)
heads_some (field ∷ fields) (head ∷ heads) e some = omega arith

first_read : (asked : List ℕ → Bool) (heads : List Head) (rows : List (List Slot)) (columns : List Building) → 0 < length heads → map in_one_chunk columns ≡ built_from asked 0 heads rows → rows_read columns ≡ length rows
first_read asked [] rows columns some e = absurd (omega (arith, some))
first_read asked (head ∷ heads) rows [] some e = cc
first_read asked (head ∷ heads) rows (b ∷ bs) some e =
    let first : in_one_chunk b ≡ built_of (asked head.name) head (slots_of_column 0 rows) = cc in
    ap (λ (c : Building). length c.column.slots) first ∙ length-map (slots_of_column 0 rows) (kept_slot (asked head.name)) ∙ length-map rows (λ row. slot_at row 0)

-- no byte order mark begins with a line feed
mark_fed : (held : List ℕ) → strip_bom (10 ∷ held) ≡ 10 ∷ held
unfolding strip_bom
mark_fed [] = refl
mark_fed (a ∷ []) = refl
mark_fed (a ∷ b ∷ held) = refl

module _ (names : List (List ℕ)) (null_word : List ℕ) (header : List (List ℕ)) (bytes held : List ℕ) (columns : List Building) (f : IsFront names null_word header bytes held columns) where
  front_reached : ReachesBoth (strip_bom bytes) (header ∷ f.part.rows) held
  front_reached =
      reached_both (strip_bom bytes) f.rest held (header ∷ []) f.headed.begins.state f.part.state f.headed.begins.left f.part.left (plain_reached names null_word bytes header f.rest f.headed) f.headed.begins.goes_on
      f.part.rows f.part.reached f.part.goes_on

  front_read : rows_read columns ≡ length f.part.rows
  front_read =
      let some = record_some default_config _ [] [] (strip_bom bytes) (header, f.headed.begins.state, f.headed.begins.left) f.headed.begins.reads in
      first_read (is_asked names) f.part.heads f.part.slots columns (heads_some header f.part.heads f.part.heads_are some) f.part.columns_are
      ∙ rows_length null_word f.part.heads 1 f.part.rows f.part.slots (f.part.slots_are 1)

  pub front_few : length bytes ≤ 4294967295 → rows_read columns ≤ 4294967295
  front_few few =
      omega (
        arith,
        few,
        front_read,
        strip_bom-length bytes,
        records_few default_config st.StartRecord (strip_bom bytes) (header ∷ f.part.rows) front_reached.state front_reached.left front_reached.reached,
      )

  -- a reader of what is held goes on with the table
  pub behind_taking : (reader : Reader (Bor (List ℕ))) → HasRecordsOf (10 ∷ held) reader → IsTaking names null_word bytes (rows_read columns + 1) columns reader
  behind_taking reader has = record {
    gives = has.gives;
    left = 10 ∷ held;
    source = has.source ∙ ap (λ xs. Some xs) (mark_fed held);
    reading = record {
      header = header;
      rows = f.part.rows;
      heads = f.part.heads;
      slots = f.part.slots;
      state = front_reached.state;
      behind = front_reached.left;
      reached = front_reached.reached;
      goes_on = goes_same front_reached.state front_reached.left held front_reached.goes_on ∙ sym (blank 10 held (inl refl)) ∙ ap (λ s. next_record default_config s [] [] (10 ∷ held)) (sym has.state);
      counted = ap (λ n. n + 1) front_read;
      heads_are = f.part.heads_are;
      slots_are = f.part.slots_are 1;
      columns_are = f.part.columns_are;
    };
  }

-- ---- a table's front

behind_mark : (bytes : List ℕ) → IsBehind bytes (strip_bom bytes)
unfolding strip_bom
behind_mark [] = record { count = 0; is = refl }
behind_mark (a ∷ []) = record { count = 0; is = refl }
behind_mark (a ∷ b ∷ []) = record { count = 0; is = refl }
behind_mark (a ∷ b ∷ c ∷ bytes) = elim (cases_Bool (is_bom a b c)) [ inl h ↦ rw h (record { count = 3; is = refl }) | inr h ↦ rw h (record { count = 0; is = refl }) ]

-- the header stands at the front, and the lines behind it where what is left of the bytes begins
module _ (bytes text : List ℕ) (header : List (List ℕ)) (rest : List ℕ) (is : text ≡ strip_bom bytes) (b : BeginsWith header text rest) where
  behind_header : IsBehind bytes rest
  behind_header = behind_more bytes text rest (rw is (behind_mark bytes)) b.behind

  pub header_within : length rest ≤ length bytes
  header_within = omega (arith, ap length behind_header.is, length-drop behind_header.count bytes)

  pub header_at : 0 < length text → (get_or text 0 0 ≢ 10) × (get_or text 0 0 ≢ 13) → IsHeaded bytes header (drop (length bytes - length rest) bytes)
  header_at some first =
      let place = length bytes - length rest in
      let long : length rest ≡ length bytes - place = omega (arith, header_within) in
      let here = behind_at bytes rest place behind_header (omega (arith, header_within)) long in
      let h = headed bytes text header rest is some first b in rw here at h

-- the columns of a header with no lines
pub front_start : (names : List (List ℕ)) (null_word : List ℕ) (header : List (List ℕ)) (bytes rest : List ℕ) (columns : List Building) → IsHeaded bytes header rest
    → columns_of_header (is_asked names) header ≡ Ok columns → IsFront names null_word header bytes rest columns
front_start names null_word header bytes rest columns h e = record {
  rest = rest;
  headed = h;
  part = part_one names null_word header rest rest columns (part_start names null_word header rest columns e);
  behind = behind_more bytes (strip_bom bytes) rest (behind_mark bytes) h.begins.behind;
}

module _ (names : List (List ℕ)) (null_word : List ℕ) (header : List (List ℕ)) (bytes held : List ℕ) (columns : List Building) (f : IsFront names null_word header bytes held columns) where
  -- more of the source is held
  pub front_longer : (more : List ℕ) → 3 ≤ length bytes → 0 < length held → IsFront names null_word header (bytes ++ more) (held ++ more) columns
  front_longer more long some =
      let rest_some = part_shorter names null_word header f.rest held (map in_one_chunk columns) f.part some in
      record {
        rest = f.rest ++ more;
        headed = headed_longer bytes more header f.rest f.headed long rest_some;
        part = part_longer names null_word header f.rest held more (map in_one_chunk columns) f.part some;
        behind = behind_longer bytes held more f.behind some;
      }

  pub held_few : length bytes ≤ 4294967295 → length held ≤ 4294967295
  held_few few = omega (arith, few, ap length f.behind.is, length-drop f.behind.count bytes)

  rest_few : length bytes ≤ 4294967295 → length f.rest ≤ 4294967295
  rest_few few = omega (arith, few, rest_short names null_word bytes header f.rest f.headed)

  pub front_has_few : length bytes ≤ 4294967295 → All HasFew columns
  front_has_few few = few_back columns (part_few names null_word header f.rest held (map in_one_chunk columns) f.part (rest_few few))

  module _ (rest : List ℕ) (others : List Building) (q : IsPart names null_word header held rest (map in_one_chunk others)) where
    pub front_alike : map emptied columns ≡ map emptied others
    front_alike = part_alike names null_word header f.rest held rest columns others f.part q

    pub others_few : length bytes ≤ 4294967295 → All HasFew others
    others_few few = few_back others (part_few names null_word header held rest (map in_one_chunk others) q (held_few few))

    -- the lines of a block behind those before
    pub front_join : IsBehind held rest → (all : List Building) → map in_one_chunk all ≡ map in_one_chunk (joined columns others) → IsFront names null_word header bytes rest all
    front_join b all e = record {
      rest = f.rest;
      headed = f.headed;
      part = part_join names null_word header f.rest held rest columns others f.part q all e;
      behind = behind_more bytes held rest f.behind b;
    }

-- ---- the end of the table

module _ (names : List (List ℕ)) (null_word : List ℕ) (header : List (List ℕ)) (bytes : List ℕ) (columns : List Building) (f : IsFront names null_word header bytes [] columns) where
  all_part : IsPart names null_word header (drop 0 f.rest) (drop (length f.rest) f.rest) (map in_one_chunk columns)
  all_part = let p = f.part in rw (drop_all (length f.rest) f.rest (omega arith)) p

  pub all_whole : length bytes ≤ 4294967295 → All IsWhole columns
  all_whole = plain_whole names null_word bytes header f.rest f.headed columns all_part

  pub all_frame : IsFrame (filter_map read_if_kept columns)
  all_frame = plain_frame names null_word bytes header f.rest f.headed columns all_part

  pub all_read : asked_table names bytes null_word ≡ Ok (filter_map read_if_kept columns)
  all_read = plain_end names null_word bytes header f.rest f.headed columns all_part

-- ---- what was read of the source

-- all that was read from the source
pub record IsTold (limit : ℕ) (first left : Option (List ℕ)) (read : ℕ) (bytes : List ℕ) : Type 0 where
  pub told : first ≡ option_map (λ more. bytes ++ more) left
  pub counted : read ≡ length bytes
  pub within : read ≤ limit

pub told_none : (limit : ℕ) (left : Option (List ℕ)) → IsTold limit left left 0 []
told_none limit None = record { told = refl; counted = refl; within = omega arith }
told_none limit (Some rest) = record { told = refl; counted = refl; within = omega arith }

module _ (limit : ℕ) (first left : Option (List ℕ)) (read : ℕ) (bytes : List ℕ) (t : IsTold limit first left read bytes) where
  pub told_more : (now : ℕ) (held held_after : List ℕ) (after : Option (List ℕ)) (f : HasFilled read now held held_after left after) → now ≤ limit → IsTold limit first after now (bytes ++ f.moved.piece)
  told_more now held held_after after f few = record {
    told = left_more bytes f.moved.piece first left after t.told f.moved.left_is;
    counted = omega (arith, t.counted, f.counted, f.moved.long, length-append bytes f.moved.piece);
    within = few;
  }

  -- where nothing was let go of
  pub told_held : (now : ℕ) (held_after : List ℕ) (after : Option (List ℕ)) → HasFilled read now bytes held_after left after → now ≤ limit → IsTold limit first after now held_after
  told_held now held_after after f few = rw f.moved.bytes_is (told_more now bytes held_after after f few)

  pub told_fault : (null_word : List ℕ) (faults before after : ℕ) (last : Option (List ℕ)) (s : Status) → faults ≤ before → before ≤ after → IsInputFault before after (limit - read) left s → IsRefusedInput null_word faults after limit first last s
  told_fault null_word faults before after last ReadFault h k e = rose_later faults before after h k e
  told_fault null_word faults before after last TooLong h k e = long left t.told e
    where
      long : (o : Option (List ℕ)) → first ≡ option_map (λ more. bytes ++ more) o → IfSome o (λ told. limit - read < length told) → IfSome first (λ told. limit < length told)
      long None is e = rw is tt
      long (Some rest) is e = rw is (omega (arith, e, t.counted, t.within, length-append bytes rest))
  told_fault null_word faults before after last NoMemory h k e = tt
  told_fault null_word faults before after last Done h k e = absurd e
  told_fault null_word faults before after last Usage h k e = absurd e
  told_fault null_word faults before after last (Table f) h k e = absurd e
  told_fault null_word faults before after last (Group f) h k e = absurd e
  told_fault null_word faults before after last WriteFault h k e = absurd e

  pub told_taken : (after : Option (List ℕ)) → HasTaken (limit - read + 65536) left after → HasTaken (limit + 65536) first after
  told_taken after h =
      let all = taken_behind (limit - read + 65536) read bytes first left after t.told (omega (arith, t.counted)) h in
      let same : read + (limit - read + 65536) ≡ limit + 65536 = omega (arith, t.within) in
      rw same at all

  pub told_at_most : HasTaken (limit + 65536) first left
  told_at_most = taken (limit + 65536) bytes first left t.told (omega (arith, t.counted, t.within))

  -- the source has ended
  module _ (ends : IfSome left (λ rest. rest ≡ [])) where
    pub told_all : (P : List ℕ → Type 0) → P bytes → HasReadAll limit first left P
    told_all P p = record {
      bytes = bytes;
      told = read_whole bytes first left t.told ends;
      ended = ended bytes first left t.told ends;
      within = omega (arith, t.counted, t.within);
      holds = p;
    }

    pub told_refused : (null_word : List ℕ) (faults after : ℕ) (e : TableError) → IsRefusedTable e (table bytes null_word) → IsRefusedInput null_word faults after limit first left (of_table e)
    told_refused null_word faults after (error.Fault fault) h = told_all (λ bytes. table bytes null_word ≡ Err (fault_value fault)) h
    told_refused null_word faults after error.NoMemory h = tt

module _ (names : List (List ℕ)) (null_word : List ℕ) (header : List (List ℕ)) (limit : ℕ) (first left : Option (List ℕ)) (read : ℕ) (held : List ℕ) (columns : List Building) where
  pub streamed_first : (start : Start) (bytes : List ℕ) → IsTold limit first left read bytes → IsStarted names bytes start → header ≡ fields_of start.header → columns ≡ start.columns.items → held ≡ drop start.lines bytes
      → IsStreamed names null_word header limit first left read held columns
  streamed_first start bytes t s header_is columns_are is = record {
    bytes = bytes;
    told = t.told;
    counted = t.counted;
    within = t.within;
    long = s.long;
    some = rw is (omega (arith, s.inside, length-drop start.lines bytes));
    front = rw (is, header_is, columns_are) (front_start names null_word (fields_of start.header) bytes (drop start.lines bytes) start.columns.items s.headed s.columns_are);
  }

  module _ (s : IsStreamed names null_word header limit first left read held columns) where
    pub streamed_told : IsTold limit first left read s.bytes
    streamed_told = record { told = s.told; counted = s.counted; within = s.within }

    pub streamed_front : limit ≤ 4294967295 → IsFewFront names null_word header held columns
    streamed_front few = record { bytes = s.bytes; few = omega (arith, few, s.counted, s.within); front = s.front }

    -- more of the source is held
    pub streamed_more : (now : ℕ) (held_after : List ℕ) (after : Option (List ℕ)) → HasFilled read now held held_after left after → now ≤ limit → IsStreamed names null_word header limit first after now held_after columns
    streamed_more now held_after after f few =
        let t = told_more limit first left read s.bytes streamed_told now held held_after after f few in
        record {
          bytes = s.bytes ++ f.moved.piece;
          told = t.told;
          counted = t.counted;
          within = few;
          long = omega (arith, s.long, length-append s.bytes f.moved.piece);
          some = rw f.moved.bytes_is (omega (arith, s.some, length-append held f.moved.piece));
          front = rw f.moved.bytes_is (front_longer names null_word header s.bytes held columns s.front f.moved.piece s.long s.some);
        }

    -- lines were read
    pub streamed_block : (held_after : List ℕ) (others : List Building) → ((bytes : List ℕ) → IsFront names null_word header bytes held columns → IsFront names null_word header bytes held_after others) → 0 < length held_after
        → IsStreamed names null_word header limit first left read held_after others
    streamed_block held_after others took some = record {
      bytes = s.bytes;
      told = s.told;
      counted = s.counted;
      within = s.within;
      long = s.long;
      some = some;
      front = took s.bytes s.front;
    }

pub streamed_same : (names : List (List ℕ)) (null_word : List ℕ) (header other : List (List ℕ)) (limit : ℕ) (first left : Option (List ℕ)) (read : ℕ) (held kept : List ℕ) (columns others : List Building) → header ≡ other → held ≡ kept → columns ≡ others
    → IsStreamed names null_word header limit first left read held columns → IsStreamed names null_word other limit first left read kept others
streamed_same names null_word header other limit first left read held kept columns others e h k s = rw (← e, ← h, ← k) s

-- faults that came later
pub refused_later : (null_word : List ℕ) (faults before after limit : ℕ) (first last : Option (List ℕ)) (s : Status) → faults ≤ before → before ≤ after → IsRefusedInput null_word before after limit first last s → IsRefusedInput null_word faults after limit first last s
refused_later null_word faults before after limit first last ReadFault h k e = rose_later faults before after h k e
refused_later null_word faults before after limit first last TooLong h k e = e
refused_later null_word faults before after limit first last NoMemory h k e = e
refused_later null_word faults before after limit first last (Table f) h k e = e
refused_later null_word faults before after limit first last Done h k e = e
refused_later null_word faults before after limit first last Usage h k e = e
refused_later null_word faults before after limit first last (Group f) h k e = e
refused_later null_word faults before after limit first last WriteFault h k e = e

-- the header and what stands behind it, once two pieces of the source were read
pub streamed_start : (names : List (List ℕ)) (null_word : List ℕ) (limit : ℕ) (first left after : Option (List ℕ)) (read now : ℕ) (start : Start) (none held kept more : List ℕ) → none ≡ [] →
    HasFilled 0 read none held first left → read ≤ limit → IsStarted names held start → kept ≡ drop start.lines held → HasFilled read now kept more left after → now ≤ limit →
    IsStreamed names null_word (fields_of start.header) limit first after now more start.columns.items
streamed_start names null_word limit first left after read now start none held kept more empty f few started kept_is g fewer =
    let told = told_held limit first first 0 none (rw empty (told_none limit first)) read held left f few in
    let here = streamed_first names null_word (fields_of start.header) limit first left read kept start.columns.items start held told started refl refl kept_is in
    streamed_more names null_word (fields_of start.header) limit first left read kept start.columns.items here now more after g fewer

-- the same with columns in other chunks
pub streamed_as : (names : List (List ℕ)) (null_word : List ℕ) (header : List (List ℕ)) (limit : ℕ) (first left : Option (List ℕ)) (read : ℕ) (held : List ℕ) (columns grown : List Building)
    → map in_one_chunk grown ≡ map in_one_chunk columns → IsStreamed names null_word header limit first left read held columns → IsStreamed names null_word header limit first left read held grown
streamed_as names null_word header limit first left read held columns grown e s =
    record {
      bytes = s.bytes;
      told = s.told;
      counted = s.counted;
      within = s.within;
      long = s.long;
      some = s.some;
      front = record { rest = s.front.rest; headed = s.front.headed; part = rw e s.front.part; behind = s.front.behind };
    }
