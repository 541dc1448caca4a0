-- The columns of a table that are asked for.
use Rattle.std.specs.Prelude.{ℕ, Bool, List, map, Result}
use Rattle.std.specs.List.{filter, list_any}
use Rattle.std.specs.Str.{bytes_eq}
use denote.Ref.{Bor}
use Rattle.gb_defs.specs.Column.{Frame}
use Rattle.gb_defs.specs.Table.{TableFault, table}
use Rattle.gb_text.specs.Table.{map_ok}

-- the names, as texts
abbrev pub names_in : List (Bor (List ℕ)) → List (List ℕ)
names_in names = map (λ name. name.now) names

-- whether a name is among those that are asked for
abbrev pub is_asked : List (List ℕ) → List ℕ → Bool
is_asked names name = list_any (bytes_eq name) names

-- the columns of these names
abbrev pub kept : List (List ℕ) → Frame → Frame
kept names frame = filter (λ c. is_asked names c.name) frame

-- the columns of these names of the frame that the bytes are, or the first fault of the whole table
abbrev pub asked_table : List (List ℕ) → List ℕ → List ℕ → Result Frame TableFault
asked_table names bytes null_word = map_ok (kept names) (table bytes null_word)
