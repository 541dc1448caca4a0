-- The order of slots, with the nulls at one end. Categories are in the order of their texts.
use Rattle.std.specs.Prelude.{◌≡◌, Bool, false, not, ℕ, List, [], slice_index_or, Option, None, Some}
use Rattle.std.specs.Ordering.{is_gt, is_lt}
use Rattle.std.specs.declared.cmp.Ordering.{Ordering}
use Rattle.gb_defs.specs.ColumnType.{ColumnType, Categorical, Flat, Lexical}
use Rattle.gb_defs.specs.Order.{ByText, below, code_number}
use Rattle.gb_defs.specs.Slot.{Slot, Nil, Num, Bytes}

-- whether a slot comes before another: nulls before every value, or behind every value
abbrev pub placed_below : Bool → ColumnType → Slot → Slot → Bool
placed_below nulls_last t Nil Nil = false
placed_below nulls_last t Nil b = not nulls_last
placed_below nulls_last t a Nil = nulls_last
placed_below nulls_last t a b = below ByText t a b

-- how two values compare
pub record OrderedAs (t : ColumnType) (a b : Slot) (order : Ordering) : Type 0 where
  pub less : is_lt order ≡ below ByText t a b
  pub greater : is_gt order ≡ below ByText t b a

-- how two slots compare, with the nulls where they are asked for
pub record PlacedAs (t : ColumnType) (nulls_last : Bool) (a b : Slot) (order : Ordering) : Type 0 where
  pub less : is_lt order ≡ placed_below nulls_last t a b
  pub greater : is_gt order ≡ placed_below nulls_last t b a

-- the slot of a value that may be missing
abbrev pub value_slot : {V : Type 0} → (V → Slot) → Option V → Slot
value_slot slot None = Nil
value_slot slot (Some v) = slot v

-- the type of categories with these texts, in the order of those
abbrev pub text_type : List (List ℕ) → ColumnType
text_type texts = Flat (Categorical (Some texts) Lexical)

-- a code as its text
abbrev pub text_in : List (List ℕ) → Slot → Slot
text_in texts (Num code) = Bytes (slice_index_or texts (code_number code) [])
text_in texts slot = slot
