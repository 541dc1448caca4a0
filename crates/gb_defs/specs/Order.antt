-- Which of two slots of a type is below the other. Null has no place here except inside a list of
-- slots, where it is below every other part.
use Rattle.std.specs.Prelude.{ℕ, suc, pos, negsuc, ℤ, List, [], ◌∷◌, Option, None, Some, Bool, true, false, ◌||◌, ◌&&◌, nat_lt, int_lt, ◌==◌, slice_index_or}
use Rattle.gb_defs.specs.Slot.{Slot, Slots, Nil, Num, Bytes, Items, End, And, slot_eq}
use Rattle.gb_defs.specs.ColumnType.{ColumnType, CategoricalOrdering, Physical, Lexical, Flat, Categorical, Enum, part_type}

-- when a category is compared by its text: never; a categorical with lexical ordering; a categorical
-- or an enum with lexical ordering; always
pub data OrderMode : Type 0 where
  ByCode : OrderMode
  InFolds : OrderMode
  InRows : OrderMode
  ByText : OrderMode

abbrev pub is_lexical : CategoricalOrdering → Bool
is_lexical Physical = false
is_lexical Lexical = true

-- byte by byte, and a proper front below the whole
abbrev pub bytes_below : List ℕ → List ℕ → Bool
bytes_below [] [] = false
bytes_below [] (b ∷ bs) = true
bytes_below (a ∷ as') [] = false
bytes_below (a ∷ as') (b ∷ bs) = nat_lt a b || ((a == b) && bytes_below as' bs)

abbrev pub code_number : ℤ → ℕ
code_number (pos n) = n
code_number (negsuc n) = 0

-- two codes, by their texts where those are known
abbrev pub texts_below : Option (List (List ℕ)) → ℤ → ℤ → Bool
texts_below None a b = int_lt a b
texts_below (Some texts) a b = bytes_below (slice_index_or texts (code_number a) []) (slice_index_or texts (code_number b) [])

abbrev pub categories_below : OrderMode → Option (List (List ℕ)) → CategoricalOrdering → ℤ → ℤ → Bool
categories_below ByCode texts ordering a b = int_lt a b
categories_below InFolds texts Physical a b = int_lt a b
categories_below InFolds texts Lexical a b = texts_below texts a b
categories_below InRows texts Physical a b = int_lt a b
categories_below InRows texts Lexical a b = texts_below texts a b
categories_below ByText texts ordering a b = texts_below texts a b

abbrev pub enums_below : OrderMode → Option (List (List ℕ)) → CategoricalOrdering → ℤ → ℤ → Bool
enums_below ByCode texts ordering a b = int_lt a b
enums_below InFolds texts ordering a b = int_lt a b
enums_below InRows texts Physical a b = int_lt a b
enums_below InRows texts Lexical a b = texts_below texts a b
enums_below ByText texts ordering a b = texts_below texts a b

abbrev pub numbers_below : OrderMode → ColumnType → ℤ → ℤ → Bool
numbers_below mode (Flat (Categorical texts ordering)) a b = categories_below mode texts ordering a b
numbers_below mode (Flat (Enum texts ordering)) a b = enums_below mode texts ordering a b
numbers_below mode _ a b = int_lt a b

abbrev mutual
  pub below : OrderMode → ColumnType → Slot → Slot → Bool
  below mode t (Num a) (Num b) = numbers_below mode t a b
  below mode t (Bytes a) (Bytes b) = bytes_below a b
  below mode t (Items a) (Items b) = parts_below mode t 0 a b
  below mode t Nil (Num b) = true
  below mode t Nil (Bytes b) = true
  below mode t Nil (Items b) = true
  below mode t _ _ = false

  -- the parts from the k-th on
  pub parts_below : OrderMode → ColumnType → ℕ → Slots → Slots → Bool
  parts_below mode t k End End = false
  parts_below mode t k End (And b bs) = true
  parts_below mode t k (And a as') End = false
  parts_below mode t k (And a as') (And b bs) = below mode (part_type t k) a b || (slot_eq a b && parts_below mode t (suc k) as' bs)
