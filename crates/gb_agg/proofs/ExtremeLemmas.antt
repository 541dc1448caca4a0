-- The least and the greatest slot of some rows: one row more, and types in whose order slots are compared.
use Rattle.std.proofs.Common.{◌≡◌, ◌∙◌, ◌⊎◌, ap, ap₂, sym, refl, subst, ℕ, suc, ℤ, Bool, true, false, not, ◌&&◌, ◌||◌, inl, inr, List, [], ◌∷◌, ◌++◌, Some, length, map, arith}
use Rattle.std.specs.Prelude.{if◌then◌else◌}
use Rattle.std.specs.Int.{Width, w32}
use Rattle.std.specs.List.{AllByRecursion, fold}
use Rattle.std.proofs.lemmas.List.{map-append}
use Rattle.std.proofs.lemmas.List.Sums.{fold-append}
use Rattle.gb_compare.specs.Placed.{placed_below, text_type}
use Rattle.gb_defs.proofs.FoldLemmas.{valid_push_null, valid_push_value}
use Rattle.gb_defs.specs.Column.{ColumnValue, categories_of, fresh_column}
use Rattle.gb_defs.specs.ColumnType.{CategoricalOrdering, FitsBytes, Physical, Lexical, Categorical, ColumnType, Enum, Flat, FlatType, Null, Boolean, Unsigned, Signed, Decimal, Date, Time, Datetime, Duration, String, Binary, BinaryOffset, uint32}
use Rattle.gb_defs.specs.Fault.{has_least}
use Rattle.gb_defs.specs.Fold.{fold_of, fold_picked, fold_type, greater, greatest, least, lesser, picked, valid}
use Rattle.gb_defs.specs.Order.{ByText, InFolds, OrderMode, below, numbers_below, parts_below}
use Rattle.gb_defs.specs.Slot.{Slot, Slots, Nil, Num, Bytes, Items, End, And, is_nil, slot_at, slot_eq}
use Rattle.gb_agg.specs.Extremes.{FoldsAsCompared, compares_better, extreme_of, is_better, ranked_below}
use Rattle.gb_agg.specs.Folds.{extreme, fold_column, fold_in, folded}
use Rattle.gb_agg.proofs.PickLemmas.{behind}
use Rattle.gb_logical.proofs.CategoryLemmas.{has_texts}
use Rattle.gb_logical.specs.Categorical.{is_enum_type, is_lexical_type}
use Rattle.gb_logical.specs.Logical.{StandsFor, logical_column}
use Rattle.gb_numbers.specs.Native.{IsWhole}

-- ---- what the folds come to

pub fold_extreme : (g : Bool) (t : ColumnType) (slots : List Slot) (rows : List ℕ) → fold_of (extreme g) t slots rows ≡ extreme_of g t (valid (picked slots rows))
unfolding fold_picked
fold_extreme false t slots rows = refl
fold_extreme true t slots rows = refl

extreme_fold : (g : Bool) (c : ColumnValue) (rows : List ℕ) → fold_in (extreme g) c rows ≡ extreme_of g c.dtype (valid (picked c.slots rows))
extreme_fold g c rows = fold_extreme g c.dtype c.slots rows

-- ---- slots that are no nulls

apart : {A : Type 0} → ◌≡◌ {A = Bool} true false → A
apart e = cc

pub valid_all : (slots : List Slot) → AllByRecursion (λ s. is_nil s ≡ false) (valid slots)
valid_all [] = tt
valid_all (Nil ∷ ss) = valid_all ss
valid_all (Num n ∷ ss) = (refl, valid_all ss)
valid_all (Bytes bs ∷ ss) = (refl, valid_all ss)
valid_all (Items is ∷ ss) = (refl, valid_all ss)

ranked_values : (nulls_last : Bool) (t : ColumnType) (a b : Slot) → is_nil a ≡ false → is_nil b ≡ false → ranked_below nulls_last t a b ≡ below InFolds t a b
ranked_values nulls_last t Nil b va vb = apart va
ranked_values nulls_last t (Num a) Nil va vb = apart vb
ranked_values nulls_last t (Num a) (Num b) va vb = refl
ranked_values nulls_last t (Num a) (Bytes b) va vb = refl
ranked_values nulls_last t (Num a) (Items b) va vb = refl
ranked_values nulls_last t (Bytes a) Nil va vb = apart vb
ranked_values nulls_last t (Bytes a) (Num b) va vb = refl
ranked_values nulls_last t (Bytes a) (Bytes b) va vb = refl
ranked_values nulls_last t (Bytes a) (Items b) va vb = refl
ranked_values nulls_last t (Items a) Nil va vb = apart vb
ranked_values nulls_last t (Items a) (Num b) va vb = refl
ranked_values nulls_last t (Items a) (Bytes b) va vb = refl
ranked_values nulls_last t (Items a) (Items b) va vb = refl

-- a null is better than nothing, and a value is better than a null
null_no_better : (g : Bool) (t : ColumnType) (best : Slot) → is_better g t Nil best ≡ false
null_no_better false t Nil = refl
null_no_better false t (Num b) = refl
null_no_better false t (Bytes b) = refl
null_no_better false t (Items b) = refl
null_no_better true t Nil = refl
null_no_better true t (Num b) = refl
null_no_better true t (Bytes b) = refl
null_no_better true t (Items b) = refl

value_better : (g : Bool) (t : ColumnType) (s : Slot) → is_nil s ≡ false → is_better g t s Nil ≡ true
value_better g t Nil v = apart v
value_better false t (Num a) v = refl
value_better false t (Bytes a) v = refl
value_better false t (Items a) v = refl
value_better true t (Num a) v = refl
value_better true t (Bytes a) v = refl
value_better true t (Items a) v = refl

-- ---- one slot more

-- the better of two slots is one of them
abbrev chosen : Bool → ColumnType → Slot → Slot → Slot
chosen g t best s = if g then greater t best s else lesser t best s

pick_valid : (b : Bool) (x y : Slot) → is_nil x ≡ false → is_nil y ≡ false → is_nil (if b then y else x) ≡ false
pick_valid true x y vx vy = vy
pick_valid false x y vx vy = vx

chosen_valid : (g : Bool) (t : ColumnType) (x y : Slot) → is_nil x ≡ false → is_nil y ≡ false → is_nil (chosen g t x y) ≡ false
chosen_valid false t x y vx vy = pick_valid (below InFolds t y x) x y vx vy
chosen_valid true t x y vx vy = pick_valid (below InFolds t x y) x y vx vy

folded_valid : (g : Bool) (t : ColumnType) (x : Slot) (xs : List Slot) → is_nil x ≡ false → AllByRecursion (λ s. is_nil s ≡ false) xs → is_nil (fold (chosen g t) x xs) ≡ false
folded_valid g t x [] vx vs = vx
folded_valid g t x (y ∷ ys) vx vs = folded_valid g t (chosen g t x y) ys (chosen_valid g t x y vx vs.0) vs.1

some_extreme : (g : Bool) (t : ColumnType) (x : Slot) (xs : List Slot) → extreme_of g t (x ∷ xs) ≡ fold (chosen g t) x xs
some_extreme false t x xs = refl
some_extreme true t x xs = refl

none_extreme : (g : Bool) (t : ColumnType) → extreme_of g t [] ≡ Nil
none_extreme false t = refl
none_extreme true t = refl

module _ (g : Bool) (t : ColumnType) where
  better_values : (s best : Slot) → is_nil s ≡ false → is_nil best ≡ false → (if is_better g t s best then s else best) ≡ chosen g t best s
  better_values = better_by g
    where
      better_by : (g : Bool) (s best : Slot) → is_nil s ≡ false → is_nil best ≡ false → (if is_better g t s best then s else best) ≡ chosen g t best s
      better_by false s best vs vb = ap (λ (b : Bool). if b then s else best) (ranked_values true t s best vs vb)
      better_by true s best vs vb = ap (λ (b : Bool). if b then s else best) (ranked_values false t best s vb vs)

  value_more : (vs : List Slot) (s best : Slot) → AllByRecursion (λ v. is_nil v ≡ false) vs → is_nil s ≡ false → best ≡ extreme_of g t vs
      → (if is_better g t s best then s else best) ≡ extreme_of g t (vs ++ s ∷ [])
  value_more [] s best all v is =
      rw (is, none_extreme g t, value_better g t s v) (sym (some_extreme g t s []))
  value_more (x ∷ xs) s best all v is =
      let here : best ≡ fold (chosen g t) x xs = is ∙ some_extreme g t x xs in
      let valued : is_nil best ≡ false = ap is_nil here ∙ folded_valid g t x xs all.0 all.1 in
      better_values s best v valued ∙ ap (λ (b : Slot). chosen g t b s) here ∙ sym (fold-append (chosen g t) x xs (s ∷ [])) ∙ sym (some_extreme g t x (xs ++ s ∷ []))

  pub slot_more : (before : List Slot) (s best : Slot) → best ≡ extreme_of g t (valid before) → (if is_better g t s best then s else best) ≡ extreme_of g t (valid (before ++ s ∷ []))
  slot_more before Nil best is = rw (null_no_better g t best) (is ∙ ap (extreme_of g t) (sym (valid_push_null before Nil refl)))
  slot_more before (Num n) best is =
      value_more (valid before) (Num n) best (valid_all before) refl is ∙ ap (extreme_of g t) (sym (valid_push_value before (Num n) refl))
  slot_more before (Bytes bs) best is =
      value_more (valid before) (Bytes bs) best (valid_all before) refl is ∙ ap (extreme_of g t) (sym (valid_push_value before (Bytes bs) refl))
  slot_more before (Items ss) best is =
      value_more (valid before) (Items ss) best (valid_all before) refl is ∙ ap (extreme_of g t) (sym (valid_push_value before (Items ss) refl))

  pub slot_first : (s : Slot) → s ≡ extreme_of g t (valid (s ∷ []))
  slot_first Nil = sym (none_extreme g t)
  slot_first (Num n) = sym (some_extreme g t (Num n) [])
  slot_first (Bytes bs) = sym (some_extreme g t (Bytes bs) [])
  slot_first (Items ss) = sym (some_extreme g t (Items ss) [])

-- what is found of all rows is the fold
pub extreme_found : (g : Bool) (c : ColumnValue) (rows : List ℕ) (s : Slot) → s ≡ extreme_of g c.dtype (valid (picked c.slots rows)) → s ≡ fold_in (extreme g) c rows
extreme_found g c rows s is = is ∙ sym (extreme_fold g c rows)

pub extreme_none : (g : Bool) (c : ColumnValue) (rows : List ℕ) → length rows ≡ 0 → slot_at c.slots (length c.slots) ≡ fold_in (extreme g) c rows
extreme_none g c [] none = behind c.slots ∙ sym (extreme_fold g c [] ∙ none_extreme g c.dtype)
extreme_none g c (row ∷ rows) none = absurd (omega (arith, none))

-- the row of one more, where its slot is better, or the one before
pub extreme_more : (g : Bool) (c : ColumnValue) (rows : List ℕ) (row so_far : ℕ) → slot_at c.slots so_far ≡ fold_in (extreme g) c rows
    → slot_at c.slots (if is_better g c.dtype (slot_at c.slots row) (slot_at c.slots so_far) then row else so_far) ≡ fold_in (extreme g) c (rows ++ row ∷ [])
extreme_more g c rows row so_far is =
    inside (is_better g c.dtype (slot_at c.slots row) (slot_at c.slots so_far))
    ∙ extreme_found g c (rows ++ row ∷ []) _ (slot_more g c.dtype (picked c.slots rows) (slot_at c.slots row) (slot_at c.slots so_far) (is ∙ extreme_fold g c rows)
    ∙ ap (λ ss. extreme_of g c.dtype (valid ss)) (sym (map-append (slot_at c.slots) rows (row ∷ []))))
  where
    inside : (b : Bool) → slot_at c.slots (if b then row else so_far) ≡ (if b then slot_at c.slots row else slot_at c.slots so_far)
    inside true = refl
    inside false = refl

pub extreme_one : (g : Bool) (c : ColumnValue) (row : ℕ) → slot_at c.slots row ≡ fold_in (extreme g) c (row ∷ [])
extreme_one g c row = extreme_found g c (row ∷ []) (slot_at c.slots row) (slot_first g c.dtype (slot_at c.slots row))

pub extreme_type : (g : Bool) (t : ColumnType) → fold_type (extreme g) t ≡ t
extreme_type false t = refl
extreme_type true t = refl

-- ---- types in whose order slots are compared

mutual
  plain_below : (m n : OrderMode) (a b : Slot) → below m (Flat Null) a b ≡ below n (Flat Null) a b
  plain_below m n Nil Nil = refl
  plain_below m n Nil (Num b) = refl
  plain_below m n Nil (Bytes b) = refl
  plain_below m n Nil (Items b) = refl
  plain_below m n (Num a) Nil = refl
  plain_below m n (Num a) (Num b) = refl
  plain_below m n (Num a) (Bytes b) = refl
  plain_below m n (Num a) (Items b) = refl
  plain_below m n (Bytes a) Nil = refl
  plain_below m n (Bytes a) (Num b) = refl
  plain_below m n (Bytes a) (Bytes b) = refl
  plain_below m n (Bytes a) (Items b) = refl
  plain_below m n (Items a) Nil = refl
  plain_below m n (Items a) (Num b) = refl
  plain_below m n (Items a) (Bytes b) = refl
  plain_below m n (Items a) (Items b) = plain_parts m n 0 a b

  plain_parts : (m n : OrderMode) (k : ℕ) (a b : Slots) → parts_below m (Flat Null) k a b ≡ parts_below n (Flat Null) k a b
  plain_parts m n k End End = refl
  plain_parts m n k End (And b bs) = refl
  plain_parts m n k (And a as') End = refl
  plain_parts m n k (And a as') (And b bs) =
      ap (λ (x : Bool). x || (slot_eq a b && parts_below m (Flat Null) (suc k) as' bs)) (plain_below m n a b)
      ∙ ap (λ (x : Bool). below n (Flat Null) a b || (slot_eq a b && x)) (plain_parts m n (suc k) as' bs)

flat_parts : (m : OrderMode) (f : FlatType) (k : ℕ) (a b : Slots) → parts_below m (Flat f) k a b ≡ parts_below m (Flat Null) k a b
flat_parts m f k End End = refl
flat_parts m f k End (And b bs) = refl
flat_parts m f k (And a as') End = refl
flat_parts m f k (And a as') (And b bs) = ap (λ (x : Bool). below m (Flat Null) a b || (slot_eq a b && x)) (flat_parts m f (suc k) as' bs)

-- two flat types whose numbers are in one order in two modes
module _ (f g : FlatType) (m n : OrderMode) (alike : (a b : ℤ) → numbers_below m (Flat f) a b ≡ numbers_below n (Flat g) a b) where
  pub below_alike : (a b : Slot) → below m (Flat f) a b ≡ below n (Flat g) a b
  below_alike Nil Nil = refl
  below_alike Nil (Num b) = refl
  below_alike Nil (Bytes b) = refl
  below_alike Nil (Items b) = refl
  below_alike (Num a) Nil = refl
  below_alike (Num a) (Num b) = alike a b
  below_alike (Num a) (Bytes b) = refl
  below_alike (Num a) (Items b) = refl
  below_alike (Bytes a) Nil = refl
  below_alike (Bytes a) (Num b) = refl
  below_alike (Bytes a) (Bytes b) = refl
  below_alike (Bytes a) (Items b) = refl
  below_alike (Items a) Nil = refl
  below_alike (Items a) (Num b) = refl
  below_alike (Items a) (Bytes b) = refl
  below_alike (Items a) (Items b) = flat_parts m f 0 a b ∙ plain_parts m n 0 a b ∙ sym (flat_parts n g 0 a b)

module _ (f : FlatType) (alike : (a b : ℤ) → numbers_below InFolds (Flat f) a b ≡ numbers_below ByText (Flat f) a b) where
  pub flat_folds : (t : ColumnType) → t ≡ Flat f → FoldsAsCompared t
  flat_folds t typed = subst FoldsAsCompared (sym typed) (below_alike f f InFolds ByText alike)

whole_numbers : (m n : OrderMode) (width : Width) (f : FlatType) → IsWhole width f → (a b : ℤ) → numbers_below m (Flat f) a b ≡ numbers_below n (Flat f) a b
whole_numbers m n width f (inl e) a b = rw e refl
whole_numbers m n width f (inr e) a b = rw e refl

pub whole_folds : (width : Width) (f : FlatType) (t : ColumnType) → IsWhole width f → t ≡ Flat f → FoldsAsCompared t
whole_folds width f t whole typed = flat_folds f (whole_numbers InFolds ByText width f whole) t typed

pub meant_folds : (width : Width) (stored f : FlatType) (t : ColumnType) → IsWhole width stored → StandsFor stored f → t ≡ Flat f → FoldsAsCompared t
meant_folds width stored f t whole stands typed =
    flat_folds f (λ a b. stands.ordered InFolds a b ∙ whole_numbers InFolds ByText width stored whole a b ∙ sym (stands.ordered ByText a b)) t typed

pub bytes_folds : (f : FlatType) (t : ColumnType) → FitsBytes f [] → t ≡ Flat f → FoldsAsCompared t
bytes_folds f t fits typed = flat_folds f (by f fits) t typed
  where
    by : (f : FlatType) → FitsBytes f [] → (a b : ℤ) → numbers_below InFolds (Flat f) a b ≡ numbers_below ByText (Flat f) a b
    by Null fits a b = refl
    by Boolean fits a b = refl
    by (Unsigned w) fits a b = refl
    by (Signed w) fits a b = refl
    by (Decimal precision scale) fits a b = refl
    by Date fits a b = refl
    by Time fits a b = refl
    by (Datetime unit) fits a b = refl
    by (Duration unit) fits a b = refl
    by String fits a b = refl
    by Binary fits a b = refl
    by BinaryOffset fits a b = refl
    by (Categorical texts ordering) fits a b = absurd fits
    by (Enum texts ordering) fits a b = absurd fits

pub text_folds : (texts : List (List ℕ)) → FoldsAsCompared (text_type texts)
text_folds texts = flat_folds (Categorical (Some texts) Lexical) (λ a b. refl) (text_type texts) refl

-- ---- numbers that stand for others

module _ (t u : ColumnType) (alike : (a b : Slot) → below InFolds t a b ≡ below InFolds u a b) where
  lesser_alike : lesser t ≡ lesser u
  lesser_alike i a b = ap (λ (x : Bool). if x then b else a) (alike b a) i

  greater_alike : greater t ≡ greater u
  greater_alike i a b = ap (λ (x : Bool). if x then b else a) (alike a b) i

  extreme_alike : (g : Bool) (slots : List Slot) → extreme_of g t slots ≡ extreme_of g u slots
  extreme_alike false [] = refl
  extreme_alike true [] = refl
  extreme_alike false (s ∷ ss) = ap (λ f. fold f s ss) lesser_alike
  extreme_alike true (s ∷ ss) = ap (λ f. fold f s ss) greater_alike

  pub extremes_alike : (g : Bool) (slots : List Slot) (lists : List (List ℕ)) → map (fold_of (extreme g) t slots) lists ≡ map (fold_of (extreme g) u slots) lists
  extremes_alike g slots [] = refl
  extremes_alike g slots (rows ∷ lists) =
      ap₂ (λ (x : Slot) xs. x ∷ xs) (fold_extreme g t slots rows ∙ extreme_alike g (valid (picked slots rows)) ∙ sym (fold_extreme g u slots rows)) (extremes_alike g slots lists)

-- the extremes of a column of such numbers are those of what they stand for
pub logical_extremes : (stored t : FlatType) → StandsFor stored t → (g : Bool) (c physical found : ColumnValue) (lists : List (List ℕ)) → c.dtype ≡ Flat t → c.slots ≡ physical.slots → physical.dtype ≡ Flat stored →
    found ≡ fold_column c.name (Flat stored) (fold_in (extreme g) physical) lists → logical_column t found ≡ folded (extreme g) c lists
logical_extremes stored t stands g c physical found lists typed same stored_type e =
    let folds : ColumnType → List Slot → List Slot = λ d ss. map (fold_of (extreme g) d ss) lists in
    let plain : found ≡ fresh_column c.name (Flat stored) (folds (Flat stored) physical.slots) =
    e ∙ ap (λ d. fresh_column c.name (Flat stored) (folds d physical.slots)) stored_type in
    let slots : folds (Flat stored) physical.slots ≡ folds c.dtype c.slots =
    extremes_alike (Flat stored) (Flat t) (below_alike stored t InFolds InFolds (λ a b. sym (stands.ordered InFolds a b))) g physical.slots lists
    ∙ ap (folds (Flat t)) (sym same) ∙ ap (λ d. folds d c.slots) (sym typed) in
    ap (logical_column t) plain ∙ ap (fresh_column c.name (Flat t)) slots
    ∙ ap (λ d. fresh_column c.name d (folds c.dtype c.slots)) (sym (extreme_type g c.dtype ∙ typed))

-- ---- types that have a least slot

pub whole_ordered : (width : Width) (f : FlatType) (t : ColumnType) → IsWhole width f → t ≡ Flat f → has_least t ≡ true
whole_ordered width f t (inl e) typed = rw (typed, e) refl
whole_ordered width f t (inr e) typed = rw (typed, e) refl

-- ---- how columns are compared, and how slots are ranked in folds

module _ (t u : ColumnType) (alike : (a b : Slot) → below InFolds t a b ≡ below ByText u a b) where
  ranked_as : (nulls_last : Bool) (a b : Slot) → ranked_below nulls_last t a b ≡ placed_below nulls_last u a b
  ranked_as nulls_last Nil Nil = refl
  ranked_as nulls_last Nil (Num b) = refl
  ranked_as nulls_last Nil (Bytes b) = refl
  ranked_as nulls_last Nil (Items b) = refl
  ranked_as nulls_last (Num a) Nil = refl
  ranked_as nulls_last (Num a) (Num b) = alike (Num a) (Num b)
  ranked_as nulls_last (Num a) (Bytes b) = refl
  ranked_as nulls_last (Num a) (Items b) = refl
  ranked_as nulls_last (Bytes a) Nil = refl
  ranked_as nulls_last (Bytes a) (Num b) = refl
  ranked_as nulls_last (Bytes a) (Bytes b) = refl
  ranked_as nulls_last (Bytes a) (Items b) = refl
  ranked_as nulls_last (Items a) Nil = refl
  ranked_as nulls_last (Items a) (Num b) = refl
  ranked_as nulls_last (Items a) (Bytes b) = refl
  ranked_as nulls_last (Items a) (Items b) = alike (Items a) (Items b)

  pub better_as : (g : Bool) (a b : Slot) → compares_better g u a b ≡ is_better g t a b
  better_as false a b = sym (ranked_as true a b)
  better_as true a b = sym (ranked_as false b a)

-- ---- categories

-- a lexical type that is no enum's has the order of its texts
pub lexical_type : (t : ColumnType) (texts : List (List ℕ)) → categories_of t ≡ Some texts → is_lexical_type t && not (is_enum_type t) ≡ true → t ≡ text_type texts
lexical_type t texts known by_text = by (has_texts t texts known)
  where
    by : (ordering : CategoricalOrdering) × ((t ≡ Flat (Categorical (Some texts) ordering)) ⊎ (t ≡ Flat (Enum (Some texts) ordering))) → t ≡ text_type texts
    by (Physical, inl e) = apart (sym by_text ∙ ap (λ (u : ColumnType). is_lexical_type u && not (is_enum_type u)) e)
    by (Lexical, inl e) = e
    by (Physical, inr e) = apart (sym by_text ∙ ap (λ (u : ColumnType). is_lexical_type u && not (is_enum_type u)) e)
    by (Lexical, inr e) = apart (sym by_text ∙ ap (λ (u : ColumnType). is_lexical_type u && not (is_enum_type u)) e)

-- any other is in the order of its codes
pub code_order : (t : ColumnType) (texts : List (List ℕ)) → categories_of t ≡ Some texts → is_lexical_type t && not (is_enum_type t) ≡ false → (a b : Slot) → below InFolds t a b ≡ below ByText uint32 a b
code_order t texts known other a b = by (has_texts t texts known)
  where
    by : (ordering : CategoricalOrdering) × ((t ≡ Flat (Categorical (Some texts) ordering)) ⊎ (t ≡ Flat (Enum (Some texts) ordering))) → below InFolds t a b ≡ below ByText uint32 a b
    by (Physical, inl e) = ap (λ (u : ColumnType). below InFolds u a b) e ∙ below_alike (Categorical (Some texts) Physical) (Unsigned w32) InFolds ByText (λ m n. refl) a b
    by (Lexical, inl e) = apart (sym (ap (λ (u : ColumnType). is_lexical_type u && not (is_enum_type u)) e) ∙ other)
    by (ordering, inr e) = ap (λ (u : ColumnType). below InFolds u a b) e ∙ below_alike (Enum (Some texts) ordering) (Unsigned w32) InFolds ByText (λ m n. refl) a b

pub category_ordered : (t : ColumnType) (texts : List (List ℕ)) → categories_of t ≡ Some texts → has_least t ≡ true
category_ordered t texts known = by (has_texts t texts known)
  where
    by : (ordering : CategoricalOrdering) × ((t ≡ Flat (Categorical (Some texts) ordering)) ⊎ (t ≡ Flat (Enum (Some texts) ordering))) → has_least t ≡ true
    by (ordering, inl e) = ap has_least e
    by (ordering, inr e) = ap has_least e
