-- Keys in a form of their own stand for the slots of a column.
use Rattle.std.proofs.Common.{◌≡◌, ◌==◌, inl, inr, ℕ, ℤ, pos, ◌<◌, true, false, List, [], ◌∷◌, length, map, All, Option, None, Some, MatchOption, refl, sym, ◌∙◌, ap, subst}
use Rattle.std.specs.Bool.{Decides}
use Rattle.std.specs.Borrow.{Bor}
use Rattle.std.specs.Global.{Global}
use Rattle.std.specs.Int.{Width, w8, w16, w32, w64, w128}
use Rattle.std.specs.Prelude.{Vec}
use Rattle.std.proofs.lemmas.Bool.Decides.{same_from_decides}
use Rattle.std.proofs.lemmas.List.{get_or-map, length-map}
use Rattle.std.proofs.lemmas.Simd.{map-map}
use Rattle.gb_defs.specs.Column.{ColumnValue, categories_of}
use Rattle.gb_defs.specs.ColumnType.{ArrayOf, ColumnType, FlatType, Flat, ListOf, StructOf, Null, Boolean, Unsigned, Signed, Decimal, Date, Time, Datetime, Duration, String, Binary, BinaryOffset, Categorical, Enum}
use Rattle.gb_defs.specs.Hash.{hash_number, hash_of, hash_width, seed_mix}
use Rattle.gb_defs.specs.Path.{Codes, Numbers, ByteLists, Parts, flat_kind, kind_of}
use Rattle.gb_defs.specs.RowBytes.{row_bytes}
use Rattle.gb_defs.specs.Rows.{Rows, StandsFor, rows_of_slots}
use Rattle.gb_defs.specs.Slot.{Slot, Nil, Num, Bytes, Items, slot_at, slot_eq}
use Rattle.gb_defs.proofs.SlotLemmas.{Decides-slot_eq}
use Rattle.gb_logical.proofs.CategoryLemmas.{has_texts}
use Rattle.gb_values.specs.Keys.{AreWide, AreWords, IsToldByWide, IsToldByWord, bytes_slot, key_slot, number_from, wide_slot, with_number, word_slot}
use Rattle.gb_numbers.specs.Native.{IsWhole, is_wide, unwidened, unworded}
use Rattle.gb_cols.specs.Null.{AreNulls}
use Rattle.gb_hash.specs.Keys.{key_slots}
use Rattle.gb_series.specs.Variant.{type_variant}
use Rattle.gb_paths.specs.Keys.{HasNoValues, StandFor, hashed_slot, key_rows}
use Rattle.gb_paths.specs.PlainWords.{ArePlain}
use Rattle.gb_paths.specs.declared.keys.Keys.{Keys}
use Rattle.gb_paths.specs.declared.keys.Keys.TheVariants.{Plain, Words, PlainCodes, Wide}
use Rattle.gb_paths.specs.declared.keys.Keys.TheVariants as keys

-- rows that stand for rows that stand for others
pub stood_by : (a b c : Rows) → StandsFor a b → StandsFor b c → StandsFor a c
stood_by a b c x y = record {
  many = y.many ∙ x.many;
  agree = λ i j low high. x.agree i j low high ∙ y.agree i j (rw x.many low) (rw x.many high);
  hashed = λ i lt. x.hashed i lt ∙ y.hashed i (rw x.many lt);
}

-- slots in a form that tells them
module _ (form back : Slot → Slot) (slots keys : List Slot) (are : keys ≡ map form slots) (told : All (λ slot. back (form slot) ≡ slot) slots) where
  key_at : (i : ℕ) → i < length slots → slot_at keys i ≡ form (slot_at slots i)
  key_at i lt = ap (λ ss. slot_at ss i) are ∙ get_or-map form slots i Nil Nil lt

  agree : (i j : ℕ) → i < length slots → j < length slots → slot_eq (slot_at slots i) (slot_at slots j) ≡ slot_eq (slot_at keys i) (slot_at keys j)
  agree i j low high =
      let a = slot_at slots i in
      let b = slot_at slots j in
      let apart : Decides (slot_eq (form a) (form b)) (a ≡ b) = (
        λ e. sym (told i Nil low) ∙ ap back ((Decides-slot_eq (form a) (form b)).0 e) ∙ told j Nil high,
        λ e. (Decides-slot_eq (form a) (form b)).1 (ap form e),
      ) in
      rw (key_at i low, key_at j high) (same_from_decides (slot_eq a b) (slot_eq (form a) (form b)) (Decides-slot_eq a b) apart)

  formed_stand : (own width : Width) (seed : ℕ) (mix : ℕ → ℕ) → ((s : Slot) → back (form s) ≡ s → hash_of own seed mix s ≡ hash_of width seed mix (form s)) →
      StandsFor (rows_of_slots own seed mix slots) (rows_of_slots width seed mix keys)
  formed_stand own width seed mix alike = record {
    many = ap length are ∙ length-map slots form;
    agree = agree;
    hashed = λ i lt. alike (slot_at slots i) (told i Nil lt) ∙ ap (hash_of width seed mix) (sym (key_at i lt));
  }

-- a slot that its word tells hashes as the word does
module _ (t : FlatType) (seed : ℕ) (mix : ℕ → ℕ) where
  word_hash : (width : Width) → is_wide width ≡ false → (s : Slot) → IsToldByWord t s → hash_of width seed mix s ≡ hash_of w64 seed mix (word_slot s)
  word_hash width narrow Nil told = refl
  word_hash w8 narrow (Num n) told = refl
  word_hash w16 narrow (Num n) told = refl
  word_hash w32 narrow (Num n) told = refl
  word_hash w64 narrow (Num n) told = refl
  word_hash w128 narrow (Num n) told = cc
  word_hash width narrow (Bytes bytes) told = cc
  word_hash width narrow (Items parts) told = cc

  wide_hash : (s : Slot) → IsToldByWide t s → hash_of w128 seed mix s ≡ hash_of w128 seed mix (wide_slot s)
  wide_hash Nil told = refl
  wide_hash (Num n) told = refl
  wide_hash (Bytes bytes) told = cc
  wide_hash (Items parts) told = cc

-- ---- the rows of keys stand for those of the slots

pub words_stand : (t : FlatType) (slots : List Slot) (words : List (Option ℕ)) (width : Width) (seed : ℕ) (mix : ℕ → ℕ) → is_wide width ≡ false → AreWords t slots words →
    StandsFor (rows_of_slots width seed mix slots) (rows_of_slots w64 seed mix (map key_slot words))
words_stand t slots words width seed mix narrow stand =
    formed_stand word_slot (λ slot. with_number (number_from (unworded t)) slot) slots _ stand.are stand.back width w64 seed mix (word_hash t seed mix width narrow)

pub wide_stand : (t : FlatType) (slots : List Slot) (words : List (Option ℕ)) (seed : ℕ) (mix : ℕ → ℕ) → AreWide t slots words →
    StandsFor (rows_of_slots w128 seed mix slots) (rows_of_slots w128 seed mix (map key_slot words))
wide_stand t slots words seed mix stand =
    formed_stand wide_slot (λ slot. with_number (number_from (unwidened t)) slot) slots _ stand.are stand.back w128 w128 seed mix (wide_hash t seed mix)

pub same_stand : (slots keys : List Slot) (width : Width) (seed : ℕ) (mix : ℕ → ℕ) → keys ≡ slots → StandsFor (rows_of_slots width seed mix slots) (rows_of_slots width seed mix keys)
same_stand slots keys width seed mix same = rw same (record { many = refl; agree = λ i j low high. refl; hashed = λ i lt. refl })

pub plain_stand : (t : FlatType) (slots : List Slot) (words : List ℕ) (width : Width) (seed : ℕ) (mix : ℕ → ℕ) → is_wide width ≡ false → ArePlain t slots words →
    StandsFor (rows_of_slots width seed mix slots) (rows_of_slots w64 seed mix (key_slots (λ n. pos n) words))
plain_stand t slots words width seed mix narrow stand =
    subst (λ (keys : List Slot). StandsFor (rows_of_slots width seed mix slots) (rows_of_slots w64 seed mix keys)) (map-map key_slot (λ word. Some word) words)
    (words_stand t slots (map (λ word. Some word) words) width seed mix narrow stand)

-- ---- the types of whole numbers

pub whole_width : (width : Width) (t : FlatType) → IsWhole width t → hash_width (Flat t) ≡ width
whole_width width t (inl signed) = rw signed refl
whole_width width t (inr unsigned) = rw unsigned refl

pub whole_kind : (width : Width) (t : FlatType) → IsWhole width t → flat_kind t ≡ Numbers
whole_kind width t (inl signed) = rw signed refl
whole_kind width t (inr unsigned) = rw unsigned refl

pub wide_width : (width : Width) → is_wide width ≡ true → width ≡ w128
wide_width w8 wide = cc
wide_width w16 wide = cc
wide_width w32 wide = cc
wide_width w64 wide = cc
wide_width w128 wide = refl

-- ---- the types of categories

-- codes hash as numbers of 64 bits
code_rows : (column : ColumnValue) (texts : List (List ℕ)) → categories_of column.dtype ≡ Some texts → (seed : ℕ) → key_rows seed column ≡ rows_of_slots w64 seed seed_mix column.slots
code_rows column texts e seed = elim (has_texts column.dtype texts e).1 [
  | inl same ↦ rw same refl
  | inr same ↦ rw same refl
]

code_kind : (t : ColumnType) (texts : List (List ℕ)) → categories_of t ≡ Some texts → kind_of t ≡ Codes
code_kind t texts e = elim (has_texts t texts e).1 [
  | inl same ↦ rw same refl
  | inr same ↦ rw same refl
]

-- codes stand for a column of categories
pub codes_stand_for : (column codes : ColumnValue) (texts : List (List ℕ)) (words : Vec (Option ℕ) Global) → categories_of column.dtype ≡ Some texts → column.slots ≡ codes.slots →
    AreWords (Unsigned w32) codes.slots words.items → StandFor column (keys.Codes words)
codes_stand_for column codes texts words typed same stand =
    let are = subst (λ slots. AreWords (Unsigned w32) slots words.items) (sym same) stand in
    record {
      rows = λ seed. rw (code_rows column texts typed seed) (words_stand (Unsigned w32) column.slots words.items w64 seed seed_mix refl are);
      kind = code_kind column.dtype texts typed;
    }

pub plain_codes_stand_for : (column codes : ColumnValue) (texts : List (List ℕ)) (words : Vec ℕ Global) → categories_of column.dtype ≡ Some texts → column.slots ≡ codes.slots →
    ArePlain (Unsigned w32) codes.slots words.items → StandFor column (PlainCodes words)
plain_codes_stand_for column codes texts words typed same stand =
    let are = subst (λ slots. ArePlain (Unsigned w32) slots words.items) (sym same) stand in
    record {
      rows = λ seed. rw (code_rows column texts typed seed) (plain_stand (Unsigned w32) column.slots words.items w64 seed seed_mix refl are);
      kind = code_kind column.dtype texts typed;
    }

-- ---- keys stand for a column of a flat type

module _ (t : FlatType) (column : ColumnValue) (typed : column.dtype ≡ Flat t) where
  pub plain_stand_for : (words : Vec ℕ Global) → is_wide (hash_width (Flat t)) ≡ false → flat_kind t ≡ Numbers → ArePlain t column.slots words.items → StandFor column (Plain words)
  plain_stand_for words narrow kind stand = record {
    rows = λ seed. rw typed (plain_stand t column.slots words.items (hash_width (Flat t)) seed seed_mix narrow stand);
    kind = ap kind_of typed ∙ kind;
  }

  pub words_stand_for : (words : Vec (Option ℕ) Global) → is_wide (hash_width (Flat t)) ≡ false → flat_kind t ≡ Numbers → AreWords t column.slots words.items → StandFor column (Words words)
  words_stand_for words narrow kind stand = record {
    rows = λ seed. rw typed (words_stand t column.slots words.items (hash_width (Flat t)) seed seed_mix narrow stand);
    kind = ap kind_of typed ∙ kind;
  }

  pub wide_stand_for : (words : Vec (Option ℕ) Global) → hash_width (Flat t) ≡ w128 → flat_kind t ≡ Numbers → AreWide t column.slots words.items → StandFor column (Wide words)
  wide_stand_for words wide kind stand = record {
    rows = λ seed. rw (typed, wide) (wide_stand t column.slots words.items seed seed_mix stand);
    kind = ap kind_of typed ∙ kind;
  }

  pub bytes_stand_for : (bytes : Vec (Option (Bor (List ℕ))) Global) → hash_width (Flat t) ≡ w64 → flat_kind t ≡ ByteLists → map bytes_slot bytes.items ≡ column.slots → StandFor column (keys.Bytes bytes)
  bytes_stand_for bytes width kind same = record {
    rows = λ seed. rw (typed, width) (same_stand column.slots (map bytes_slot bytes.items) w64 seed seed_mix same);
    kind = ap kind_of typed ∙ kind;
  }

-- ---- a column of numbers that mean something else has the keys of its numbers

module _ (seed : ℕ) (mix : ℕ → ℕ) where
  narrow_hash : (width : Width) → is_wide width ≡ false → (n : ℤ) → hash_number width seed mix n ≡ hash_number w64 seed mix n
  narrow_hash w8 narrow n = refl
  narrow_hash w16 narrow n = refl
  narrow_hash w32 narrow n = refl
  narrow_hash w64 narrow n = refl
  narrow_hash w128 narrow n = cc

  number_hash : (own other : Width) → is_wide own ≡ is_wide other → (n : ℤ) → hash_number own seed mix n ≡ hash_number other seed mix n
  number_hash w8 other same n = sym (narrow_hash other (sym same) n)
  number_hash w16 other same n = sym (narrow_hash other (sym same) n)
  number_hash w32 other same n = sym (narrow_hash other (sym same) n)
  number_hash w64 other same n = sym (narrow_hash other (sym same) n)
  number_hash w128 other same n = rw (wide_width other (sym same)) refl

  hash_alike : (own other : Width) → is_wide own ≡ is_wide other → (s : Slot) → hash_of own seed mix s ≡ hash_of other seed mix s
  hash_alike own other same Nil = refl
  hash_alike own other same (Num n) = number_hash own other same n
  hash_alike own other same (Bytes bytes) = refl
  hash_alike own other same (Items parts) = refl

-- the rows of a key of a flat type
pub flat_rows : (t : FlatType) (column : ColumnValue) → column.dtype ≡ Flat t → (seed : ℕ) → key_rows seed column ≡ rows_of_slots (hash_width (Flat t)) seed seed_mix column.slots
flat_rows t column typed seed = rw typed refl

module _ (t u : FlatType) (column stored : ColumnValue) (own : column.dtype ≡ Flat t) (typed : stored.dtype ≡ Flat u) (slots : column.slots ≡ stored.slots)
    (width : is_wide (hash_width (Flat t)) ≡ is_wide (hash_width (Flat u))) (kind : flat_kind t ≡ flat_kind u) where
  same_kind : kind_of column.dtype ≡ kind_of stored.dtype
  same_kind = ap kind_of own ∙ kind ∙ sym (ap kind_of typed)

  alike_stand : (seed : ℕ) → StandsFor (key_rows seed column) (key_rows seed stored)
  alike_stand seed = rw (flat_rows t column own seed, flat_rows u stored typed seed, slots) (record {
    many = refl;
    agree = λ i j low high. refl;
    hashed = λ i lt. hash_alike seed seed_mix (hash_width (Flat t)) (hash_width (Flat u)) width (slot_at stored.slots i);
  })

  typed_stand_for : (keys : Keys) → StandFor stored keys → StandFor column keys
  typed_stand_for keys stand = record { rows = λ seed. stood_by _ _ _ (alike_stand seed) (stand.rows seed); kind = same_kind ∙ stand.kind }

  pub typed_keys : (keys : Option Keys) → MatchOption keys (HasNoValues stored) (StandFor stored) → MatchOption keys (HasNoValues column) (StandFor column)
  typed_keys None none = record { kind = same_kind ∙ none.kind; nulls = subst (λ (ss : List Slot). AreNulls ss) (sym slots) none.nulls }
  typed_keys (Some keys) stand = typed_stand_for keys stand

-- ---- keys that hold others

-- only a flat type has no parts
pub parts_by_variant : (n : ℕ) (t : ColumnType) → type_variant t ≡ n → (n == 0) ≡ false → kind_of t ≡ Parts
parts_by_variant n (Flat t) is some = cc (rw (← is) at some)
parts_by_variant n (ListOf t) is some = refl
parts_by_variant n (ArrayOf t width) is some = refl
parts_by_variant n (StructOf fs) is some = refl

no_parts : (t : FlatType) → flat_kind t ≡ Parts → ⊥
no_parts Null e = cc
no_parts Boolean e = cc
no_parts (Unsigned w) e = cc
no_parts (Signed w) e = cc
no_parts (Decimal precision scale) e = cc
no_parts Date e = cc
no_parts Time e = cc
no_parts (Datetime unit) e = cc
no_parts (Duration unit) e = cc
no_parts String e = cc
no_parts Binary e = cc
no_parts BinaryOffset e = cc
no_parts (Categorical texts ordering) e = cc
no_parts (Enum texts ordering) e = cc

-- a key that holds others is hashed by its bytes
pub parts_rows : (column : ColumnValue) → kind_of column.dtype ≡ Parts → (row : ℕ) → hashed_slot column.dtype column row ≡ Bytes (row_bytes (column ∷ []) row)
parts_rows column parts row = by_type column.dtype parts
  where
    by_type : (t : ColumnType) → kind_of t ≡ Parts → hashed_slot t column row ≡ Bytes (row_bytes (column ∷ []) row)
    by_type (Flat t) e = absurd (no_parts t e)
    by_type (ListOf t) e = refl
    by_type (ArrayOf t width) e = refl
    by_type (StructOf fs) e = refl

pub parts_width : (t : ColumnType) → kind_of t ≡ Parts → hash_width t ≡ w64
parts_width (Flat t) e = absurd (no_parts t e)
parts_width (ListOf t) e = refl
parts_width (ArrayOf t width) e = refl
parts_width (StructOf fs) e = refl
