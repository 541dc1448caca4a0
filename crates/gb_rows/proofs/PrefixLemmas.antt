-- Bytes of slots tell the slots, whatever bytes stand behind them: so none are the beginning of another's.
use Rattle.std.proofs.Common.{◌≡◌, ◌⊎◌, inl, inr, pos, ◌+◌, ℕ, zero, suc, ℤ, List, [], ◌∷◌, ◌++◌, length, refl, ap, arith, ◌∙◌, sym, append_assoc}
use Rattle.std.specs.Int.{Width, w8, w32, w64, w128, byte_len, cast_unsigned, FitsUnsigned}
use Rattle.std.specs.Prelude.{FitsSigned, bit_xor, ◌^◌}
use mir.Val.{hbits}
use Rattle.gb_defs.specs.ColumnType.{ColumnType, Fields, FlatType, Flat, ListOf, ArrayOf, StructOf, Null, Boolean, Unsigned, Signed, Decimal, Date, Time, Datetime, Duration, String, Binary, BinaryOffset, Categorical, Enum, Fits, FitsBytes, FitsNumber, FitsParts, field_count, field_type}
use Rattle.gb_defs.specs.RowBytes.{cell_bytes, ended_bytes, number_bytes, parts_bytes, row_bytes, signed_bytes, slot_bytes, unsigned_bytes}
use Rattle.gb_defs.specs.Slot.{Slot, Slots, Nil, Num, Bytes, Items, End, And, slot_at}
use Rattle.gb_defs.specs.Column.{Frame}
use Rattle.std.specs.List.{AllByRecursion}
use Rattle.gb_rows.proofs.NumberLemmas.{high_length, signed_told, unsigned_told}

-- lists of one length, and what stands behind them
cut_told : (a b u v : List ℕ) → length a ≡ length b → a ++ u ≡ b ++ v → (a ≡ b) × (u ≡ v)
cut_told [] [] u v l e = (refl, e)
cut_told [] (y ∷ b) u v l e = cc
cut_told (x ∷ a) [] u v l e = cc
cut_told (x ∷ a) (y ∷ b) u v l e =
    let head : x ≡ y = cc in
    let tail : a ++ u ≡ b ++ v = cc in
    let more = cut_told a b u v (omega (arith, l)) tail in
    (ap (λ z. z ∷ a) head ∙ ap (λ zs. y ∷ zs) more.0, more.1)

unsigned_cut : (w : Width) (n m : ℤ) (u v : List ℕ) → FitsUnsigned w n → FitsUnsigned w m → unsigned_bytes w n ++ u ≡ unsigned_bytes w m ++ v → (n ≡ m) × (u ≡ v)
unsigned_cut w n m u v a b e =
    let long = high_length (byte_len w) (cast_unsigned w n) ∙ sym (high_length (byte_len w) (cast_unsigned w m)) in
    let both = cut_told (unsigned_bytes w n) (unsigned_bytes w m) u v long e in
    (unsigned_told w n m a b both.0, both.1)

signed_cut : (w : Width) (n m : ℤ) (u v : List ℕ) → FitsSigned w n → FitsSigned w m → signed_bytes w n ++ u ≡ signed_bytes w m ++ v → (n ≡ m) × (u ≡ v)
signed_cut w n m u v a b e =
    let long = high_length (byte_len w) (bit_xor (cast_unsigned w n) (2 ^ hbits w)) ∙ sym (high_length (byte_len w) (bit_xor (cast_unsigned w m) (2 ^ hbits w))) in
    let both = cut_told (signed_bytes w n) (signed_bytes w m) u v long e in
    (signed_told w n m a b both.0, both.1)

flag_fits : (n : ℤ) → (n ≡ pos 0) ⊎ (n ≡ pos 1) → FitsUnsigned w8 n
flag_fits n (inl e) = rw e (record { le = tt }, record { lt = tt })
flag_fits n (inr e) = rw e (record { le = tt }, record { lt = tt })

number_cut : (t : FlatType) (n m : ℤ) (u v : List ℕ) → FitsNumber t n → FitsNumber t m → number_bytes t n ++ u ≡ number_bytes t m ++ v → (n ≡ m) × (u ≡ v)
number_cut Null n m u v a b e = absurd a
number_cut Boolean n m u v a b e = unsigned_cut w8 n m u v (flag_fits n a) (flag_fits m b) e
number_cut (Unsigned w) n m u v a b e = unsigned_cut w n m u v a b e
number_cut (Signed w) n m u v a b e = signed_cut w n m u v a b e
number_cut (Decimal precision scale) n m u v a b e = signed_cut w128 n m u v a b e
number_cut Date n m u v a b e = signed_cut w32 n m u v a b e
number_cut Time n m u v a b e = signed_cut w64 n m u v a b e
number_cut (Datetime unit) n m u v a b e = signed_cut w64 n m u v a b e
number_cut (Duration unit) n m u v a b e = signed_cut w64 n m u v a b e
number_cut String n m u v a b e = absurd a
number_cut Binary n m u v a b e = absurd a
number_cut BinaryOffset n m u v a b e = absurd a
number_cut (Categorical texts ordering) n m u v a b e = unsigned_cut w32 n m u v a.0 b.0 e
number_cut (Enum texts ordering) n m u v a b e = unsigned_cut w32 n m u v a.0 b.0 e

-- two zeros end bytes, and a zero inside has 255 behind it
ended_cut : (a b u v : List ℕ) → ended_bytes a ++ u ≡ ended_bytes b ++ v → (a ≡ b) × (u ≡ v)
ended_cut [] [] u v e = (refl, cc)
ended_cut [] (zero ∷ b) u v e = cc
ended_cut [] (suc y ∷ b) u v e = cc
ended_cut (zero ∷ a) [] u v e = cc
ended_cut (zero ∷ a) (zero ∷ b) u v e =
    let tail : ended_bytes a ++ u ≡ ended_bytes b ++ v = cc in
    let more = ended_cut a b u v tail in
    (ap (λ zs. 0 ∷ zs) more.0, more.1)
ended_cut (zero ∷ a) (suc y ∷ b) u v e = cc
ended_cut (suc x ∷ a) [] u v e = cc
ended_cut (suc x ∷ a) (zero ∷ b) u v e = cc
ended_cut (suc x ∷ a) (suc y ∷ b) u v e =
    let head : suc x ≡ suc y = cc in
    let tail : ended_bytes a ++ u ≡ ended_bytes b ++ v = cc in
    let more = ended_cut a b u v tail in
    (ap (λ z. z ∷ a) head ∙ ap (λ zs. suc y ∷ zs) more.0, more.1)

-- a number and bytes are of no one type
apart : (t : FlatType) (n : ℤ) (bytes : List ℕ) → FitsNumber t n → FitsBytes t bytes → ⊥
apart Null n bytes a b = a
apart Boolean n bytes a b = b
apart (Unsigned w) n bytes a b = b
apart (Signed w) n bytes a b = b
apart (Decimal precision scale) n bytes a b = b
apart Date n bytes a b = b
apart Time n bytes a b = b
apart (Datetime unit) n bytes a b = b
apart (Duration unit) n bytes a b = b
apart String n bytes a b = a
apart Binary n bytes a b = a
apart BinaryOffset n bytes a b = a
apart (Categorical texts ordering) n bytes a b = b
apart (Enum texts ordering) n bytes a b = b

-- a flat type has no parts
no_parts : (t : FlatType) (k : ℕ) (ss : Slots) → FitsParts (Flat t) k ss → ⊥
no_parts t k End h = h
no_parts t k (And s ss) h = no_parts t (suc k) ss h.1

-- how many parts arrays and structs have
abbrev part_count : Slots → ℕ
part_count End = 0
part_count (And s ss) = suc (part_count ss)

array_parts : (t : ColumnType) (width k : ℕ) (ss : Slots) → FitsParts (ArrayOf t width) k ss → k + part_count ss ≡ width
array_parts t width k End h = omega (arith, h)
array_parts t width k (And s ss) h = omega (arith, array_parts t width (suc k) ss h.1)

struct_parts : (fs : Fields) (k : ℕ) (ss : Slots) → FitsParts (StructOf fs) k ss → k + part_count ss ≡ field_count fs
struct_parts fs k End h = omega (arith, h)
struct_parts fs k (And s ss) h = omega (arith, struct_parts fs (suc k) ss h.1)

mutual
  pub slot_cut : (t : ColumnType) (a b : Slot) (u v : List ℕ) → Fits t a → Fits t b → slot_bytes t a ++ u ≡ slot_bytes t b ++ v → (a ≡ b) × (u ≡ v)
  slot_cut t Nil Nil u v h k e = (refl, cc)
  slot_cut t Nil (Num m) u v h k e = cc
  slot_cut t Nil (Bytes bs) u v h k e = cc
  slot_cut t Nil (Items rs) u v h k e = cc
  slot_cut t (Num n) Nil u v h k e = cc
  slot_cut t (Bytes as') Nil u v h k e = cc
  slot_cut t (Items ss) Nil u v h k e = cc
  slot_cut (Flat f) (Num n) (Num m) u v h k e =
      let tail : number_bytes f n ++ u ≡ number_bytes f m ++ v = cc in
      let both = number_cut f n m u v h k tail in
      (ap (λ x. Num x) both.0, both.1)
  slot_cut (Flat f) (Num n) (Bytes bs) u v h k e = absurd (apart f n bs h k)
  slot_cut (Flat f) (Num n) (Items rs) u v h k e = absurd (no_parts f 0 rs k)
  slot_cut (Flat f) (Bytes as') (Num m) u v h k e = absurd (apart f m as' k h)
  slot_cut (Flat f) (Bytes as') (Bytes bs) u v h k e =
      let tail : ended_bytes as' ++ u ≡ ended_bytes bs ++ v = cc in
      let both = ended_cut as' bs u v tail in
      (ap (λ x. Bytes x) both.0, both.1)
  slot_cut (Flat f) (Bytes as') (Items rs) u v h k e = absurd (no_parts f 0 rs k)
  slot_cut (Flat f) (Items ss) (Num m) u v h k e = absurd (no_parts f 0 ss h)
  slot_cut (Flat f) (Items ss) (Bytes bs) u v h k e = absurd (no_parts f 0 ss h)
  slot_cut (Flat f) (Items ss) (Items rs) u v h k e =
      let whole = (Flat f) in
      let tail : parts_bytes whole 0 ss ++ u ≡ parts_bytes whole 0 rs ++ v = cc in
      let both = parts_cut whole 0 ss rs u v h k tail in
      (ap (λ x. Items x) both.0, both.1)
  slot_cut (ListOf t) (Num n) (Num m) u v h k e = absurd h
  slot_cut (ListOf t) (Num n) (Bytes bs) u v h k e = absurd h
  slot_cut (ListOf t) (Num n) (Items rs) u v h k e = absurd h
  slot_cut (ListOf t) (Bytes as') (Num m) u v h k e = absurd h
  slot_cut (ListOf t) (Bytes as') (Bytes bs) u v h k e = absurd h
  slot_cut (ListOf t) (Bytes as') (Items rs) u v h k e = absurd h
  slot_cut (ListOf t) (Items ss) (Num m) u v h k e = absurd k
  slot_cut (ListOf t) (Items ss) (Bytes bs) u v h k e = absurd k
  slot_cut (ListOf t) (Items ss) (Items rs) u v h k e =
      let whole = (ListOf t) in
      let tail : parts_bytes whole 0 ss ++ u ≡ parts_bytes whole 0 rs ++ v = cc in
      let both = parts_cut whole 0 ss rs u v h k tail in
      (ap (λ x. Items x) both.0, both.1)
  slot_cut (ArrayOf t width) (Num n) (Num m) u v h k e = absurd h
  slot_cut (ArrayOf t width) (Num n) (Bytes bs) u v h k e = absurd h
  slot_cut (ArrayOf t width) (Num n) (Items rs) u v h k e = absurd h
  slot_cut (ArrayOf t width) (Bytes as') (Num m) u v h k e = absurd h
  slot_cut (ArrayOf t width) (Bytes as') (Bytes bs) u v h k e = absurd h
  slot_cut (ArrayOf t width) (Bytes as') (Items rs) u v h k e = absurd h
  slot_cut (ArrayOf t width) (Items ss) (Num m) u v h k e = absurd k
  slot_cut (ArrayOf t width) (Items ss) (Bytes bs) u v h k e = absurd k
  slot_cut (ArrayOf t width) (Items ss) (Items rs) u v h k e =
      let whole = (ArrayOf t width) in
      let tail : parts_bytes whole 0 ss ++ u ≡ parts_bytes whole 0 rs ++ v = cc in
      let both = parts_cut whole 0 ss rs u v h k tail in
      (ap (λ x. Items x) both.0, both.1)
  slot_cut (StructOf fs) (Num n) (Num m) u v h k e = absurd h
  slot_cut (StructOf fs) (Num n) (Bytes bs) u v h k e = absurd h
  slot_cut (StructOf fs) (Num n) (Items rs) u v h k e = absurd h
  slot_cut (StructOf fs) (Bytes as') (Num m) u v h k e = absurd h
  slot_cut (StructOf fs) (Bytes as') (Bytes bs) u v h k e = absurd h
  slot_cut (StructOf fs) (Bytes as') (Items rs) u v h k e = absurd h
  slot_cut (StructOf fs) (Items ss) (Num m) u v h k e = absurd k
  slot_cut (StructOf fs) (Items ss) (Bytes bs) u v h k e = absurd k
  slot_cut (StructOf fs) (Items ss) (Items rs) u v h k e =
      let whole = (StructOf fs) in
      let tail : parts_bytes whole 0 ss ++ u ≡ parts_bytes whole 0 rs ++ v = cc in
      let both = parts_cut whole 0 ss rs u v h k tail in
      (ap (λ x. Items x) both.0, both.1)

  parts_cut : (t : ColumnType) (k : ℕ) (as' bs : Slots) (u v : List ℕ) → FitsParts t k as' → FitsParts t k bs → parts_bytes t k as' ++ u ≡ parts_bytes t k bs ++ v → (as' ≡ bs) × (u ≡ v)
  parts_cut (Flat f) k End bs u v h g e = absurd h
  parts_cut (Flat f) k (And s ss) bs u v h g e = absurd (no_parts f (suc k) ss h.1)
  parts_cut (ListOf t) k End End u v h g e = (refl, cc)
  parts_cut (ListOf t) k End (And r rs) u v h g e = cc
  parts_cut (ListOf t) k (And s ss) End u v h g e = cc
  parts_cut (ListOf t) k (And s ss) (And r rs) u v h g e =
      let whole = ListOf t in
      let rest = parts_bytes whole (suc k) ss in
      let other = parts_bytes whole (suc k) rs in
      let tail : (slot_bytes t s ++ rest) ++ u ≡ (slot_bytes t r ++ other) ++ v = cc in
      let one = slot_cut t s r (rest ++ u) (other ++ v) h.0 g.0 (sym (append_assoc (slot_bytes t s) rest u) ∙ tail ∙ append_assoc (slot_bytes t r) other v) in
      let more = parts_cut whole (suc k) ss rs u v h.1 g.1 one.1 in
      (ap (λ x. And x ss) one.0 ∙ ap (λ xs. And r xs) more.0, more.1)
  parts_cut (ArrayOf t width) k End End u v h g e = (refl, e)
  parts_cut (ArrayOf t width) k End (And r rs) u v h g e = absurd (omega (arith, h, array_parts t width (suc k) rs g.1))
  parts_cut (ArrayOf t width) k (And s ss) End u v h g e = absurd (omega (arith, g, array_parts t width (suc k) ss h.1))
  parts_cut (ArrayOf t width) k (And s ss) (And r rs) u v h g e =
      let whole = (ArrayOf t width) in
      let rest = parts_bytes whole (suc k) ss in
      let other = parts_bytes whole (suc k) rs in
      let one = slot_cut t s r (rest ++ u) (other ++ v) h.0 g.0 (sym (append_assoc (slot_bytes t s) rest u) ∙ e ∙ append_assoc (slot_bytes t r) other v) in
      let more = parts_cut whole (suc k) ss rs u v h.1 g.1 one.1 in
      (ap (λ x. And x ss) one.0 ∙ ap (λ xs. And r xs) more.0, more.1)
  parts_cut (StructOf fs) k End End u v h g e = (refl, e)
  parts_cut (StructOf fs) k End (And r rs) u v h g e = absurd (omega (arith, h, struct_parts fs (suc k) rs g.1))
  parts_cut (StructOf fs) k (And s ss) End u v h g e = absurd (omega (arith, g, struct_parts fs (suc k) ss h.1))
  parts_cut (StructOf fs) k (And s ss) (And r rs) u v h g e =
      let whole = (StructOf fs) in
      let rest = parts_bytes whole (suc k) ss in
      let other = parts_bytes whole (suc k) rs in
      let one = slot_cut (field_type fs k) s r (rest ++ u) (other ++ v) h.0 g.0 (sym (append_assoc (slot_bytes (field_type fs k) s) rest u) ∙ e ∙ append_assoc (slot_bytes (field_type fs k) r) other v) in
      let more = parts_cut whole (suc k) ss rs u v h.1 g.1 one.1 in
      (ap (λ x. And x ss) one.0 ∙ ap (λ xs. And r xs) more.0, more.1)

-- ---- rows

-- the slots of a row fit their types
abbrev pub FitsRow : Frame → ℕ → Type 0
FitsRow keys row = AllByRecursion (λ c. Fits c.dtype (slot_at c.slots row)) keys

-- rows tell their slots, and none is the beginning of another
pub row_cut : (keys : Frame) (i j : ℕ) (u v : List ℕ) → FitsRow keys i → FitsRow keys j → row_bytes keys i ++ u ≡ row_bytes keys j ++ v
    → AllByRecursion (λ c. slot_at c.slots i ≡ slot_at c.slots j) keys × (u ≡ v)
row_cut [] i j u v h k e = (tt, e)
row_cut (c ∷ cs) i j u v h k e =
    let mine = cell_bytes i c in
    let other = cell_bytes j c in
    let one = slot_cut c.dtype (slot_at c.slots i) (slot_at c.slots j) (row_bytes cs i ++ u) (row_bytes cs j ++ v) h.0 k.0 (sym (append_assoc mine (row_bytes cs i) u) ∙ e ∙ append_assoc other (row_bytes cs j) v) in
    let more = row_cut cs i j u v h.1 k.1 one.1 in
    ((one.0, more.0), more.1)

-- rows whose slots are the same have the same bytes
pub row_same : (keys : Frame) (i j : ℕ) → AllByRecursion (λ c. slot_at c.slots i ≡ slot_at c.slots j) keys → row_bytes keys i ≡ row_bytes keys j
row_same [] i j h = refl
row_same (c ∷ cs) i j h = ap (λ s. slot_bytes c.dtype s ++ row_bytes cs i) h.0 ∙ ap (λ bs. cell_bytes j c ++ bs) (row_same cs i j h.1)
