-- The slots and the chunk lengths of a column whose last chunk stands apart.
use Rattle.std.proofs.Common.{◌≡◌, ℕ, ◌+◌, ◌<◌, ◌≤◌, List, [], ◌∷◌, ◌++◌, length, get_or, take, drop, map, refl, sym, ◌∙◌, ap, arith, false, cond, subst, Option, Some, None, option_map}
use Rattle.std.specs.List.{All, count_by, flat_map, sum}
use Rattle.std.proofs.lemmas.List.Concat.{length-flat_map}
use Rattle.std.proofs.lemmas.List.Elements.{All-append}
use Rattle.std.proofs.lemmas.List.Sums.{count_by-le-length, sum-map, sum_by-append}
use Rattle.std.proofs.lemmas.List.{append-nil, append_assoc, get_or-append-add, get_or_append_left, length-append, length_push, drop_more, take_more, take-append-drop, take_all}
use Rattle.std.proofs.lemmas.Grind.{flat_map-append}
use Rattle.gb_defs.specs.Slot.{Slot, is_nil}
use Rattle.gb_defs.specs.ColumnType.{ColumnType}
use Rattle.gb_defs.specs.Column.{ColumnValue, SortedFlag, NotSorted, fresh_column}
use Rattle.gb_cols.specs.Column.{longer_last, pushed}

longer_last-append : (ns : List ℕ) (m : ℕ) → longer_last (ns ++ m ∷ []) ≡ ns ++ (m + 1) ∷ []
longer_last-append [] m = refl
longer_last-append (n ∷ []) m = refl
longer_last-append (n ∷ k ∷ ns) m = ap (λ ks. n ∷ ks) (longer_last-append (k ∷ ns) m)

abbrev pub all_slots : List (List Slot) → List Slot → List Slot
all_slots earlier last = flat_map (λ chunk. chunk) (earlier ++ last ∷ [])

abbrev pub all_lengths : List (List Slot) → List Slot → List ℕ
all_lengths earlier last = map length (earlier ++ last ∷ [])

all_slots_is : (earlier : List (List Slot)) (last : List Slot) → all_slots earlier last ≡ flat_map (λ chunk. chunk) earlier ++ last
all_slots_is earlier last = flat_map-append (λ chunk. chunk) earlier (last ∷ []) ∙ ap (λ ss. flat_map (λ chunk. chunk) earlier ++ ss) (append-nil last)

slots_pushed : (earlier : List (List Slot)) (last new : List Slot) (s : Slot) → new ≡ last ++ s ∷ [] → all_slots earlier new ≡ all_slots earlier last ++ s ∷ []
slots_pushed earlier last new s e =
    all_slots_is earlier new ∙ ap (λ ss. flat_map (λ chunk. chunk) earlier ++ ss) e ∙ sym (append_assoc (flat_map (λ chunk. chunk) earlier) last (s ∷ []))
    ∙ ap (λ ss. ss ++ s ∷ []) (sym (all_slots_is earlier last))

lengths_is : (earlier : List (List Slot)) (last : List Slot) → all_lengths earlier last ≡ map length earlier ++ length last ∷ []
lengths_is [] last = refl
lengths_is (e ∷ es) last = ap (λ ns. length e ∷ ns) (lengths_is es last)

lengths_pushed : (earlier : List (List Slot)) (last new : List Slot) (s : Slot) → new ≡ last ++ s ∷ [] → all_lengths earlier new ≡ longer_last (all_lengths earlier last)
lengths_pushed earlier last new s e =
    lengths_is earlier new ∙ ap (λ n. map length earlier ++ n ∷ []) (ap length e ∙ length_push last s)
    ∙ sym (ap longer_last (lengths_is earlier last) ∙ longer_last-append (map length earlier) (length last))

-- the column with its last chunk longer by one slot
pub view_pushed : (name : List ℕ) (dtype : ColumnType) (sorted : SortedFlag) (earlier : List (List Slot)) (last new : List Slot) (s : Slot) → new ≡ last ++ s ∷ [] →
    ◌≡◌ {A = ColumnValue} (record { name = name; dtype = dtype; slots = all_slots earlier new; chunks = all_lengths earlier new; sorted = NotSorted; all_used = false })
    (pushed (record { name = name; dtype = dtype; slots = all_slots earlier last; chunks = all_lengths earlier last; sorted = sorted; all_used = false }) s)
view_pushed name dtype sorted earlier last new s e =
    ap (λ ss. record { name = name; dtype = dtype; slots = ss; chunks = all_lengths earlier new; sorted = NotSorted; all_used = false }) (slots_pushed earlier last new s e)
    ∙ ap (λ ns. record { name = name; dtype = dtype; slots = all_slots earlier last ++ s ∷ []; chunks = ns; sorted = NotSorted; all_used = false }) (lengths_pushed earlier last new s e)

-- the same for a slot that may be missing
pub view_taken : (name : List ℕ) (dtype : ColumnType) (sorted : SortedFlag) (earlier : List (List Slot)) (last new : List Slot) (v : Option Slot) → Some new ≡ option_map (λ s. last ++ s ∷ []) v →
    ◌≡◌ {A = Option ColumnValue} (Some (record { name = name; dtype = dtype; slots = all_slots earlier new; chunks = all_lengths earlier new; sorted = NotSorted; all_used = false }))
    (option_map (pushed (record { name = name; dtype = dtype; slots = all_slots earlier last; chunks = all_lengths earlier last; sorted = sorted; all_used = false })) v)
view_taken name dtype sorted earlier last new None e = cc
view_taken name dtype sorted earlier last new (Some s) e =
    let more : new ≡ last ++ s ∷ [] = cc in ap (λ c. Some c) (view_pushed name dtype sorted earlier last new s more)

-- a column of one chunk
pub view_one : (name : List ℕ) (dtype : ColumnType) (last : List Slot) (ss : List Slot) → last ≡ ss →
    ◌≡◌ {A = ColumnValue} (record { name = name; dtype = dtype; slots = all_slots [] last; chunks = all_lengths [] last; sorted = NotSorted; all_used = false }) (fresh_column name dtype ss)
view_one name dtype last ss e = rw (append-nil last, e)

pub fresh_alike : {n m : List ℕ} {t u : ColumnType} {xs ys : List Slot} → n ≡ m → t ≡ u → xs ≡ ys → fresh_column n t xs ≡ fresh_column m u ys
fresh_alike {n} {m} {t} {u} {xs} {ys} names types slots =
    ap (λ k. fresh_column k t xs) names ∙ ap (λ k. fresh_column m k xs) types ∙ ap (λ k. fresh_column m u k) slots

-- ---- the place of a row, from the i-th chunk on

abbrev pub from_chunk : List (List Slot) → List Slot → ℕ → List Slot
from_chunk earlier last i = all_slots (drop i earlier) last

-- ---- the chunks before the i-th

abbrev pub front_slots : List (List Slot) → ℕ → List Slot
front_slots earlier i = flat_map (λ chunk. chunk) (take i earlier)

pub front_more : (earlier : List (List Slot)) (a : List Slot) (i : ℕ) → i < length earlier → a ≡ get_or earlier i a → front_slots earlier (i + 1) ≡ front_slots earlier i ++ a
front_more earlier a i lt read =
    ap (flat_map (λ chunk. chunk)) (take_more earlier i a lt) ∙ flat_map-append (λ chunk. chunk) (take i earlier) (get_or earlier i a ∷ [])
    ∙ ap (λ b. front_slots earlier i ++ (b ++ [])) (sym read) ∙ ap (λ ss. front_slots earlier i ++ ss) (append-nil a)

pub front_all : (earlier : List (List Slot)) (last : List Slot) (i : ℕ) → length earlier ≤ i → front_slots earlier i ++ last ≡ all_slots earlier last
front_all earlier last i le = ap (λ es. flat_map (λ chunk. chunk) es ++ last) (take_all i earlier le) ∙ sym (all_slots_is earlier last)

-- a chunk, what is before it, and what is behind it
pub slots_around : (earlier : List (List Slot)) (last a : List Slot) (i : ℕ) → i < length earlier → a ≡ get_or earlier i a → all_slots earlier last ≡ front_slots earlier i ++ (a ++ from_chunk earlier last (i + 1))
slots_around earlier last a i lt read =
    ap (λ es. all_slots es last) (sym (take-append-drop i earlier))
    ∙ ap (flat_map (λ chunk. chunk)) (append_assoc (take i earlier) (drop i earlier) (last ∷ []))
    ∙ flat_map-append (λ chunk. chunk) (take i earlier) (drop i earlier ++ last ∷ [])
    ∙ ap (λ es. front_slots earlier i ++ flat_map (λ chunk. chunk) (es ++ last ∷ [])) (drop_more earlier i a lt)
    ∙ ap (λ b. front_slots earlier i ++ (b ++ from_chunk earlier last (i + 1))) (sym read)

-- ---- lengths

abbrev pub before_chunk : List (List Slot) → ℕ → ℕ
before_chunk earlier i = length (front_slots earlier i)

pub before_more : (earlier : List (List Slot)) (a : List Slot) (i : ℕ) → i < length earlier → a ≡ get_or earlier i a → before_chunk earlier (i + 1) ≡ before_chunk earlier i + length a
before_more earlier a i lt read = ap length (front_more earlier a i lt read) ∙ length-append (front_slots earlier i) a

pub before_few : (earlier : List (List Slot)) (last : List Slot) (i : ℕ) → before_chunk earlier i + length last ≤ length (all_slots earlier last)
before_few earlier last i =
    let parts : length (flat_map (λ chunk. chunk) (take i earlier) ++ flat_map (λ chunk. chunk) (drop i earlier)) ≡ length (flat_map (λ chunk. chunk) earlier) =
    ap length (sym (flat_map-append (λ chunk. chunk) (take i earlier) (drop i earlier)) ∙ ap (flat_map (λ chunk. chunk)) (take-append-drop i earlier)) in
    omega (arith, parts, length-append (flat_map (λ chunk. chunk) (take i earlier)) (flat_map (λ chunk. chunk) (drop i earlier)), ap length (all_slots_is earlier last), length-append (flat_map (λ chunk. chunk) earlier) last)

pub before_all : (earlier : List (List Slot)) (last : List Slot) (i : ℕ) → length earlier ≤ i → before_chunk earlier i + length last ≡ length (all_slots earlier last)
before_all earlier last i le = sym (length-append (front_slots earlier i) last) ∙ ap length (front_all earlier last i le)

pub lengths_sum : (earlier : List (List Slot)) (last : List Slot) → sum (all_lengths earlier last) ≡ length (all_slots earlier last)
lengths_sum earlier last = sum-map length (earlier ++ last ∷ []) ∙ sym (length-flat_map (λ chunk. chunk) (earlier ++ last ∷ []))

-- ---- what holds of each slot

pub each_more : (P : Slot → Type 0) (earlier : List (List Slot)) (a : List Slot) (i : ℕ) → i < length earlier → a ≡ get_or earlier i a → All P (front_slots earlier i) → All P a → All P (front_slots earlier (i + 1))
each_more P earlier a i lt read front here =
    subst (λ (ss : List Slot). All P ss) (sym (front_more earlier a i lt read)) (All-append P (front_slots earlier i) a front here)

pub each_all : (P : Slot → Type 0) (earlier : List (List Slot)) (last : List Slot) (i : ℕ) → length earlier ≤ i → All P (front_slots earlier i) → All P last → All P (all_slots earlier last)
each_all P earlier last i le front here =
    subst (λ (ss : List Slot). All P ss) (front_all earlier last i le) (All-append P (front_slots earlier i) last front here)

-- what holds of all slots holds of those of one chunk
pub each_one : (P : Slot → Type 0) (earlier : List (List Slot)) (last a : List Slot) (i : ℕ) → i < length earlier → a ≡ get_or earlier i a → All P (all_slots earlier last) → All P a
each_one P earlier last a i lt read all =
    let front = front_slots earlier i in
    let rest = from_chunk earlier last (i + 1) in
    let around = subst (λ (ss : List Slot). All P ss) (slots_around earlier last a i lt read) all in
    λ k d inside.
    subst (λ (s : Slot). P s) (get_or-append-add front (a ++ rest) k d ∙ get_or_append_left a rest d k inside)
    (around (length front + k) d (omega (arith, inside, length-append front (a ++ rest), length-append a rest)))

pub each_last : (P : Slot → Type 0) (earlier : List (List Slot)) (last : List Slot) → All P (all_slots earlier last) → All P last
each_last P earlier last all =
    let front = flat_map (λ chunk. chunk) earlier in
    let whole = subst (λ (ss : List Slot). All P ss) (all_slots_is earlier last) all in
    λ k d inside. subst (λ (s : Slot). P s) (get_or-append-add front last k d) (whole (length front + k) d (omega (arith, inside, length-append front last)))

-- ---- nulls

abbrev pub nulls_before : List (List Slot) → ℕ → ℕ
nulls_before earlier i = count_by is_nil (front_slots earlier i)

nulls_append : (xs ys : List Slot) → count_by is_nil (xs ++ ys) ≡ count_by is_nil xs + count_by is_nil ys
nulls_append xs ys = sum_by-append (λ x. cond (is_nil x) 1 0) xs ys

pub nulls_more : (earlier : List (List Slot)) (a : List Slot) (i : ℕ) → i < length earlier → a ≡ get_or earlier i a → nulls_before earlier (i + 1) ≡ nulls_before earlier i + count_by is_nil a
nulls_more earlier a i lt read = ap (count_by is_nil) (front_more earlier a i lt read) ∙ nulls_append (front_slots earlier i) a

pub nulls_few : (earlier : List (List Slot)) (last : List Slot) (i : ℕ) → nulls_before earlier i + count_by is_nil last ≤ length (all_slots earlier last)
nulls_few earlier last i =
    omega (arith, before_few earlier last i, count_by-le-length is_nil (front_slots earlier i), count_by-le-length is_nil last)

pub nulls_all : (earlier : List (List Slot)) (last : List Slot) (i : ℕ) → length earlier ≤ i → nulls_before earlier i + count_by is_nil last ≡ count_by is_nil (all_slots earlier last)
nulls_all earlier last i le = sym (nulls_append (front_slots earlier i) last) ∙ ap (count_by is_nil) (front_all earlier last i le)
