-- Keys that are stretched to the height of what is grouped, and the answer by them.
use Rattle.std.proofs.Common.{◌≡◌, ◌==◌, ℕ, ◌<◌, ◌≤◌, Bool, true, inl, inr, List, [], ◌∷◌, ◌++◌, Option, Some, None, Ok, All, length, map, refl, sym, ◌∙◌, ap, ap₂, subst, arith, eq-eqb}
use Rattle.std.specs.List.{AllByRecursion}
use Rattle.std.specs.Option.{option_or}
use Rattle.std.proofs.lemmas.Bool.{cases_Bool, eqb-true}
use Rattle.std.proofs.lemmas.List.{length-map, length-replicate}
use Rattle.std.proofs.lemmas.List.Elements.{All-from_recursion, All-map}
use Rattle.gb_base.specs.declared.pool.Pool.{Pool}
use Rattle.gb_defs.specs.Answer.{agree_of, aggregated, answer, answer_name, answer_names, height_of, kept_rows, key_at, stretched_key}
use Rattle.gb_defs.specs.Classes.{agree_by, class, firsts, rows_below, stretched}
use Rattle.gb_defs.specs.Column.{ColumnValue, Content, Frame, IsFrame, all_have_length, content, find_column, first_repeated, frame_height, taken}
use Rattle.gb_defs.specs.Fault.{Fault, duplicate_of, fault, keyless_fault, missing_fault, rows_fault, shape_fault, unfit_fault}
use Rattle.gb_defs.specs.Fold.{Method}
use Rattle.gb_defs.specs.Groups.{AreMembers, Grouping, HasRowNumbers, IsWellFormed, first_of, lists_in, rows_of_pair}
use Rattle.gb_defs.specs.Notes.{Trace, trace_of}
use Rattle.gb_defs.specs.Outcome.{grouped_by}
use Rattle.gb_defs.specs.Slot.{Slot, slot_at}
use Rattle.gb_defs.proofs.AnswerLemmas.{AreHigh, groups_firsts}
use Rattle.gb_paths.specs.Tuples.{AreClasses, slots_of}
use Rattle.gb_rows.specs.Rows.{AreOfOneLength}
use Rattle.gb_frame.specs.Answers.{IsAnswerOver, IsTracedAnswer}
use Rattle.gb_frame.specs.Grouping.{HasHeight, HasRows, IsGrouping, firsts_in, height_in}
use Rattle.gb_frame.specs.Key.{stretched_keys}
use Rattle.gb_frame.specs.Refusals.{aggs_fault, keys_fault}
use Rattle.gb_frame.specs.declared.options.GroupOptions.{GroupOptions}

stretched_long : (height : ℕ) (key : List Slot) → length (stretched height key) ≡ height
stretched_long height key = elim (cases_Bool (length key == height)) [
  | inl e ↦ rw e (eqb-true (length key) height e)
  | inr e ↦ rw e (length-replicate height (slot_at key 0))
]

-- a key of the height is as it was
same_key : (height : ℕ) (key : ColumnValue) → length key.slots ≡ height → stretched_key height key ≡ key
same_key height key e = rw (eq-eqb (length key.slots) height e) refl

module _ (height : ℕ) where
  stretched_high : (keys : Frame) → AreHigh height (map (stretched_key height) keys)
  stretched_high [] = tt
  stretched_high (key ∷ keys) = (stretched_long height key.slots, stretched_high keys)

  same_keys : (keys : Frame) → AreHigh height keys → map (stretched_key height) keys ≡ keys
  same_keys [] high = refl
  same_keys (key ∷ keys) high = ap₂ (λ (k : ColumnValue) (ks : Frame). k ∷ ks) (same_key height key high.0) (same_keys keys high.1)

  slots_stretched : (keys : Frame) → map (λ key. (stretched_key height key).slots) keys ≡ map (λ key. key.slots) (map (stretched_key height) keys)
  slots_stretched [] = refl
  slots_stretched (key ∷ keys) = ap (λ ss. (stretched_key height key).slots ∷ ss) (slots_stretched keys)

  keys_taken : (rows : List ℕ) (keys : Frame) → map (key_at height rows) keys ≡ map (λ key. content (taken rows key)) (map (stretched_key height) keys)
  keys_taken rows [] = refl
  keys_taken rows (key ∷ keys) = ap (λ cs. key_at height rows key ∷ cs) (keys_taken rows keys)

  names_stretched : (keys : Frame) → map (λ key. key.name) keys ≡ map (λ key. key.name) (map (stretched_key height) keys)
  names_stretched [] = refl
  names_stretched (key ∷ keys) = ap (λ ns. key.name ∷ ns) (names_stretched keys)

module _ (frame keys : Frame) where
  pub keys_high : AreHigh (height_of frame keys) (stretched_keys frame keys)
  keys_high = stretched_high (height_of frame keys) keys

  pub keys_same : AreHigh (height_of frame keys) keys → stretched_keys frame keys ≡ keys
  keys_same high = same_keys (height_of frame keys) keys high

  pub keys_agree : agree_of frame keys ≡ agree_by (map (λ key. key.slots) (stretched_keys frame keys))
  keys_agree = ap agree_by (slots_stretched (height_of frame keys) keys)

  pub keys_named : (aggs : List (List ℕ × Method)) → answer_names keys aggs ≡ answer_names (stretched_keys frame keys) aggs
  keys_named aggs = ap (λ ns. ns ++ map (λ agg. answer_name agg.0 agg.1) aggs) (names_stretched (height_of frame keys) keys)

-- ---- the lists of classes

module _ (agree : ℕ → ℕ → Bool) (n : ℕ) where
  marked_lists : (is : List ℕ) → map rows_of_pair (map (λ i. (i, class agree (rows_below n) i)) is) ≡ map (class agree (rows_below n)) is
  marked_lists [] = refl
  marked_lists (i ∷ is) = ap (λ ls. class agree (rows_below n) i ∷ ls) (marked_lists is)

  pub lists_of_classes : (pairs : List (ℕ × List ℕ)) → AreClasses agree n pairs → map rows_of_pair pairs ≡ map (class agree (rows_below n)) (map first_of pairs)
  lists_of_classes pairs are = ap (map rows_of_pair) are.classes ∙ marked_lists (map first_of pairs)

-- the answer over groups that are the classes by the keys
module _ (frame keys : Frame) (aggs : List (List ℕ × Method)) (g : Grouping) (are : AreClasses (agree_by (map (λ key. key.slots) (stretched_keys frame keys))) (height_of frame keys) g.pairs) where
  pub answer_over : answer frame keys aggs (map first_of g.pairs)
      ≡ map (λ key. content (taken (map first_of g.pairs) key)) (stretched_keys frame keys) ++ map (λ agg. aggregated agg (find_column frame agg.0) (lists_in g)) aggs
  unfolding answer
  answer_over =
      let rows = map first_of g.pairs in
      let lists : map (class (agree_of frame keys) (kept_rows frame keys)) rows ≡ lists_in g =
      ap (λ agree. map (class agree (kept_rows frame keys)) rows) (keys_agree frame keys)
      ∙ sym (lists_of_classes (agree_by (map (λ key. key.slots) (stretched_keys frame keys))) (height_of frame keys) g.pairs are) in
      ap₂ (λ (ks : List Content) (ls : List (List ℕ)). ks ++ map (λ agg. aggregated agg (find_column frame agg.0) ls) aggs) (keys_taken (height_of frame keys) rows keys) lists

-- ---- heights

-- the keys are of one length where each is so long
pub aligned_high : (height : ℕ) (keys : Frame) → AreHigh height keys → all_have_length height keys ≡ true
aligned_high height [] high = refl
aligned_high height (key ∷ keys) high = rw (eq-eqb (length key.slots) height high.0) (aligned_high height keys high.1)

high_aligned : (height : ℕ) (keys : Frame) → all_have_length height keys ≡ true → AreHigh height keys
high_aligned height [] e = tt
high_aligned height (key ∷ keys) e = elim (cases_Bool (length key.slots == height)) [
  | inl long ↦ (eqb-true (length key.slots) height long, high_aligned height keys (rw long at e))
  | inr short ↦ cc (rw short at e)
]

pub first_high : (height : ℕ) (keys : Frame) → AreHigh height keys → 0 < length keys → frame_height keys ≡ height
first_high height [] high some = absurd (omega (arith, some))
first_high height (key ∷ keys) high some = high.0

pub has_height : (frame keys : Frame) → HasHeight frame (height_of frame keys)
has_height [] keys = tt
has_height (c ∷ cs) keys = refl

module _ (frame keys : Frame) (some : 0 < length keys) where
  pub some_stretched : 0 < length (stretched_keys frame keys)
  some_stretched = omega (arith, some, length-map keys (stretched_key (height_of frame keys)))

  pub stretched_height : frame_height (stretched_keys frame keys) ≡ height_of frame keys
  stretched_height = first_high (height_of frame keys) (stretched_keys frame keys) (keys_high frame keys) some_stretched

  pub stretched_aligned : AreOfOneLength (stretched_keys frame keys)
  stretched_aligned = rw stretched_height (aligned_high (height_of frame keys) (stretched_keys frame keys) (keys_high frame keys))

-- ---- groups by keys of one length

has_rows : (n : ℕ) (rows : List ℕ) → All (λ row. row < n) rows → (keys : Frame) → AreHigh n keys → AllByRecursion (HasRows rows) keys
has_rows n rows below [] high = tt
has_rows n rows below (key ∷ keys) high = (rw high.0 below, has_rows n rows below keys high.1)

-- rows below a height are below every height above it
wider : (n m : ℕ) → n ≤ m → (rows : List ℕ) → AreMembers n rows → AreMembers m rows
wider n m le rows are = record { below = λ k d lt. omega (arith, are.below k d lt, le); ascend = are.ascend }

height_fits : (frame : Frame) (n : ℕ) → HasHeight frame n → HasRowNumbers n → n ≤ height_in frame
height_fits [] n high short = omega (arith, short)
height_fits (c ∷ cs) n high short = let same : length c.slots ≡ n = high in omega (arith, same)

height_short : (frame : Frame) (n : ℕ) → HasHeight frame n → HasRowNumbers n → HasRowNumbers (height_in frame)
height_short [] n high short = omega arith
height_short (c ∷ cs) n high short = let same : length c.slots ≡ n = high in subst HasRowNumbers (sym same) short

pub keys_grouped : (frame keys : Frame) (g : Grouping) → IsFrame frame → 0 < length keys → AreOfOneLength keys → HasHeight frame (frame_height keys) → HasRowNumbers (frame_height keys)
    → length g.pairs ≤ frame_height keys → IsWellFormed (frame_height keys) g.pairs → IsGrouping frame keys g
keys_grouped frame keys g whole some aligned high short few formed =
    let n = frame_height keys in
    let below = All-map (λ row. row < n) first_of g.pairs (λ k d lt. (formed.fit k d lt).first) in
    record {
      within = record {
        whole = whole;
        short = height_short frame n high short;
        rows = All-map (AreMembers (height_in frame)) rows_of_pair g.pairs (λ k d lt. wider n (height_in frame) (height_fits frame n high short) _ (formed.fit k d lt).members);
        few = omega (arith, short, few);
      };
      some = some;
      firsts = All-from_recursion (HasRows (firsts_in g)) keys (has_rows n (firsts_in g) below keys (high_aligned n keys aligned));
    }

-- ---- refusals

or_assoc : (a b c : Option Fault) → option_or a (option_or b c) ≡ option_or (option_or a b) c
or_assoc None b c = refl
or_assoc (Some f) b c = refl

module _ (frame keys : Frame) (aggs : List (List ℕ × Method)) where
  -- the keys are refused before the aggregates are
  pub fault_parts : fault frame keys aggs ≡ option_or (keys_fault frame keys) (aggs_fault frame keys aggs)
  unfolding fault
  fault_parts =
      let height = height_of frame keys in
      ap (option_or (keyless_fault keys)) (or_assoc (shape_fault height keys) (rows_fault height) (aggs_fault frame keys aggs))
      ∙ or_assoc (keyless_fault keys) (option_or (shape_fault height keys) (rows_fault height)) (aggs_fault frame keys aggs)

  pub fault_after : keys_fault frame keys ≡ None → aggs_fault frame (stretched_keys frame keys) aggs ≡ fault frame keys aggs
  fault_after none =
      ap (λ names. option_or (missing_fault frame aggs) (option_or (unfit_fault frame aggs) (duplicate_of (first_repeated names)))) (sym (keys_named frame keys aggs))
      ∙ sym (fault_parts ∙ ap (λ f. option_or f (aggs_fault frame keys aggs)) none)

-- ---- the answer by keys

module _ (frame keys : Frame) (is_frame : IsFrame frame) (some : 0 < length keys) (aggs : List (List ℕ × Method)) (options : GroupOptions) (pool : Pool) (made : List Content) (trace : Trace)
    (over : IsAnswerOver frame (stretched_keys frame keys) aggs options pool made trace) where
  abbrev height : ℕ
  height = height_of frame keys

  abbrev agree : ℕ → ℕ → Bool
  agree = agree_by (slots_of (stretched_keys frame keys))

  classes : AreClasses agree height over.groups.pairs
  classes = subst (λ n. AreClasses agree n over.groups.pairs) (stretched_height frame keys some) over.whole

  by_first : options.sorted ≡ true → firsts_in over.groups ≡ firsts (agree_of frame keys) (kept_rows frame keys)
  by_first sorted =
      ap (map first_of) (over.by_first sorted)
      ∙ groups_firsts agree (rows_below (frame_height (stretched_keys frame keys)))
      ∙ ap (λ n. firsts agree (rows_below n)) (stretched_height frame keys some)
      ∙ ap (λ a. firsts a (kept_rows frame keys)) (sym (keys_agree frame keys))

  answered : made ≡ answer frame keys aggs (firsts_in over.groups)
  answered = over.is ∙ sym (answer_over frame keys aggs over.groups classes)

  pub answer_traced : IsTracedAnswer frame keys aggs options pool made trace
  answer_traced = record {
    frame_is = is_frame;
    answer = record {
      groups = over.groups;
      path = over.path;
      found = over.found;
      whole = subst (λ a. AreClasses a height over.groups.pairs) (sym (keys_agree frame keys)) classes;
      by_first = by_first;
      is = answered;
    };
    traced = over.traced ∙ ap (λ n. trace_of over.path n (length over.groups.pairs)) (stretched_height frame keys some);
  }

  pub answer_sorted : fault frame keys aggs ≡ None → options.sorted ≡ true → grouped_by frame keys aggs ≡ Ok made
  unfolding grouped_by
  answer_sorted none sorted = rw none (ap (λ cs. Ok cs) (sym (answered ∙ ap (answer frame keys aggs) (by_first sorted))))
