-- Items that are taken from first rows and row lists, one at a time.
use Rattle.std.proofs.Common.{◌≡◌, ℕ, ◌+◌, ◌<◌, ◌≤◌, List, [], ◌∷◌, ◌++◌, length, get_or, take, drop, map, zip, refl, sym, ◌∙◌, ap, arith}
use Rattle.std.proofs.lemmas.List.{take_more, take_all, map-append, length-map, get_or-map, get_or-drop}
use Rattle.std.proofs.lemmas.Slice.Zip.{length-zip, get_or-zip}
use Rattle.smallvec.specs.SmallVec.{SmallVec}
use Rattle.gb_groups.specs.Groups.{lists_of, owned_pair, pairs_of}

-- what is left of a list is as it was
pub left_at : {X : Type 0} (now old : List X) (n : ℕ) (d : X) → drop n now ≡ drop n old → get_or now n d ≡ get_or old n d
left_at now old n d same =
    let here : n + 0 ≡ n = omega arith in
    rw here at (sym (get_or-drop n now 0 d) ∙ ap (λ rest. get_or rest 0 d) same ∙ get_or-drop n old 0 d)

module _ (first : List ℕ) (old : List (SmallVec ℕ)) (long : length first ≡ length old) where
  pub taken_more : (items : List (ℕ × SmallVec ℕ)) (n row : ℕ) (rows d : SmallVec ℕ) → n < length old → pairs_of items ≡ take n (zip first (lists_of old)) → row ≡ get_or first n row → rows ≡ get_or old n d → pairs_of (items ++ (row, rows) ∷ []) ≡ take (n + 1) (zip first (lists_of old))
  taken_more items n row rows d lt so_far row_is rows_is =
      let lists = lists_of old in
      let in_lists : n < length lists = omega (arith, lt, length-map old (λ (r : SmallVec ℕ). r.items)) in
      let in_first : n < length first = omega (arith, lt, long) in
      let in_zip : n < length (zip first lists) = omega (arith, length-zip first lists, in_lists, in_first) in
      let left : get_or first n row ≡ row = sym row_is in
      let right : get_or lists n rows.items ≡ rows.items = get_or-map (λ (r : SmallVec ℕ). r.items) old n d rows.items lt ∙ ap (λ (r : SmallVec ℕ). r.items) (sym rows_is) in
      let pair : get_or (zip first lists) n (row, rows.items) ≡ (row, rows.items) = rw (get_or-zip first lists n (row, rows.items) in_first in_lists, left, right) in
      map-append owned_pair items ((row, rows) ∷ []) ∙ rw (so_far, take_more (zip first lists) n (row, rows.items) in_zip, pair)

  pub taken_all : (n : ℕ) → length old ≤ n → take n (zip first (lists_of old)) ≡ zip first (lists_of old)
  taken_all n all = take_all n (zip first (lists_of old)) (omega (arith, length-zip first (lists_of old), long, all))

-- first rows and row lists apart are the items
pub apart : (items : List (ℕ × SmallVec ℕ)) → zip (map (λ (item : ℕ × SmallVec ℕ). item.0) items) (lists_of (map (λ (item : ℕ × SmallVec ℕ). item.1) items)) ≡ pairs_of items
apart [] = refl
apart (item ∷ items) = ap (λ pairs. owned_pair item ∷ pairs) (apart items)

-- items that are put into vectors that were empty
pub put_into : (items : List (ℕ × SmallVec ℕ)) (first first' : List ℕ) (all all' : List (SmallVec ℕ)) → first ≡ [] → all ≡ [] → first' ≡ first ++ map (λ (item : ℕ × SmallVec ℕ). item.0) items → all' ≡ all ++ map (λ (item : ℕ × SmallVec ℕ). item.1) items → zip first' (lists_of all') ≡ pairs_of items
put_into items first first' all all' none none_all rows lists = rw (rows, lists, none, none_all) (apart items)
