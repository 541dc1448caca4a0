-- Rows of a list by their places in it.
use Rattle.std.proofs.Common.{◌≡◌, ◌∙◌, ℕ, ◌+◌, ◌<◌, List, [], ◌∷◌, ◌++◌, All, ap, ap₂, arith, get_or, length, map, refl, sym, take}
use Rattle.std.specs.List.Sorted.{IsStrictlyIncreasing}
use Rattle.std.proofs.lemmas.List.{get_or-map, get_or_default, length-map, map-append, take_more}
use Rattle.std.proofs.lemmas.List.Elements.{recursion_from_All}
use Rattle.gb_defs.specs.Classes.{firsts, rows_below}
use Rattle.gb_defs.specs.Groups.{AreMembers}
use Rattle.gb_defs.specs.Rows.{AreHashes, Rows, same_slot_at}
use Rattle.gb_defs.specs.Slot.{Nil, Slot}
use Rattle.gb_defs.proofs.ClassesLemmas.{firsts_below, map_agree_on}
use Rattle.gb_paths.specs.Gathered.{gathered}
use Rattle.gb_paths.specs.Numbering.{AreNumbersAmong, AreNumbersOf}
use Rattle.gb_paths.specs.declared.row_numbers.RowNumbers.{RowNumbers}
use Rattle.gb_paths.proofs.HashLemmas.{hash_of_row}
use Rattle.gb_paths.proofs.PlaceLemmas.{places_numbered}

-- what stands for one member more
pub read_more : {K B : Type 0} (f : K → B) (g : ℕ → B) (members : List ℕ) (place : ℕ) (keys after : List K) (key : K) → place < length members → after ≡ keys ++ key ∷ [] →
    map f keys ≡ map g (take place members) → f key ≡ g (get_or members place 0) → map f after ≡ map g (take (place + 1) members)
read_more {B = B} f g members place keys after key lt longer so_far here =
    ap (map f) longer ∙ map-append f keys (key ∷ []) ∙ ap₂ (λ (xs : List B) (b : B). xs ++ b ∷ []) so_far here
    ∙ sym (ap (map g) (take_more members place 0 lt) ∙ map-append g (take place members) (get_or members place 0 ∷ []))

-- what is read of the hashes of all rows is the hash of each
pub hashes_read : (rows : Rows) (hashes members : List ℕ) → AreHashes rows 0 hashes → AreMembers (length hashes) members → map (λ row. get_or hashes row 0) members ≡ map rows.hash members
hashes_read rows hashes members are inside =
    map_agree_on (λ row. get_or hashes row 0) rows.hash members
    (recursion_from_All (λ row. get_or hashes row 0 ≡ rows.hash row) members (λ k d lt. hash_of_row rows hashes (get_or members k d) _ are (inside.below k d lt) refl))

module _ (rows : Rows) (members : List ℕ) (places : RowNumbers) (are : AreNumbersAmong (gathered rows members) (rows_below (length members)) places) where
  pub places_low : All (λ place. place < length members) places.first.items
  places_low k d lt =
      let agree = same_slot_at (gathered rows members).slot in
      let is = are.first_is in
      let inside : k < length (firsts agree (rows_below (length members))) = rw is at lt in
      let low = firsts_below agree (length members) k inside in
      rw (get_or_default places.first.items k d 0 lt) (omega (arith, ap (λ fs. get_or fs k 0) is, low))

  -- the numbers of places are those of the rows that stand there
  pub rows_numbered : IsStrictlyIncreasing members → AreNumbersOf (same_slot_at rows.slot) members (map (λ place. get_or members place 0) places.first.items) places.of_rows.items
  rows_numbered up = places_numbered (same_slot_at rows.slot) members up places.first.items places.of_rows.items are

-- a key at a place stands for the slot of the row there
pub key_there : {K : Type 0} (key_slot : K → Slot) (slot : ℕ → Slot) (keys : List K) (members : List ℕ) (i : ℕ) (key : K) → map key_slot keys ≡ map slot members → i < length members → key ≡ get_or keys i key → key_slot key ≡ slot (get_or members i 0)
key_there key_slot slot keys members i key keyed lt is =
    let long : length keys ≡ length members = sym (length-map keys key_slot) ∙ ap length keyed ∙ length-map members slot in
    ap key_slot is ∙ sym (get_or-map key_slot keys i key Nil (omega (arith, lt, long))) ∙ ap (λ ss. get_or ss i Nil) keyed ∙ get_or-map slot members i 0 Nil lt
