-- The search for a key in a table of groups.
use Rattle.std.proofs.Common.{◌≡◌, ℕ, ◌+◌, ◌<◌, Bool, true, false, List, [], ◌∷◌, ◌++◌, length, get_or, sym, ◌∙◌, ap, subst, arith, IsTrue, slice_index, slice_index_or}
use Rattle.std.proofs.lemmas.List.{get_or-map, get_or_default, length-map, map-append}
use Rattle.std.proofs.lemmas.Bool.{false_from_ne_true}
use Rattle.gb_table.specs.declared.group_table.Entry.{Entry}
use Rattle.gb_table.specs.Table.{held_at, IsTable, IsKnown, IsAdded}
use Rattle.gb_table.specs.Entry.{hashes_of, pairs_of}
use Rattle.gb_table.proofs.SearchLemmas.{IsPast, absent}

-- an entry that was read, at another default
pub read_entry : {K : Type 0} (entries : List (Entry K)) (number : ℕ) (entry e : Entry K) → number < length entries → entry ≡ get_or entries number entry → get_or entries number e ≡ entry
read_entry entries number entry e lt read = get_or_default entries number e entry lt ∙ sym read

module _ {K : Type 0} (eq : K → K → Bool) (slots : List ℕ) (entries : List (Entry K)) (hash : ℕ) (key : K) where
  -- the entry of a number has the key
  abbrev pub HasKey : ℕ → Type 0
  HasKey g = (d : Entry K) → eq (slice_index_or entries g d).key key ≡ true

  -- at a free slot no entry with the key is left
  pub key_absent : (n : ℕ) → IsTable slots (hashes_of entries) →
      ((g : ℕ) (d : Entry K) → g < length entries → IsTrue (eq (slice_index_or entries g d).key key) → (slice_index_or entries g d).hash ≡ hash) →
      IsPast slots hash HasKey n → held_at slots (hash + n) ≡ 0 → (g : ℕ) (d : Entry K) → g < length entries → eq (slice_index_or entries g d).key key ≡ false
  key_absent n table alike past free g d lt = false_from_ne_true _ (λ same.
      let hashed : (g' : ℕ) → g' < length (hashes_of entries) → HasKey g' → slice_index (hashes_of entries) g' ≡ hash = λ g' lt' that.
      let inside : g' < length entries = omega (arith, length-map entries (λ (e : Entry K). e.hash)) in
      get_or-map (λ (e : Entry K). e.hash) entries g' d 0 inside ∙ alike g' d inside (that d) in
      let in_hashes : g < length (hashes_of entries) = omega (arith, length-map entries (λ (e : Entry K). e.hash)) in
      absent slots hash HasKey (hashes_of entries) n table hashed past free g in_hashes (λ e. ap (λ (x : Entry K). eq x.key key) (get_or_default entries g e d lt) ∙ same))

-- ---- entries as pairs

module _ {K : Type 0} (eq : K → K → Bool) (key : K) (hash : ℕ) (entries : List (Entry K)) (old : List (K × ℕ)) (view : pairs_of entries ≡ old) where
  long : length old ≡ length entries
  long = ap length (sym view) ∙ length-map entries (λ (e : Entry K). (e.key, e.hash))

  pair_at : (g : ℕ) (d : Entry K) (p : K × ℕ) → g < length entries → slice_index_or old g p ≡ ((slice_index_or entries g d).key, (slice_index_or entries g d).hash)
  pair_at g d p lt = ap (λ ps. get_or ps g p) (sym view) ∙ get_or-map (λ (e : Entry K). (e.key, e.hash)) entries g d p lt

  pub entries_alike : ((g : ℕ) (d : K × ℕ) → g < length old → IsTrue (eq (slice_index_or old g d).0 key) → (slice_index_or old g d).1 ≡ hash) →
      (g : ℕ) (d : Entry K) → g < length entries → IsTrue (eq (slice_index_or entries g d).key key) → (slice_index_or entries g d).hash ≡ hash
  entries_alike alike g d lt same =
      let p : K × ℕ = (d.key, d.hash) in
      let read = pair_at g d p lt in
      let inside : g < length old = omega (arith, long) in
      let agrees : IsTrue (eq (slice_index_or old g p).0 key) = subst (λ (q : K × ℕ). IsTrue (eq q.0 key)) (sym read) same in
      sym (ap (λ (q : K × ℕ). q.1) read) ∙ alike g p inside agrees

  pub known_pair : (number : ℕ) → number < length entries → ((d : Entry K) → eq (slice_index_or entries number d).key key ≡ true) → IsKnown eq old (pairs_of entries) key number
  known_pair number lt same = record {
    known = omega (arith, long);
    same = λ p. let d : Entry K = record { key = p.0; hash = p.1 } in ap (λ (q : K × ℕ). eq q.0 key) (pair_at number d p lt) ∙ same d;
    unchanged = view;
  }

  pub added_pair : (number : ℕ) (more : List (Entry K)) → number ≡ length entries → more ≡ entries ++ record { key = key; hash = hash } ∷ [] →
      ((g : ℕ) (d : Entry K) → g < length entries → eq (slice_index_or entries g d).key key ≡ false) → IsAdded eq old (pairs_of more) key hash number
  added_pair number more last longer absent = record {
    absent = λ g p lt.
        let d : Entry K = record { key = p.0; hash = p.1 } in
        let inside : g < length entries = omega (arith, long) in
        ap (λ (q : K × ℕ). eq q.0 key) (pair_at g d p inside) ∙ absent g d inside;
    last = omega (arith, long);
    added = ap pairs_of longer ∙ map-append (λ (e : Entry K). (e.key, e.hash)) entries _ ∙ ap (λ ps. ps ++ (key, hash) ∷ []) view;
  }
