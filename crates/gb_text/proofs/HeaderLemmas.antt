-- The columns of a header, one field after the other.
use Rattle.std.proofs.Common.{◌≡◌, ℕ, ◌+◌, zero, suc, Bool, true, false, ◌||◌, inl, inr, List, [], ◌∷◌, ◌++◌, length, drop, refl, sym, ◌∙◌, ap, add-one, arith, Some, None, Ok, Err}
use Rattle.std.specs.Str.{bytes_eq, is_utf8}
use Rattle.std.specs.List.{list_any}
use Rattle.std.proofs.lemmas.Bool.{cases_Bool}
use Rattle.std.proofs.lemmas.List.{append-nil, length-append}
use Rattle.csv.specs.Records.{field_at}
use Rattle.gb_defs.specs.Table.{TableFault, BadCell, SameName, Head, head_of, onto, heads_from}
use Rattle.gb_base.proofs.NameLemmas.{HasOneMore, bytes_eq_symm}
use Rattle.gb_text.specs.Head.{readable_field}
use Rattle.gb_text.specs.Building.{Building}
use Rattle.gb_text.specs.Table.{map_ok, columns_of_header, built_from, built_of}
use Rattle.gb_text.proofs.PushLemmas.{field_drop, front_more, no_front}

past_fields : (fields : List (List ℕ)) (i : ℕ) → None ≡ field_at fields i → drop i fields ≡ []
unfolding field_at
past_fields [] zero e = refl
past_fields [] (suc i) e = refl
past_fields (f ∷ fields) zero e = cc
past_fields (f ∷ fields) (suc i) e = past_fields fields i e

-- ---- a field that reads, and one that does not

pub no_field : (field : List ℕ) → readable_field field ≡ None → is_utf8 field ≡ false
no_field field e = elim (cases_Bool (is_utf8 field)) [
  | inl reads ↦ let bad = rw reads at e in cc
  | inr none ↦ none
]

pub same_head : (field : List ℕ) (head : Head) → readable_field field ≡ Some head → (is_utf8 field ≡ true) × (head_of field ≡ head)
same_head field head e = elim (cases_Bool (is_utf8 field)) [
  | inl reads ↦ let same = rw reads at e in (reads, cc)
  | inr none ↦ let bad = rw none at e in cc
]

module _ (k : ℕ) (seen : List (List ℕ)) (field : List ℕ) (rest : List (List ℕ)) where
  head_unread : is_utf8 field ≡ false → heads_from k seen (field ∷ rest) ≡ Err (BadCell 0 k)
  head_unread e = rw e

  module _ (head : Head) (is : readable_field field ≡ Some head) where
    head_repeated : list_any (bytes_eq head.name) seen ≡ true → heads_from k seen (field ∷ rest) ≡ Err (SameName k)
    head_repeated e = let h = same_head field head is in rw (h.0, h.1, e)

    head_more : list_any (bytes_eq head.name) seen ≡ false → heads_from k seen (field ∷ rest) ≡ onto head (heads_from (suc k) (head.name ∷ seen) rest)
    head_more e = let h = same_head field head is in rw (h.0, h.1, e)

empty_more : (asked : List ℕ → Bool) (k : ℕ) (heads : List Head) (head : Head) → built_from asked k (heads ++ head ∷ []) [] ≡ built_from asked k heads [] ++ built_of (asked head.name) head [] ∷ []
empty_more asked k [] head = refl
empty_more asked k (other ∷ heads) head = rw (empty_more asked (suc k) heads head)

-- ---- a loop over the fields

module _ (asked : List ℕ → Bool) (fields : List (List ℕ)) where
  -- the columns are those of the fields before the i-th, and the set has their names
  pub record IsHeader (i : ℕ) (columns : List Building) (set : List (List ℕ)) : Type 0 where
    pub heads : List Head
    pub names : List (List ℕ)
    pub so_far : heads_from 1 [] fields ≡ map_ok (λ hs. heads ++ hs) (heads_from (suc i) names (drop i fields))
    pub count : length columns ≡ i
    pub columns_are : columns ≡ built_from asked 0 heads []
    pub has : (name : List ℕ) → list_any (bytes_eq name) set ≡ list_any (bytes_eq name) names

  pub header_start : (columns : List Building) (set : List (List ℕ)) → columns ≡ [] → set ≡ [] → IsHeader 0 columns set
  header_start columns set e k = record { heads = []; names = []; so_far = no_front (heads_from 1 [] fields); count = ap length e; columns_are = e; has = λ name. ap (list_any (bytes_eq name)) k }

  module _ (i : ℕ) (columns : List Building) (set : List (List ℕ)) (s : IsHeader i columns set) where
    pub header_end : None ≡ field_at fields i → columns_of_header asked fields ≡ Ok columns
    header_end e =
        let all = s.so_far ∙ ap (λ rest. map_ok (λ hs. s.heads ++ hs) (heads_from (suc i) s.names rest)) (past_fields fields i e) ∙ ap (λ hs. Ok hs) (append-nil s.heads) in
        ap (map_ok (λ heads. built_from asked 0 heads [])) all ∙ ap (λ f. Ok f) (sym s.columns_are)

    module _ (field : List ℕ) (read : field_at fields i ≡ Some field) where
      refused : (fault : TableFault) → heads_from (suc i) s.names (field ∷ drop (i + 1) fields) ≡ Err fault → columns_of_header asked fields ≡ Err fault
      refused fault e =
          ap (map_ok (λ heads. built_from asked 0 heads [])) (s.so_far ∙ ap (λ rest. map_ok (λ hs. s.heads ++ hs) (heads_from (suc i) s.names rest)) (field_drop fields i field read)
          ∙ ap (map_ok (λ hs. s.heads ++ hs)) e)

      -- the field is no text
      pub header_unread : readable_field field ≡ None → columns_of_header asked fields ≡ Err (BadCell 0 (suc i))
      header_unread e = refused (BadCell 0 (suc i)) (head_unread (suc i) s.names field (drop (i + 1) fields) (no_field field e))

      module _ (head : Head) (is : readable_field field ≡ Some head) where
        -- the name stood before
        pub header_repeated : list_any (bytes_eq head.name) set ≡ true → columns_of_header asked fields ≡ Err (SameName (suc i))
        header_repeated e = refused (SameName (suc i)) (head_repeated (suc i) s.names field (drop (i + 1) fields) head is (sym (s.has head.name) ∙ e))

        pub header_more : (more : List (List ℕ)) → list_any (bytes_eq head.name) set ≡ false → HasOneMore head.name set more
            → IsHeader (i + 1) (columns ++ built_of (asked head.name) head [] ∷ []) more
        header_more more e update =
            let one = head_more (suc i) s.names field (drop (i + 1) fields) head is (sym (s.has head.name) ∙ e) in
            let next : heads_from (suc (suc i)) (head.name ∷ s.names) (drop (i + 1) fields) ≡ heads_from (suc (i + 1)) (head.name ∷ s.names) (drop (i + 1) fields) = rw add-one in
            record {
              heads = s.heads ++ head ∷ [];
              names = head.name ∷ s.names;
              so_far = s.so_far ∙ ap (λ rest. map_ok (λ hs. s.heads ++ hs) (heads_from (suc i) s.names rest)) (field_drop fields i field read)
                  ∙ ap (map_ok (λ hs. s.heads ++ hs)) (one ∙ ap (onto head) next) ∙ front_more s.heads head (heads_from (suc (i + 1)) (head.name ∷ s.names) (drop (i + 1) fields));
              count = omega (arith, length-append columns (built_of (asked head.name) head [] ∷ []), s.count);
              columns_are = ap (λ cs. cs ++ built_of (asked head.name) head [] ∷ []) s.columns_are ∙ sym (empty_more asked 0 s.heads head);
              has = λ name. update name ∙ ap (λ b. b || list_any (bytes_eq name) set) (bytes_eq_symm head.name name) ∙ ap (λ b. bytes_eq name head.name || b) (s.has name);
            }
