-- A table of texts: a search for a text, and one text more.
use Rattle.std.proofs.Common.{◌≡◌, ℕ, ◌+◌, ◌*◌, ◌<◌, ◌≤◌, true, false, List, [], ◌∷◌, ◌++◌, length, map, set, get_or, refl, sym, ap, subst, ◌∙◌, arith, inl, inr, true≢false, slice_index}
use Rattle.std.specs.List.{All, IsDistinct, list_any}
use Rattle.std.specs.Str.{IsUtf8, bytes_eq}
use Rattle.std.specs.Cmp.Lexicographic.{bytes_decides, nat_list_eq_equiv}
use Rattle.std.proofs.lemmas.Bool.{false_from_ne_true}
use Rattle.std.proofs.lemmas.List.{get_or-map, get_or_default, length-map, length_push, map-append}
use Rattle.std.proofs.lemmas.List.Elements.{All-nil, All-push}
use Rattle.std.proofs.lemmas.List.Folds.{list_any_none}
use Rattle.std.proofs.lemmas.Map.Keys.{IsDistinct-push}
use Rattle.gb_table.specs.Table.{held_at, IsFreeFor, IsRoomy, IsTable}
use Rattle.gb_table.specs.TextKey.{hash_of, key_of}
use Rattle.gb_table.specs.TextTable.{AreKeyed, IsTextTable}
use Rattle.gb_table.specs.declared.text_key.TextKey.{TextKey}
use Rattle.gb_table.proofs.KeyLemmas.{key_tells}
use Rattle.gb_table.proofs.SearchLemmas.{IsPast, absent}
use Rattle.gb_table.proofs.TableLemmas.{roomy_put}

pub none_there : (seed : ℕ) → IsTextTable seed [] [] []
unfolding IsDistinct
none_there seed = record { has_slots = inl (refl, refl); keyed = refl; differ = tt; utf8 = All-nil IsUtf8; few = omega arith }

-- ---- a search

-- the text stands at a place
abbrev pub StandsAt : List (List ℕ) → List ℕ → ℕ → Type 0
StandsAt texts text place = get_or texts place [] ≡ text

pub many_keys : (seed : ℕ) (keys : List TextKey) (texts : List (List ℕ)) → keys ≡ map (key_of seed) texts → length keys ≡ length texts
many_keys seed keys texts keyed = ap length keyed ∙ length-map texts (key_of seed)

module _ (keys : List TextKey) (texts : List (List ℕ)) (key : TextKey) (text : List ℕ) (keyed : AreKeyed keys texts key text) where
  pub as_many : length keys ≡ length texts
  as_many = many_keys keyed.seed keys texts keyed.keys_of

  key_at : (place : ℕ) (d : TextKey) → place < length texts → get_or keys place d ≡ key_of keyed.seed (get_or texts place [])
  key_at place d lt = ap (λ ks. get_or ks place d) keyed.keys_of ∙ get_or-map (key_of keyed.seed) texts place [] d lt

  own : (place : ℕ) (d : TextKey) → place < length texts → StandsAt texts text place → get_or keys place d ≡ key
  own place d lt that = key_at place d lt ∙ ap (key_of keyed.seed) that ∙ sym keyed.key_is

  pub stands : (place : ℕ) → bytes_eq text (get_or texts place []) ≡ true → StandsAt texts text place
  stands place same = sym ((bytes_decides text (get_or texts place [])).0 same)

  pub stands_not : (place : ℕ) → bytes_eq text (get_or texts place []) ≡ false → StandsAt texts text place → ⊥
  stands_not place other that = true≢false (sym ((bytes_decides text (get_or texts place [])).1 (sym that)) ∙ other)

  hashed : (place : ℕ) → place < length (map hash_of keys) → StandsAt texts text place → slice_index (map hash_of keys) place ≡ hash_of key
  hashed place lt that =
      let in_keys : place < length keys = omega (arith, length-map keys hash_of) in
      get_or-map hash_of keys place key 0 in_keys ∙ ap hash_of (own place key (omega (arith, as_many)) that)

  -- a text with another key is another text
  pub other_key : (place : ℕ) (d : TextKey) → place < length texts → (get_or keys place d ≡ key → ⊥) → false ≡ bytes_eq text (get_or texts place [])
  other_key place d lt differs =
      sym (false_from_ne_true (bytes_eq text (get_or texts place [])) (λ same. differs (own place d lt (stands place same))))

  -- a short text with this key is this one
  pub own_key : (place : ℕ) (d : TextKey) → place < length texts → get_or keys place d ≡ key → length text ≤ 16 → IsUtf8 text → All IsUtf8 texts → true ≡ bytes_eq text (get_or texts place [])
  own_key place d lt same short utf8 all =
      let keys_same : key_of keyed.seed text ≡ key_of keyed.seed (get_or texts place []) = sym keyed.key_is ∙ sym same ∙ key_at place d lt in
      sym ((bytes_decides text (get_or texts place [])).1 (key_tells keyed.seed text (get_or texts place []) utf8 (all place [] lt) short keys_same))

  -- where the search ends at a free slot there is no such text
  pub missing : (slots : List ℕ) (n : ℕ) → IsTable slots (map hash_of keys) → IsPast slots (hash_of key) (StandsAt texts text) n → held_at slots (hash_of key + n) ≡ 0 →
      list_any (bytes_eq text) texts ≡ false
  missing slots n table past free = list_any_none (bytes_eq text) texts (λ k e lt. false_from_ne_true _ (λ same.
      let here : StandsAt texts text k = get_or_default texts k [] e lt ∙ sym ((bytes_decides text (get_or texts k e)).0 same) in
      let inside : k < length (map hash_of keys) = omega (arith, length-map keys hash_of, as_many, lt) in
      absent slots (hash_of key) (StandsAt texts text) (map hash_of keys) n table hashed past free k inside here))

-- ---- one more

pub text_put : (seed : ℕ) (slots : List ℕ) (keys : List TextKey) (texts : List (List ℕ)) (text : List ℕ) (at number : ℕ) → IsRoomy slots (map hash_of keys) → 2 * length keys < length slots →
    keys ≡ map (key_of seed) texts → IsDistinct bytes_eq texts → All IsUtf8 texts → IsUtf8 text → length texts < 4294967295 → IsFreeFor slots (hash_of (key_of seed text)) at → list_any (bytes_eq text) texts ≡ false → number ≡ length keys →
    IsTextTable seed (set slots at (number + 1)) (keys ++ key_of seed text ∷ []) (texts ++ text ∷ [])
text_put seed slots keys texts text at number roomy room keyed differ utf8 own few spot none last =
    let put = roomy_put slots (map hash_of keys) (hash_of (key_of seed text)) at number roomy (omega (arith, room, length-map keys hash_of)) spot (omega (arith, last, length-map keys hash_of)) in
    record {
      has_slots = inr (subst (IsRoomy (set slots at (number + 1))) (sym (map-append hash_of keys (key_of seed text ∷ []))) put);
      keyed = ap (λ ks. ks ++ key_of seed text ∷ []) keyed ∙ sym (map-append (key_of seed) texts (text ∷ []));
      differ = IsDistinct-push nat_list_eq_equiv texts text differ none;
      utf8 = All-push IsUtf8 texts text utf8 own;
      few = omega (arith, few, length_push texts text);
    }
