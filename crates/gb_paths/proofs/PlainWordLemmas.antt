-- Words of numbers of which none is null: one more, some more, those of chunks.
use Rattle.std.proofs.Common.{◌≡◌, ℕ, ℤ, ◌+◌, ◌<◌, ◌≤◌, List, [], ◌∷◌, ◌++◌, length, get_or, map, take, sym, ◌∙◌, ap, subst, Some}
use Rattle.std.proofs.lemmas.List.Elements.{All-append}
use Rattle.std.proofs.lemmas.List.{append_assoc, map-append}
use Rattle.gb_defs.specs.ColumnType.{FlatType}
use Rattle.gb_defs.specs.Hash.{word_of}
use Rattle.gb_defs.specs.Slot.{Slot, Num, slot_at}
use Rattle.gb_numbers.specs.Native.{unworded}
use Rattle.gb_values.specs.Keys.{IsToldByWord, key_slot, word_key}
use Rattle.gb_values.proofs.KeyLemmas.{key_more, told_more, words_are}
use Rattle.gb_cols.proofs.ChunkedLemmas.{all_slots, front_all, front_more, front_slots}
use Rattle.gb_paths.specs.PlainWords.{ArePlain, HasPlainMore}

pub plain_more : (t : FlatType) (slots : List Slot) (i : ℕ) (before words grown : List ℕ) (word : ℕ) (n : ℤ) → i < length slots → HasPlainMore t (take i slots) before words → grown ≡ words ++ word ∷ [] →
    Num n ≡ slot_at slots i → word ≡ word_of n → unworded t (word_of n) ≡ n → HasPlainMore t (take (i + 1) slots) before grown
plain_more t slots i before words grown word n lt so_far e read is back =
    let some = λ (w : ℕ). Some w in
    record {
      more = key_more slots i lt word_key (map some before) (map some words) (map some grown) (Some word) so_far.more (ap (map some) e ∙ map-append some words (word ∷ [])) (ap some is ∙ ap word_key read);
      back = told_more slots i lt (IsToldByWord t) so_far.back (subst (λ (s : Slot). IsToldByWord t s) read (ap (λ m. Num m) back));
    }

plain_join : (t : FlatType) (front chunk : List Slot) (before words grown : List ℕ) → HasPlainMore t front before words → HasPlainMore t chunk words grown → HasPlainMore t (front ++ chunk) before grown
plain_join t front chunk before words grown so_far here =
    let some = λ (w : ℕ). Some w in
    record {
      more = here.more ∙ ap (λ ks. ks ++ map word_key chunk) so_far.more ∙ append_assoc (map some before) (map word_key front) (map word_key chunk)
          ∙ ap (λ ks. map some before ++ ks) (sym (map-append word_key front chunk));
      back = All-append (IsToldByWord t) front chunk so_far.back here.back;
    }

-- ---- some chunks, and all

module _ (t : FlatType) (earlier : List (List Slot)) (i : ℕ) where
  pub plain_chunk : (chunk : List Slot) (words grown : List ℕ) → i < length earlier → chunk ≡ get_or earlier i chunk → HasPlainMore t (front_slots earlier i) [] words → HasPlainMore t chunk words grown →
      HasPlainMore t (front_slots earlier (i + 1)) [] grown
  plain_chunk chunk words grown lt read so_far here =
      subst (λ (ss : List Slot). HasPlainMore t ss [] grown) (sym (front_more earlier chunk i lt read)) (plain_join t (front_slots earlier i) chunk [] words grown so_far here)

  pub plain_last : (last slots : List Slot) (words grown : List ℕ) → length earlier ≤ i → slots ≡ all_slots earlier last → HasPlainMore t (front_slots earlier i) [] words → HasPlainMore t last words grown →
      ArePlain t slots grown
  plain_last last slots words grown le are so_far here =
      let all = front_all earlier last i le ∙ sym are in
      let more = subst (λ (ss : List Slot). HasPlainMore t ss [] grown) all (plain_join t (front_slots earlier i) last [] words grown so_far here) in
      record { are = ap (map key_slot) more.more ∙ words_are slots; back = more.back }
