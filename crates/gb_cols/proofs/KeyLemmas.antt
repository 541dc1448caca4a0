-- The keys of the slots of chunks, one chunk more.
use Rattle.std.proofs.Common.{◌≡◌, ℕ, ◌+◌, ◌<◌, ◌≤◌, List, ◌++◌, length, get_or, map, sym, ◌∙◌, ap, Option}
use Rattle.std.proofs.lemmas.List.{map-append}
use Rattle.gb_defs.specs.Slot.{Slot}
use Rattle.gb_cols.proofs.ChunkedLemmas.{all_slots, front_all, front_more, front_slots}

module _ (key : Slot → Option ℕ) (earlier : List (List Slot)) (i : ℕ) where
  pub chunk_more : (chunk : List Slot) (keys grown : List (Option ℕ)) → i < length earlier → chunk ≡ get_or earlier i chunk → keys ≡ map key (front_slots earlier i) →
      grown ≡ keys ++ map key chunk → grown ≡ map key (front_slots earlier (i + 1))
  chunk_more chunk keys grown lt read so_far e =
      e ∙ ap (λ ks. ks ++ map key chunk) so_far ∙ sym (map-append key (front_slots earlier i) chunk) ∙ ap (map key) (sym (front_more earlier chunk i lt read))

  pub chunk_last : (last : List Slot) (keys grown : List (Option ℕ)) → length earlier ≤ i → keys ≡ map key (front_slots earlier i) →
      grown ≡ keys ++ map key last → grown ≡ map key (all_slots earlier last)
  chunk_last last keys grown le so_far e =
      e ∙ ap (λ ks. ks ++ map key last) so_far ∙ sym (map-append key (front_slots earlier i) last) ∙ ap (map key) (front_all earlier last i le)
