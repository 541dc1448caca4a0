-- Where the chunks of a column stand.
use Rattle.std.proofs.Common.{◌≡◌, ℕ, ◌+◌, ◌<◌, ◌≤◌, List, ◌++◌, length, get_or, sym, ◌∙◌, ap, arith}
use Rattle.std.proofs.lemmas.List.{get_or-append-add, get_or_append_left}
use Rattle.gb_defs.specs.Slot.{Slot, Nil, slot_at}
use Rattle.gb_cols.proofs.ChunkedLemmas.{before_chunk, from_chunk, front_all, front_slots, slots_around}
use Rattle.gb_cols.specs.Near.{IsNear, StandsAt, slots_in_chunks}

pub last_stands : (earlier : List (List Slot)) (last : List Slot) (i start : ℕ) → length earlier ≤ i → start ≡ before_chunk earlier i → StandsAt (slots_in_chunks earlier last) start last
last_stands earlier last i start le e = λ k lt.
    sym (ap (λ n. slot_at (slots_in_chunks earlier last) (n + k)) e ∙ ap (λ ss. slot_at ss (before_chunk earlier i + k)) (sym (front_all earlier last i le)) ∙ get_or-append-add (front_slots earlier i) last k Nil)

pub chunk_stands : (earlier : List (List Slot)) (last chunk : List Slot) (i start : ℕ) → i < length earlier → chunk ≡ get_or earlier i chunk → start ≡ before_chunk earlier i
    → StandsAt (slots_in_chunks earlier last) start chunk
chunk_stands earlier last chunk i start lt read e = λ k inside.
    let rest = from_chunk earlier last (i + 1) in
    sym (ap (λ n. slot_at (slots_in_chunks earlier last) (n + k)) e ∙ ap (λ ss. slot_at ss (before_chunk earlier i + k)) (slots_around earlier last chunk i lt read)
    ∙ get_or-append-add (front_slots earlier i) (chunk ++ rest) k Nil ∙ get_or_append_left chunk rest Nil k inside)

pub last_near : (earlier : List (List Slot)) (last : List Slot) (i start : ℕ) → length earlier ≤ i → i ≤ length earlier → start ≡ before_chunk earlier i → IsNear earlier last (length earlier) start last
last_near earlier last i start le within e =
    let same : i ≡ length earlier = omega (arith, le, within) in
    record { stands = last_stands earlier last i start le e; begins = record { inside = omega arith; is = e ∙ ap (before_chunk earlier) same } }

pub chunk_near : (earlier : List (List Slot)) (last chunk : List Slot) (i start : ℕ) → i < length earlier → chunk ≡ get_or earlier i chunk → start ≡ before_chunk earlier i → IsNear earlier last i start chunk
chunk_near earlier last chunk i start lt read e = record { stands = chunk_stands earlier last chunk i start lt read e; begins = record { inside = omega (arith, lt); is = e } }
