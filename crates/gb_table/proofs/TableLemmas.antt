-- The slots of a table of groups.
use Rattle.std.proofs.Common.{◌≡◌, ◌≢◌, ℕ, zero, suc, add-one, subst, ◌+◌, ◌-◌, ◌*◌, ◌/◌, ◌%◌, ◌^◌, ◌<◌, ◌≤◌, cond, inl, inr, List, [], ◌∷◌, ◌++◌, length, take, get_or, set, sym, ◌∙◌, ap, arith, slice_index, All, count_by, ◌==◌, bit_and}
use Rattle.std.proofs.lemmas.Nat.{and_mask}
use Rattle.std.proofs.lemmas.Grind.{pow_more}
use Rattle.std.proofs.lemmas.List.{take_more, length-take-le, get_or_default, length-set, get_or-set_same, get_or-set_other, get_or_append_left, get_or_push, length_push}
use Rattle.std.proofs.lemmas.List.Elements.{All-set}
use Rattle.std.proofs.Math.Nat.{mod-add-mod, add-mod-mod, mod-eq_of_lt, mod-lt, mod-add-div, add-mod_right, add-mul-mod_self_left}
use Rattle.std.proofs.lemmas.Bool.{cases_lt, ne_eqb}
use Rattle.std.proofs.lemmas.List.Sums.{sum_by-le, sum_by-set}
use Rattle.gb_table.specs.Table.{held_at, IsProbed, IsFreeFor, IsReached, IsTable, IsRoomy}

-- ---- places go round

-- a mask of ones is a remainder
masked : (n len bits : ℕ) → len ≡ 2 ^ bits → bit_and n (len - 1) ≡ n % len
masked n len bits e = rw e (and_mask n bits)

pub first_place : (hash len bits : ℕ) → len ≡ 2 ^ bits → bit_and hash (len - 1) ≡ (hash + 0) % len
first_place hash len bits e = let same : hash ≡ hash + 0 = omega arith in masked hash len bits e ∙ ap (λ n. n % len) same

pub next_place : (at hash n len bits : ℕ) → len ≡ 2 ^ bits → at ≡ (hash + n) % len → bit_and (at + 1) (len - 1) ≡ (hash + (n + 1)) % len
next_place at hash n len bits e place =
    let apart : hash + n + 1 ≡ hash + (n + 1) = omega arith in
    masked (at + 1) len bits e ∙ rw place (mod-add-mod (hash + n) len 1) ∙ ap (λ k. k % len) apart

pub place_in : (at n len : ℕ) → at ≡ n % len → 0 < len → at < len
place_in at n len place some = rw place (mod-lt n some)

-- what was read at a place
pub held_here : (slots : List ℕ) (at place held : ℕ) → at ≡ place % length slots → slice_index slots at ≡ held → held_at slots place ≡ held
held_here slots at place held e read = ap (slice_index slots) (sym e) ∙ read

-- every place is met from any hash on
every_place : (c h j : ℕ) → j < c → (d : ℕ) × (d < c) × ((h + d) % c ≡ j)
every_place c h j lt =
    let some : 0 < c = omega arith in
    let low : h % c < c = mod-lt h some in
    let round : h + (j + (c - h % c)) ≡ j + c + c * (h / c) = omega (arith, mod-add-div h c) in (
      (j + (c - h % c)) % c,
      mod-lt (j + (c - h % c)) some,
      add-mod-mod h (j + (c - h % c)) c ∙ ap (λ n. n % c) round ∙ add-mul-mod_self_left (j + c) c (h / c) ∙ add-mod_right j c ∙ mod-eq_of_lt lt,
    )

-- ---- a search meets a free slot where there is one

none_free : (slots : List ℕ) → ((j : ℕ) → j < length slots → get_or slots j 0 ≢ 0) → count_by (λ s. s == 0) slots ≡ 0
none_free slots h =
    let each : All (λ s. cond (s == 0) 1 0 ≤ 0) slots = λ k d lt. rw (get_or_default slots k d 0 lt, ne_eqb (get_or slots k 0) 0 (h k lt)) (omega arith) in
    omega (arith, sum_by-le (λ s. cond (s == 0) 1 0) 0 slots each)

pub some_free : (slots : List ℕ) (hash : ℕ) → 0 < count_by (λ s. s == 0) slots → ((d : ℕ) → d < length slots → held_at slots (hash + d) ≢ 0) → ⊥
some_free slots hash some taken =
    let full : count_by (λ s. s == 0) slots ≡ 0 = none_free slots (λ j lt free.
    let p = every_place (length slots) hash j lt in taken p.0 p.1 (ap (λ k. get_or slots k 0) p.2 ∙ free)) in
    omega arith

pub taken_more : (slots : List ℕ) (hash n : ℕ) → ((d : ℕ) → d < n → held_at slots (hash + d) ≢ 0) → held_at slots (hash + n) ≢ 0 → (d : ℕ) → d < n + 1 → held_at slots (hash + d) ≢ 0
taken_more slots hash n taken here d lt free = elim (cases_lt d n) [
  | inl below ↦ taken d below free
  | inr above ↦ let same : n ≡ d = omega arith in here (ap (λ k. held_at slots (hash + k)) same ∙ free)
]

-- ---- a group more

put_same : (slots : List ℕ) (at v k : ℕ) → at < length slots → k % length slots ≡ at → held_at (set slots at v) k ≡ v
put_same slots at v k inside e = rw (length-set slots at v, e, get_or-set_same slots at v 0 inside)

-- a slot that was taken is as it was
put_taken : (slots : List ℕ) (at v k : ℕ) → slice_index slots at ≡ 0 → held_at slots k ≢ 0 → held_at (set slots at v) k ≡ held_at slots k
put_taken slots at v k free taken =
    let apart : k % length slots ≢ at = λ e. taken (ap (λ j. get_or slots j 0) e ∙ free) in
    rw (length-set slots at v, get_or-set_other slots at (k % length slots) v 0 apart)

probed_put : (slots : List ℕ) (at v hash distance : ℕ) → slice_index slots at ≡ 0 → IsProbed slots hash distance → IsProbed (set slots at v) hash distance
probed_put slots at v hash distance free p = record {
  near = omega (arith, p.near, length-set slots at v);
  taken = λ d lt e. p.taken d lt (sym (put_taken slots at v (hash + d) free (p.taken d lt)) ∙ e);
}

reached_put : (slots : List ℕ) (at v hash g : ℕ) → slice_index slots at ≡ 0 → IsReached slots hash g → IsReached (set slots at v) hash g
reached_put slots at v hash g free r = record {
  distance = r.distance;
  probed = probed_put slots at v hash r.distance free r.probed;
  holds = put_taken slots at v (hash + r.distance) free (λ e. omega (arith, r.holds, e)) ∙ r.holds;
}

spot_in : (slots : List ℕ) (hash at : ℕ) → IsFreeFor slots hash at → at < length slots
spot_in slots hash at spot = place_in at _ _ spot.place (omega (arith, spot.probed.near))

table_put : (slots hashes : List ℕ) (hash at : ℕ) → IsTable slots hashes → IsFreeFor slots hash at → IsTable (set slots at (length hashes + 1)) (hashes ++ hash ∷ [])
table_put slots hashes hash at table spot =
    let inside : at < length slots = spot_in slots hash at spot in
    let new = length hashes + 1 in
    let long : length (hashes ++ hash ∷ []) ≡ new = length_push hashes hash in
    let counted = sum_by-set (λ s. cond (s == 0) 1 0) slots at new 0 inside in
    let before : cond {A = ℕ} (get_or slots at 0 == 0) 1 0 ≡ 1 = rw spot.free in
    let after : cond {A = ℕ} (new == 0) 1 0 ≡ 0 = rw (ne_eqb new 0 (λ e. omega (arith, e))) in
    record {
      bits = table.bits;
      size = length-set slots at new ∙ table.size;
      within = All-set (λ s. s ≤ length (hashes ++ hash ∷ [])) slots at new (omega (arith, long)) (λ k d lt. omega (arith, long, table.within k d lt));
      free_slots = omega (arith, long, counted, before, after, table.free_slots, length-set slots at new);
      reach = λ g lt. elim (cases_lt g (length hashes)) [
        | inl old ↦ rw (get_or_append_left hashes (hash ∷ []) 0 g old) (reached_put slots at new (slice_index hashes g) g spot.free (table.reach g old))
        | inr here ↦
            let same : length hashes ≡ g = omega (arith, long, lt) in
            rw (get_or_push hashes hash 0 g same) (record {
              distance = spot.distance;
              probed = probed_put slots at new hash spot.distance spot.free spot.probed;
              holds = put_same slots at new (hash + spot.distance) inside (sym spot.place) ∙ ap (λ k. k + 1) same;
            })
      ];
    }

-- ---- room

-- below a power of two with a half, twice a number leaves two places
even : (len n bits : ℕ) → len ≡ 2 ^ bits → 16 ≤ len → 2 * n < len → 2 * n + 2 ≤ len
even len n zero e least lt = omega (arith, e)
even len n (suc bits) e least lt = omega (arith, e, pow_more 2 bits, add-one bits)

pub roomy_put : (slots hashes : List ℕ) (hash at number : ℕ) → IsRoomy slots hashes → 2 * length hashes < length slots → IsFreeFor slots hash at → number ≡ length hashes → IsRoomy (set slots at (number + 1)) (hashes ++ hash ∷ [])
roomy_put slots hashes hash at number r room spot last =
    let put = table_put slots hashes hash at r.table spot in
    let long : length (hashes ++ hash ∷ []) ≡ length hashes + 1 = length_push hashes hash in
    let same : length (set slots at (number + 1)) ≡ length slots = length-set slots at (number + 1) in
    record {
      table = subst (λ n. IsTable (set slots at (n + 1)) (hashes ++ hash ∷ [])) (sym last) put;
      half = omega (arith, long, same, even (length slots) (length hashes) r.table.bits r.table.size r.least room);
      least = omega (arith, same, r.least);
      most = omega (arith, long, same, r.most);
    }

-- ---- a table made anew

pub table_next : (slots hashes : List ℕ) (number hash at : ℕ) → IsTable slots (take number hashes) → number < length hashes → slice_index hashes number ≡ hash → IsFreeFor slots hash at → IsTable (set slots at (number + 1)) (take (number + 1) hashes)
table_next slots hashes number hash at table lt read spot =
    let many : length (take number hashes) ≡ number = length-take-le number hashes (omega arith) in
    let put = table_put slots (take number hashes) hash at table spot in
    rw (take_more hashes number 0 lt, read) (subst (λ n. IsTable (set slots at (n + 1)) (take number hashes ++ hash ∷ [])) many put)
