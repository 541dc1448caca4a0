-- Values in a row, as slots.
use Rattle.std.proofs.Common.{◌≡◌, ℕ, zero, suc, ◌+◌, ◌-◌, ◌<◌, Bool, true, false, inl, inr, List, [], ◌∷◌, ◌++◌, take, drop, length, map, refl, sym, ◌∙◌, ap, arith, get_or}
use Rattle.std.specs.List.{All, AllByRecursion}
use Rattle.std.proofs.lemmas.List.Elements.{All-from_recursion}
use Rattle.std.proofs.lemmas.List.{drop-map, map-append, take-map}
use Rattle.gb_defs.specs.ColumnType.{Boolean, Flat, Fits}
use Rattle.gb_defs.specs.Slot.{Slot, slot_at}
use Rattle.gb_values.specs.Array.{flag_slot}

-- the slot at a place is that of the value there
pub value_at : {A : Type 0} (slot_of : A → Slot) (values : List A) (d : A) (i : ℕ) → i < length values → slot_of (get_or values i d) ≡ slot_at (map slot_of values) i
value_at slot_of [] d i lt = absurd (omega arith)
value_at slot_of (v ∷ values) d zero lt = refl
value_at slot_of (v ∷ values) d (suc i) lt = value_at slot_of values d i (omega arith)

-- what some of others are, from a place on
pub part_mapped : {A B : Type 0} (f : A → B) (values : List A) (start count : ℕ) → map f (take count (drop start values)) ≡ take count (drop start (map f values))
part_mapped f values start count = sym (take-map f count (drop start values)) ∙ ap (take count) (sym (drop-map f start values))

-- values with some of others behind, from a place on
pub values_part : {A B : Type 0} (f : A → B) (values others new : List A) (start count : ℕ) → new ≡ values ++ take ((start + count) - start) (drop start others) → map f new ≡ map f values ++ take count (drop start (map f others))
values_part f values others new start count more =
    let few : (start + count) - start ≡ count = omega arith in
    ap (map f) (more ∙ ap (λ n. values ++ take n (drop start others)) few) ∙ map-append f values (take count (drop start others))
    ∙ ap (λ bs. map f values ++ bs) (part_mapped f others start count)

flag_fits : (flag : Bool) → Fits (Flat Boolean) (flag_slot flag)
flag_fits true = inr refl
flag_fits false = inl refl

flags_fit_each : (flags : List Bool) → AllByRecursion (Fits (Flat Boolean)) (map flag_slot flags)
flags_fit_each [] = tt
flags_fit_each (flag ∷ flags) = (flag_fits flag, flags_fit_each flags)

pub flags_fit : (flags : List Bool) → All (Fits (Flat Boolean)) (map flag_slot flags)
flags_fit flags = All-from_recursion (Fits (Flat Boolean)) (map flag_slot flags) (flags_fit_each flags)
