-- Keys stand for slots, and rows with one slot have one hash.
use Rattle.std.specs.Prelude.{◌≡◌, ℕ, ◌<◌, ℤ, Bool, List, map, Option, None, Some, refl, nat_eq}
use Rattle.std.specs.Bool.{Decides}
use Rattle.std.specs.Borrow.{Bor}
use Rattle.std.specs.Option.{option_eq}
use Rattle.std.specs.Cmp.Lexicographic.{pointwise, bytes_decides}
use Rattle.std.specs.Int.{Width}
use Rattle.std.proofs.Common.{ap}
use Rattle.gb_defs.specs.Slot.{Slot, Num, Bytes}
use Rattle.gb_defs.specs.Hash.{hash_of}
use Rattle.gb_defs.specs.Rows.{Rows, rows_of_slots}
use Rattle.gb_values.specs.Array.{native_slot, text_slot}
use Rattle.gb_values.specs.Keys.{bytes_slot}

-- numbers, equal where they are one
pub keys_decide_by : {N : Type 0} (eq : N → N → Bool) (number : N → ℤ) → ((a b : N) → Decides (eq a b) (number a ≡ number b)) →
    (a b : N) → Decides (eq a b) (Num (number a) ≡ Num (number b))
keys_decide_by eq number d a b = (λ e. ap (λ n. Num n) ((d a b).0 e), λ e. (d a b).1 (cc))

-- numbers, equal where they are one, with a null apart
pub numbers_decide : {N : Type 0} (eq : N → N → Bool) (number : N → ℤ) → ((a b : N) → Decides (eq a b) (number a ≡ number b)) →
    (a b : Option N) → Decides (option_eq eq a b) (native_slot number a ≡ native_slot number b)
numbers_decide eq number d None None = (λ _. refl, λ _. refl)
numbers_decide eq number d None (Some b) = (λ e. cc, λ e. cc)
numbers_decide eq number d (Some a) None = (λ e. cc, λ e. cc)
numbers_decide eq number d (Some a) (Some b) = (λ e. ap (λ n. Num n) ((d a b).0 e), λ e. (d a b).1 (cc))

-- texts, equal where their bytes are, with a null apart
pub texts_decide : (a b : Option (Bor (List ℕ))) → Decides (option_eq (λ x y. pointwise nat_eq x.now y.now) a b) (text_slot a ≡ text_slot b)
texts_decide None None = (λ _. refl, λ _. refl)
texts_decide None (Some b) = (λ e. cc, λ e. cc)
texts_decide (Some a) None = (λ e. cc, λ e. cc)
texts_decide (Some a) (Some b) = (λ e. ap (λ bytes. Bytes bytes) ((bytes_decides a.now b.now).0 e), λ e. (bytes_decides a.now b.now).1 (cc))

-- bytes, equal where they are the same, with a null apart
pub bytes_decide : (a b : Option (Bor (List ℕ))) → Decides (option_eq (λ x y. pointwise nat_eq x.now y.now) a b) (bytes_slot a ≡ bytes_slot b)
bytes_decide None None = (λ _. refl, λ _. refl)
bytes_decide None (Some b) = (λ e. cc, λ e. cc)
bytes_decide (Some a) None = (λ e. cc, λ e. cc)
bytes_decide (Some a) (Some b) = (λ e. ap (λ bytes. Bytes bytes) ((bytes_decides a.now b.now).0 e), λ e. (bytes_decides a.now b.now).1 (cc))

-- the slots of numbers in a list
abbrev pub key_slots : {K : Type 0} → (K → ℤ) → List K → List Slot
key_slots number keys = map (λ k. Num (number k)) keys

-- rows with one slot have one hash
abbrev pub HashAlike : Rows → Type 0
HashAlike rows = (i j : ℕ) → i < rows.count → j < rows.count → rows.slot i ≡ rows.slot j → rows.hash i ≡ rows.hash j

pub slots_alike : (width : Width) (seed : ℕ) (mix : ℕ → ℕ) (slots : List Slot) → HashAlike (rows_of_slots width seed mix slots)
slots_alike width seed mix slots i j _ _ e = ap (hash_of width seed mix) e

-- bytes, equal where they are the same
pub plain_bytes_decide : (a b : Bor (List ℕ)) → Decides (pointwise nat_eq a.now b.now) (Bytes a.now ≡ Bytes b.now)
plain_bytes_decide a b = (λ e. ap (λ bytes. Bytes bytes) ((bytes_decides a.now b.now).0 e), λ e. (bytes_decides a.now b.now).1 (cc))
