-- Rows of texts of at most 16 bytes, told apart by their keys.
use Rattle.std.specs.Prelude.{◌≡◌, ℕ, ◌<◌, ◌≤◌, ◌==◌, ◌&&◌, Bool, true, List, [], ◌∷◌, get_or, length, pos}
use Rattle.std.specs.Bool.{Decides}
use Rattle.std.specs.Str.{IsUtf8}
use Rattle.std.proofs.Common.{ap, eq-eqb, refl, ◌∙◌}
use Rattle.std.proofs.lemmas.Bool.{and_parts, eqb-true}
use Rattle.gb_table.specs.TextKey.{hash_of, key_of}
use Rattle.gb_table.specs.declared.text_key.TextKey.{TextKey}
use Rattle.gb_defs.specs.Rows.{Rows}
use Rattle.gb_hash.specs.Keys.{HashAlike}
use Rattle.gb_defs.specs.Slot.{Slot, Items, Num, items_of}

-- a key as a slot: its words
abbrev pub key_slot : TextKey → Slot
key_slot key = Items (items_of (Num (pos key.len) ∷ Num (pos key.front) ∷ Num (pos key.back) ∷ []))

-- rows whose slots are the keys of texts
abbrev pub short_rows : ℕ → List (List ℕ) → Rows
short_rows seed texts = record {
  count = length texts;
  slot = λ i. key_slot (key_of seed (get_or texts i []));
  hash = λ i. hash_of (key_of seed (get_or texts i []));
}

-- a text is short
pub record IsShort (text : List ℕ) : Type 0 where
  pub valid : IsUtf8 text
  pub few : length text ≤ 16

-- keys are one where their slots are
same_words : (a b : TextKey) → a.len ≡ b.len → a.front ≡ b.front → a.back ≡ b.back → a ≡ b
same_words a b l f k =
    ap (λ n. record { len = n; front = a.front; back = a.back }) l
    ∙ ap (λ n. record { len = b.len; front = n; back = a.back }) f
    ∙ ap (λ n. record { len = b.len; front = b.front; back = n }) k

pub slot_tells : (a b : TextKey) → key_slot a ≡ key_slot b → a ≡ b
slot_tells a b e =
    let l : a.len ≡ b.len = cc in
    let f : a.front ≡ b.front = cc in
    let k : a.back ≡ b.back = cc in
    same_words a b l f k

pub short_alike : (seed : ℕ) (texts : List (List ℕ)) → HashAlike (short_rows seed texts)
short_alike seed texts i j low high e = ap hash_of (slot_tells _ _ e)

all_same : (b : TextKey) → ((b.len == b.len) && ((b.front == b.front) && (b.back == b.back))) ≡ true
all_same b = rw (eq-eqb b.len b.len refl, eq-eqb b.front b.front refl, eq-eqb b.back b.back refl) refl

-- the test of keys tells their slots
pub keys_decide : (a b : TextKey) → Decides ((a.len == b.len) && ((a.front == b.front) && (a.back == b.back))) (key_slot a ≡ key_slot b)
keys_decide a b = (
  λ e. let outer = and_parts (a.len == b.len) _ e in let inner = and_parts (a.front == b.front) (a.back == b.back) outer.1 in ap key_slot (same_words a b (eqb-true _ _ outer.0) (eqb-true _ _ inner.0) (eqb-true _ _ inner.1)),
  λ e. let is = slot_tells a b e in rw is (all_same b),
)
