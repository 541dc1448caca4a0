-- Words of numbers of which none is null.
use Rattle.std.specs.Prelude.{ℕ, List, map, Some}
use Rattle.gb_defs.specs.ColumnType.{FlatType}
use Rattle.gb_defs.specs.Slot.{Slot}
use Rattle.gb_values.specs.Keys.{AreWords, HasWordsMore}

-- the keys are the words of the slots, which tell the slots
abbrev pub ArePlain : FlatType → List Slot → List ℕ → Type 0
ArePlain t slots words = AreWords t slots (map (λ word. Some word) words)

-- words behind those before: those of these slots, which tell the slots
abbrev pub HasPlainMore : FlatType → List Slot → List ℕ → List ℕ → Type 0
HasPlainMore t slots before after = HasWordsMore t slots (map (λ word. Some word) before) (map (λ word. Some word) after)
