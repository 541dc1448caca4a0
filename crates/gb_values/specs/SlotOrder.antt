-- What a walk over the slots of a column finds of their order.
use Rattle.std.specs.Prelude.{◌≡◌, ◌↔◌, IsTrue, ◌-◌, Bool, true, false, not, ◌&&◌, ◌||◌, if◌then◌else◌, List, [], ◌∷◌, length, Option, None, Some}
use Rattle.std.specs.Borrow.{Bor}
use Rattle.std.specs.Ordering.{is_gt, is_lt}
use Rattle.std.specs.declared.cmp.Ordering.{Ordering}
use Rattle.gb_defs.specs.Column.{ColumnValue, Ascending, Descending, IsFlagTrue}
use Rattle.gb_defs.specs.ColumnType.{ColumnType}
use Rattle.gb_defs.specs.Order.{ByCode, below}
use Rattle.gb_defs.specs.Slot.{Slot, is_nil, slot_at}
use Rattle.gb_values.specs.declared.slot_order.OrderWalk.{OrderWalk}
use Rattle.gb_values.specs.declared.slot_order.SlotOrder.{SlotOrder}

-- the orders that a column is in
pub record IsOrderOf (c : ColumnValue) (order : SlotOrder) : Type 0 where
  pub ascending : IsTrue order.ascending ↔ IsFlagTrue Ascending c.dtype c.slots
  pub descending : IsTrue order.descending ↔ IsFlagTrue Descending c.dtype c.slots

-- how two slots compare
pub record ComparesAs (t : ColumnType) (a b : Slot) (order : Ordering) : Type 0 where
  pub less : is_lt order ≡ below ByCode t a b
  pub greater : is_gt order ≡ below ByCode t b a

-- ---- the walk

-- one of two slots is null
abbrev pub turns : Slot → Slot → Bool
turns a b = if is_nil a then not (is_nil b) else is_nil b

-- a slot and the next one do not break an order in which some pairs are wrong: they are both valid or
-- both null, or it is the first change between valid and null
abbrev pub keeps : (Slot → Slot → Bool) → Bool → Slot → Slot → Bool
keeps wrong turned a b = if turns a b then not turned else not (wrong a b)

-- what is wrong in ascending slots, and in descending ones
abbrev pub falls : ColumnType → Slot → Slot → Bool
falls t a b = below ByCode t b a

abbrev pub rises : ColumnType → Slot → Slot → Bool
rises t a b = below ByCode t a b

-- before any slot
abbrev pub fresh_walk : OrderWalk
fresh_walk = record { ascending = true; descending = true; turned = false }

-- some order is left
abbrev pub is_open : OrderWalk → Bool
is_open w = w.ascending || w.descending

-- from a slot to the next
abbrev pub moved : ColumnType → OrderWalk → Slot → Slot → OrderWalk
moved t w a b =
    record { ascending = w.ascending && keeps (falls t) w.turned a b; descending = w.descending && keeps (rises t) w.turned a b; turned = w.turned || turns a b }

-- the same, where nothing changes once no order is left
abbrev pub stepped : ColumnType → OrderWalk → Slot → Slot → OrderWalk
stepped t w a b = if is_open w then moved t w a b else w

-- over slots, behind the one before them
abbrev pub walked : ColumnType → OrderWalk → Option Slot → List Slot → OrderWalk
walked t w before [] = w
walked t w None (b ∷ slots) = walked t w (Some b) slots
walked t w (Some a) (b ∷ slots) = walked t (stepped t w a b) (Some b) slots

-- the last slot of a chunk
abbrev pub last_slot : Option (Bor (List Slot)) → Option Slot
last_slot None = None
last_slot (Some chunk) = Some (slot_at chunk.now (length chunk.now - 1))

-- the last of slots, or the one before them
abbrev pub later_slot : Option Slot → List Slot → Option Slot
later_slot before [] = before
later_slot before (a ∷ slots) = later_slot (Some a) slots
