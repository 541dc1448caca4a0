-- What a value stands for in the definitions.
use Rattle.std.specs.Prelude.{ℤ, pos, Bool, true, false, List, map}
use Rattle.gb_defs.specs.Slot as slot
use Rattle.gb_base.specs.PlSmallStr.{name_of}
use Rattle.gb_base.specs.ByteStr.{bytes_of}
use Rattle.gb_base.specs.declared.any_value.AnyList.{AnyList}
use Rattle.gb_base.specs.declared.any_value.AnyValue.{AnyValue, Row_of-AnyValue, end_of-AnyValue, more_of-AnyValue}
use Rattle.gb_base.specs.declared.any_value.AnyValue.TheVariants.{Null, Boolean, UInt8, UInt16, UInt32, UInt64, Int8, Int16, Int32, Int64, Int128, Decimal, Date, Datetime, Duration, Time, String, Binary, Category, Items'}

-- the values in a list
abbrev pub values_in : AnyList → List AnyValue
values_in list = list.items.items

-- the number that a flag is
abbrev pub flag_number : Bool → ℤ
flag_number true = pos 1
flag_number false = pos 0

abbrev mutual
  pub slot_of : AnyValue → slot.Slot
  slot_of Null = slot.Nil
  slot_of (Boolean flag) = slot.Num (flag_number flag)
  slot_of (UInt8 n) = slot.Num (pos n)
  slot_of (UInt16 n) = slot.Num (pos n)
  slot_of (UInt32 n) = slot.Num (pos n)
  slot_of (UInt64 n) = slot.Num (pos n)
  slot_of (Int8 n) = slot.Num n
  slot_of (Int16 n) = slot.Num n
  slot_of (Int32 n) = slot.Num n
  slot_of (Int64 n) = slot.Num n
  slot_of (Int128 n) = slot.Num n
  slot_of (Decimal n) = slot.Num n
  slot_of (Date n) = slot.Num n
  slot_of (Datetime n) = slot.Num n
  slot_of (Duration n) = slot.Num n
  slot_of (Time n) = slot.Num n
  slot_of (String text) = slot.Bytes (name_of text)
  slot_of (Binary bytes) = slot.Bytes (bytes_of bytes)
  slot_of (Category code) = slot.Num (pos code)
  slot_of (Items' room row) = slot.Items (row_slots row)

  -- the slots of values that a value holds
  pub row_slots : {count : _} → Row_of-AnyValue count → slot.Slots
  row_slots end_of-AnyValue = slot.End
  row_slots (more_of-AnyValue value row) = slot.And (slot_of value) (row_slots row)

-- the slots of the values in a list
abbrev pub slots_in : AnyList → List slot.Slot
slots_in list = map slot_of (values_in list)
