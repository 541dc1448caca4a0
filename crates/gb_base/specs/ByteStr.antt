-- What contracts see of a string of bytes.
use Rattle.std.specs.Prelude.{ℕ, List}
use Rattle.gb_base.specs.declared.byte_str.ByteStr.{ByteStr}

abbrev pub bytes_of : ByteStr → List ℕ
bytes_of bytes = bytes.bytes.items
