-- A block of a table's text that a thread of its own reads.
use Rattle.std.specs.Prelude.{◌≡◌, ◌≤◌, true, length, drop, IfOk, IfSome}
use Rattle.std.specs.Str.{IsAscii}
use Rattle.std.specs.String.{string_bytes}
use Rattle.gb_text.specs.Part.{HasLines, IsSomeStart}
use Rattle.gb_text.specs.declared.table.jobs.Block.{Block}
use Rattle.gb_text.specs.declared.table.jobs.Done.{Done}

-- the block's text can be read up to its place
pub record IsReadable (b : Block) : Type 0 where
  pub place : b.place ≤ length b.text.items
  pub few : length b.text.items ≤ 4294967295
  pub ascii : b.ascii ≡ true → IsAscii b.text.items
  pub start : IsSomeStart b.columns.items

-- the text is given back, and the columns have its lines up to the place, if all of them read
pub record HasRead (b : Block) (d : Done) : Type 0 where
  pub text_is : d.text.items ≡ b.text.items
  pub place_is : d.place ≡ b.place
  pub within : d.place ≤ length d.text.items
  pub found : IfOk d.found (λ found. IfSome found (λ all.
      HasLines b.columns.items (string_bytes b.null_word) b.text.items (drop b.place b.text.items) all.items))
