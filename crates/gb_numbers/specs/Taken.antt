-- What a cell reads as, where it reads.
use Rattle.std.specs.Prelude.{Bool, if◌then◌else◌, Option, Some, None}

-- what was taken, where it was
abbrev pub if_taken : {A : Type 0} → Bool → A → Option A
if_taken took a = if took then Some a else None
