use Rattle.std.proofs.Common.{◌≡◌, ◌<◌, ◌*◌, ℕ, true}
use Rattle.gb_cols.specs.Codes.{is_held}
use Rattle.gb_cols.proofs.codes.codes_used.Given as goal

-- each number of the windows so far is held
abbrev pub invariant-loop-window : goal.invariant-loop-window
invariant-loop-window g l = (code : ℕ) → code < l.window * 16384 → code < l.n → is_held code l.codes.slots ≡ true
