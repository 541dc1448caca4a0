-- The bytes that pairs of hexadecimal digits write, a pair more.
use Rattle.std.proofs.Common.{◌≡◌, ℕ, ◌+◌, ◌*◌, Bool, true, false, cond, ◌&&◌, List, [], ◌∷◌, ◌++◌, Option, Some, None, option_map, refl, ap, append_assoc}
use Rattle.std.specs.Char.{digit_value, is_ascii_hexdigit}
use Rattle.gb_defs.specs.Cell.{hexadecimal}

step : (bytes : List ℕ) (byte : ℕ) (rest : Option (List ℕ)) →
    option_map (λ more. (bytes ++ byte ∷ []) ++ more) rest ≡ option_map (λ more. bytes ++ more) (option_map (λ more. byte ∷ more) rest)
step bytes byte None = refl
step bytes byte (Some more) = ap (λ all. Some all) (append_assoc bytes (byte ∷ []) more)

-- the byte of two digits, in the words of what each of them is
pair : (b c : Bool) (v w high low : ℕ) (bytes : List ℕ) (rest : Option (List ℕ)) → Some high ≡ cond b (Some v) None → Some low ≡ cond c (Some w) None →
    option_map (λ more. (bytes ++ (high * 16 + low) ∷ []) ++ more) rest
    ≡ option_map (λ more. bytes ++ more) (cond (b && c) (option_map (λ more. (v * 16 + w) ∷ more) rest) None)
pair false c v w high low bytes rest e f = cc
pair true false v w high low bytes rest e f = cc
pair true true v w high low bytes rest e f =
    let same : high * 16 + low ≡ v * 16 + w = cc in
    rw same (step bytes (v * 16 + w) rest)

pub pair_more : (bytes left after rest : List ℕ) (first second high low : ℕ) → left ≡ first ∷ after → after ≡ second ∷ rest →
    Some high ≡ cond (is_ascii_hexdigit first) (Some (digit_value first)) None → Some low ≡ cond (is_ascii_hexdigit second) (Some (digit_value second)) None →
    option_map (λ more. (bytes ++ (high * 16 + low) ∷ []) ++ more) (hexadecimal rest) ≡ option_map (λ more. bytes ++ more) (hexadecimal left)
pair_more bytes left after rest first second high low e f g h =
    rw (e, f) (pair (is_ascii_hexdigit first) (is_ascii_hexdigit second) (digit_value first) (digit_value second) high low bytes (hexadecimal rest) g h)
