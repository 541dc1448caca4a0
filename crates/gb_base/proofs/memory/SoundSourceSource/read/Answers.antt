use Rattle.std.proofs.Common.{◌≡◌, ◌∙◌, sym, ap, take, drop, length, ◌++◌, ◌+◌, ◌-◌, ◌≤◌, Some, List, ℕ, arith}
use Rattle.std.proofs.lemmas.List.{take_at, take-append-drop, drop-drop, length-take}
use Rattle.gb_base.proofs.memory.SoundSourceSource.read.Goals as goal

-- what is left is the bytes that were read and those behind them
left_parts : (xs mid rest : List ℕ) (at n : ℕ) → mid ≡ take n (drop at xs) → length mid ≡ n → drop at xs ≡ take n (mid ++ rest) ++ drop (at + n) xs
left_parts xs mid rest at n read long =
    sym (take-append-drop n (drop at xs)) ∙ ap (λ ys. ys ++ drop n (drop at xs)) (sym read ∙ sym (take_at mid rest n long))
    ∙ ap (λ ys. take n (mid ++ rest) ++ ys) (drop-drop n at xs)

pub returns-clause-bytes : goal.returns-clause-bytes
returns-clause-bytes c =
    let xs = c.args.self.now.bytes.items in
    let at = c.args.self.now.at in
    let n = c.min-count.result in
    let width : at + n - at ≡ n = omega arith in
    let read = c.copy_from_slice.ensures.after ∙ ap (λ k. take k (drop at c.deref.result.now)) width ∙ ap (λ ys. take n (drop at ys)) c.deref.ensures.value in
    let few : n ≤ length c.args.room.now = omega (arith, c.min-count.ensures) in
    let long : length c.copy_from_slice.new.self ≡ n = omega (arith, c.copy_from_slice.ensures.len, length-take n c.args.room.now) in
    ap (λ ys. Some ys) (left_parts xs c.copy_from_slice.new.self (drop n c.args.room.now) at n read long)
