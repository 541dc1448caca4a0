use Rattle.std.proofs.Common.{◌≡◌, length, map, subst, sym, All}
use Rattle.std.proofs.lemmas.List.{length-map}
use Rattle.std.proofs.lemmas.Result.{IfOk-weaker}
use Rattle.gb_defs.specs.Classes.{rows_below}
use Rattle.gb_defs.specs.Hash.{seed_mix}
use Rattle.gb_defs.specs.Rows.{same_slot_at}
use Rattle.gb_defs.specs.Slot.{Bytes}
use Rattle.gb_base.specs.Pool.{seed_of}
use Rattle.gb_hash.specs.Short.{IsShort, short_rows}
use Rattle.gb_hash.proofs.ShortLemmas.{short_same}
use Rattle.gb_paths.specs.Numbering.{AreNumbersAmong, AreNumbersOf}
use Rattle.gb_paths.specs.Numbers.{text_rows}
use Rattle.gb_paths.proofs.LeaderLemmas.{numbers_alike}
use Rattle.gb_paths.proofs.number_texts.number_texts.Goals as goal

pub returns-in-Some-clause-ok : goal.returns-in-Some-clause-ok
returns-in-Some-clause-ok g c =
    let texts = c.args.texts.now in
    let seed = seed_of c.args.pool.now in
    let rows = c.in-Some.rows in
    let mine : rows.texts.now ≡ texts = rw c.in-Some.is at c.new.ensures.texts in
    let short : All IsShort texts = rw c.in-Some.is at c.new.ensures.short in
    let n = length texts in
    let many : length (map (λ t. Bytes t) texts) ≡ n = length-map texts (λ t. Bytes t) in
    IfOk-weaker c.number_rows.result _ _ (λ numbers h.
    let are : AreNumbersOf (same_slot_at (short_rows rows.seed texts).slot) (rows_below n) numbers.first.items numbers.of_rows.items = subst (λ ts. AreNumbersAmong (short_rows rows.seed ts) (rows_below (length ts)) numbers) mine h in
    subst (λ m. AreNumbersOf (same_slot_at (text_rows seed texts).slot) (rows_below m) numbers.first.items numbers.of_rows.items) (sym many)
    (numbers_alike (same_slot_at (short_rows rows.seed texts).slot) (same_slot_at (text_rows seed texts).slot) n (short_same rows.seed seed seed_mix texts short) numbers.first.items numbers.of_rows.items are)) c.number_rows.ensures.ok
