use Rattle.std.proofs.Common.{◌≡◌, ◌∙◌, ◌<◌, ℕ, List, pos, true, length, map, ap, arith, subst, sym}
use Rattle.std.specs.Int.{w64}
use Rattle.std.proofs.lemmas.List.{length-map}
use Rattle.std.proofs.lemmas.Result.{IfOk-weaker}
use Rattle.gb_base.specs.PlSmallStr.{name_of}
use Rattle.gb_defs.specs.Column.{Frame, all_have_length, frame_height, fresh_column}
use Rattle.gb_defs.specs.ColumnType.{Flat, Unsigned}
use Rattle.gb_defs.specs.Slot.{Num}
use Rattle.gb_row_hash.specs.Rows.{row_hashes}
use Rattle.gb_series.specs.Series.{value_of}
use Rattle.gb_row_hash.proofs.frames_hash.hash_frame.Goals as goal

pub columns_to_hashes-requires : goal.columns_to_hashes-requires
columns_to_hashes-requires g c =
    let columns = c.get_columns.result.now in
    record {
      some = omega (arith, c.requires.some, ap length c.get_columns.ensures, length-map columns value_of);
      aligned = subst (λ (frame : Frame). all_have_length (frame_height frame) frame ≡ true) (sym c.get_columns.ensures) c.height.ensures.frame.aligned;
    }

pub returns-clause-ok : goal.returns-clause-ok
returns-clause-ok g c =
    let seed = g.M.Mixer.seed_of c.args.mixer.now in
    let mix = g.M.Mixer.mix_of c.args.mixer.now in
    let hashes = c.deref.ensures.value ∙ c.in_ok-columns_to_hashes.ensures.ok ∙ ap (row_hashes seed mix) c.get_columns.ensures in
    let column = λ (name hs : List ℕ). fresh_column name (Flat (Unsigned w64)) (map (λ (h : ℕ). Num (pos h)) hs) in
    IfOk-weaker c.from_slice.result _ _ (λ made e. e ∙ ap (column (name_of c.in_ok-name.name)) hashes ∙ ap (λ (name : List ℕ). column name (row_hashes seed mix c.args.frame.now)) c.in_ok-name.ensures.ok) c.from_slice.ensures.ok
