use Rattle.std.proofs.Common.{◌≡◌, ◌∙◌, ◌∷◌, true, length, drop, map, ap, subst, sym}
use Rattle.std.proofs.lemmas.List.{take_at}
use Rattle.gb_defs.specs.Column.{Frame, all_have_length, frame_height}
use Rattle.gb_row_hash.specs.Hashes.{combined_all}
use Rattle.gb_row_hash.specs.Rows.{row_hashes}
use Rattle.gb_row_hash.proofs.RowLemmas.{rows_hashed}
use Rattle.gb_series.specs.Series.{value_of}
use Rattle.gb_row_hash.proofs.series_hash.columns_to_hashes.Goals as goal

pub returns-clause-ok : goal.returns-clause-ok
returns-clause-ok g c =
    let first = value_of c.in-Some.first.now in
    let later = map value_of c.in-Some.later.now in
    let seed = g.M.Mixer.seed_of c.args.build_hasher in
    let mix = g.M.Mixer.mix_of c.args.build_hasher in
    let buf = c.vec_hash.new.buf in
    let new = c.combine_all.new.hashes in
    let all : map value_of c.args.keys.now ≡ first ∷ later = ap (map value_of) c.in-Some.ensures.cases.0 in
    let long = subst (λ (frame : Frame). all_have_length (frame_height frame) frame ≡ true) all c.requires.aligned in
    take_at new (drop (length new) buf.items) buf.len (c.combine_all.auto.hashes ∙ c.deref_mut.ensures.len)
    ∙ c.combine_all.ensures ∙ ap (combined_all seed mix later) (c.deref_mut.ensures.value ∙ c.in_ok-vec_hash.ensures.ok)
    ∙ rows_hashed seed mix first later long ∙ ap (row_hashes seed mix) (sym all)
