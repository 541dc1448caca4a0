use Rattle.gb_row_hash.proofs.RowLemmas.{frames_fit}
use Rattle.gb_row_hash.proofs.frames_hash._df_rows_to_hashes_threaded_vertical.Goals as goal

pub hash_apart-requires-after_bounds : goal.hash_apart-requires-after_bounds
hash_apart-requires-after_bounds g c κs within = λ k d lt. record { some = c.requires k d lt; fits = frames_fit c.args.keys.now c.in_ok-refuse_frames.ensures.ok k d lt }
