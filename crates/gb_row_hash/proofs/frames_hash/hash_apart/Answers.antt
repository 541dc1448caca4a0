use Rattle.std.proofs.Common.{◌≡◌, ◌∙◌, ◌≤◌, length, arith}
use Rattle.gb_flat.proofs.ShareLemmas.{shares_joined}
use Rattle.gb_row_hash.specs.Rows.{hash_column}
use Rattle.gb_row_hash.proofs.frames_hash.hash_apart.Goals as goal

pub returns-clause-ok : goal.returns-clause-ok
returns-clause-ok g c =
    let mixer = c.args.mixer.now in
    let of = hash_column (g.M.Mixer.seed_of mixer) (g.M.Mixer.mix_of mixer) in
    c.in_ok-join_shares.ensures ∙ shares_joined (λ share. share.items) of c.args.keys.now c.max.result c.in_ok-made.made.items (omega arith) c.in_ok-made.ensures.len (λ k d lt. (c.in_ok-made.ensures.each k d lt).1.0)
