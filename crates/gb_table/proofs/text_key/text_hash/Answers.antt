use Rattle.std.proofs.Common.{ap, ◌∙◌, ◌++◌}
use Rattle.std.specs.Hash.{str, u64}
use Rattle.std.specs.Hash.FoldHasher.{finish, write}
use Rattle.std.specs.List.{fold}
use Rattle.gb_table.specs.TextKey.{text_hash}
use Rattle.gb_table.proofs.text_key.text_hash.Goals as goal

pub returns : goal.returns
unfolding text_hash
returns c = c.hash_one.ensures ∙ ap (λ h. finish (fold write h (u64 c.args.seed ++ str c.args.text.now))) c.new-hasher.ensures
