use Rattle.gb_paths.specs.Packed.{HasKeys}
use Rattle.gb_paths.proofs.PackLemmas.{key_has}
use Rattle.gb_paths.proofs.number_several.fn.pack_round.number.Goals as goal

pub number_key-requires-after_bounds : goal.number_key-requires-after_bounds
number_key-requires-after_bounds g c κs within = key_has HasKeys c.captures.keys.now c.args.k c.index-keys-k.result c.requires.0 c.index-keys-k.is c.requires.1
