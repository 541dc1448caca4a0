use Rattle.gb_values.proofs.bytes.ByteValuesValues.push_filler.Goals as goal

pub push_bytes-requires : goal.push_bytes-requires
push_bytes-requires g c = g.met.K.ByteKind.none_fit
