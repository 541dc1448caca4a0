use Rattle.gb_values.proofs.bytes.ByteValuesValues.push_from.Goals as goal

pub push_bytes-requires : goal.push_bytes-requires
push_bytes-requires g c = c.bytes_at.ensures.fits
