use Rattle.std.proofs.Common.{◌-◌, ◌∙◌, arith, drop, length, length-take, take}
use Rattle.std.proofs.lemmas.List.{length-take-le}
use Rattle.gb_text.proofs.DeviceLemmas.{read_behind}
use Rattle.gb_text.proofs.streams.read_piece.Goals as goal

pub returns-in-Ok-clause-moved : goal.returns-in-Ok-clause-moved
returns-in-Ok-clause-moved g c =
    let held = c.len-held.result in
    let whole = c.deref_mut.result.now in
    let part = length-take (length whole - held) (drop held whole) in
    record {
      piece = take c.in-Ok.count c.read.new.room;
      long = length-take-le c.in-Ok.count c.read.new.room c.in-Ok.ensures.count;
      bytes_is = c.truncate.ensures.items
          ∙ read_behind c.args.bytes.now.items _ whole c.read.new.room _ _ held c.in-Ok.count c.resize.new.self.len (omega (arith, c.len-held.ensures))
          (c.deref_mut.ensures.value ∙ c.in_ok-resize.ensures.items) c.in-Ok.ensures.count
          (omega (arith, part, c.read.auto.room, c.in_ok-resize.ensures.len, c.deref_mut.ensures.len));
      left_is = c.in-Ok.ensures.bytes;
    }
