use Rattle.std.proofs.Common.{drop, subst, take}
use Rattle.std.specs.Str.{IsAscii}
use Rattle.std.proofs.lemmas.List.{take-append-drop, take_rest}
use Rattle.std.proofs.lemmas.Str.{IsAscii-append}
use Rattle.gb_text.proofs.streams.are_ascii.Goals as goal

pub returns : goal.returns
returns c =
    let bytes = c.args.bytes.now in
    let place = c.args.place in
    let front : IsAscii (take place bytes) = rw c.if-not-known.false at c.requires.known in
    let back : IsAscii (drop place bytes) = rw (take_rest bytes place) at c.if-not-is_ascii.ensures.cases in
    subst IsAscii (take-append-drop place bytes) (IsAscii-append (take place bytes) (drop place bytes) front back)
