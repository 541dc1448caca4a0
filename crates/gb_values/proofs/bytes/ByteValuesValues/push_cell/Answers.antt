use Rattle.std.proofs.Common.{◌≡◌, ◌∙◌, length}
use Rattle.gb_values.proofs.PieceLemmas.{read_pushed, read_pushed_are}
use Rattle.gb_values.proofs.bytes.ByteValuesValues.push_cell.Goals as goal

pub invariant_of-self-2 : goal.invariant_of-self-2
invariant_of-self-2 g c =
    let taken = rw c.if-not-branch.false at c.in_ok-push_cell.ensures.ok in
    let last : c.len.result ≡ length c.push_cell.new.bytes.items = c.len.ensures ∙ c.push_cell.new.bytes.ok.0 in
    rw (c.push_reserved.ensures.items, c.in_ok-reserve.ensures.items, last)
    (read_pushed_are c.self.invariant (g.K.ByteKind.read c.args.cell.now) c.push_cell.new.bytes.items taken (g.met.K.ByteKind.read_fits c.args.cell.now))

pub returns-clause-ok : goal.returns-clause-ok
returns-clause-ok g c =
    let taken = rw c.if-not-branch.false at c.in_ok-push_cell.ensures.ok in
    let last : c.len.result ≡ length c.push_cell.new.bytes.items = c.len.ensures ∙ c.push_cell.new.bytes.ok.0 in
    rw (c.push_reserved.ensures.items, c.in_ok-reserve.ensures.items, last, ← c.self.view_is, g.met.K.ByteKind.reads c.args.cell.now)
    (read_pushed c.self.invariant (g.K.ByteKind.read c.args.cell.now) c.push_cell.new.bytes.items taken)
