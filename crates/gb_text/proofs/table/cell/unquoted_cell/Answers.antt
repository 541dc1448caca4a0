use Rattle.std.proofs.Common.{◌∙◌, drop, sym, ◌≡◌, ◌≢◌, ◌⊎◌, inl, inr, true, false, length, get_or, refl, arith}
use Rattle.std.proofs.lemmas.List.{drop_all, take_rest}
use Rattle.std.proofs.lemmas.Option.{IfSome_then}
use Rattle.gb_text.proofs.PlainLemmas.{unquoted_closed, unquoting_half, unquoting_more, unquoting_none}
use Rattle.gb_text.proofs.table.cell.unquoted_cell.Goals as goal
use Rattle.gb_text.proofs.table.cell.unquoted_cell.Goals.{else-byte-eq34-via-then-byte-eq34+else-not-half, else-byte-eq34-via-else-byte-eq34, else-byte-ne34-via-then-byte-ne34+else-half, else-byte-ne34-via-else-byte-ne34}

pub loop-i-init : goal.loop-i-init
loop-i-init c = rw c.clear.ensures.items (unquoting_none c.args.body.now)

pub loop-i-preserved-then-not-half : goal.loop-i-preserved-then-not-half
loop-i-preserved-then-not-half c =
    unquoting_half c.args.body.now c.loop-i.i c.loop-i.half c.loop-i.room.items c.loop-i.invariant (omega arith) c.if-byte-eq34.true c.if-not-half.true

pub returns-then-half : goal.returns-then-half
returns-then-half c =
    let body = c.args.body.now in
    let closed = rw (take_rest body c.loop-i.i) at c.behind_close.ensures in
    IfSome_then c.behind_close.result closed (λ end h. unquoted_closed body c.loop-i.i c.loop-i.half c.loop-i.room.items c.loop-i.invariant end.0.now end.1 c.if-half.true h)

pub loop-i-preserved : goal.loop-i-preserved
loop-i-preserved c =
    let byte = get_or c.args.body.now c.loop-i.i 0 in
    let which : ((byte ≡ 34) × (c.loop-i.half ≡ true)) ⊎ ((byte ≢ 34) × (c.loop-i.half ≡ false)) =
    elim c.else-byte-ne34.branch [
      | else-byte-ne34-via-then-byte-ne34+else-half w ↦ inr (w.if-byte-ne34.true, w.if-half.false)
      | else-byte-ne34-via-else-byte-ne34 w ↦ elim c.else-byte-eq34.branch [
        | else-byte-eq34-via-then-byte-eq34+else-not-half v ↦ inl (w.if-byte-ne34.false, v.if-not-half.false)
        | else-byte-eq34-via-else-byte-eq34 v ↦ absurd (v.if-byte-eq34.false w.if-byte-ne34.false)
      ]
    ] in
    rw c.in_ok-push.ensures.items (unquoting_more c.args.body.now c.loop-i.i c.loop-i.half c.loop-i.room.items c.loop-i.invariant (omega arith) byte refl which)

pub returns-then-half-2 : goal.returns-then-half-2
returns-then-half-2 c =
    let body = c.args.body.now in
    let none : drop (length body) body ≡ drop c.loop-i.i body = drop_all (length body) body (omega arith) ∙ sym (drop_all c.loop-i.i body (omega arith)) in
    let closed = rw (take_rest body (length body), none) at c.behind_close-then-half-2.ensures in
    IfSome_then c.behind_close-then-half-2.result closed (λ end h. unquoted_closed body c.loop-i.i c.loop-i.half c.loop-i.room.items c.loop-i.invariant end.0.now end.1 c.if-half-2.true h)
