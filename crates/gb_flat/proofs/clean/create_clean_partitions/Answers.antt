use Rattle.std.proofs.Common.{arith, ◌∙◌, ◌*◌, ◌<◌, ap, length}
use Rattle.gb_flat.proofs.CleanLemmas.{are_clean, dealt_all, dealt_cleanly, dealt_cut, dealt_passed, dealt_rest, place_inside}
use Rattle.gb_flat.proofs.clean.create_clean_partitions.Goals as goal
use Rattle.gb_flat.proofs.clean.create_clean_partitions.Goals.{then-start-at, else-start-at, then-start-len, else-start-len}

pub clean_cut-cut-requires-clause-inside : goal.clean_cut-cut-requires-clause-inside
clean_cut-cut-requires-clause-inside g c = rw c.max-each.ensures (place_inside (length c.args.values.now) c.args.n c.loop-k.k (omega arith))

pub loop-k-preserved : goal.loop-k-preserved
loop-k-preserved g c =
    let values = c.args.values.now in
    let is = c.loop-k.invariant.dealt in
    elim c.if-start-at.branch [
      | then-start-at w ↦
          let inside : c.loop-k.k * c.max-each.result < length values = rw c.max-each.ensures (place_inside (length values) c.args.n c.loop-k.k (omega arith)) in
          record {
            dealt = rw (w.start-is, w.parts-is) (dealt_cut g.T.PartialEq.eq values c.max-each.result c.min-most.result c.loop-k.k c.loop-k.start w.clean_cut-cut.result
                c.loop-k.parts.items w.push_reserved.new.self.items is c.loop-k-test.true w.if-start-at.true inside w.clean_cut-cut.ensures.cut w.push_reserved.ensures.items);
            room = rw w.parts-is (omega arith);
          }
      | else-start-at w ↦ record {
        dealt = rw (w.start-is, w.parts-is) (dealt_passed g.T.PartialEq.eq values c.max-each.result c.min-most.result c.loop-k.k c.loop-k.start c.loop-k.parts.items is c.loop-k-test.true w.if-start-at.false);
        room = rw w.parts-is (omega arith);
      }
    ]

pub returns-clause-ok : goal.returns-clause-ok
returns-clause-ok g c =
    let values = c.args.values.now in
    let same = g.T.PartialEq.eq in
    let is = c.loop-k.invariant.dealt in
    let done = c.loop-k-test.false in
    dealt_cleanly same values c.args.n c.max-each.result c.min-most.result c.if-start-len.parts.items c.requires c.max-each.ensures c.min-most.ensures (elim c.if-start-len.branch [
      | then-start-len w ↦
          ap (λ parts. parts.items) w.parts-is
          ∙ dealt_rest same values c.max-each.result c.min-most.result c.loop-k.k c.loop-k.start c.loop-k.parts.items w.push_reserved-then-start-len.new.self.items
          is done w.if-start-len.true w.push_reserved-then-start-len.ensures.items
      | else-start-len w ↦
          ap (λ parts. parts.items) w.parts-is
          ∙ dealt_all same values c.max-each.result c.min-most.result c.loop-k.k c.loop-k.start c.loop-k.parts.items is done w.if-start-len.false
    ])

pub returns-clause-filled : goal.returns-clause-filled
returns-clause-filled g c = (are_clean g.T.PartialEq.eq c.args.values.now c.args.n c.if-start-len.parts.items c.requires (returns-clause-ok g c)).filled

pub returns-clause-follow : goal.returns-clause-follow
returns-clause-follow g c = (are_clean g.T.PartialEq.eq c.args.values.now c.args.n c.if-start-len.parts.items c.requires (returns-clause-ok g c)).follow

pub returns-clause-inside : goal.returns-clause-inside
returns-clause-inside g c = (are_clean g.T.PartialEq.eq c.args.values.now c.args.n c.if-start-len.parts.items c.requires (returns-clause-ok g c)).inside

pub returns-clause-cover : goal.returns-clause-cover
returns-clause-cover g c = (are_clean g.T.PartialEq.eq c.args.values.now c.args.n c.if-start-len.parts.items c.requires (returns-clause-ok g c)).cover

pub returns-clause-clean : goal.returns-clause-clean
returns-clause-clean g c = (are_clean g.T.PartialEq.eq c.args.values.now c.args.n c.if-start-len.parts.items c.requires (returns-clause-ok g c)).clean
