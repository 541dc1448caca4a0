use Rattle.std.proofs.Common.{refl, rules}
use Rattle.gb_text.proofs.table.queue.join_all.Goals as goal

pub loop-init : goal.loop-init
loop-init g c = record { stays = λ names null_word header bytes q. q; held = refl }

pub join_oldest-requires : goal.join_oldest-requires
join_oldest-requires g c =
    let s = c.requires.queue in
    record {
      queue = record {
        names = s.names;
        null_word = s.null_word;
        header = s.header;
        bytes = s.bytes;
        few = s.few;
        queue = c.loop.invariant.stays s.names s.null_word s.header s.bytes s.queue;
      };
    }

pub returns-then-not-branch-clause-stays : goal.returns-then-not-branch-clause-stays
returns-then-not-branch-clause-stays g c = λ names null_word header bytes q.
    c.in_ok-join_oldest.ensures.stays names null_word header bytes (c.loop.invariant.stays names null_word header bytes q)

pub loop-preserved : goal.loop-preserved
loop-preserved g c = record {
  stays = λ names null_word header bytes q. c.in_ok-join_oldest.ensures.stays names null_word header bytes (c.loop.invariant.stays names null_word header bytes q);
  held = search rules;
}
