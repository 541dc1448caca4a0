-- The blocks that threads read: more is held behind them, one is sent, the oldest is read.
use Rattle.std.proofs.Common.{◌≡◌, ℕ, ◌<◌, ◌≤◌, List, [], ◌∷◌, ◌++◌, append-nil, append_assoc, length, length-append, map, take, drop, refl, sym, ◌∙◌, ap, arith, Option, Some, None, Result, Ok, Err, IfOk, IfSome, All, Vec}
use Rattle.std.specs.String.{string_bytes}
use Rattle.std.proofs.lemmas.List.{take-append-drop}
use Rattle.gb_text.specs.Asked.{is_asked}
use Rattle.gb_text.specs.Building.{Building, in_one_chunk}
use Rattle.gb_text.specs.Job.{HasRead}
use Rattle.gb_text.specs.Part.{HasFew, HasLines, IsPart, emptied, joined}
use Rattle.gb_text.specs.Plain.{IsBehind}
use Rattle.gb_text.specs.Queue.{AreBlocks, IsBlock, IsDone, IsQueue, IsQueued, IsSomeQueue, IsSomeQueueOf, IsTail, block_of, unread}
use Rattle.gb_text.specs.Stream.{HasFilled}
use Rattle.gb_text.specs.Table.{columns_of_header}
use Rattle.gb_text.specs.declared.table.jobs.Block.{Block}
use Rattle.gb_text.specs.declared.table.jobs.Done.{Done}
use Rattle.gb_text.specs.declared.table.jobs.Job.{Job}
use Rattle.gb_text.proofs.ExtendLemmas.{behind_longer, part_longer}
use Rattle.gb_text.proofs.StreamLemmas.{front_alike, front_has_few, front_join, held_few, others_few, streamed_more}

-- ---- one block

module _ (text : List ℕ) (place : ℕ) (rest : List ℕ) (t : IsTail text place rest) where
  -- the text, with what stands behind it
  whole : text ++ t.more ≡ take place text ++ rest
  whole =
      ap (λ xs. xs ++ t.more) (sym (take-append-drop place text)) ∙ append_assoc (take place text) (drop place text) t.more
      ∙ ap (λ xs. take place text ++ xs) (sym t.goes_on)

  tail_some : 0 < length rest
  tail_some = omega (arith, t.some, ap length t.goes_on, length-append (drop place text) t.more)

  tail_behind : IsBehind (take place text ++ rest) rest
  tail_behind =
      let b = behind_longer text (drop place text) t.more (record { count = place; is = refl }) t.some in
      rw (whole, ← t.goes_on) at b

  tail_longer : (more : List ℕ) → IsTail text place (rest ++ more)
  tail_longer more = record { some = t.some; more = t.more ++ more; goes_on = ap (λ xs. xs ++ more) t.goes_on ∙ append_assoc (drop place text) t.more more }

  tail_part : (names : List (List ℕ)) (null_word : List ℕ) (header : List (List ℕ)) (columns : List Building) → IsPart names null_word header text (drop place text) columns
      → IsPart names null_word header (take place text ++ rest) rest columns
  tail_part names null_word header columns p =
      let q = part_longer names null_word header text (drop place text) t.more columns p t.some in
      rw (whole, ← t.goes_on) at q

-- the same by other names
tail_same : (text held : List ℕ) (end place : ℕ) → text ≡ held → end ≡ place → 0 < length (drop place held) → IsTail text end (drop place held)
tail_same text held end place e h some = rw (e, h) (record { some = some; more = []; goes_on = sym (append-nil (drop place held)) })

cut_same : (text held : List ℕ) (end place : ℕ) → text ≡ held → end ≡ place → take end text ++ drop place held ≡ held
cut_same text held end place e h = rw (e, h) (take-append-drop place held)

part_same : (names : List (List ℕ)) (word null_word : List ℕ) (header : List (List ℕ)) (text rest : List ℕ) (columns : List Building) → word ≡ null_word → IsPart names word header text rest columns → IsPart names null_word header text rest columns
part_same names word null_word header text rest columns e p = rw e at p

-- ---- the blocks

unread_longer : (jobs : List Job) (held more : List ℕ) → unread jobs (held ++ more) ≡ unread jobs held ++ more
unread_longer [] held more = refl
unread_longer (j ∷ js) held more =
    let front = take (block_of j).place (block_of j).text.items in
    ap (λ xs. front ++ xs) (unread_longer js held more) ∙ sym (append_assoc front (unread js held) more)

-- a text that is sent stands behind the others
unread_sent : (jobs : List Job) (j : Job) (held rest : List ℕ) → take (block_of j).place (block_of j).text.items ++ rest ≡ held → unread (jobs ++ j ∷ []) rest ≡ unread jobs held
unread_sent [] j held rest e = e
unread_sent (k ∷ ks) j held rest e = ap (λ xs. take (block_of k).place (block_of k).text.items ++ xs) (unread_sent ks j held rest e)

held_within : (jobs : List Job) (held : List ℕ) → length held ≤ length (unread jobs held)
held_within [] held = omega arith
held_within (j ∷ js) held = omega (arith, held_within js held, length-append (take (block_of j).place (block_of j).text.items) (unread js held))

module _ (names : List (List ℕ)) (null_word : List ℕ) (header : List (List ℕ)) where
  blocks_longer : (jobs : List Job) (held more : List ℕ) → AreBlocks names null_word header jobs held → AreBlocks names null_word header jobs (held ++ more)
  blocks_longer [] held more b = tt
  blocks_longer (j ∷ js) held more b =
      let tail = tail_longer (block_of j).text.items (block_of j).place (unread js held) b.0.tail more in (
        record { null_word_is = b.0.null_word_is; start = b.0.start; tail = rw (unread_longer js held more) tail },
        blocks_longer js held more b.1,
      )

  blocks_sent : (jobs : List Job) (j : Job) (held rest : List ℕ) → take (block_of j).place (block_of j).text.items ++ rest ≡ held → IsBlock names null_word header (block_of j) rest
      → AreBlocks names null_word header jobs held → AreBlocks names null_word header (jobs ++ j ∷ []) rest
  blocks_sent [] j held rest e one b = (one, tt)
  blocks_sent (k ∷ ks) j held rest e one b = (rw (unread_sent ks j held rest e) b.0, blocks_sent ks j held rest e one b.1)

  module _ (bytes : List ℕ) (jobs : List Job) (held : List ℕ) (columns : List Building) (q : IsQueue names null_word header bytes jobs held columns) where
    pub queue_few : length bytes ≤ 4294967295 → length held ≤ 4294967295
    queue_few few = omega (arith, held_within jobs held, held_few names null_word header bytes (unread jobs held) columns q.front few)

    -- all is held again
    pub queue_back : (after : List ℕ) → after ≡ unread jobs held → IsQueue names null_word header bytes [] after columns
    queue_back after e = record { front = rw e q.front; blocks = tt; some = rw e q.some }

    -- what is held is sent, but for the last line
    pub queue_sent : (j : Job) (b : Block) → block_of j ≡ b → b.text.items ≡ held → 0 < length (drop b.place held) → string_bytes b.null_word ≡ null_word
        → columns_of_header (is_asked names) header ≡ Ok b.columns.items → IsQueue names null_word header bytes (jobs ++ j ∷ []) (drop b.place held) columns
    queue_sent j b is text_is some word start =
        let text : (block_of j).text.items ≡ held = ap (λ x. x.text.items) is ∙ text_is in
        let place : (block_of j).place ≡ b.place = ap (λ x. x.place) is in
        let same = cut_same (block_of j).text.items held (block_of j).place b.place text place in
        let one : IsBlock names null_word header (block_of j) (drop b.place held) = record {
          null_word_is = ap (λ x. string_bytes x.null_word) is ∙ word;
          start = start ∙ ap (λ x. Ok x.columns.items) (sym is);
          tail = tail_same (block_of j).text.items held (block_of j).place b.place text place some;
        } in
        let all = unread_sent jobs j held (drop b.place held) same in
        record {
          front = rw all q.front;
          blocks = blocks_sent jobs j held (drop b.place held) same one q.blocks;
          some = rw all q.some;
        }

  -- ---- the oldest block

  module _ (bytes : List ℕ) (j : Job) (jobs : List Job) (held : List ℕ) (columns : List Building) (q : IsQueue names null_word header bytes (j ∷ jobs) held columns) where
    -- the lines that were read of it
    pub head_part : (all : List Building) → HasLines (block_of j).columns.items (string_bytes (block_of j).null_word) (block_of j).text.items (drop (block_of j).place (block_of j).text.items) all
        → IsPart names null_word header (take (block_of j).place (block_of j).text.items ++ unread jobs held) (unread jobs held) (map in_one_chunk all)
    head_part all lines =
        let b = q.blocks.0 in
        let own = part_same names _ null_word header (block_of j).text.items (drop (block_of j).place (block_of j).text.items) (map in_one_chunk all) b.null_word_is (lines names header b.start) in
        tail_part (block_of j).text.items (block_of j).place (unread jobs held) b.tail names null_word header (map in_one_chunk all) own

    module _ (others : List Building) (p : IsPart names null_word header (take (block_of j).place (block_of j).text.items ++ unread jobs held) (unread jobs held) (map in_one_chunk others)) where
      pub head_alike : map emptied columns ≡ map emptied others
      head_alike = front_alike names null_word header bytes (unread (j ∷ jobs) held) columns q.front (unread jobs held) others p

      pub head_others_few : length bytes ≤ 4294967295 → All HasFew others
      head_others_few few = others_few names null_word header bytes (unread (j ∷ jobs) held) columns q.front (unread jobs held) others p few

      pub head_joined : (all : List Building) → map in_one_chunk all ≡ map in_one_chunk (joined columns others) → IsQueue names null_word header bytes jobs held all
      head_joined all e =
          let t = q.blocks.0.tail in
          let behind = tail_behind (block_of j).text.items (block_of j).place (unread jobs held) t in
          record {
            front = front_join names null_word header bytes (unread (j ∷ jobs) held) columns q.front (unread jobs held) others p behind all e;
            blocks = q.blocks.1;
            some = tail_some (block_of j).text.items (block_of j).place (unread jobs held) t;
          }

  module _ (bytes : List ℕ) (jobs : List Job) (held : List ℕ) (columns : List Building) (q : IsQueue names null_word header bytes jobs held columns) where
    pub queue_has_few : length bytes ≤ 4294967295 → All HasFew columns
    queue_has_few few = front_has_few names null_word header bytes (unread jobs held) columns q.front few

  -- ---- the source

  module _ (limit : ℕ) (first left : Option (List ℕ)) (read : ℕ) (jobs : List Job) (held : List ℕ) (columns : List Building) (q : IsQueued names null_word header limit first left read jobs held columns) where
    pub queued_queue : IsQueue names null_word header q.streamed.bytes jobs held columns
    queued_queue = record { front = q.streamed.front; blocks = q.blocks; some = q.streamed.some }

    pub queued_some : limit ≤ 4294967295 → IsSomeQueue jobs held columns
    queued_some few = record {
      names = names;
      null_word = null_word;
      header = header;
      bytes = q.streamed.bytes;
      few = omega (arith, few, q.streamed.counted, q.streamed.within);
      queue = queued_queue;
    }

    pub queued_of : limit ≤ 4294967295 → IsSomeQueueOf names null_word header jobs held columns
    queued_of few = record { bytes = q.streamed.bytes; few = omega (arith, few, q.streamed.counted, q.streamed.within); queue = queued_queue }

    -- more of the source is held
    pub queued_more : (now : ℕ) (held_after : List ℕ) (after : Option (List ℕ)) → HasFilled read now held held_after left after → now ≤ limit → IsQueued names null_word header limit first after now jobs held_after columns
    queued_more now held_after after f few =
        let piece = f.moved.piece in
        let filled : HasFilled read now (unread jobs held) (unread jobs held ++ piece) left after = record {
          count = f.count;
          counted = f.counted;
          moved = record { piece = piece; long = f.moved.long; bytes_is = refl; left_is = f.moved.left_is };
        } in
        let s = streamed_more names null_word header limit first left read (unread jobs held) columns q.streamed now (unread jobs held ++ piece) after filled few in
        rw f.moved.bytes_is (record { streamed = rw (unread_longer jobs held piece) s; blocks = blocks_longer jobs held piece q.blocks })

    -- lines were read, or are read by a thread
    pub queued_took : (jobs_after : List Job) (held_after : List ℕ) (columns_after : List Building)
        → ((bytes : List ℕ) → IsQueue names null_word header bytes jobs held columns → IsQueue names null_word header bytes jobs_after held_after columns_after)
        → IsQueued names null_word header limit first left read jobs_after held_after columns_after
    queued_took jobs_after held_after columns_after took =
        let s = q.streamed in
        let n = took s.bytes queued_queue in
        record {
          streamed = record { bytes = s.bytes; told = s.told; counted = s.counted; within = s.within; long = s.long; some = n.some; front = n.front };
          blocks = n.blocks;
        }

-- ---- the last block, for which there was no thread

module _ (names : List (List ℕ)) (null_word : List ℕ) (header : List (List ℕ)) (bytes : List ℕ) (d : Done) (columns : List Building) (q : IsQueue names null_word header bytes [] d.text.items columns) (done : IsDone names null_word header d) (others : List Building)
    (p : IsPart names null_word header d.text.items (drop d.place d.text.items) (map in_one_chunk others)) where
  pub last_alike : map emptied columns ≡ map emptied others
  last_alike = front_alike names null_word header bytes d.text.items columns q.front (drop d.place d.text.items) others p

  pub last_others_few : length bytes ≤ 4294967295 → All HasFew others
  last_others_few few = others_few names null_word header bytes d.text.items columns q.front (drop d.place d.text.items) others p few

  pub last_joined : (all : List Building) → map in_one_chunk all ≡ map in_one_chunk (joined columns others) → IsQueue names null_word header bytes [] (drop d.place d.text.items) all
  last_joined all e = record {
    front = front_join names null_word header bytes d.text.items columns q.front (drop d.place d.text.items) others p (record { count = d.place; is = refl }) all e;
    blocks = tt;
    some = done.some;
  }

-- what was read of a block of the table
pub block_done : (names : List (List ℕ)) (null_word : List ℕ) (header : List (List ℕ)) (b : Block) (d : Done) → HasRead b d → string_bytes b.null_word ≡ null_word
    → columns_of_header (is_asked names) header ≡ Ok b.columns.items → 0 < length (drop b.place b.text.items) → IsDone names null_word header d
block_done names null_word header b d h word start some =
    let text : b.text.items ≡ d.text.items = sym h.text_is in
    let place : b.place ≡ d.place = sym h.place_is in
    record {
      some = some_same b.text.items d.text.items b.place d.place text place some;
      within = h.within;
      found = found_same d.found h.found;
    }
  where
    some_same : (xs ys : List ℕ) (m n : ℕ) → xs ≡ ys → m ≡ n → 0 < length (drop m xs) → 0 < length (drop n ys)
    some_same xs ys m n e f some = rw (e, f) at some

    lines_same : (xs ys : List ℕ) (m n : ℕ) (columns : List Building) → xs ≡ ys → m ≡ n → IsPart names (string_bytes b.null_word) header xs (drop m xs) columns → IsPart names null_word header ys (drop n ys) columns
    lines_same xs ys m n columns e f p = part_same names _ null_word header ys (drop n ys) columns word (rw (e, f) at p)

    found_same : {A E : Type 0} (r : Result (Option (Vec Building A)) E)
        → IfOk r (λ found. IfSome found (λ all. HasLines b.columns.items (string_bytes b.null_word) b.text.items (drop b.place b.text.items) all.items))
        → IfOk r (λ found. IfSome found (λ all. IsPart names null_word header d.text.items (drop d.place d.text.items) (map in_one_chunk all.items)))
    found_same (Err e) h = tt
    found_same (Ok None) h = tt
    found_same (Ok (Some all)) lines = lines_same b.text.items d.text.items b.place d.place (map in_one_chunk all.items) (sym h.text_is) (sym h.place_is) (lines names header start)
