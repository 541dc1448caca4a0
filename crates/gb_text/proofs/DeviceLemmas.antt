-- What pieces leave in a source, and what a sink holds after them.
use Rattle.std.proofs.Common.{◌≡◌, ℕ, ◌+◌, ◌≤◌, List, [], ◌∷◌, ◌++◌, Vec, get_or, length, take, drop, Option, Some, None, Result, Err, ◌≢◌, option_map, refl, sym, subst, ap, ◌∙◌, ◌<◌, inl, inr, arith, append_assoc, length-append, append-nil}
use Rattle.std.proofs.Math.Nat.{eq-or-lt_of_le}
use Rattle.std.proofs.Math.Seq.{take-add, take-append-add}
use Rattle.std.proofs.lemmas.List.{take-append-drop, take-append-le, take_more, take-take, take_all, take_at}
use Rattle.std.specs.Option.{IfSome}
use Rattle.gb_base.specs.Device.{Rose}
use Rattle.gb_text.specs.declared.status.Status.{Status}
use Rattle.gb_text.specs.declared.status.Status.TheVariants.{Done, Usage, Table, Group, ReadFault, WriteFault, TooLong, NoMemory}
use Rattle.std.proofs.lemmas.Grind.{flat_map-append}
use Rattle.gb_flat.specs.Buffers.{joined}
use Rattle.gb_text.specs.Moved.{HasMoved, HasTaken, Holds, HoldsPart, IsInputFault, IsPieceFault}

-- one more piece was written
pub held_more : (text piece : List ℕ) (done count : ℕ) (before held after : Option (List ℕ)) → held ≡ option_map (λ h. h ++ take done text) before → piece ≡ drop done text →
    after ≡ option_map (λ h. h ++ take count piece) held → after ≡ option_map (λ h. h ++ take (done + count) text) before
held_more text piece done count None held after h p e = e ∙ ap (option_map (λ x. x ++ take count piece)) h
held_more text piece done count (Some b) held after h p e =
    e ∙ ap (option_map (λ x. x ++ take count piece)) h ∙ ap (λ x. Some x) (append_assoc b (take done text) (take count piece) ∙ ap (λ x. b ++ x) (ap (λ q. take done text ++ take count q) p ∙ sym (take-add done count text)))

-- one more piece was read
pub left_more : (bytes piece : List ℕ) (before left after : Option (List ℕ)) → before ≡ option_map (λ rest. bytes ++ rest) left → left ≡ option_map (λ rest. piece ++ rest) after →
    before ≡ option_map (λ rest. (bytes ++ piece) ++ rest) after
left_more bytes piece before left None h e = h ∙ ap (option_map (λ x. bytes ++ x)) e
left_more bytes piece before left (Some rest) h e = h ∙ ap (option_map (λ x. bytes ++ x)) e ∙ ap (λ x. Some x) (sym (append_assoc bytes piece rest))

-- what was read of what was left at first
pub taken : (most : ℕ) (bytes : List ℕ) (before after : Option (List ℕ)) → before ≡ option_map (λ rest. bytes ++ rest) after → length bytes ≤ most → HasTaken most before after
taken most bytes None after h few = tt
taken most bytes (Some b) None h few = cc
taken most bytes (Some b) (Some rest) h few = let e : b ≡ bytes ++ rest = cc in omega (arith, ap length e, length-append bytes rest)

-- the whole of it
pub read_whole : (bytes : List ℕ) (before after : Option (List ℕ)) → before ≡ option_map (λ rest. bytes ++ rest) after → IfSome after (λ rest. rest ≡ []) → IfSome before (λ told. bytes ≡ told)
read_whole bytes None after h ends = tt
read_whole bytes (Some b) None h ends = cc
read_whole bytes (Some b) (Some rest) h ends = let e : b ≡ bytes ++ rest = cc in sym (e ∙ ap (λ x. bytes ++ x) ends ∙ append-nil bytes)

-- the end was met
pub ended : (bytes : List ℕ) (before after : Option (List ℕ)) → before ≡ option_map (λ rest. bytes ++ rest) after → IfSome after (λ rest. rest ≡ []) → IfSome before (λ _. after ≡ Some [])
ended bytes None after h ends = tt
ended bytes (Some b) None h ends = cc
ended bytes (Some b) (Some rest) h ends = ap (λ x. Some x) ends

-- nothing was read yet
pub left_first : (bytes : List ℕ) (left : Option (List ℕ)) → bytes ≡ [] → left ≡ option_map (λ rest. bytes ++ rest) left
left_first bytes None e = refl
left_first bytes (Some rest) e = ap (λ x. Some (x ++ rest)) (sym e)

-- so much was read that more was left at first
pub more_than : (limit : ℕ) (bytes : List ℕ) (before after : Option (List ℕ)) → before ≡ option_map (λ rest. bytes ++ rest) after → limit < length bytes → IfSome before (λ told. limit < length told)
more_than limit bytes None after h more = tt
more_than limit bytes (Some b) None h more = cc
more_than limit bytes (Some b) (Some rest) h more = let e : b ≡ bytes ++ rest = cc in omega (arith, ap length e, length-append bytes rest)

pub left_moved : (count : ℕ) (bytes bytes_after : List ℕ) (first before after : Option (List ℕ)) → first ≡ option_map (λ rest. bytes ++ rest) before → HasMoved count bytes bytes_after before after →
    first ≡ option_map (λ rest. bytes_after ++ rest) after
left_moved count bytes bytes_after first before after h m = rw m.bytes_is (left_more bytes m.piece first before after h m.left_is)

pub long_moved : {before after : Option (List ℕ)} (count : ℕ) (bytes bytes_after : List ℕ) → HasMoved count bytes bytes_after before after → length bytes_after ≡ length bytes + count
long_moved count bytes bytes_after m = rw m.bytes_is (omega (arith, length-append bytes m.piece, m.long))

-- at most so much was taken behind what was read
pub taken_behind : (most few : ℕ) (bytes : List ℕ) (first before after : Option (List ℕ)) → first ≡ option_map (λ rest. bytes ++ rest) before → length bytes ≤ few → HasTaken most before after →
    HasTaken (few + most) first after
taken_behind most few bytes None before after h small t = tt
taken_behind most few bytes (Some b) None after h small t = cc
taken_behind most few bytes (Some b) (Some rest) None h small t = absurd t
taken_behind most few bytes (Some b) (Some rest) (Some r) h small t = let e : b ≡ bytes ++ rest = cc in omega (arith, ap length e, length-append bytes rest)

pub none_taken : (most : ℕ) (left : Option (List ℕ)) → HasTaken most left left
none_taken most None = tt
none_taken most (Some b) = omega arith

pub rose_later : (first before after : ℕ) → first ≤ before → before ≤ after → Rose before after → Rose first after
rose_later first before after h k (inl r) = inl (omega arith)
rose_later first before after h k (inr r) = elim (eq-or-lt_of_le h) [ inl e ↦ inr (omega arith) | inr l ↦ inl (omega arith) ]

pub input_fault : (first before after limit : ℕ) (left : Option (List ℕ)) (s : Status) → first ≤ before → before ≤ after → IsPieceFault before after s → IsInputFault first after limit left s
input_fault first before after limit left ReadFault h k f = rose_later first before after h k f
input_fault first before after limit left NoMemory h k f = tt
input_fault first before after limit left Done h k f = f
input_fault first before after limit left Usage h k f = f
input_fault first before after limit left (Table e) h k f = f
input_fault first before after limit left (Group e) h k f = f
input_fault first before after limit left WriteFault h k f = f
input_fault first before after limit left TooLong h k f = absurd f

-- two errors differ whatever stands beside them
pub other_err : {A B E : Type 0} (x y : E) → let a : Result A E = Err x in let b : Result A E = Err y in a ≢ b → let c : Result B E = Err x in let d : Result B E = Err y in c ≢ d
other_err x y n e = let q : x ≡ y = cc in n (ap (λ z. Err z) q)

-- a piece that was read into the room behind some bytes, which are then cut back to it
pub read_behind : (old zeros whole room post behind : List ℕ) (held count size : ℕ) → held ≡ length old → whole ≡ take (held + 65536) old ++ zeros → count ≤ length room → held + length room ≤ size
    → take (held + count) (take size (take held whole ++ (room ++ post) ++ behind)) ≡ old ++ take count room
read_behind old zeros whole room post behind held count size long is low inside =
    let front : take held whole ≡ old = ap (take held) (is ∙ ap (λ front. front ++ zeros) (take_all (held + 65536) old (omega (arith, long)))) ∙ take_at old zeros held (sym long) in
    take-take (held + count) size (take held whole ++ (room ++ post) ++ behind) (omega (arith, low, inside))
    ∙ ap (λ front. take (held + count) (front ++ (room ++ post) ++ behind)) front
    ∙ ap (take (held + count)) (append_assoc old (room ++ post) behind)
    ∙ ap (λ n. take (n + count) (old ++ ((room ++ post) ++ behind))) long
    ∙ take-append-add old ((room ++ post) ++ behind) count
    ∙ ap (λ piece. old ++ piece) (take-append-le count (room ++ post) behind (omega (arith, low, length-append room post)) ∙ take-append-le count room post low)

-- ---- a text in parts

-- a part of one part, behind the parts before it, is a part of the text
part_behind : (xs ys zs : List ℕ) (before mid after : Option (List ℕ)) → Holds xs before mid → HoldsPart ys mid after → HoldsPart (xs ++ (ys ++ zs)) before after
part_behind xs ys zs before mid after held part = record {
  count = length xs + part.count;
  less = omega (arith, part.less, length-append xs (ys ++ zs), length-append ys zs);
  part = part.part ∙ ap (option_map (λ h. h ++ take part.count ys)) held ∙ both before;
}
  where
    front : (b : List ℕ) → (b ++ xs) ++ take part.count ys ≡ b ++ take (length xs + part.count) (xs ++ (ys ++ zs))
    front b =
        append_assoc b xs (take part.count ys)
        ∙ ap (λ t. b ++ t) (ap (λ t. xs ++ t) (sym (take-append-le part.count ys zs (omega (arith, part.less)))) ∙ sym (take-append-add xs (ys ++ zs) part.count))

    both : (o : Option (List ℕ)) → option_map (λ h. h ++ take part.count ys) (option_map (λ h. h ++ xs) o) ≡ option_map (λ h. h ++ take (length xs + part.count) (xs ++ (ys ++ zs))) o
    both None = refl
    both (Some b) = ap (λ t. Some t) (front b)

pub part_of_parts : {A : Type 0} (parts : List (Vec ℕ A)) (k : ℕ) (d : Vec ℕ A) → k < length parts → (before mid after : Option (List ℕ)) →
    Holds (joined (take k parts)) before mid → HoldsPart (get_or parts k d).items mid after → HoldsPart (joined parts) before after
part_of_parts parts k d lt before mid after held part =
    let item = get_or parts k d in
    let front = joined (take k parts) in
    let rest = joined (drop (k + 1) parts) in
    let all : joined parts ≡ front ++ (item.items ++ rest) =
    ap joined (sym (take-append-drop (k + 1) parts) ∙ ap (λ ps. ps ++ drop (k + 1) parts) (take_more parts k d lt))
    ∙ flat_map-append (λ (buf : Vec ℕ _). buf.items) (take k parts ++ item ∷ []) (drop (k + 1) parts)
    ∙ ap (λ xs. xs ++ rest) (flat_map-append (λ (buf : Vec ℕ _). buf.items) (take k parts) (item ∷ []) ∙ ap (λ xs. front ++ xs) (append-nil item.items))
    ∙ append_assoc front item.items rest in
    subst (λ t. HoldsPart t before after) (sym all) (part_behind front item.items rest before mid after held part)
