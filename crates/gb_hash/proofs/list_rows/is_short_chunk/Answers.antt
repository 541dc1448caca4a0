use Rattle.std.proofs.Common.{◌≡◌, ◌∙◌, ◌<◌, ◌==◌, ℕ, [], inl, inr, arith, get_or, length, subst, sym}
use Rattle.std.proofs.lemmas.Bool.{cases_Bool, eqb-false, eqb-true}
use Rattle.std.proofs.lemmas.List.{length-map}
use Rattle.gb_defs.specs.Slot.{Bytes}
use Rattle.std.proofs.lemmas.List.Elements.{All-from_get_or}
use Rattle.gb_hash.specs.Short.{IsShort}
use Rattle.gb_hash.proofs.list_rows.is_short_chunk.Goals as goal

pub loop-i-preserved : goal.loop-i-preserved
loop-i-preserved c k lt = elim (cases_Bool (k == c.loop-i.i)) [
  | inl e ↦
      let is : k ≡ c.loop-i.i = eqb-true _ _ e in
      let mine : IsShort (get_or c.args.chunk.now c.loop-i.i []) = subst IsShort c.get.ensures (record { valid = c.get.utf8; few = c.if-get-gt16.false }) in
      subst (λ (n : ℕ). IsShort (get_or c.args.chunk.now n [])) (sym is) mine
  | inr e ↦ c.loop-i.invariant k (omega (arith, lt, eqb-false _ _ e))
]

pub returns : goal.returns
returns c _ = All-from_get_or IsShort c.args.chunk.now [] (λ k lt. let many = c.len-i-end.ensures.value ∙ length-map c.args.chunk.now (λ bytes. Bytes bytes) in c.loop-i.invariant k (omega (arith, lt, many)))
