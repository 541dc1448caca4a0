use Rattle.std.proofs.Common.{◌≡◌, ◌∙◌, List, ℕ, None, Option, OnOk, IfErr, ap, subst, sym}
use Rattle.gb_base.specs.PolarsError.{Explains}
use Rattle.gb_defs.specs.Column.{ColumnValue}
use Rattle.gb_defs.specs.Fault.{Fault}
use Rattle.gb_row_hash.proofs.AlikeLemmas.{typed_alike}
use Rattle.gb_row_hash.proofs.logical_hash.LogicalVecHash.vec_hash_combine.Goals as goal

pub returns : goal.returns
returns g c =
    let same =
    typed_alike (g.M.Mixer.seed_of c.args.random_state) (g.M.Mixer.mix_of c.args.random_state) c.args.self.now c.physical.result.now (g.K.LogicalKind.flat c.kind.result) g.K.Physical.Native.Native.flat
    (ap (λ (v : ColumnValue). v.slots) c.physical.ensures.column) c.kind.ensures.kind c.physical.ensures.typed (g.met.K.HashKind.alike c.kind.result (g.M.Mixer.seed_of c.args.random_state) (g.M.Mixer.mix_of c.args.random_state)) (g.met.K.HashKind.combined c.kind.result) in
    record {
      ok = subst (λ (hs : List ℕ). OnOk c.vec_hash_combine.result (c.vec_hash_combine.new.hashes ≡ hs)) (sym (same.combined c.args.hashes.now)) c.vec_hash_combine.ensures.ok;
      sound = subst (λ (f : Option Fault). OnOk c.vec_hash_combine.result (f ≡ None)) (sym same.faults) c.vec_hash_combine.ensures.sound;
      flat = λ none. c.vec_hash_combine.ensures.flat (sym same.faults ∙ none);
      err = subst (λ (f : Option Fault). IfErr c.vec_hash_combine.result (λ e. Explains e f)) (sym same.faults) c.vec_hash_combine.ensures.err;
      unchanged = c.vec_hash_combine.ensures.unchanged;
    }
