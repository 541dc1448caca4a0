use Rattle.std.proofs.Common.{arith, ◌≡◌, ◌∙◌, ℕ, ◌+◌, List, ◌∷◌, [], ◌++◌, Vec, ap, map, refl, sym}
use Rattle.std.proofs.lemmas.List.{map-append}
use Rattle.std.proofs.lemmas.List.FromFn.{map-range_with_len_more}
use Rattle.smallvec.specs.SmallVec.{SmallVec}
use Rattle.gb_defs.specs.Rows.{Rows}
use Rattle.gb_paths.specs.Leaders.{led, led_by, led_partitions}
use Rattle.gb_paths.specs.Partitions.{list_joined}
use Rattle.gb_paths.specs.declared.leaders.LedRows.{LedRows}
use Rattle.gb_paths.proofs.number_partitions.lead_range.Goals as goal

-- the leaders of one partition more
led_more : {A : Type 0} (rows : Rows) (shares : List (Vec (SmallVec ℕ) A)) (start place : ℕ) (parts after : List LedRows) (part : LedRows) → after ≡ parts ++ part ∷ [] →
    map led parts ≡ led_partitions rows shares (start, place) → led part ≡ led_by rows (list_joined shares (start + place)) → map led after ≡ led_partitions rows shares (start, place + 1)
led_more rows shares start place parts after part longer so_far here =
    ap (map led) longer ∙ map-append led parts (part ∷ [])
    ∙ ap (λ ls. ls ++ led part ∷ []) so_far ∙ ap (λ l. led_partitions rows shares (start, place) ++ l ∷ []) here
    ∙ sym (map-range_with_len_more (λ partition. led_by rows (list_joined shares partition)) start place (start + place) refl)

pub loop-place-preserved : goal.loop-place-preserved
loop-place-preserved g c = record {
  so_far = led_more (g.R.KeyRows.rows c.args.rows.now) c.args.shares.now c.args.range.0 c.loop-place.place _ _ _ c.push_reserved.ensures.items c.loop-place.invariant.so_far c.in_ok-lead_partition.ensures.ok;
  each = omega arith;
  room = omega arith;
}
