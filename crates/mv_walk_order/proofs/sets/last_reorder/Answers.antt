use Rattle.std.proofs.Common.{◌≡◌, ◌∙◌, sym, ap, length, ◌-◌, Option, Some}
use Rattle.std.specs.Prelude.{option_map, slice_get}
use Rattle.std.specs.Option.{option_copied}
use Rattle.mv_syntax.specs.Words.{◌otherwise◌}
use Rattle.mv_common.specs.declared.sub_layer_ordering.SubLayer.{SubLayer}
use Rattle.mv_walk_order.proofs.OrderLaws.{last-is}
use Rattle.mv_walk_order.proofs.sets.last_reorder.Goals as goal

pub returns-in-Some : goal.returns-in-Some
returns-in-Some c =
    let e : slice_get c.args.sub_layers.now (length c.args.sub_layers.now - 1) ≡ Some c.in-Some.sub_layer.now = sym c.last.ensures.value ∙ ap option_copied c.in-Some.is in
    sym (ap (λ (o : Option SubLayer). option_map (λ (s : SubLayer). s.max_num_reorder_pics) o otherwise 0) (last-is c.args.sub_layers.now ∙ e))
