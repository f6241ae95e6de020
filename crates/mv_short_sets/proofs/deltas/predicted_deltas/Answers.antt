use Rattle.std.proofs.Common.{◌≡◌, ◌∙◌, rules, to_z, of_z}
use mir.Syntax.{w32}
use Rattle.mv_short_sets.proofs.DeltaSteps.{both_sides}
use Rattle.mv_short_sets.proofs.deltas.predicted_deltas.Goals as goal

pub returns : goal.returns
returns c =
    let value : to_z w32 (of_z w32 c.difference-d.result) ≡ c.difference-d.result = search rules in
    both_sides c.args.reference.now c.args.set.now _ _ _ _ _ _ _ c.requires.sides c.count_before-n.ensures
    c.split_at.ensures.front c.split_at.ensures.back (value ∙ c.difference-d.ensures.is) c.new-out.ensures.items
    c.in_ok-add_before.ensures c.in_ok-add_after.ensures
