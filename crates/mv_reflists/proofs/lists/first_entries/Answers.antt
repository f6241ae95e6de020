use Rattle.std.proofs.Common.{◌∙◌, ◌++◌, ◌∷◌, [], ap₂, sym, arith}
use Rattle.std.proofs.lemmas.Grind.{common_steps}
use Rattle.std.proofs.lemmas.List.FromFn.{map-range_with_len_more}
use Rattle.mv_pictures.specs.Lists.{entry}
use Rattle.mv_reflists.proofs.lists.first_entries.Goals as goal

pub loop-i-preserved : goal.loop-i-preserved
loop-i-preserved c = record {
  items =
      c.push_reserved.ensures.items
      ∙ ap₂ (λ l x. l ++ x ∷ []) c.loop-i.invariant.items c.entry.ensures
      ∙ sym (map-range_with_len_more (entry c.args.places.now) 0 c.loop-i.i c.loop-i.i (omega arith));
  length = grind (arith, common_steps);
  capacity = grind (arith, common_steps);
}
