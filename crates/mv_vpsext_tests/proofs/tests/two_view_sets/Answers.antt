use Rattle.std.proofs.Common.{◌++◌, [], ◌∷◌, ap₂, ◌∙◌}
use Rattle.mv_vpsext_tests.proofs.tests.two_view_sets.Goals as goal

pub returns : goal.returns
returns c = c.in_ok-push.ensures.items ∙ ap₂ (λ before last. before ++ last ∷ []) c.new-sets.ensures.items c.in_ok-layer_set.ensures
