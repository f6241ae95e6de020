use Rattle.std.proofs.Common.{◌≡◌, ◌++◌, [], ◌∷◌, ap₂, ◌∙◌}
use Rattle.mv_vpsext_tests.proofs.tests.diamond_sets.Goals as goal

pub returns : goal.returns
returns c =
    let first : c.push.new.self.items ≡ (1 ∷ 0 ∷ 1 ∷ 0 ∷ 0 ∷ 0 ∷ []) ∷ [] = c.in_ok-push.ensures.items ∙ ap₂ (λ before last. before ++ last ∷ []) c.new-sets.ensures.items c.in_ok-layer_set.ensures in
    c.in_ok-push-2.ensures.items ∙ ap₂ (λ before last. before ++ last ∷ []) first c.in_ok-layer_set-2.ensures
