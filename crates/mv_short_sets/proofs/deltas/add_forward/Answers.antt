use Rattle.std.proofs.Common.{◌≡◌, ◌+◌, [], ◌∷◌, ◌++◌, false, ap, ◌∙◌, ℤ, pos, rules, to_z, of_z}
use mir.Syntax.{w32}
use Rattle.mv_short_sets.specs.Deltas.{taken}
use Rattle.mv_short_sets.proofs.DeltaSteps.{forward_turn}
use Rattle.mv_short_sets.proofs.deltas.add_forward.Goals as goal

-- the candidate at j comes next
pub loop-j-preserved : goal.loop-j-preserved
loop-j-preserved c =
    let value : to_z w32 (of_z w32 c.moved_by.result) ≡ c.moved_by.result = search rules in
    forward_turn c.args.side c.args.set.now _ c.args.first c.loop-j.j c.args.some.now (record { delta = pos 0; used = false }) c.loop-j.out.items _ _
    c.loop-j-test.true
    (c.in_ok-add_taken.ensures
    ∙ ap (λ (z : ℤ). c.loop-j.out.items ++ taken c.args.side c.args.set.now (record { delta = z; flags = c.args.first + c.loop-j.j } ∷ [])) (value ∙ c.moved_by.ensures))
    c.loop-j.invariant
