use Rattle.std.proofs.Common.{◌≡◌, ◌+◌, ◌-◌, [], ◌∷◌, ◌++◌, false, ap, ◌∙◌, ℤ, pos, arith, rules, to_z, of_z}
use mir.Syntax.{w32}
use Rattle.mv_short_sets.specs.Deltas.{taken}
use Rattle.mv_short_sets.proofs.DeltaSteps.{backward_turn}
use Rattle.mv_short_sets.proofs.deltas.add_backward.Goals as goal

-- the last candidate that is left comes next
pub loop-left-preserved : goal.loop-left-preserved
loop-left-preserved c =
    let value : to_z w32 (of_z w32 c.moved_by.result) ≡ c.moved_by.result = search rules in
    let next = c.loop-left.left - 1 in (
      backward_turn c.args.side c.args.set.now _ c.args.first next c.loop-left.left c.args.some.now (record { delta = pos 0; used = false }) c.loop-left.out.items _ _
          (omega arith) (omega arith)
          (c.in_ok-add_taken.ensures
          ∙ ap (λ (z : ℤ). c.loop-left.out.items ++ taken c.args.side c.args.set.now (record { delta = z; flags = c.args.first + next } ∷ [])) (value ∙ c.moved_by.ensures))
          c.loop-left.invariant.0,
      omega arith,
    )
