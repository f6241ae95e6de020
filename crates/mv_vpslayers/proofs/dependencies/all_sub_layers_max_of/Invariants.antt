use Rattle.std.proofs.Common.{◌≡◌}
use Rattle.mv_syntax.specs.Table.{u}
use Rattle.mv_syntax.specs.inner.Reader.{read}
use Rattle.mv_syntax.specs.Words.{◌!◌∶◌, is}
use Rattle.mv_syntax.specs.Loops.{each}
use Rattle.mv_syntax.specs.inner.Turns.{rest_of_items}
use Rattle.mv_rules.specs.declared.rule.Rule.TheVariants.{VpsLimit}
use Rattle.mv_vpslayers.specs.Dependencies.{all_sub_layers_max}
use Rattle.mv_vpslayers.proofs.dependencies.all_sub_layers_max_of.Given as goal

abbrev pub invariant-loop-i : goal.invariant-loop-i
invariant-loop-i l =
    (read (all_sub_layers_max l.vps_max_layers_minus1) l.fn.bits.left ≡ rest_of_items (each (u 3 ! VpsLimit ∶ is 7)) l.i l.end l.all.items l.bits.left)
    × (l.bits.total ≡ l.fn.bits.total)
