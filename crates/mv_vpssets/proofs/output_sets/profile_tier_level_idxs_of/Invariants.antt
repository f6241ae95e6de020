use Rattle.std.proofs.Common.{◌≡◌}
use Rattle.mv_syntax.specs.inner.Reader.{read}
use Rattle.mv_syntax.specs.inner.Turns.{rest_of_items}
use Rattle.mv_vpssets.specs.OutputSets.{profile_tier_level_idx, profile_tier_level_idxs}
use Rattle.mv_vpssets.proofs.output_sets.profile_tier_level_idxs_of.Given as goal

abbrev pub invariant-loop-j : goal.invariant-loop-j
invariant-loop-j l =
    (read (profile_tier_level_idxs l.profiles l.set) l.fn.bits.left
    ≡ rest_of_items (profile_tier_level_idx l.profiles l.set) l.j l.end l.all.items l.bits.left)
    × (l.bits.total ≡ l.fn.bits.total)
