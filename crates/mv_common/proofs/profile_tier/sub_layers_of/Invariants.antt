use Rattle.std.proofs.Common.{◌≡◌}
use Rattle.mv_syntax.specs.inner.Reader.{read}
use Rattle.mv_syntax.specs.inner.Turns.{rest_of_columns}
use Rattle.mv_common.specs.ProfileTier.{sub_layer, sub_layers}
use Rattle.mv_common.proofs.profile_tier.sub_layers_of.Given as goal

abbrev pub invariant-loop-i : goal.invariant-loop-i
invariant-loop-i l =
    (read (sub_layers l.subs l.profile_flags l.level_flags) l.fn.bits.left
    ≡ rest_of_columns (sub_layer l.profile_flags l.level_flags) l.i l.subs l.profiles.items l.levels.items l.bits.left)
    × (l.bits.total ≡ l.fn.bits.total)
