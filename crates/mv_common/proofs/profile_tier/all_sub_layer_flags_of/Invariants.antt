use Rattle.std.proofs.Common.{◌≡◌}
use Rattle.mv_syntax.specs.inner.Reader.{read}
use Rattle.mv_syntax.specs.inner.Turns.{rest_of_columns}
use Rattle.mv_common.specs.ProfileTier.{sub_layer_flags, all_sub_layer_flags}
use Rattle.mv_common.proofs.profile_tier.all_sub_layer_flags_of.Given as goal

abbrev pub invariant-loop-i : goal.invariant-loop-i
invariant-loop-i l =
    (read (all_sub_layer_flags l.subs) l.fn.bits.left ≡ rest_of_columns sub_layer_flags l.i l.subs l.profile_flags.items l.level_flags.items l.bits.left)
    × (l.bits.total ≡ l.fn.bits.total)
