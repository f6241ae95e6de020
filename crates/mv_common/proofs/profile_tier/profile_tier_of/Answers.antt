use Rattle.std.proofs.Common.{length, ap, ◌∙◌}
use Rattle.mv_common.proofs.ProfileTiers.{read_lengths}
use Rattle.mv_common.proofs.profile_tier.profile_tier_of.Goals as goal

pub sub_layers_of-requires-clause-profiles : goal.sub_layers_of-requires-clause-profiles
sub_layers_of-requires-clause-profiles c =
    ap length c.deref.ensures.value ∙ (read_lengths _ _ _ _ _ c.in_ok-profile_flags.ensures.0).0

pub sub_layers_of-requires-clause-levels : goal.sub_layers_of-requires-clause-levels
sub_layers_of-requires-clause-levels c =
    ap length c.deref-2.ensures.value ∙ (read_lengths _ _ _ _ _ c.in_ok-profile_flags.ensures.0).1
