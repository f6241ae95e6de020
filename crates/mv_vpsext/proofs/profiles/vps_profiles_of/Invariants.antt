use Rattle.std.proofs.Common.{◌≡◌}
use Rattle.mv_syntax.specs.inner.Reader.{read}
use Rattle.mv_syntax.specs.inner.Turns.{rest_of_items}
use Rattle.mv_vpsext.specs.Profiles.{vps_profile, vps_profiles}
use Rattle.mv_vpsext.proofs.profiles.vps_profiles_of.Given as goal

abbrev pub invariant-loop-i : goal.invariant-loop-i
invariant-loop-i l =
    (read (vps_profiles l.vps_max_sub_layers_minus1 l.vps_num_profile_tier_level_minus1) l.fn.bits.left
    ≡ rest_of_items (vps_profile l.vps_max_sub_layers_minus1) l.i l.end l.all.items l.bits.left)
    × (l.bits.total ≡ l.fn.bits.total)
