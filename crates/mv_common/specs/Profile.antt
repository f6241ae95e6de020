-- The group `profile` of profile_tier_level, of 88 bits (7.3.3).
use Rattle.std.specs.Prelude.{refl}
use Rattle.mv_syntax.specs.Table.{Table, u, named, shaped}
use Rattle.mv_syntax.specs.Words.{◌▸◌, ◌>>◌}
use Rattle.mv_common.specs.declared.profile.Profile.{Profile}

unfoldable pub profile : Table Profile
profile = shaped
    (λ (profile_space, (tier_flag, (profile_idc, (compatibility_flags, (progressive_source_flag, (interlaced_source_flag, (non_packed_constraint_flag, (frame_only_constraint_flag, (constraint_43bits, constraint_last_bit))))))))). record {
      profile_space = profile_space;
      tier_flag = tier_flag;
      profile_idc = profile_idc;
      compatibility_flags = compatibility_flags;
      progressive_source_flag = progressive_source_flag;
      interlaced_source_flag = interlaced_source_flag;
      non_packed_constraint_flag = non_packed_constraint_flag;
      frame_only_constraint_flag = frame_only_constraint_flag;
      constraint_43bits = constraint_43bits;
      constraint_last_bit = constraint_last_bit;
    })
    (λ v.
    v.profile_space
    ▸ v.tier_flag
    ▸ v.profile_idc
    ▸ v.compatibility_flags
    ▸ v.progressive_source_flag
    ▸ v.interlaced_source_flag
    ▸ v.non_packed_constraint_flag
    ▸ v.frame_only_constraint_flag
    ▸ v.constraint_43bits
    ▸ v.constraint_last_bit)
    (λ _. refl)
    do
      named "profile_space" (u 2)
      named "tier_flag" (u 1)
      named "profile_idc" (u 5)
      named "compatibility_flags" (u 32)
      named "progressive_source_flag" (u 1)
      named "interlaced_source_flag" (u 1)
      named "non_packed_constraint_flag" (u 1)
      named "frame_only_constraint_flag" (u 1)
      named "constraint_43bits" (u 43)
      named "constraint_last_bit" (u 1)
