use Rattle.std.proofs.Common.{◌≡◌, length, refl, ap, ◌∙◌, subst}
use Rattle.mv_syntax.specs.Printed.{printed}
use Rattle.mv_common.specs.ProfileTier.{profile_tier_level, ProfileTierValue}
use Rattle.mv_common.proofs.ProfileTiers.{valid_lengths}
use Rattle.mv_common.proofs.profile_tier.print_profile_tier.Goals as goal

pub print_sub_layers-requires-clause-profiles : goal.print_sub_layers-requires-clause-profiles
unfolding profile_tier_level
print_sub_layers-requires-clause-profiles c =
    ap length (c.deref-5.ensures.value ∙ ap (λ (v : ProfileTierValue). v.sub_layer_profile_present_flag) c.v.view_is)
    ∙ (valid_lengths c.args.subs _ _ c.requires.0.1.1.0).0

pub print_sub_layers-requires-clause-levels : goal.print_sub_layers-requires-clause-levels
unfolding profile_tier_level
print_sub_layers-requires-clause-levels c =
    ap length (c.deref-6.ensures.value ∙ ap (λ (v : ProfileTierValue). v.sub_layer_level_present_flag) c.v.view_is)
    ∙ (valid_lengths c.args.subs _ _ c.requires.0.1.1.0).1

pub returns : goal.returns
unfolding profile_tier_level
returns c =
    let P : ProfileTierValue → Type 0 = λ v. c.print_sub_layers.new.out ≡ printed (profile_tier_level c.args.present c.args.subs) v c.args.out.now in
    subst P c.v.view_is (rw (c.in_ok-print_sub_layers.ensures, c.in_ok-print_reserved_bits_if.ensures, c.in_ok-print_all_sub_layer_flags.ensures, c.in_ok-u8.ensures, c.in_ok-print_profile_if.ensures, c.deref.ensures.value, c.deref-2.ensures.value, c.deref-3.ensures.value, c.deref-4.ensures.value, c.deref-5.ensures.value, c.deref-6.ensures.value) refl)
