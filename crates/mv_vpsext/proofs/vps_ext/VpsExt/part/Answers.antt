use Rattle.std.proofs.Common.{◌≤◌, get_or, refl, sym, subst, ◌∙◌}
use Rattle.mv_fields.specs.Faults.{means}
use Rattle.mv_vpsext.specs.VpsExt.{vps_extension}
use Rattle.mv_vpsext.specs.Derived.{no_dpb, reorder_pics}
use Rattle.mv_vpsext.proofs.Bounds.{sub_layers_of_read}
use Rattle.mv_vpssets.proofs.SetSteps.{some_sets}
use Rattle.mv_vpsext.proofs.Extensions.{reorder_of_read, handed_on}
use Rattle.mv_vpsext.proofs.vps_ext.VpsExt.part.Goals as goal

pub returns-in_err-profiles-clause-reads : goal.returns-in_err-profiles-clause-reads
unfolding vps_extension
returns-in_err-profiles-clause-reads c =
    handed_on (λ v. v.0) means c.args.bits.now c.profiles_in.new.bits _ _ _ _ c.from_residual-in_err-profiles.ensures.1 c.in_err-profiles.ensures
    (λ f e. rw (c.in_ok-dimensions.ensures.0, c.in_ok-dependencies.ensures.reads.0, e) refl)

pub returns-in_err-output_sets-clause-reads : goal.returns-in_err-output_sets-clause-reads
unfolding vps_extension
returns-in_err-output_sets-clause-reads c =
    handed_on (λ v. v.0) means c.args.bits.now c.output_sets_in.new.bits _ _ _ _ c.from_residual-in_err-output_sets.ensures.1 c.in_err-output_sets.ensures.reads
    (λ f e. rw (c.in_ok-dimensions.ensures.0, c.in_ok-dependencies.ensures.reads.0, c.in_ok-profiles.ensures.0, ← (c.deref.ensures.value ∙ c.in_ok-dependencies.ensures.layers), e) refl)

pub returns-in_err-formats-clause-reads : goal.returns-in_err-formats-clause-reads
unfolding vps_extension
returns-in_err-formats-clause-reads c =
    handed_on (λ v. v.0) means c.args.bits.now c.formats_in.new.bits _ _ _ _ c.from_residual-in_err-formats.ensures.1 c.in_err-formats.ensures
    (λ f e. rw (c.in_ok-dimensions.ensures.0, c.in_ok-dependencies.ensures.reads.0, c.in_ok-profiles.ensures.0, ← (c.deref.ensures.value ∙ c.in_ok-dependencies.ensures.layers), c.in_ok-output_sets.ensures.reads.0, e) refl)

pub returns-in_err-pictures-clause-reads : goal.returns-in_err-pictures-clause-reads
unfolding vps_extension
returns-in_err-pictures-clause-reads c =
    handed_on (λ v. v.0) means c.args.bits.now c.pictures_in.new.bits _ _ _ _ c.from_residual-in_err-pictures.ensures.1 c.in_err-pictures.ensures
    (λ f e. rw (c.in_ok-dimensions.ensures.0, c.in_ok-dependencies.ensures.reads.0, c.in_ok-profiles.ensures.0, ← (c.deref.ensures.value ∙ c.in_ok-dependencies.ensures.layers), c.in_ok-output_sets.ensures.reads.0, c.in_ok-formats.ensures.0, e) refl)

pub returns-in_err-dpb_size-clause-reads : goal.returns-in_err-dpb_size-clause-reads
unfolding vps_extension
returns-in_err-dpb_size-clause-reads c =
    handed_on (λ v. v.0) means c.args.bits.now c.dpb_size_in.new.bits _ _ _ _ c.from_residual-in_err-dpb_size.ensures.1 c.in_err-dpb_size.ensures
    (λ f e. rw (c.in_ok-dimensions.ensures.0, c.in_ok-dependencies.ensures.reads.0, c.in_ok-profiles.ensures.0, ← (c.deref.ensures.value ∙ c.in_ok-dependencies.ensures.layers), c.in_ok-output_sets.ensures.reads.0, c.in_ok-formats.ensures.0, c.in_ok-pictures.ensures.0, ← (c.deref-3.ensures.value ∙ c.in_ok-output_sets.ensures.layers), ← (c.deref-2.ensures.value ∙ sym c.deref.ensures.value), e) refl)

pub returns-in_err-dependency_types-clause-reads : goal.returns-in_err-dependency_types-clause-reads
unfolding vps_extension
returns-in_err-dependency_types-clause-reads c =
    handed_on (λ v. v.0) means c.args.bits.now c.types_in.new.bits _ _ _ _ c.from_residual-in_err-dependency_types.ensures.1 c.in_err-dependency_types.ensures
    (λ f e. rw (c.in_ok-dimensions.ensures.0, c.in_ok-dependencies.ensures.reads.0, c.in_ok-profiles.ensures.0, ← (c.deref.ensures.value ∙ c.in_ok-dependencies.ensures.layers), c.in_ok-output_sets.ensures.reads.0, c.in_ok-formats.ensures.0, c.in_ok-pictures.ensures.0, ← (c.deref-3.ensures.value ∙ c.in_ok-output_sets.ensures.layers), ← (c.deref-2.ensures.value ∙ sym c.deref.ensures.value), c.in_ok-dpb_size.ensures.0, e) refl)

pub returns-in_err-ending-clause-reads : goal.returns-in_err-ending-clause-reads
unfolding vps_extension
returns-in_err-ending-clause-reads c =
    handed_on (λ v. v.0) means c.args.bits.now c.ending_of.new.bits _ _ _ _ c.from_residual-in_err-ending.ensures.1 c.in_err-ending.ensures
    (λ f e. rw (c.in_ok-dimensions.ensures.0, c.in_ok-dependencies.ensures.reads.0, c.in_ok-profiles.ensures.0, ← (c.deref.ensures.value ∙ c.in_ok-dependencies.ensures.layers), c.in_ok-output_sets.ensures.reads.0, c.in_ok-formats.ensures.0, c.in_ok-pictures.ensures.0, ← (c.deref-3.ensures.value ∙ c.in_ok-output_sets.ensures.layers), ← (c.deref-2.ensures.value ∙ sym c.deref.ensures.value), c.in_ok-dpb_size.ensures.0, c.in_ok-dependency_types.ensures.0, e) refl)

pub dpb_size_in-requires-clause-some : goal.dpb_size_in-requires-clause-some
dpb_size_in-requires-clause-some c = some_sets _ _ _ (c.deref-3.ensures.value ∙ c.in_ok-output_sets.ensures.layers)

pub dpb_size_in-requires-clause-sub_layers : goal.dpb_size_in-requires-clause-sub_layers
dpb_size_in-requires-clause-sub_layers c = sub_layers_of_read _ _ _ _ _ _ c.in_ok-dependencies.ensures.reads.0

pub all_ols-requires : goal.all_ols-requires
all_ols-requires c k =
    subst (λ sizes. reorder_pics (get_or sizes k no_dpb) ≤ 15) (sym c.deref-4.ensures.value)
    (reorder_of_read _ _ _ _ _ _ _ c.in_ok-dpb_size.ensures.0 k)
