use Rattle.std.proofs.Common.{◌≤◌, get_or, sym, ap, ◌∙◌, subst}
use Rattle.mv_vpsext.specs.VpsExt.{VpsExtValue}
use Rattle.mv_vpsext.specs.Derived.{no_dpb, reorder_pics}
use Rattle.mv_vpsext.proofs.Extensions.{reorder_of_valid}
use Rattle.mv_vpsext.proofs.vps_ext.VpsExt.derive.Goals as goal

pub all_ols-requires : goal.all_ols-requires
all_ols-requires c k =
    subst (λ sizes. reorder_pics (get_or sizes k no_dpb) ≤ 15) (sym (c.deref-2.ensures.value ∙ ap (λ (v : VpsExtValue). v.dpb_size) c.self.view_is))
    (reorder_of_valid c.args.args.now c.args.self.now c.requires.valid k)
