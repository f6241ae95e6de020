use Rattle.std.proofs.Common.{ap, sym, ◌∙◌}
use Rattle.std.proofs.lemmas.Result.{on_ok_weaker}
use Rattle.mv_vps.proofs.Aligned.{ne_is, eq_is, base_valid, plain_printed, ones_printed}
use Rattle.mv_vps.proofs.base.print_aligned_base.Goals as goal

pub print_base-requires-clause-valid : goal.print_base-requires-clause-valid
print_base-requires-clause-valid c = base_valid c.args.v.now c.requires.valid

pub returns-then-v-ne1 : goal.returns-then-v-ne1
returns-then-v-ne1 c = plain_printed c.args.v.now _ _ c.requires.at_head (ne_is _ (λ e. c.if-v-ne1.true (ap (λ b. b.vps_extension_flag) c.v.view_is ∙ e))) c.in_ok-print_base.ensures

pub returns : goal.returns
returns c = on_ok_weaker c.align.result (ones_printed c.args.v.now _ _ _ c.requires.at_head (eq_is _ (sym (ap (λ b. b.vps_extension_flag) c.v.view_is) ∙ c.if-v-ne1.false)) c.in_ok-print_base.ensures) c.align.ensures
