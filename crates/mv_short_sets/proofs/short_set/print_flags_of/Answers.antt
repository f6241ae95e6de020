use Rattle.std.proofs.Common.{◌≡◌, ◌∙◌, ap, ap₂, sym, subst, length, ℕ, List, Option}
use Rattle.std.proofs.lemmas.Result.{on_ok_weaker}
use Rattle.mv_syntax.specs.Table.{Valid}
use Rattle.mv_syntax.specs.Loops.{each, columns}
use Rattle.mv_syntax.specs.Printed.{printed}
use Rattle.mv_short_sets.specs.ShortSetValue.{ShortSetValue}
use Rattle.mv_short_sets.specs.Deltas.{deltas_of_each}
use Rattle.mv_short_sets.specs.ShortSet.{candidate_flags}
use Rattle.mv_short_sets.proofs.SetLaws.{flags_valid, flags_printed}
use Rattle.mv_short_sets.proofs.short_set.print_flags_of.Goals as goal

pub print_all_candidate_flags-requires : goal.print_all_candidate_flags-requires
print_all_candidate_flags-requires c =
    let here = subst (λ (s : ShortSetValue). Valid (columns 0 (length s.used_by_curr_pic_flag) (each candidate_flags)) (s.used_by_curr_pic_flag, s.use_delta_flag)) (sym c.set.view_is)
    (flags_valid c.args.args.now.idx c.args.args.now.num (deltas_of_each c.args.args.now.earlier.now) c.args.set.now c.requires) in
    rw (c.deref.ensures.value, c.deref-2.ensures.value) here

pub returns : goal.returns
returns c =
    let same : (c.deref.result.now, c.deref-2.result.now) ≡ (c.args.set.now.used_by_curr_pic_flag, c.args.set.now.use_delta_flag)
    = ap₂ (λ (x : List ℕ) (y : List (Option ℕ)). (x, y))
    (c.deref.ensures.value ∙ ap (λ (s : ShortSetValue). s.used_by_curr_pic_flag) c.set.view_is)
    (c.deref-2.ensures.value ∙ ap (λ (s : ShortSetValue). s.use_delta_flag) c.set.view_is) in
    on_ok_weaker c.print_all_candidate_flags.result
    (λ e. e ∙ ap (λ (v : List ℕ × List (Option ℕ)). printed (columns 0 (length c.deref.result.now) (each candidate_flags)) v c.args.out.now) same ∙ flags_printed _ _ _ _)
    c.print_all_candidate_flags.ensures
