use Rattle.std.proofs.Common.{ap, ap₂, sym, ◌∙◌}
use Rattle.std.specs.Prelude.{nat_lt, ◌&&◌}
use Rattle.std.proofs.lemmas.List.{length-map}
use Rattle.mv_slice.specs.Numbers.{is_irap}
use Rattle.mv_rps.specs.RefSet.{entry_of, refused_by}
use Rattle.mv_rps.proofs.EntryLaws.{used_map}
use Rattle.mv_rps.proofs.ref_set.refusal.Goals as goal

pub returns : goal.returns
returns c =
    c.refused_by.ensures
    ∙ ap₂ refused_by (c.irap_refers.ensures ∙ ap (λ b. is_irap c.args.kind && b) (used_map c.args.entries.now))
    (ap (nat_lt 15) (sym (length-map c.args.entries.now entry_of)))
