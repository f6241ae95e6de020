use Rattle.std.proofs.Common.{◌∷◌, ◌++◌, subst, ap, ◌∙◌, rules, w32, SFits, to_z-of_z}
use Rattle.mv_provenance.specs.Formats.{four_signed_bytes, sets_bytes}
use Rattle.mv_provenance.specs.Message.{Fed}
use Rattle.mv_provenance.proofs.digest.begin.Goals as goal

pub returns : goal.returns
returns c =
    let at = c.args.at.now in
    let fits : SFits w32 at.count = search rules in
    subst (λ count. Fed c.add_sets.new.message (0x6D ∷ 0x76 ∷ 0x70 ∷ 0x31 ∷ at.layer ∷ (count ++ sets_bytes at.vps.now at.sps.now at.pps.now)))
    (c.to_be_bytes.ensures ∙ ap four_signed_bytes (to_z-of_z fits))
    (c.add_sets.ensures _ (c.add-3.ensures.added _ (c.add-2.ensures.added _ (c.add.ensures.added _ c.new-message.ensures.empty))))
