use Rattle.std.proofs.Common.{◌∷◌, ◌++◌, subst, ap, ◌∙◌, rules, w32, SFits, to_z-of_z}
use Rattle.std.specs.Int.{to_be_bytes}
use Rattle.mv_provenance.specs.Formats.{four_signed_bytes, sets_bytes}
use Rattle.mv_provenance.specs.Message.{Fed}
use Rattle.mv_provenance.proofs.digest2.begin.Goals as goal

pub returns : goal.returns
returns c =
    let at = c.args.at.now in
    let fits : SFits w32 at.count = search rules in
    subst (λ count. Fed c.add_sets.new.message (0x6D ∷ 0x76 ∷ 0x70 ∷ 0x32 ∷ at.layer ∷ (to_be_bytes w32 at.view ++ count ++ sets_bytes at.vps.now at.sps.now at.pps.now)))
    (c.to_be_bytes-2.ensures ∙ ap four_signed_bytes (to_z-of_z fits))
    (subst (λ view. Fed c.add_sets.new.message (0x6D ∷ 0x76 ∷ 0x70 ∷ 0x32 ∷ at.layer ∷ (view ++ c.to_be_bytes-2.result ++ sets_bytes at.vps.now at.sps.now at.pps.now)))
    c.to_be_bytes.ensures
    (c.add_sets.ensures _ (c.add-4.ensures.added _ (c.add-3.ensures.added _ (c.add-2.ensures.added _ (c.add.ensures.added _ c.new-message.ensures.empty))))))
