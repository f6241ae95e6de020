use Rattle.std.proofs.Common.{◌++◌, ◌∷◌, [], ◌∙◌, ap, append_assoc, arith}
use Rattle.mv_bytestream.proofs.Ends.{taken-zeros, ok-items}
use Rattle.mv_bytestream.proofs.making.append.Goals as goal

pub returns-clause-items : goal.returns-clause-items
returns-clause-items c =
    c.push_reserved.ensures.items
    ∙ ap (λ xs. xs ++ c.args.byte ∷ []) (ok-items c.extend_from_slice.result _ _ _ (c.extend_from_slice.ensures.succeeds (omega (arith, c.requires.room, c.requires.few))) c.extend_from_slice.ensures.items)
    ∙ append_assoc c.args.unit.now.items _ (c.args.byte ∷ [])
    ∙ ap (λ zs. c.args.unit.now.items ++ (zs ++ c.args.byte ∷ [])) (taken-zeros c.args.zeros c.requires.few)
