use Rattle.std.proofs.Common.{◌*◌, ap, ◌∙◌}
use Rattle.mv_pictures.specs.Contexts.{ctbs, ctbs_in}
use Rattle.mv_contexts.proofs.blocks.ctbs.Goals as goal

pub returns-clause-is : goal.returns-clause-is
unfolding ctbs
returns-clause-is c =
    ap (λ n. n * c.ctbs_in-2.result) c.ctbs_in.ensures.is
    ∙ ap (λ n. ctbs_in c.args.format.width c.ctb_side-side.result * n) c.ctbs_in-2.ensures.is
    ∙ ap (λ side. ctbs_in c.args.format.width side * ctbs_in c.args.format.height side) c.ctb_side-side.ensures.is
