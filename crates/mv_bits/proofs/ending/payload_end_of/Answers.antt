use Rattle.std.proofs.Common.{◌∙◌, Some, None, ap, sym, add-zero}
use Rattle.mv_syntax.specs.Bits.{trailing_bits}
use Rattle.mv_bits.specs.Cursor.{place}
use Rattle.mv_syntax.proofs.PayloadLaws.{end_there}
use Rattle.mv_bits.proofs.ending.payload_end_of.Goals as goal

pub returns-in-Ok-clause-fills : goal.returns-in-Ok-clause-fills
returns-in-Ok-clause-fills c =
    end_there c.args.has_tail (place c.args.bits.now) c.args.bits.now.left (Some c.in-Ok.tail.items) (sym c.if-has_tail.true) c.in-Ok.ensures.found

pub returns-in-Ok-trailing-clause-fills : goal.returns-in-Ok-trailing-clause-fills
returns-in-Ok-trailing-clause-fills c =
    let at = place c.args.bits.now in
    end_there c.args.has_tail at c.args.bits.now.left None (sym c.if-has_tail.false) (c.in-Ok-trailing.ensures.found ∙ ap trailing_bits (sym (add-zero at)))
