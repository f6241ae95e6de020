use Rattle.std.proofs.Common.{◌≤◌, ◌+◌, length, arith}
use Rattle.mv_syntax.proofs.PayloadLaws.{rest_shorter}
use Rattle.mv_slice.specs.Slice.{slice_fields}
use Rattle.mv_slice.proofs.HeaderSizes.{fields_short}
use Rattle.mv_slice.proofs.header.header_of.Goals as goal

pub take_alignment-requires-clause-within : goal.take_alignment-requires-clause-within
take_alignment-requires-clause-within c =
    let behind : length c.fields_of.new.bits.left ≤ length c.args.bits.now.left = rest_shorter (slice_fields c.args.ctx.now c.args.nal_unit_type) _ _ _ c.in_ok-head.ensures.0 in
    omega (arith, c.in_ok-head.ensures.1, c.requires.first)

pub take_alignment-requires-clause-few : goal.take_alignment-requires-clause-few
take_alignment-requires-clause-few c =
    let short : length c.args.bits.now.left ≤ length c.fields_of.new.bits.left + 2117477
    = fields_short c.args.ctx.now c.args.nal_unit_type _ _ _ c.requires.fits c.in_ok-head.ensures.0 in
    omega (arith, short, c.in_ok-head.ensures.1, c.requires.first)
