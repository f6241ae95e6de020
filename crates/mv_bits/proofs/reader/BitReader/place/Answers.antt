use Rattle.mv_bits.proofs.Windows.{Holds-from, Holds-place}
use Rattle.std.proofs.Common.{arith}
use Rattle.mv_bits.proofs.reader.BitReader.place.Goals as goal

pub overflow_mul-result : goal.overflow_mul-result
overflow_mul-result c =
    omega (arith, Holds-place (Holds-from _ _ _ _ c.args.self.now c.self.view_is c.self.invariant), c.requires, c.div_ceil.ensures, c.from-begun.ensures, c.self.invariant.2)

pub overflow_add-result : goal.overflow_add-result
overflow_add-result c =
    omega (arith, Holds-place (Holds-from _ _ _ _ c.args.self.now c.self.view_is c.self.invariant), c.requires, c.div_ceil.ensures, c.from-begun.ensures, c.self.invariant.2)

pub returns : goal.returns
returns c =
    omega (arith, Holds-place (Holds-from _ _ _ _ c.args.self.now c.self.view_is c.self.invariant), c.div_ceil.ensures, c.from-begun.ensures, c.self.invariant.2)
