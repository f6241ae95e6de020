use Rattle.std.proofs.Common.{ap, refl, arith}
use Rattle.mv_bits.specs.Cursor.{Cursor}
use Rattle.mv_bits.proofs.Windows.{same_cursor, window_bits-none}
use Rattle.mv_bits.proofs.LastSet.{SetKnown-none}
use Rattle.mv_bits.proofs.reader.BitReader.take_all.Goals as goal

pub returns : goal.returns
returns c = same_cursor (ap (λ (r : Cursor). r.total) c.self.view_is) (window_bits-none 0 0 _ refl refl)

pub invariant_of-self : goal.invariant_of-self
invariant_of-self c = (omega arith, omega arith, omega arith, SetKnown-none c.self.inside.set c.self.inside.whole c.self.invariant.3.within)
