use Rattle.std.proofs.Common.{None, ◌+◌}
use Rattle.std.proofs.lemmas.Bool.{and_parts, eqb-true, leb-true}
use Rattle.mv_bytestream.specs.declared.machine.Stage.TheVariants.{Leading}
use Rattle.mv_bytestream.proofs.Takes.{at, zero-takes, first-takes, leading-refuses}
use Rattle.mv_bytestream.proofs.machine.Machine.leading_byte.Goals as goal

pub returns-then-byte-eq0-clause-takes : goal.returns-then-byte-eq0-clause-takes
returns-then-byte-eq0-clause-takes c =
    let m = c.args.self.now in
    zero-takes m (record m { fed = m.fed + 1; zeros = m.zeros + 1 }) None c.args.byte (at m Leading c.requires.stage) (at (record m { fed = m.fed + 1; zeros = m.zeros + 1 }) Leading c.requires.stage) c.if-byte-eq0.true

pub returns-then-byte-self-clause-takes : goal.returns-then-byte-self-clause-takes
returns-then-byte-self-clause-takes c =
    let parts = and_parts _ _ c.if-byte-self.true in
    let e = c.begin_unit.ensures in
    first-takes c.args.self.now c.begin_unit.new.self c.args.byte c.requires.stage e.stage e.fed e.given e.place e.unit e.zeros (eqb-true c.args.byte 1 parts.0) (leb-true 2 c.args.self.now.zeros parts.1)

pub returns-clause-takes : goal.returns-clause-takes
returns-clause-takes c = leading-refuses c.args.self.now c.args.self.now c.args.byte c.requires.stage c.if-byte-eq0.false c.if-byte-self.false
