use Rattle.std.proofs.Common.{None, Some, ◌+◌, ◌≤◌, length, sym, ap, ◌∙◌, arith}
use Rattle.mv_units.specs.Rules.{longest_unit}
use Rattle.mv_bytestream.specs.Stages.{unit_held}
use Rattle.mv_bytestream.specs.declared.machine.Stage.TheVariants.{Making}
use Rattle.mv_bytestream.proofs.Runs.{running}
use Rattle.mv_bytestream.proofs.Takes.{at, zero-takes, code-takes, unit-refuses, unit-takes, shown-as}
use Rattle.mv_bytestream.proofs.machine.Machine.unit_byte.Goals as goal

pub returns-then-byte-eq0-clause-takes : goal.returns-then-byte-eq0-clause-takes
returns-then-byte-eq0-clause-takes c =
    let m = c.args.self.now in
    zero-takes m (record m { fed = m.fed + 1; zeros = m.zeros + 1 }) (Some (unit_held m)) c.args.byte (at m Making c.requires.stage) (at (record m { fed = m.fed + 1; zeros = m.zeros + 1 }) Making c.requires.stage) c.if-byte-eq0.true

pub returns-then-byte-self-clause-takes : goal.returns-then-byte-self-clause-takes
returns-then-byte-self-clause-takes c =
    code-takes c.args.self.now c.end_unit.new.self c.args.byte c.end_unit.result c.requires.stage c.if-byte-self.true c.end_unit.ensures.value c.end_unit.ensures.found

pub returns-in-Some-clause-takes : goal.returns-in-Some-clause-takes
returns-in-Some-clause-takes c =
    let m = c.args.self.now in
    let fits : length m.unit.items ≤ longest_unit = omega (arith, m.unit.ok.0, c.requires.held.most) in
    λ s h.
    unit-refuses m m c.args.byte c.in-Some.rule c.requires.stage fits c.if-byte-eq0.false c.if-byte-self.false (shown-as m c.args.byte (Some c.in-Some.rule) c.deref.result.now c.deref.ensures.value c.in-Some.ensures.rule) s h
    ∙ ap Some (sym c.refusal.ensures.value)

pub returns-in-None-clause-takes : goal.returns-in-None-clause-takes
returns-in-None-clause-takes c =
    let m = c.args.self.now in
    let fits : length m.unit.items ≤ longest_unit = omega (arith, m.unit.ok.0, c.requires.held.most) in
    unit-takes m (record m { fed = m.fed + 1; unit = c.append.new.unit; zeros = 0 }) c.args.byte c.requires.stage fits c.if-byte-eq0.false c.if-byte-self.false
    (shown-as m c.args.byte None c.deref.result.now c.deref.ensures.value c.in-None.ensures.rule)
    (at (record m { fed = m.fed + 1; unit = c.append.new.unit; zeros = 0 }) Making c.requires.stage ∙ ap (λ x. running (m.fed + 1) m.given (Some (record { place = m.place; bytes = x })) 0) c.append.ensures.items)
