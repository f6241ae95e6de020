use Rattle.std.proofs.Common.{not, sym, ap, ◌∙◌, arith}
use Rattle.mv_layers.specs.References.{depends}
use Rattle.mv_layers.proofs.Ranges.{none_more, some_at, none_of_all}
use Rattle.mv_layers.proofs.references.independent.Goals as goal

pub returns-then-depends : goal.returns-then-depends
returns-then-depends c =
    ap not (sym (some_at (depends c.args.flags.now c.args.i) c.args.i c.loop-j.j c.loop-j-test.true (sym c.depends.ensures ∙ c.if-depends.true)))

pub loop-j-preserved : goal.loop-j-preserved
loop-j-preserved c =
    none_more (depends c.args.flags.now c.args.i) c.args.i c.loop-j.j c.loop-j-test.true c.loop-j.invariant (sym c.depends.ensures ∙ c.if-depends.false)

pub returns : goal.returns
returns c =
    ap not (sym (none_of_all (depends c.args.flags.now c.args.i) c.args.i c.loop-j.j (omega (arith, c.loop-j-test.false)) c.loop-j.invariant))
