use Rattle.std.proofs.Common.{◌+◌, ◌≤◌, ◌++◌, ◌∙◌, ap, arith}
use Rattle.mv_syntax.specs.Bits.{u_bits}
use Rattle.mv_bits.proofs.Written.{started_word-lt, written_bits-started}
use Rattle.mv_bits.proofs.writer.BitWriter.u.Goals as goal

pub invariant_of-self : goal.invariant_of-self
invariant_of-self c =
    let room : c.self.inside.count + c.args.n ≤ 8 = omega (arith, c.if-self-n-lt8.true) in
    (c.if-self-n-lt8.true, started_word-lt 8 c.self.inside.count c.self.inside.word c.args.n c.args.value room c.self.invariant.1 c.requires.in_range)

pub returns-then-self-n-lt8-clause-ok : goal.returns-then-self-n-lt8-clause-ok
returns-then-self-n-lt8-clause-ok c =
    let room : c.self.inside.count + c.args.n ≤ 8 = omega (arith, c.if-self-n-lt8.true) in
    written_bits-started 8 c.self.inside.bytes.items c.self.inside.count c.self.inside.word c.args.n c.args.value room c.self.invariant.1 c.requires.in_range
    ∙ ap (λ b. b ++ u_bits c.args.n c.args.value) c.self.view_is
