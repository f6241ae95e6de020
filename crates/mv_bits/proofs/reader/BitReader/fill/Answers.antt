use Rattle.std.proofs.Common.{◌<◌, ◌≡◌, ◌∙◌, ◌^◌, ◌∷◌, sym, ap, arith, rules}
use Rattle.mv_bits.proofs.LastSet.{Keeps-pulled}
use Rattle.mv_bits.proofs.reader.BitReader.fill.Goals as goal

pub pull-preserved : goal.pull-preserved
pull-preserved c =
    let now = c.pull.self-inside in
    let room : now.count < 56 = omega arith in
    let byte : c.from.result < 2 ^ 8 = search rules in
    let first : c.from.result ≡ c.in-Some.first.now = c.from.ensures in
    let split = c.in-Some.ensures.cases.0 ∙ ap (λ b. b ∷ c.in-Some.rest.now) (sym first) in
    Keeps-pulled now.count now.word c.from.result now.whole now.set now.bytes.now c.in-Some.rest.now c.args.self.now c.pull.invariant room byte split
