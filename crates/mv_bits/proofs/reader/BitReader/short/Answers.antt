use Rattle.std.proofs.Common.{◌<◌, ◌≡◌, ◌∙◌, ◌^◌, ◌∷◌, sym, ap, arith, rules}
use Rattle.mv_bits.proofs.Windows.{same_cursor, takes_in_hand, takes_past_end}
use Rattle.mv_bits.proofs.LastSet.{Keeps-pulled}
use Rattle.mv_bits.proofs.reader.BitReader.short.Goals as goal

pub returns-in_default : goal.returns-in_default
returns-in_default c =
    let now = c.pull.self-inside in
    let kept = c.pull.invariant.holds in (
      takes_past_end c.args.n now.count now.word now.bytes.now c.args.self.now.left c.pull-test.true (search rules) kept.left,
      same_cursor kept.total kept.left,
    )

pub pull-preserved : goal.pull-preserved
pull-preserved c =
    let now = c.pull.self-inside in
    let room : now.count < 56 = omega (arith, c.requires) in
    let byte : c.from.result < 2 ^ 8 = search rules in
    let first : c.from.result ≡ c.in-Some.first.now = c.from.ensures in
    let split = c.in-Some.ensures.cases.0 ∙ ap (λ b. b ∷ c.in-Some.rest.now) (sym first) in
    Keeps-pulled now.count now.word c.from.result now.whole now.set now.bytes.now c.in-Some.rest.now c.args.self.now c.pull.invariant room byte split

pub returns : goal.returns
returns c =
    let now = c.pull.self-inside in
    let kept = c.pull.invariant.holds in
    (takes_in_hand c.args.n now.count now.word now.bytes.now c.args.self.now.left c.pull-test.false kept.narrow kept.in_hand kept.left, kept.total)
