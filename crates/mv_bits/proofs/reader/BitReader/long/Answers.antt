use Rattle.std.proofs.Common.{◌≤◌, ap, sym, ◌∙◌, arith}
use Rattle.mv_syntax.specs.Bits.{take_bits}
use Rattle.mv_bits.specs.Cursor.{Cursor}
use Rattle.mv_bits.proofs.Readings.{Takes-refused}
use Rattle.mv_bits.proofs.Windows.{two_no_high, two_no_low, two_joined}
use Rattle.mv_bits.proofs.reader.BitReader.long.Goals as goal

pub returns-in_err-high : goal.returns-in_err-high
returns-in_err-high c =
    let wide : 32 ≤ c.args.n = omega (arith, c.requires.0) in
    let same = ap (λ (r : Cursor). take_bits c.args.n 0 r.left) (sym c.fork-ahead.ensures) in
    Takes-refused c.args.self.now _ _ c.from_residual.ensures.0
    (same ∙ two_no_high c.args.n c.fork-ahead.result.left wide c.in_err-high.ensures.0)

pub returns-in_err-low : goal.returns-in_err-low
returns-in_err-low c =
    let wide : 32 ≤ c.args.n = omega (arith, c.requires.0) in
    let same = ap (λ (r : Cursor). take_bits c.args.n 0 r.left) (sym c.fork-ahead.ensures) in
    Takes-refused c.args.self.now _ _ c.from_residual-in_err-low.ensures.0
    (same ∙ two_no_low c.args.n c.in_ok-high.high c.fork-ahead.result.left c.short.new.self.left wide c.in_ok-high.ensures.0 c.in_err-low.ensures.0)

pub returns : goal.returns
returns c =
    let wide : 32 ≤ c.args.n = omega (arith, c.requires.0) in
    let same = ap (λ (r : Cursor). take_bits c.args.n 0 r.left) (sym c.fork-ahead.ensures) in (
      same ∙ two_joined c.args.n c.in_ok-high.high c.in_ok-low.low c.fork-ahead.result.left c.short.new.self.left c.short-2.new.self.left wide c.requires.1 c.in_ok-high.ensures.0 c.in_ok-low.ensures.0,
      c.in_ok-low.ensures.1 ∙ c.in_ok-high.ensures.1 ∙ ap (λ (r : Cursor). r.total) c.fork-ahead.ensures,
    )
