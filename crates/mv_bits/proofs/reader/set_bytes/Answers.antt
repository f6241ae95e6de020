use Rattle.std.proofs.Common.{◌<◌, ◌≡◌, ◌-◌, ℕ, get_or, arith, refl, rules}
use Rattle.mv_bits.proofs.LastSet.{ZerosFrom-end, ZerosFrom-before, set_found}
use Rattle.mv_bits.proofs.reader.set_bytes.Goals as goal

pub byte-init : goal.byte-init
byte-init c = record { within = omega arith; zeros = ZerosFrom-end _ c.args.bytes.now refl }

pub byte-preserved : goal.byte-preserved
byte-preserved c =
    let small : (k : ℕ) → get_or c.args.bytes.now k 0 < 256 = search rules in
    let none : get_or c.args.bytes.now (c.byte.set - 1) 0 ≡ 0 = c.if-bytes-set-ne0.false in
    record {
      within = omega (arith, c.byte.invariant.within);
      zeros = ZerosFrom-before c.byte.set c.args.bytes.now small c.byte-test.true c.byte.invariant.within none c.byte.invariant.zeros;
    }

pub returns-then-bytes-set-ne0-clause-known : goal.returns-then-bytes-set-ne0-clause-known
returns-then-bytes-set-ne0-clause-known c =
    let small : (k : ℕ) → get_or c.args.bytes.now k 0 < 256 = search rules in
    set_found c.byte.set c.args.bytes.now small c.byte-test.true c.if-bytes-set-ne0.true c.byte.invariant.zeros
