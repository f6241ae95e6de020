use Rattle.std.proofs.Common.{◌≡◌, length, ◌∙◌, arith, sym, false, ◌==◌, eqb-true, eq-eqb, true≢false}
use Rattle.mv_bits.specs.Cursor.{place}
use Rattle.mv_bits.proofs.Endings.{trailing_bits-some, trailing_bits-found, trailing_bits-shape}
use Rattle.mv_bits.proofs.reader.BitReader.trailing.Goals as goal
use Rattle.mv_bits.proofs.reader.BitReader.trailing.Goals.{then-count-gt8-via-then-count-gt8, then-count-gt8-via-else-count-gt8+then-word-count, then-count-gt8-via-else-count-gt8+else-word-count+then-not-is_empty}

pub returns-in_default-clause-other : goal.returns-in_default-clause-other
returns-in_default-clause-other c = trailing_bits-some (place c.args.self.now) c.args.self.now.left c.in_default.ensures

pub returns-then-count-gt8-clause-other : goal.returns-then-count-gt8-clause-other
returns-then-count-gt8-clause-other c e =
    let shape = trailing_bits-shape c.args.self.now c.in-Some.word c.in-Some.count c.in-Some.rest c.in-Some.ensures e in
    elim c.then-count-gt8.branch [
      | then-count-gt8-via-then-count-gt8 w ↦ let h = w.if-count-gt8.true in omega (arith, shape.0)
      | then-count-gt8-via-else-count-gt8+then-word-count w ↦ let h = w.if-word-count.true in h shape.2
      | then-count-gt8-via-else-count-gt8+else-word-count+then-not-is_empty w ↦ let full : (length c.in-Some.rest.now == 0) ≡ false = sym w.is_empty.ensures ∙ w.if-not-is_empty.true in true≢false (sym (eq-eqb _ 0 shape.1) ∙ full)
    ]

pub returns-clause-found : goal.returns-clause-found
returns-clause-found c =
    let none = eqb-true (length c.in-Some.rest.now) 0 (sym c.is_empty.ensures ∙ c.if-not-is_empty.false) in
    trailing_bits-found c.args.self.now c.in-Some.word c.in-Some.count c.in-Some.rest c.in-Some.ensures c.if-count-gt8.false c.if-word-count.false none
