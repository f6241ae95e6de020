use Rattle.std.proofs.Common.{◌≡◌, ◌<◌, ◌≤◌, ◌^◌, ◌∙◌, ap, sym, arith, rules, length}
use Rattle.mv_bits.specs.Cursor.{Cursor}
use Rattle.mv_bits.proofs.Endings.{more_data-none, more_data-in_hand, more_data-in_bytes}
use Rattle.mv_bits.proofs.LastSet.{SetKnown-here, SetKnown-pulled}
use Rattle.mv_bits.proofs.Windows.{Holds-from, window_bits-none, window_in_hand, window_first}
use Rattle.mv_bits.proofs.reader.BitReader.more_data.Goals as goal

pub returns-in_default : goal.returns-in_default
returns-in_default c =
    let none : c.self.inside.count ≡ 0 = omega arith in
    more_data-none c.args.self.now.left
    (sym (ap (λ (r : Cursor). r.left) c.self.view_is) ∙ window_bits-none c.self.inside.count c.self.inside.word c.self.inside.bytes.now none c.in_default.ensures.cases)

pub returns-then-low-ne0 : goal.returns-then-low-ne0
returns-then-low-ne0 c =
    more_data-in_hand c.args.self.now c.self.inside.word c.self.inside.count c.self.inside.bytes
    (window_in_hand c.self.inside.bytes (Holds-from _ _ _ _ c.args.self.now c.self.view_is c.self.invariant) c.if-self-gt0.true)
    c.if-low-ne0.true

pub returns-else-low-ne0 : goal.returns-else-low-ne0
returns-else-low-ne0 c =
    sym (SetKnown-here c.self.inside.set c.self.inside.whole c.self.inside.bytes.now c.self.invariant.3)
    ∙ more_data-in_bytes c.args.self.now c.self.inside.word c.self.inside.count c.self.inside.bytes
    (window_in_hand c.self.inside.bytes (Holds-from _ _ _ _ c.args.self.now c.self.view_is c.self.invariant) c.if-self-gt0.true)
    c.if-low-ne0.false

pub returns-then-first-ne0 : goal.returns-then-first-ne0
returns-then-first-ne0 c =
    let small : c.in-Some.first.now < 2 ^ 8 = search rules in
    more_data-in_hand c.args.self.now c.in-Some.first.now 8 c.in-Some.rest
    (window_first c.in-Some.first.now c.in-Some.rest (Holds-from _ _ _ _ c.args.self.now c.self.view_is c.self.invariant) c.if-self-gt0.false c.in-Some.ensures.cases.0 small)
    c.if-first-ne0.true

pub returns-else-first-ne0 : goal.returns-else-first-ne0
returns-else-first-ne0 c =
    let small : c.in-Some.first.now < 2 ^ 8 = search rules in
    let fits : length c.self.inside.bytes.now ≤ c.self.inside.whole = omega (arith, c.self.invariant.2) in
    let known = SetKnown-pulled c.self.inside.set c.self.inside.whole c.in-Some.first.now c.self.inside.bytes.now c.in-Some.rest.now c.self.invariant.3 fits c.in-Some.ensures.cases.0 in
    sym (SetKnown-here c.self.inside.set c.self.inside.whole c.in-Some.rest.now known)
    ∙ more_data-in_bytes c.args.self.now c.in-Some.first.now 8 c.in-Some.rest
    (window_first c.in-Some.first.now c.in-Some.rest (Holds-from _ _ _ _ c.args.self.now c.self.view_is c.self.invariant) c.if-self-gt0.false c.in-Some.ensures.cases.0 small)
    c.if-first-ne0.false
