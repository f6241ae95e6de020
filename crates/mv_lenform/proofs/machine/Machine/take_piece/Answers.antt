use Rattle.std.proofs.Common.{◌≡◌, ℕ, Some, None, Err, ◌<◌, ◌++◌, length, take, vec_len, arith, ap, sym, ◌∙◌, subst, refl, length-append}
use Rattle.std.proofs.lemmas.List.{take_rest}
use Rattle.mv_rules.specs.declared.refusal.Refusal.{Refusal}
use Rattle.mv_rules.specs.declared.rule.Rule.{Rule}
use Rattle.mv_lenform.specs.Moves.{Comes, Faults, OpenBefore, RefusesAt}
use Rattle.mv_prefixed.specs.Reading.{front, length_rule, spelled}
use Rattle.mv_lenform.specs.Stages.{bytes_held, in_hand}
use Rattle.mv_lenform.specs.declared.machine.Machine.{Machine}
use Rattle.mv_lenform.proofs.Lengths.{begun-of, whole-of, less-of, held-of, some-of, broken-of}
use Rattle.mv_lenform.proofs.Pieces.{before-both, comes-both, refuses-both}
use Rattle.mv_lenform.proofs.machine.Machine.take_piece.Goals as goal

same-refusal : (a b c d : ℕ) (rule : Rule) → a ≡ b → c ≡ d → ◌≡◌ {A = Refusal} (record { unit = a; byte = c; rule = rule }) (record { unit = b; byte = d; rule = rule })
same-refusal a b c d rule units bytes = rw (units, bytes) refl

pub returns-in-Some-clause-faults : goal.returns-in-Some-clause-faults
returns-in-Some-clause-faults c =
    let old = c.args.self.now in
    let mid = c.take_length-count.new.self in
    let p = c.args.piece.now in
    let n = c.take_length-count.result in
    let have : mid.have ≡ 4 = omega (arith, c.if-self-lt4.false, c.take_length-count.ensures.have, c.take_length-count.ensures.count, c.requires.held.most) in
    let whole = whole-of mid c.number-wanted.result have c.take_length-count.ensures.four c.number-wanted.ensures.number in
    let breaks : length_rule (spelled (take mid.have mid.length)) ≡ Some c.in-Some.rule = ap length_rule whole.spells ∙ sym c.length_rule.ensures ∙ c.in-Some.is in
    let begun = begun-of old mid p n c.requires.held c.take_length-count.ensures.count c.take_length-count.ensures.taken c.take_length-count.ensures.unit in
    let len : length (bytes_held mid) ≡ length (bytes_held old ++ take n p) = ap (λ v. length v) begun.held in
    subst (Faults old c.refuse.new.self p) (sym c.refuse.ensures.fault) (record {
      count = n;
      some = some-of old mid p n c.in-Some.rule c.requires.held c.requires.stage c.take_length-count.ensures.count c.take_length-count.ensures.taken whole.four breaks;
      within = omega (arith, c.take_length-count.ensures.count);
      before = begun.before;
      rule = c.in-Some.rule;
      broken = ap front (sym begun.held) ∙ broken-of mid c.in-Some.rule whole.four breaks;
      refusal = same-refusal _ _ _ _ c.in-Some.rule c.take_length-count.ensures.given
          (omega (arith, len, c.take_length-count.ensures.fed, whole.four, mid.unit.ok.0, length-append (take mid.have mid.length) mid.unit.items));
      stage = ap (λ (m : Machine). m.stage) c.refuse.ensures.new;
    })

pub take_unit-requires-clause-less : goal.take_unit-requires-clause-less
take_unit-requires-clause-less c =
    let old = c.args.self.now in
    let mid = c.take_length-count.new.self in
    let four : length mid.length ≡ 4 = c.take_length-count.ensures.four in
    let have : mid.have ≡ 4 = omega (arith, c.if-self-lt4.false, c.take_length-count.ensures.have, c.take_length-count.ensures.count, c.requires.held.most) in
    let rule : length_rule c.number-wanted.result ≡ None = sym c.length_rule.ensures ∙ c.in_default.is in
    let whole = whole-of mid c.number-wanted.result have four c.number-wanted.ensures.number in
    let less = less-of old mid c.args.piece.now c.take_length-count.result c.number-wanted.result c.requires.held c.requires.stage c.take_length-count.ensures.count c.take_length-count.ensures.taken whole rule in
    let same : vec_len mid.unit ≡ vec_len old.unit = ap (λ u. vec_len u) c.take_length-count.ensures.unit in
    omega (arith, less, same, old.unit.ok.0)

pub take_unit-requires-clause-held : goal.take_unit-requires-clause-held
take_unit-requires-clause-held c =
    let old = c.args.self.now in
    let mid = c.take_length-count.new.self in
    let four : length mid.length ≡ 4 = c.take_length-count.ensures.four in
    let have : mid.have ≡ 4 = omega (arith, c.if-self-lt4.false, c.take_length-count.ensures.have, c.take_length-count.ensures.count, c.requires.held.most) in
    let rule : length_rule c.number-wanted.result ≡ None = sym c.length_rule.ensures ∙ c.in_default.is in
    let whole = whole-of mid c.number-wanted.result have four c.number-wanted.ensures.number in
    let less = less-of old mid c.args.piece.now c.take_length-count.result c.number-wanted.result c.requires.held c.requires.stage c.take_length-count.ensures.count c.take_length-count.ensures.taken whole rule in
    let same : mid.unit ≡ old.unit = c.take_length-count.ensures.unit in
    held-of mid c.number-wanted.result have whole rule (subst (λ u. length u.items < c.number-wanted.result) (sym same) less)
    (omega (arith, c.requires.held.units, c.take_length-count.ensures.given, c.take_length-count.ensures.fed, ap in_hand c.take_length-count.ensures.stage))

pub returns-in-Ok-clause-before : goal.returns-in-Ok-clause-before
returns-in-Ok-clause-before c =
    let old = c.args.self.now in
    let mid = c.take_length-count.new.self in
    let p = c.args.piece.now in
    let n = c.take_length-count.result in
    let begun = begun-of old mid p n c.requires.held c.take_length-count.ensures.count c.take_length-count.ensures.taken c.take_length-count.ensures.unit in
    before-both (bytes_held old) p (bytes_held mid) n c.in-Ok.more begun.held begun.before
    (subst (λ s. OpenBefore (bytes_held mid) s c.in-Ok.more) (take_rest p n) c.in-Ok.ensures.before)

pub returns-in-Ok-clause-comes : goal.returns-in-Ok-clause-comes
returns-in-Ok-clause-comes c =
    let old = c.args.self.now in
    let mid = c.take_length-count.new.self in
    let p = c.args.piece.now in
    let n = c.take_length-count.result in
    let begun = begun-of old mid p n c.requires.held c.take_length-count.ensures.count c.take_length-count.ensures.taken c.take_length-count.ensures.unit in
    comes-both old mid c.take_unit.new.self p n c.in-Ok.more begun.held (omega (arith, c.take_length-count.ensures.count))
    (subst (λ s. Comes mid c.take_unit.new.self s c.in-Ok.more) (take_rest p n) c.in-Ok.ensures.comes)

pub returns-in-Err-Refused-clause-faults : goal.returns-in-Err-Refused-clause-faults
returns-in-Err-Refused-clause-faults c =
    let old = c.args.self.now in
    let mid = c.take_length-count.new.self in
    let new = c.take_unit.new.self in
    let p = c.args.piece.now in
    let n = c.take_length-count.result in
    let begun = begun-of old mid p n c.requires.held c.take_length-count.ensures.count c.take_length-count.ensures.taken c.take_length-count.ensures.unit in
    let faults = rw c.in-Err-Refused.field-0-is at c.in-Err-Refused.ensures.faults in
    refuses-both old mid new p c.in-Err-Refused.refusal n begun.held (omega (arith, c.take_length-count.ensures.count)) begun.before c.take_length-count.ensures.fed c.take_length-count.ensures.given
    (subst (λ s. RefusesAt mid new s c.in-Err-Refused.refusal) (take_rest p n) faults)

pub returns-in-Err-Memory-clause-held : goal.returns-in-Err-Memory-clause-held
returns-in-Err-Memory-clause-held c =
    let old = c.args.self.now in
    let mid = c.take_length-count.new.self in
    let new = c.take_unit.new.self in
    let same = c.take_unit.ensures.unit (c.in-Err-Memory.is ∙ ap Err c.in-Err-Memory.field-0-is) in
    let items : new.unit.items ≡ old.unit.items = same.0 ∙ ap (λ u. u.items) c.take_length-count.ensures.unit in
    let stage : new.stage ≡ old.stage = same.1 ∙ c.take_length-count.ensures.stage in
    let first : take old.have new.length ≡ take old.have old.length = ap (take old.have) c.take_unit.ensures.length ∙ c.take_length-count.ensures.before in
    record {
      most = c.requires.held.most;
      length_first = λ few. items ∙ c.requires.held.length_first few;
      units = omega (arith, c.requires.held.units, c.take_unit.ensures.given, c.take_length-count.ensures.given, ap in_hand stage);
      begun = λ reads. ap (λ v. front (v ++ new.unit.items)) first ∙ ap (λ v. front (take old.have old.length ++ v)) items ∙ c.requires.held.begun c.requires.stage;
    }
