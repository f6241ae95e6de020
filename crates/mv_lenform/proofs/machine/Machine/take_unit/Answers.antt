use Rattle.std.proofs.Common.{◌≡◌, ℕ, Some, ◌+◌, ◌-◌, ◌<◌, ◌≤◌, ◌++◌, length, take, List, arith, rules, ap, sym, ◌∙◌, subst, refl, length-append}
use Rattle.std.proofs.lemmas.List.{length-take-le, take_all}
use Rattle.mv_rules.specs.declared.refusal.Refusal.{Refusal}
use Rattle.mv_rules.specs.declared.rule.Rule.{Rule}
use Rattle.mv_lenform.specs.Moves.{Faults}
use Rattle.mv_prefixed.specs.Reading.{spelled, bytes_rule, Broken, front}
use Rattle.mv_lenform.specs.Stages.{bytes_held}
use Rattle.mv_lenform.specs.declared.machine.Machine.{Machine}
use Rattle.mv_lenform.proofs.Bodies.{unit-broken, unit-open}
use Rattle.mv_lenform.proofs.machine.Machine.take_unit.Goals as goal

same-refusal : (a b c d : ℕ) (rule : Rule) → a ≡ b → c ≡ d → ◌≡◌ {A = Refusal} (record { unit = a; byte = c; rule = rule }) (record { unit = b; byte = d; rule = rule })
same-refusal a b c d rule units bytes = rw (units, bytes) refl

-- the bytes of the unit are all there
full-unit : (w u v n most : ℕ) → n ≡ most → most ≤ w - u → u < w → v ≡ u + n → w ≤ v → u + n ≡ w
full-unit w u v n most is low less len all = omega arith

pub returns-in-Some-clause-faults : goal.returns-in-Some-clause-faults
returns-in-Some-clause-faults c =
    let old = c.args.self.now in
    let mid = c.take_bytes.new.self in
    let n = c.in-Ok.count in
    let b = c.args.bytes.now in
    let h : List ℕ = take old.have old.length in
    let four : length h ≡ 4 = search (rules, length-take-le) in
    let all : length old.length ≤ old.have = search rules in
    let spells : spelled h ≡ c.args.wanted = ap spelled (take_all old.have old.length all) ∙ sym c.requires.wanted in
    let fits : n ≤ length b = omega (arith, c.in-Ok.ensures.count) in
    let items : length mid.unit.items ≡ length old.unit.items + n = ap (λ v. length v) c.in-Ok.ensures.taken ∙ length-append old.unit.items (take n b) ∙ ap (λ k. length old.unit.items + k) (length-take-le n b fits) in
    let full : length old.unit.items + n ≡ c.args.wanted = omega (arith, c.in-Ok.ensures.count, c.if-len-wanted.false, c.len.ensures, items, mid.unit.ok.0, old.unit.ok.0, c.requires.less) in
    let tests : bytes_rule (old.unit.items ++ take n b) ≡ Some c.in-Some.rule =
    ap bytes_rule (sym c.in-Ok.ensures.taken ∙ sym c.deref.ensures.value) ∙ sym c.bytes_rule.ensures ∙ c.in-Some.is in
    let broken : front (bytes_held old ++ take n b) ≡ Broken c.in-Some.rule =
    unit-broken h old.unit.items b c.args.wanted n c.in-Some.rule four spells c.requires.rule full fits tests in
    subst (Faults old c.refuse.new.self b) (sym c.refuse.ensures.fault) (record {
      count = n;
      some = omega (arith, full, c.requires.less, old.unit.ok.0);
      within = fits;
      before = λ k less. unit-open h old.unit.items b c.args.wanted k four spells c.requires.rule (omega (arith, full, less));
      rule = c.in-Some.rule;
      broken = broken;
      refusal = same-refusal _ _ _ _ c.in-Some.rule c.in-Ok.ensures.given
          (omega (arith, c.in-Ok.ensures.fed, items, mid.unit.ok.0, four, length-append h old.unit.items, length-append (bytes_held old) (take n b), length-take-le n b fits));
      stage = ap (λ (m : Machine). m.stage) c.refuse.ensures.new;
    })
