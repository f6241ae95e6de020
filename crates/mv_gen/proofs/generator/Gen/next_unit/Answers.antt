use Rattle.std.proofs.Common.{◌≡◌, ℕ, ◌*◌, ◌-◌, ◌+◌, ◌<◌, ◌≤◌, ap, ◌∙◌, sym, refl, arith}
use Rattle.mv_gen.proofs.Places.{next_is_set, next_is_segment, none_is_left, state_more}
use Rattle.mv_gen.proofs.generator.Gen.next_unit.Goals as goal

pub returns-then-self-lt-PARAMETER_SETS : goal.returns-then-self-lt-PARAMETER_SETS
returns-then-self-lt-PARAMETER_SETS c =
    sym c.self.view_is ∙ next_is_set c.self.inside.number c.self.inside.count c.self.inside.given c.in_ok-unit.unit.items c.if-self-lt-PARAMETER_SETS.true
    (c.in_ok-unit.ensures ∙ c.parameter_set.ensures)

pub returns-then-place-from : goal.returns-then-place-from
returns-then-place-from c =
    let none = sym c.self.view_is ∙ none_is_left c.self.inside.number c.self.inside.count c.self.inside.given c.if-self-lt-PARAMETER_SETS.false
    (c.if-place-from.true ∙ ap (λ n. 2 * n) c.from.ensures) in
    (none, none)

inside : (count given same : ℕ) → given ≤ 5 + 2 * count → 5 ≤ given → (given - 5 ≡ 2 * same → ⊥) → same ≡ count → given - 5 < 2 * count
inside count given same most sets more is = omega arith

pub invariant_of-self-2 : goal.invariant_of-self-2
invariant_of-self-2 c =
    let few : c.self.inside.given - 5 < 2 * c.self.inside.count =
    inside c.self.inside.count c.self.inside.given c.from.result c.self.invariant.0 c.if-self-lt-PARAMETER_SETS.false c.if-place-from.false c.from.ensures in (
      omega arith,
      c.in_ok-unit-2.ensures.state ∙ state_more c.self.inside.number c.self.inside.given c.self.inside.state c.if-self-lt-PARAMETER_SETS.false c.self.invariant.1,
    )

pub returns : goal.returns
returns c =
    sym c.self.view_is ∙ next_is_segment c.self.inside.number c.self.inside.count c.self.inside.given (c.self.inside.given - 5) c.self.inside.state c.in_ok-unit-2.field-0.unit.items
    c.if-self-lt-PARAMETER_SETS.false refl
    (inside c.self.inside.count c.self.inside.given c.from.result c.self.invariant.0 c.if-self-lt-PARAMETER_SETS.false c.if-place-from.false c.from.ensures)
    c.self.invariant.1 c.in_ok-unit-2.ensures.unit
