use Rattle.std.proofs.Common.{◌≡◌, ◌≤◌, ◌<◌, ◌||◌, ◌-◌, ◌+◌, ◌==◌, length, cond, None, Some, ℕ, Bool, true, false, List, take, drop, slice_index, refl, ap, sym, ◌∙◌, subst, arith}
use Rattle.std.proofs.lemmas.List.{take_rest, length-drop}
use Rattle.mv_units.specs.Rules.{begins_emulation, has_emulation}
use Rattle.mv_units.specs.Units.{has_code}
use Rattle.mv_lenform.specs.Tests.{begins_code}
use Rattle.mv_lenform.proofs.Zeros.{NoZero, emulation-none, emulation-next, code-none, code-next}
use Rattle.mv_lenform.proofs.bytes.inner_code.Goals as goal

-- the first zero byte of what is left
first : (u : List ℕ) (at i : ℕ) → ((k : ℕ) → 0 ≤ k → k < i → (slice_index (take (length u - at) (drop at u)) k == 0) ≡ true → ⊥) → NoZero (drop at u) i
first u at i none = λ k less is. none k (omega arith) less (subst (λ s. (slice_index s k == 0) ≡ true) (sym (take_rest u at)) is)

or-regroup : (a b c : Bool) → (a || (b || c)) ≡ ((a || b) || c)
or-regroup true b c = refl
or-regroup false b c = refl

no-more : (a : Bool) → (a || false) ≡ a
no-more true = refl
no-more false = refl

within : (u : List ℕ) (at i : ℕ) → at ≤ length u → i < length (take (length u - at) (drop at u)) → at + i + 1 ≤ length u
within u at i low less = let len : length (take (length u - at) (drop at u)) ≡ length u - at = ap (λ v. length v) (take_rest u at) ∙ length-drop at u in omega (arith, len)

pub returns-then-emulates : goal.returns-then-emulates
returns-then-emulates c =
    let u = c.args.unit.now in
    let at = c.loop-zero.at in
    let is : true ≡ begins_emulation (drop (at + c.in-Some.zero) u) = c.if-emulates.ensures ∙ ap begins_emulation (take_rest u (at + c.in-Some.zero)) in
    let found : has_emulation u ≡ true = c.loop-zero.invariant.emulation ∙ emulation-next u at c.in-Some.zero true (first u at c.in-Some.zero c.in-Some.ensures.0.before) is in
    ap (λ b. cond b None (Some (has_code u))) (sym found)

pub loop-zero-preserved : goal.loop-zero-preserved
loop-zero-preserved c =
    let u = c.args.unit.now in
    let at = c.loop-zero.at in
    let none = first u at c.in-Some.zero c.in-Some.ensures.0.before in
    let quiet : false ≡ begins_emulation (drop (at + c.in-Some.zero) u) = c.if-emulates.ensures ∙ ap begins_emulation (take_rest u (at + c.in-Some.zero)) in
    record {
      within = within u at c.in-Some.zero c.loop-zero.invariant.within c.in-Some.ensures.0.high;
      emulation = c.loop-zero.invariant.emulation ∙ emulation-next u at c.in-Some.zero false none quiet;
      code = c.loop-zero.invariant.code
          ∙ ap (λ b. c.loop-zero.code || b) (code-next u at c.in-Some.zero c.starts-code.result none (c.starts-code.ensures ∙ ap begins_code (take_rest u (at + c.in-Some.zero))))
          ∙ or-regroup c.loop-zero.code c.starts-code.result _;
    }

pub returns : goal.returns
returns c =
    let u = c.args.unit.now in
    let at = c.loop-zero.at in
    let none : NoZero (drop at u) (length (drop at u)) =
    λ k less is. c.in_default.ensures k (omega arith) (let len : length (take (length u - at) (drop at u)) ≡ length (drop at u) = ap (λ v. length v) (take_rest u at) in omega (arith, len, less)) (subst (λ s. (slice_index s k == 0) ≡ true) (sym (take_rest u at)) is) in
    let quiet : has_emulation u ≡ false = c.loop-zero.invariant.emulation ∙ emulation-none (drop at u) none in
    let code : has_code u ≡ c.loop-zero.code = c.loop-zero.invariant.code ∙ ap (λ b. c.loop-zero.code || b) (code-none (drop at u) none) ∙ no-more c.loop-zero.code in
    ap Some (sym code) ∙ ap (λ b. cond b None (Some (has_code u))) (sym quiet)
