-- What the bytes of a length leave a machine in, and that it stands there as before.
use Rattle.std.proofs.Common.{◌≡◌, ℕ, ◌+◌, ◌-◌, ◌<◌, ◌≤◌, min, Bool, true, false, nat_lt, List, [], ◌++◌, length, take, None, Some, refl, ap, sym, ◌∙◌, arith, length-append, append-nil}
use Rattle.std.proofs.lemmas.Bool.{ltb-true, ltb-false}
use Rattle.std.proofs.lemmas.List.{length-take, length-take-le, take_all}
use Rattle.mv_rules.specs.declared.rule.Rule.{Rule}
use Rattle.mv_units.specs.Units.{NalUnit}
use Rattle.mv_lenform.specs.LenScan.{LenScan}
use Rattle.mv_lenform.specs.Moves.{OpenBefore}
use Rattle.mv_prefixed.specs.Reading.{Open, Broken, front, length_rule, spelled}
use Rattle.mv_lenform.specs.Stages.{IsHeld, bytes_held, scan_of, has_ended, waiting_at, kept_at, refusal_at, unit_held, in_hand}
use Rattle.mv_lenform.specs.declared.machine.Machine.{Machine}
use Rattle.mv_lenform.specs.declared.machine.Stage.{Stage}
use Rattle.mv_lenform.specs.declared.machine.Stage.TheVariants.{Reading}
use Rattle.mv_lenform.proofs.Bodies.{length-broken, unit-open}
use Rattle.mv_prefixed.proofs.Forms.{open-few}
use Rattle.mv_prefixed.proofs.Fronts.{front-more, length-plain, more, spelled-more}
use Rattle.mv_lenform.proofs.Pieces.{length-held, length-before}

-- first bytes of a piece went to a length
pub record Begun (old mid : Machine) (p : List ℕ) (n : ℕ) : Type 0 where
  pub held : bytes_held mid ≡ bytes_held old ++ take n p
  pub before : OpenBefore (bytes_held old) p n

pub begun-of : (old mid : Machine) (p : List ℕ) (n : ℕ) → IsHeld old → n ≡ min (4 - old.have) (length p) → take mid.have mid.length ≡ take old.have old.length ++ take n p → mid.unit ≡ old.unit → Begun old mid p n
begun-of old mid p n is count taken same = record {
  held = ap (λ v. take mid.have mid.length ++ v) (ap (λ u. u.items) same)
      ∙ length-held (take old.have old.length) old.unit.items p (take mid.have mid.length) old.have n is.length_first taken count;
  before = length-before (take old.have old.length) old.unit.items p old.have n (omega (arith, length-take old.have old.length)) is.length_first count;
}

-- a length that is whole
pub record IsWhole (mid : Machine) (w : ℕ) : Type 0 where
  pub four : length (take mid.have mid.length) ≡ 4
  pub spells : spelled (take mid.have mid.length) ≡ w

pub whole-of : (mid : Machine) (w : ℕ) → mid.have ≡ 4 → length mid.length ≡ 4 → w ≡ spelled mid.length → IsWhole mid w
whole-of mid w have four is = record {
  four = length-take-le mid.have mid.length (omega arith) ∙ have;
  spells = ap spelled (take_all mid.have mid.length (omega arith)) ∙ sym is;
}

unit-less : (h u p h' : List ℕ) (have n w : ℕ) → (have < 4 → u ≡ []) → front (h ++ u) ≡ Open → h' ≡ h ++ take n p → n ≡ min (4 - have) (length p) → length h' ≡ 4 → spelled h' ≡ w → length_rule w ≡ None → length u < w
unit-less h u p h' have n w none here is count four spells rule = go (nat_lt have 4) refl
  where
    go : (b : Bool) → nat_lt have 4 ≡ b → length u < w
    go true few =
        let empty : length u ≡ 0 = ap (λ v. length v) (none (ltb-true have 4 few)) in
        let bounds = length-plain w rule in omega (arith, empty, bounds.0)
    go false enough =
        let nothing : n ≡ 0 = let high = ltb-false have 4 enough in omega (arith, count) in
        let same : h' ≡ h = is ∙ ap (λ k. h ++ take k p) nothing ∙ append-nil h in
        let len : length h ≡ 4 = ap (λ v. length v) (sym same) ∙ four in
        let number : spelled (h ++ u) ≡ w = spelled-more h u (omega (arith, len)) ∙ ap spelled (sym same) ∙ spells in
        let less = open-few (h ++ u) here (omega (arith, len, length-append h u)) in
        omega (arith, less, number, len, length-append h u)

pub less-of : (old mid : Machine) (p : List ℕ) (n w : ℕ) → IsHeld old → old.stage ≡ Reading → n ≡ min (4 - old.have) (length p) → take mid.have mid.length ≡ take old.have old.length ++ take n p → IsWhole mid w → length_rule w ≡ None → length old.unit.items < w
less-of old mid p n w is stage count taken whole rule =
    unit-less (take old.have old.length) old.unit.items p (take mid.have mid.length) old.have n w is.length_first (is.begun stage) taken count whole.four whole.spells rule

pub held-of : (mid : Machine) (w : ℕ) → mid.have ≡ 4 → IsWhole mid w → length_rule w ≡ None → length mid.unit.items < w → mid.given + in_hand mid.stage ≤ mid.fed → IsHeld mid
held-of mid w have whole rule less units = record {
  most = omega arith;
  length_first = λ few. absurd (omega arith);
  units = units;
  begun = λ stage.
      ap front (sym (append-nil (bytes_held mid)))
      ∙ unit-open (take mid.have mid.length) mid.unit.items [] w 0 whole.four whole.spells rule (omega (arith, less));
}

-- where bytes are kept, a machine is what they and its counts are, to callers
scan_by : Stage → ℕ → ℕ → NalUnit → List ℕ → LenScan
scan_by stage fed given unit bytes = record {
  fed = fed;
  given = given;
  ended = has_ended stage;
  waiting = waiting_at stage unit;
  kept = kept_at stage bytes;
  refusal = refusal_at stage;
}

pub same-scan : (m o : Machine) → m.stage ≡ Reading → o.stage ≡ Reading → m.fed ≡ o.fed → m.given ≡ o.given → bytes_held m ≡ bytes_held o → scan_of m ≡ scan_of o
unfolding scan_by
same-scan m o mstage ostage fed given bytes =
    ap (λ st. scan_by st m.fed m.given (unit_held m) (bytes_held m)) mstage
    ∙ ap (λ n. scan_by Reading n m.given (unit_held m) (bytes_held m)) fed
    ∙ ap (λ n. scan_by Reading o.fed n (unit_held m) (bytes_held m)) given
    ∙ ap (λ v. scan_by Reading o.fed o.given (unit_held m) v) bytes
    ∙ ap (λ st. scan_by st o.fed o.given (unit_held o) (bytes_held o)) (sym ostage)

-- a length that breaks a rule came in this piece
pub some-of : (old mid : Machine) (p : List ℕ) (n : ℕ) (rule : Rule) → IsHeld old → old.stage ≡ Reading → n ≡ min (4 - old.have) (length p) → take mid.have mid.length ≡ take old.have old.length ++ take n p → length (take mid.have mid.length) ≡ 4 →
    length_rule (spelled (take mid.have mid.length)) ≡ Some rule → 0 < n
some-of old mid p n rule is stage count taken four breaks = go (nat_lt 0 n) refl
  where
    go : (b : Bool) → nat_lt 0 n ≡ b → 0 < n
    go true some = ltb-true 0 n some
    go false none = absurd (
        let nothing : n ≡ 0 = let low = ltb-false 0 n none in omega (arith, low) in
        let same : take mid.have mid.length ≡ take old.have old.length = taken ∙ ap (λ k. take old.have old.length ++ take k p) nothing ∙ append-nil (take old.have old.length) in
        let here : front (bytes_held old) ≡ Open = is.begun stage in
        let broken : front (take old.have old.length ++ old.unit.items) ≡ Broken rule =
        let closed : front (take mid.have mid.length) ≡ Broken rule = length-broken (take mid.have mid.length) rule four breaks in
        let held : front (take old.have old.length) ≡ Broken rule = ap front (sym same) ∙ closed in
        front-more (take old.have old.length) old.unit.items (λ h. let e : Open ≡ Broken rule = sym h ∙ held in cc) ∙ ap (more old.unit.items) held in
        let e : Open ≡ Broken rule = sym here ∙ broken in cc)

pub broken-of : (mid : Machine) (rule : Rule) → length (take mid.have mid.length) ≡ 4 → length_rule (spelled (take mid.have mid.length)) ≡ Some rule → front (bytes_held mid) ≡ Broken rule
broken-of mid rule four breaks =
    let held : front (take mid.have mid.length) ≡ Broken rule = length-broken (take mid.have mid.length) rule four breaks in
    front-more (take mid.have mid.length) mid.unit.items (λ h. let e : Open ≡ Broken rule = sym h ∙ held in cc) ∙ ap (more mid.unit.items) held
