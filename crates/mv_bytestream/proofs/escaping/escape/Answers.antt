use Rattle.std.proofs.Common.{◌≡◌, ℕ, ◌<◌, ◌++◌, List, [], ◌∷◌, length, ap, sym, ◌∙◌, arith}
use Rattle.mv_units.specs.Escapes.{escape as unit_of, escaped, head_first, head_second}
use Rattle.mv_units.specs.Rules.{has_emulation}
use Rattle.mv_units.specs.Units.{has_code}
use Rattle.mv_units.proofs.Escaped.{has_code-escaped, has_emulation-escaped, length-escaped}
use Rattle.mv_bytestream.proofs.Prevented.{some-nonzero, escaped-fresh, run-last}
use Rattle.mv_bytestream.proofs.escaping.escape.Goals as goal

-- the head's two bytes, of which the second isn't zero, and the payload
begun : (none one two p : List ℕ) (first second : ℕ) → 0 < second → none ≡ [] → one ≡ none ++ first ∷ [] → two ≡ one ++ second ∷ [] →
    two ++ escaped 3 3 p ≡ first ∷ second ∷ escaped first second p
begun none one two p first second some a b c =
    ap (λ s. s ++ escaped 3 3 p) (c ∙ ap (λ s. s ++ second ∷ []) (b ∙ ap (λ s. s ++ first ∷ []) a))
    ∙ ap (λ s. first ∷ second ∷ s) (sym (escaped-fresh first second p (some-nonzero second some)))

pub loop-to-init : goal.loop-to-init
loop-to-init c = record {
  inside = omega arith;
  same = begun _ _ _ c.args.payload.now (head_first c.args.head) (head_second c.args.head) (omega arith) c.in_ok-unit.ensures.items c.in_ok-push.ensures.items c.in_ok-push-2.ensures.items;
}

pub returns : goal.returns
returns c =
    let first : ℕ = head_first c.args.head in
    let second : ℕ = head_second c.args.head in
    let p : List ℕ = c.args.payload.now in
    let is : c.extend_from_slice-2.new.self.items ≡ unit_of c.args.head p =
    run-last _ _ _ p c.loop-to.from c.loop-to.invariant.same c.in_default.ensures.last c.in_ok-extend_from_slice-2.ensures.items in
    let long : length c.extend_from_slice-2.new.self.items ≡ length (unit_of c.args.head p) = ap length is in
    record {
      unit = is;
      no_code = ap has_code is ∙ has_code-escaped first second p;
      no_emulation = ap has_emulation is ∙ has_emulation-escaped first second p;
      length = omega (arith, length-escaped first second p);
    }
