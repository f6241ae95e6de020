-- The units of a byte string hold no start code and end in a byte other than zero; what their rules leave.
use Rattle.std.proofs.Common.{◌≡◌, ◌≢◌, ℕ, ◌+◌, ◌-◌, ◌<◌, ◌≤◌, Bool, true, false, cond, List, [], ◌∷◌, ◌++◌, length, map, get_or, slice_index, replicate, Option, None, Some, All, refl, ap, sym, ◌∙◌, arith}
use Rattle.std.specs.Option.{option_map, option_or}
use Rattle.std.proofs.lemmas.Bool.{ltb-false}
use Rattle.std.proofs.lemmas.List.Elements.{All-nil, All-head, All-tail, All-cons, All-drop}
use Rattle.mv_rules.specs.declared.rule.Rule.{Rule}
use Rattle.mv_units.specs.Framing.{IsFramable}
use Rattle.mv_units.specs.Rules.{early_rule, emulation, long_unit, longest_unit, short_unit, unit_rule}
use Rattle.mv_units.specs.Shown.{first_refusal, refusal_behind, refusal_shown, refused, refused_leading}
use Rattle.mv_units.specs.Units.{NalUnit, has_code, is_zero, pieces, placed, trimmed, units, leading}
use Rattle.mv_units.proofs.Behind.{IsTrimmed, has_code-front, one_nonzero, trimmed-tail, trimmed-twice, zeros_behind}
use Rattle.mv_units.proofs.Pieces.{pieces-IsSplit}
use Rattle.mv_units.proofs.Refusals.{shown-clean}
use Rattle.mv_units.proofs.Trimmed.{last_byte, last-is}

-- a unit without a start code, and less the zero bytes at its end
abbrev pub IsClean : NalUnit → Type 0
IsClean u = (has_code u.bytes ≡ false) × IsTrimmed u.bytes

piece-clean : (at : ℕ) (p : List ℕ) → has_code p ≡ false → IsClean (record { place = at; bytes = trimmed p })
piece-clean at p clean = go (zeros_behind p)
  where
    go : (n : ℕ) × (p ≡ trimmed p ++ replicate n 0) → IsClean (record { place = at; bytes = trimmed p })
    go (n, is) = (has_code-front (trimmed p) (replicate n 0) (ap has_code (sym is) ∙ clean), trimmed-twice p)

placed-clean : (at : ℕ) (ps : List (List ℕ)) → All (λ p. has_code p ≡ false) ps → All IsClean (placed at ps)
unfolding placed
placed-clean at [] all = All-nil IsClean
placed-clean at (p ∷ ps) all =
    All-cons IsClean (record { place = at; bytes = trimmed p }) (placed (at + length p + 3) ps)
    (piece-clean at p (All-head (λ p. has_code p ≡ false) p ps all)) (placed-clean (at + length p + 3) ps (All-tail (λ p. has_code p ≡ false) p ps all))

pub units-clean : (s : List ℕ) → All IsClean (units s)
units-clean s = All-drop IsClean 1 (placed 0 (pieces s)) (placed-clean 0 (pieces s) (pieces-IsSplit s).clean)

-- the last byte of such a unit
last-nonzero : (b : ℕ) (s : List ℕ) → IsTrimmed (b ∷ s) → last_byte b s ≢ 0
last-nonzero b [] is zero = let no = one_nonzero b is in let yes : is_zero b ≡ true = ap is_zero zero in absurd (let h : true ≡ false = sym yes ∙ no in cc)
last-nonzero b (c ∷ s) is zero = last-nonzero c s (trimmed-tail b (c ∷ s) is).1 zero

pub ends-nonzero : (u : List ℕ) → 0 < length u → IsTrimmed u → slice_index u (length u - 1) ≢ 0
ends-nonzero [] some is zero = absurd (omega arith)
ends-nonzero (b ∷ s) some is zero =
    let n : length s ≡ length (b ∷ s) - 1 = omega arith in
    last-nonzero b s is (sym (last-is b s) ∙ ap (λ i. get_or (b ∷ s) i 0) n ∙ zero)

-- what a unit that breaks no rule on its own bytes has
cond-none : (b : Bool) (rule : Rule) (o : Option Rule) → cond b (Some rule) o ≡ None → (b ≡ false) × (o ≡ None)
cond-none true rule o e = absurd (cc)
cond-none false rule o e = (refl, e)

pub record Lawful (u : List ℕ) : Type 0 where
  pub head : 2 ≤ length u
  pub quiet : emulation u ≡ false
  pub most : length u ≤ longest_unit

pub lawful : (u : List ℕ) → unit_rule u ≡ None → Lawful u
lawful u clean =
    let first = cond-none (short_unit u) Rule.Short (early_rule u) clean in
    let second = cond-none (emulation u) Rule.Emulation (cond (long_unit u) (Some Rule.Long) None) first.1 in
    let third = cond-none (long_unit u) Rule.Long None second.1 in
    record { head = ltb-false (length u) 2 first.0; quiet = second.0; most = ltb-false longest_unit (length u) third.0 }

-- the bytes of units of which each breaks no rule and is clean
pub each-bytes : (P : List ℕ → Type 0) (us : List NalUnit) → ((u : NalUnit) → unit_rule u.bytes ≡ None → IsClean u → P u.bytes) → All (λ (u : NalUnit). unit_rule u.bytes ≡ None) us → All IsClean us → All P (map (λ (u : NalUnit). u.bytes) us)
each-bytes P [] make lawful clean = All-nil P
each-bytes P (u ∷ us) make lawful clean =
    All-cons P u.bytes (map (λ (u : NalUnit). u.bytes) us)
    (make u (All-head (λ (u : NalUnit). unit_rule u.bytes ≡ None) u us lawful) (All-head IsClean u us clean))
    (each-bytes P us make (All-tail (λ (u : NalUnit). unit_rule u.bytes ≡ None) u us lawful) (All-tail IsClean u us clean))

framable : (u : NalUnit) → unit_rule u.bytes ≡ None → IsClean u → IsFramable u.bytes
framable u rules clean =
    let is = lawful u.bytes rules in
    record { head = is.head; clean = clean.0; ends = ends-nonzero u.bytes (let head = is.head in omega arith) clean.1 }

pub accepted-framable : (s : List ℕ) → refusal_shown true s ≡ None → All IsFramable (map (λ (u : NalUnit). u.bytes) (units s))
accepted-framable s quiet = each-bytes IsFramable (units s) framable (shown-clean true s quiet) (units-clean s)

-- units that break no rule on their bytes, in a string without leading bytes, are accepted
lawful-behind : (n : ℕ) (us : List NalUnit) → All (λ (u : NalUnit). unit_rule u.bytes ≡ None) us → refusal_behind n us ≡ None
unfolding refusal_behind
lawful-behind n [] all = refl
lawful-behind n (u ∷ us) all =
    let here = All-head (λ (u : NalUnit). unit_rule u.bytes ≡ None) u us all in
    ap (λ o. option_or (option_map (refused n u) o) (refusal_behind (n + 1) us)) here
    ∙ lawful-behind (n + 1) us (All-tail (λ (u : NalUnit). unit_rule u.bytes ≡ None) u us all)

pub shown-nothing : (s : List ℕ) → leading s ≡ None → All (λ (u : NalUnit). unit_rule u.bytes ≡ None) (units s) → refusal_shown true s ≡ None
shown-nothing s front all =
    ap (λ o. option_or (option_map refused_leading o) (option_or (first_refusal (units s)) None)) front
    ∙ ap (λ o. option_or o None) (lawful-behind 0 (units s) all)
