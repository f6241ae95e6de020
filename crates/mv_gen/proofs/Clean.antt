-- Each unit of a stream breaks no rule on its own bytes, and a byte stream carries it unchanged.
use Rattle.std.proofs.Common.{◌≡◌, ◌≢◌, ℕ, ◌+◌, ◌-◌, ◌*◌, ◌/◌, ◌%◌, ◌<◌, ◌≤◌, zero, suc, Bool, true, false, cond, nat_eq, List, [], ◌∷◌, ◌++◌, length, get_or, map, append_assoc, None, Some, refl, sym, ap, subst, ◌∙◌, arith, length-append}
use Rattle.std.specs.List.{All, flat_map, range_with_len}
use Rattle.std.proofs.Math.Nat.{mod-lt}
use Rattle.std.proofs.lemmas.Bool.{le-ltb}
use Rattle.std.proofs.lemmas.List.{get_or-append_right, take_all}
use Rattle.std.proofs.lemmas.List.Elements.{All-append, All-cons, All-head, All-map, All-nil, All-tail}
use Rattle.std.proofs.lemmas.List.FromFn.{length-map-range_with_len}
use Rattle.mv_rules.specs.declared.rule.Rule.{Rule}
use Rattle.mv_units.specs.declared.head.UnitHead.{UnitHead}
use Rattle.mv_units.specs.Escapes.{escape, head_first, head_second}
use Rattle.mv_units.specs.Framing.{IsFramable, frame}
use Rattle.mv_units.specs.Rules.{early_rule, has_emulation, long_unit, longest_unit, unit_rule}
use Rattle.mv_units.specs.Shown.{refusal_shown}
use Rattle.mv_units.specs.Units.{NalUnit, has_code, units}
use Rattle.mv_units.proofs.Clean.{shown-nothing}
use Rattle.mv_units.proofs.Escaped.{has_emulation-escaped, length-escaped}
use Rattle.mv_units.proofs.Framed.{leading-frame, units-frame}
use Rattle.mv_units.proofs.Unescaped.{framable-escape}
use Rattle.mv_gen.specs.Draws.{byte_of, draw, drawn, next}
use Rattle.mv_gen.specs.Headers.{head_of, header_of}
use Rattle.mv_gen.specs.ParameterSets.{base_pps, base_sps, parameter_sets, second_pps, second_sps, vps}
use Rattle.mv_gen.specs.Units.{access_unit, data_of, gen_units, segment, size, state_before}
use Rattle.mv_gen.proofs.HeaderBytes.{base_header_is, second_header_is}
use Rattle.mv_gen.proofs.Places.{all_are, placed}

pub record IsClean (u : List ℕ) : Type 0 where
  pub rules : unit_rule u ≡ None
  pub framable : IsFramable u

-- a unit with a head, not too long, in which no bytes stand that may stand nowhere
rules_none : (u : List ℕ) → 2 ≤ length u → length u ≤ longest_unit → has_emulation u ≡ false → unit_rule u ≡ None
rules_none u head most quiet =
    ap (λ b. cond b (Some Rule.Short) (early_rule u)) (le-ltb (length u) 2 head)
    ∙ ap (λ s. cond (has_emulation s) (Some Rule.Emulation) (cond (long_unit u) (Some Rule.Long) None)) (take_all longest_unit u most)
    ∙ ap (λ b. cond b (Some Rule.Emulation) (cond (long_unit u) (Some Rule.Long) None)) quiet
    ∙ ap (λ b. cond b (Some Rule.Long) None) (le-ltb longest_unit (length u) most)

-- ---- The parameter sets

set_clean : (u : List ℕ) → 2 ≤ length u → length u ≤ longest_unit → has_emulation u ≡ false → has_code u ≡ false → get_or u (length u - 1) 0 ≢ 0 → IsClean u
set_clean u head most quiet clean ends = record { rules = rules_none u head most quiet; framable = record { head = head; clean = clean; ends = ends } }

sets_clean : All IsClean parameter_sets
unfolding has_emulation has_code
sets_clean =
    All-cons IsClean vps (base_sps ∷ second_sps ∷ base_pps ∷ second_pps ∷ []) (set_clean vps (omega arith) (omega arith) refl refl (λ h. cc))
    (All-cons IsClean base_sps (second_sps ∷ base_pps ∷ second_pps ∷ []) (set_clean base_sps (omega arith) (omega arith) refl refl (λ h. cc))
    (All-cons IsClean second_sps (base_pps ∷ second_pps ∷ []) (set_clean second_sps (omega arith) (omega arith) refl refl (λ h. cc))
    (All-cons IsClean base_pps (second_pps ∷ []) (set_clean base_pps (omega arith) (omega arith) refl refl (λ h. cc))
    (All-cons IsClean second_pps [] (set_clean second_pps (omega arith) (omega arith) refl refl (λ h. cc)) (All-nil IsClean)))))

-- ---- The slice segments

one_of_two : (t : Bool) (xs ys : List ℕ) → length xs ≤ 4 → length ys ≤ 4 → length (cond t xs ys) ≤ 4
one_of_two true xs ys first second = first
one_of_two false xs ys first second = second

header_short : (layer lsb : ℕ) → layer < 2 → lsb < 8 → length (header_of layer lsb) ≤ 4
header_short zero lsb low few =
    subst (λ (h : List ℕ). length h ≤ 4) (base_header_is lsb few)
    (one_of_two (nat_eq lsb 0) (0xAF ∷ []) ((0xD0 + lsb / 2) ∷ (lsb % 2 * 128 + 0x17) ∷ 0x70 ∷ []) (omega arith) (omega arith))
header_short (suc zero) lsb low few =
    subst (λ (h : List ℕ). length h ≤ 4) (second_header_is lsb few)
    (one_of_two (nat_eq lsb 0) (0x92 ∷ 0x07 ∷ []) (0xA4 ∷ (lsb * 32 + 5) ∷ 0xEB ∷ 0x80 ∷ []) (omega arith) (omega arith))
header_short (suc (suc n)) lsb low few = absurd (omega arith)

-- the drawn bytes of a segment
abbrev drawn_bytes : ℕ → List ℕ
drawn_bytes state = map (λ i. byte_of (draw (next state) i)) (range_with_len 0 (size state))

drawn_short : (state : ℕ) → length (drawn_bytes state) ≤ 64
drawn_short state =
    let below = mod-lt (drawn (next state)) {m = 64} (omega arith) in
    omega (arith, below, length-map-range_with_len (λ i. byte_of (draw (next state) i)) 0 (size state))

none : (n : ℕ) → n - n ≡ 0
none n = omega arith

segment_clean : (number i layer lsb : ℕ) → layer < 2 → lsb < 8 → IsClean (segment number i layer lsb)
unfolding segment data_of
segment_clean number i layer lsb low few =
    let head : UnitHead = head_of layer lsb in
    let front : List ℕ = header_of layer lsb ++ drawn_bytes (state_before number i) in
    let bytes : List ℕ = header_of layer lsb ++ (drawn_bytes (state_before number i) ++ 0x80 ∷ []) in
    let parts : bytes ≡ front ++ 0x80 ∷ [] = sym (append_assoc (header_of layer lsb) (drawn_bytes (state_before number i)) (0x80 ∷ [])) in
    let long : length bytes ≡ length front + 1 = ap length parts ∙ length-append front (0x80 ∷ []) in
    let most : length front ≤ 68 = omega (arith, length-append (header_of layer lsb) (drawn_bytes (state_before number i)), header_short layer lsb low few, drawn_short (state_before number i)) in
    let place : length bytes - 1 ≡ length front = omega (arith, long) in
    let last : get_or bytes (length bytes - 1) 0 ≡ 0x80 =
    ap (λ (n : ℕ). get_or bytes n 0) place ∙ ap (λ (b : List ℕ). get_or b (length front) 0) parts
    ∙ get_or-append_right front (0x80 ∷ []) (length front) (length front) 0 refl (omega arith) ∙ ap (λ (n : ℕ). get_or (0x80 ∷ []) n 0) (none (length front)) in
    record {
      rules = rules_none (escape head bytes) (omega arith) (omega (arith, length-escaped (head_first head) (head_second head) bytes, most, long)) (has_emulation-escaped (head_first head) (head_second head) bytes);
      framable = framable-escape head bytes (λ h. absurd (omega (arith, sym last ∙ h)));
    }

-- ---- All units

each_segment : (number a n : ℕ) → All IsClean (map (placed number) (range_with_len a n))
each_segment number a n =
    All-map IsClean (placed number) (range_with_len a n)
    (λ k d below. segment_clean number (get_or (range_with_len a n) k d) (get_or (range_with_len a n) k d % 2) (get_or (range_with_len a n) k d / 2 % 8) (omega arith) (omega arith))

pub units_clean : (number count : ℕ) → All IsClean (gen_units number count)
unfolding gen_units
units_clean number count =
    All-append IsClean parameter_sets (flat_map (access_unit number) (range_with_len 0 count)) sets_clean
    (subst (All IsClean) (sym (all_are number 0 count)) (each_segment number (2 * 0) (2 * count)))

-- ---- The stream, framed

each_lawful : (us : List NalUnit) → All IsClean (map (λ (u : NalUnit). u.bytes) us) → All (λ (u : NalUnit). unit_rule u.bytes ≡ None) us
each_lawful [] all = All-nil (λ (u : NalUnit). unit_rule u.bytes ≡ None)
each_lawful (u ∷ us) all =
    All-cons (λ (v : NalUnit). unit_rule v.bytes ≡ None) u us (All-head IsClean u.bytes (map (λ (v : NalUnit). v.bytes) us) all).rules
    (each_lawful us (All-tail IsClean u.bytes (map (λ (v : NalUnit). v.bytes) us) all))

pub units_again : (number count : ℕ) → map (λ (u : NalUnit). u.bytes) (units (frame (gen_units number count))) ≡ gen_units number count
units_again number count = units-frame (gen_units number count) (λ k d below. (units_clean number count k d below).framable)

pub nothing_shown : (number count : ℕ) → refusal_shown true (frame (gen_units number count)) ≡ None
nothing_shown number count =
    shown-nothing (frame (gen_units number count)) (leading-frame (gen_units number count))
    (each_lawful (units (frame (gen_units number count))) (subst (All IsClean) (sym (units_again number count)) (units_clean number count)))
