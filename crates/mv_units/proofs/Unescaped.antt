-- A unit that is in order is that of its own head and payload (7.3.1.1, 7.3.1.2, 7.4.2).
use Rattle.std.proofs.Common.{◌≡◌, ◌≢◌, ℕ, suc, ◌+◌, ◌-◌, ◌*◌, ◌/◌, ◌%◌, ◌<◌, ◌≤◌, Bool, true, false, ◌==◌, ◌&&◌, ◌||◌, nat_le, nat_lt, List, [], ◌∷◌, length, get_or, All, Ok, Err, IsOk, refl, ap, sym, ◌∙◌, subst, arith, if◌then◌else◌}
use Rattle.std.proofs.lemmas.Bool.{or_parts, and_parts, eqb-true, eqb-false, ne_eqb}
use Rattle.std.proofs.lemmas.Bool.Decides.{nat_tests}
use Rattle.std.proofs.lemmas.List.{take_all}
use Rattle.mv_rules.specs.declared.rule.Rule.{Rule}
use Rattle.mv_units.specs.declared.head.UnitHead.{UnitHead}
use Rattle.mv_units.specs.Head.{head, nuh_layer_id, temporal_id}
use Rattle.mv_units.specs.Units.{is_code, has_code}
use Rattle.mv_units.specs.Framing.{IsFramable}
use Rattle.mv_units.specs.Rules.{longest_unit, short_unit, begins_emulation, has_emulation, emulation, long_unit, bad_head, checked_head}
use Rattle.mv_units.specs.Escapes.{both_zero, unescaped, payload, head_first, head_second, escaped, escape}
use Rattle.mv_units.proofs.Escaped.{has_code-escaped, choice, and-false, both_zero-second, unescaped-drops, unescaped-keeps, escaped-puts, escaped-keeps, escaped-ends, escaped-stops}

-- a byte behind two zeros that is no emulation_prevention_three_byte is above 03
above : (z : Bool) (c : ℕ) (t : Bool) → (z && (c == 1)) ≡ false → (z && ((c == 0) || (c == 2) || ((c == 3) && t))) ≡ false → (z && (c == 3)) ≡ false → (z && nat_le c 3) ≡ false
above true c t one rest three =
    let parts = or_parts ((c == 0) || (c == 2)) ((c == 3) && t) rest in
    let low = or_parts (c == 0) (c == 2) parts.0 in
    let zero_ = low.0 in
    let two = low.1 in
    grind (arith, nat_tests)
above false c t one rest three = refl

-- what follows an emulation_prevention_three_byte is at most 03
below : (z : Bool) (c d : ℕ) → (z && (c == 3)) ≡ true → (z && ((c == 0) || (c == 2) || ((c == 3) && nat_lt 3 d))) ≡ false → nat_le d 3 ≡ true
below true c d is rest =
    let parts = or_parts ((c == 0) || (c == 2)) ((c == 3) && nat_lt 3 d) rest in
    let none : nat_lt 3 d ≡ false = ap (λ t. t && nat_lt 3 d) (sym is) ∙ parts.1 in
    grind (arith, nat_tests)
below false c d is rest = absurd (cc)

-- what was taken out is put in again
pub escaped-unescaped : (a b : ℕ) (s : List ℕ) → has_code (a ∷ b ∷ s) ≡ false → has_emulation (a ∷ b ∷ s) ≡ false → get_or (b ∷ s) (length s) 0 ≢ 0 →
    escaped a b (unescaped a b s) ≡ s
unfolding unescaped has_code has_emulation
escaped-unescaped a b [] code emulation ends =
    escaped-stops a b (both_zero-second a b (choice (b == 0) ((b == 0) ≡ false) (λ is. absurd (ends (eqb-true b 0 is))) (λ isnt. isnt)))
escaped-unescaped a b (c ∷ []) code emulation ends =
    choice (both_zero a b && (c == 3)) (escaped a b (unescaped a b (c ∷ [])) ≡ c ∷ [])
    (λ is.
    let parts = and_parts (both_zero a b) (c == 3) is in
    let three : c ≡ 3 = eqb-true c 3 parts.1 in
    subst (λ n. escaped a b (unescaped a b (n ∷ [])) ≡ n ∷ []) (sym three)
    (ap (escaped a b) (unescaped-drops a b [] parts.0) ∙ escaped-ends a b parts.0))
    (λ isnt.
    ap (escaped a b) (unescaped-keeps a b c [] isnt)
    ∙ escaped-keeps a b c [] (above (both_zero a b) c false (or_parts (is_code a b c) false code).0 (or_parts (begins_emulation (a ∷ b ∷ c ∷ [])) (has_emulation (b ∷ c ∷ [])) emulation).0 isnt)
    ∙ ap (λ r. c ∷ r) (escaped-unescaped b c [] refl (or_parts (begins_emulation (a ∷ b ∷ c ∷ [])) (has_emulation (b ∷ c ∷ [])) emulation).1 ends))
escaped-unescaped a b (c ∷ d ∷ s) code emulation ends =
    let codes = or_parts (is_code a b c) (has_code (b ∷ c ∷ d ∷ s)) code in
    let later_code = or_parts (is_code b c d) (has_code (c ∷ d ∷ s)) codes.1 in
    let strings = or_parts (begins_emulation (a ∷ b ∷ c ∷ d ∷ s)) (has_emulation (b ∷ c ∷ d ∷ s)) emulation in
    let later_string = or_parts (begins_emulation (b ∷ c ∷ d ∷ s)) (has_emulation (c ∷ d ∷ s)) strings.1 in
    let next : escaped b c (unescaped b c (d ∷ s)) ≡ d ∷ s = escaped-unescaped b c (d ∷ s) codes.1 strings.1 ends in
    let second : escaped c d (unescaped c d s) ≡ s = escaped-unescaped c d s later_code.1 later_string.1 ends in
    choice (both_zero a b && (c == 3)) (escaped a b (unescaped a b (c ∷ d ∷ s)) ≡ c ∷ d ∷ s)
    (λ is. prevented is (below (both_zero a b) c d is strings.0) second)
    (λ isnt.
    ap (escaped a b) (unescaped-keeps a b c (d ∷ s) isnt)
    ∙ escaped-keeps a b c (unescaped b c (d ∷ s)) (above (both_zero a b) c (nat_lt 3 d) codes.0 strings.0 isnt)
    ∙ ap (λ r. c ∷ r) next)
  where
    prevented : (both_zero a b && (c == 3)) ≡ true → nat_le d 3 ≡ true → escaped c d (unescaped c d s) ≡ s → escaped a b (unescaped a b (c ∷ d ∷ s)) ≡ c ∷ d ∷ s
    prevented is low second =
        let parts = and_parts (both_zero a b) (c == 3) is in
        let three : c ≡ 3 = eqb-true c 3 parts.1 in
        let put : (both_zero a b && nat_le d 3) ≡ true = ap (λ t. t && nat_le d 3) parts.0 ∙ low in
        ap (λ n. escaped a b (unescaped a b (n ∷ d ∷ s))) three
        ∙ ap (escaped a b) (unescaped-drops a b (d ∷ s) parts.0)
        ∙ ap (escaped a b) (unescaped-keeps b 3 d s (and-false (both_zero b 3) (d == 3) (both_zero-second b 3 refl)))
        ∙ escaped-puts a b d (unescaped 3 d s) put
        ∙ ap (λ n. n ∷ d ∷ escaped n d (unescaped n d s)) (sym three)
        ∙ ap (λ r. c ∷ d ∷ r) second

-- the two bytes of a head that is in order
first-is : (a b : ℕ) → a < 128 → b < 256 → a / 2 % 64 * 2 + (a % 2 * 32 + b / 8) / 32 ≡ a
first-is a b low high = omega arith

second-is : (a b : ℕ) → b < 256 → 0 < b % 8 → (a % 2 * 32 + b / 8) % 32 * 8 + (b % 8 - 1 + 1) ≡ b
second-is a b high some = omega arith

-- a head that is read isn't bad
good_head : (short bad : Bool) (h : UnitHead) → IsOk {T = UnitHead} {E = Rule} (if short then Err Rule.Short else (if bad then Err Rule.Head else Ok h)) → bad ≡ false
good_head true bad h is = absurd (cc)
good_head false true h is = absurd (cc)
good_head false false h is = refl

-- the length of a unit that isn't long is at most the greatest
short_enough : (u : List ℕ) → long_unit u ≡ false → length u ≤ longest_unit
short_enough u isnt = grind (arith, nat_tests)

-- a unit that is in order is that of its head and payload
pub escape-payload : (u : List ℕ) → All (λ b. b < 256) u → IsOk (checked_head u) → emulation u ≡ false → long_unit u ≡ false → IsFramable u → escape (head u) (payload u) ≡ u
unfolding payload
escape-payload [] bytes good clean short framable = absurd (omega (arith, framable.head))
escape-payload (a ∷ []) bytes good clean short framable = absurd (omega (arith, framable.head))
escape-payload (a ∷ b ∷ s) bytes good clean short framable =
    let parts = or_parts ((a / 128 == 1) || (b % 8 == 0)) _ (good_head (short_unit (a ∷ b ∷ s)) (bad_head (a ∷ b ∷ s)) (head (a ∷ b ∷ s)) good) in
    let tests = or_parts (a / 128 == 1) (b % 8 == 0) parts.0 in
    let forbidden = eqb-false (a / 128) 1 tests.0 in
    let temporal = eqb-false (b % 8) 0 tests.1 in
    let first : a < 256 = bytes 0 0 (omega arith) in
    let second : b < 256 = bytes 1 0 (omega arith) in
    let whole : has_emulation (a ∷ b ∷ s) ≡ false = ap has_emulation (sym (take_all longest_unit (a ∷ b ∷ s) (short_enough (a ∷ b ∷ s) short))) ∙ clean in
    let one : head_first (head (a ∷ b ∷ s)) ≡ a = first-is a b (omega arith) second in
    let two : head_second (head (a ∷ b ∷ s)) ≡ b = second-is a b second (omega arith) in
    let place : suc (suc (length s)) - 1 ≡ suc (length s) = omega arith in
    let ends : get_or (b ∷ s) (length s) 0 ≢ 0 = λ is. framable.ends (ap (λ n. get_or (a ∷ b ∷ s) n 0) place ∙ is) in
    ap (λ n. n ∷ head_second (head (a ∷ b ∷ s)) ∷ escaped n (head_second (head (a ∷ b ∷ s))) (unescaped a b s)) one
    ∙ ap (λ n. a ∷ n ∷ escaped a n (unescaped a b s)) two
    ∙ ap (λ r. a ∷ b ∷ r) (escaped-unescaped a b s framable.clean whole ends)

-- a head that was put in is read again
kind-is : (kind layer : ℕ) → kind < 64 → layer < 64 → (kind * 2 + layer / 32) / 2 % 64 ≡ kind
kind-is kind layer low under = omega arith

layer-is : (kind layer tid : ℕ) → layer < 64 → tid < 7 → (kind * 2 + layer / 32) % 2 * 32 + (layer % 32 * 8 + (tid + 1)) / 8 ≡ layer
layer-is kind layer tid under low = omega arith

tid-is : (layer tid : ℕ) → tid < 7 → (layer % 32 * 8 + (tid + 1)) % 8 - 1 ≡ tid
tid-is layer tid low = omega arith

pub head-escape : (h : UnitHead) (p : List ℕ) → h.kind < 64 → h.layer < 64 → h.tid < 7 → head (escape h p) ≡ h
head-escape h p kind layer tid =
    let k = kind-is h.kind h.layer kind layer in
    let l = layer-is h.kind h.layer h.tid layer tid in
    let t = tid-is h.layer h.tid tid in
    ap (λ n. record { kind = n; layer = nuh_layer_id (escape h p); tid = temporal_id (escape h p) }) k
    ∙ ap (λ n. record { kind = h.kind; layer = n; tid = temporal_id (escape h p) }) l
    ∙ ap (λ n. record { kind = h.kind; layer = h.layer; tid = n }) t

-- a payload that ends in a byte other than zero gives a unit that a byte stream carries unchanged
ends-escaped : (a b : ℕ) (p : List ℕ) → get_or (b ∷ p) (length p) 0 ≢ 0 → get_or (b ∷ escaped a b p) (length (escaped a b p)) 0 ≢ 0
ends-escaped a b [] some =
    let isnt : (b == 0) ≡ false = ne_eqb b 0 some in
    subst (λ s. get_or (b ∷ s) (length s) 0 ≢ 0) (sym (escaped-stops a b (both_zero-second a b isnt))) some
ends-escaped a b (c ∷ p) some =
    choice (both_zero a b && nat_le c 3) (get_or (b ∷ escaped a b (c ∷ p)) (length (escaped a b (c ∷ p))) 0 ≢ 0)
    (λ is. subst (λ s. get_or (b ∷ s) (length s) 0 ≢ 0) (sym (escaped-puts a b c p is)) (ends-escaped 3 c p some))
    (λ isnt. subst (λ s. get_or (b ∷ s) (length s) 0 ≢ 0) (sym (escaped-keeps a b c p isnt)) (ends-escaped b c p some))

last-escaped : (a b : ℕ) (p : List ℕ) → get_or p (length p - 1) 0 ≢ 0 → get_or (a ∷ b ∷ escaped a b p) (suc (length (escaped a b p))) 0 ≢ 0
last-escaped a b [] some = absurd (some refl)
last-escaped a b (c ∷ p) some =
    let place : suc (length p) - 1 ≡ length p = omega arith in
    ends-escaped a b (c ∷ p) (λ is. some (ap (λ n. get_or (c ∷ p) n 0) place ∙ is))

pub framable-escape : (h : UnitHead) (p : List ℕ) → get_or p (length p - 1) 0 ≢ 0 → IsFramable (escape h p)
framable-escape h p some =
    let place : length (escape h p) - 1 ≡ suc (length (escaped (head_first h) (head_second h) p)) = omega arith in
    record {
      head = omega arith;
      clean = has_code-escaped (head_first h) (head_second h) p;
      ends = λ is. last-escaped (head_first h) (head_second h) p some (ap (λ n. get_or (escape h p) n 0) (sym place) ∙ is);
    }
