-- Bytes behind a unit in the making: whether with them it breaks Emulation or Long.
use Rattle.std.proofs.Common.{◌≡◌, ◌≢◌, ℕ, zero, suc, ◌+◌, ◌-◌, ◌<◌, ◌≤◌, min, Bool, true, false, cond, ◌==◌, ◌&&◌, ◌||◌, nat_lt, nat_le, List, [], ◌∷◌, ◌++◌, length, take, drop, replicate, slice_index, Option, None, Some, refl, ap, sym, ◌∙◌, arith, length-append, append_assoc, ◌⊎◌, inl, inr}
use Rattle.std.proofs.lemmas.Bool.{or_parts, or_left, or_right, and_right, true≢false, lt-ltb, le-ltb, le-leb, lt-leb, ne_eqb, cases_lt}
use Rattle.std.proofs.lemmas.List.{length-replicate, take-append-le, take-append-drop, replicate-append-replicate}
use Rattle.mv_rules.specs.declared.rule.Rule.{Rule}
use Rattle.mv_units.specs.Units.{is_zero}
use Rattle.mv_units.specs.Rules.{longest_unit, above_three, begins_emulation, has_emulation, emulation, long_unit, early_rule}
use Rattle.mv_units.proofs.Behind.{IsTrimmed, trimmed-tail, one_nonzero}
use Rattle.mv_units.proofs.Early.{has_emulation-front, emulation-more}
use Rattle.mv_units.proofs.Silent.{take-short}
use Rattle.mv_bytestream.specs.Bytes.{IsQuiet, ends_three}

-- such bytes begin with two zero bytes
begins-first : (a : ℕ) (w : List ℕ) → is_zero a ≡ false → begins_emulation (a ∷ w) ≡ false
begins-first a [] h = refl
begins-first a (x ∷ []) h = refl
begins-first a (x ∷ y ∷ w) h = ap (λ t. t && (x == 0) && ((y == 0) || (y == 2) || ((y == 3) && above_three w))) h

begins-second : (a b : ℕ) (w : List ℕ) → is_zero b ≡ false → begins_emulation (a ∷ b ∷ w) ≡ false
begins-second a b [] h = refl
begins-second a b (y ∷ w) h = go (a == 0) ((y == 0) || (y == 2) || ((y == 3) && above_three w))
  where
    go : (t u : Bool) → (t && is_zero b && u) ≡ false
    go true u = ap (λ t. t && u) h
    go false u = refl

-- 00 00 03 at the end, and a byte above 03 behind it
third : (x y z v w a : Bool) → z ≡ false → (x && y && (z || v || (w && false))) ≡ false → ((x && y && w) && a) ≡ false → (x && y && (z || v || (w && a))) ≡ false
third false y z v w a e h t = refl
third true false z v w a e h t = refl
third true true true v w a e h t = absurd (true≢false e)
third true true false true w a e h t = h
third true true false false w a e h t = t

ends-tail : (a b c d : ℕ) (u : List ℕ) → ends_three (a ∷ b ∷ c ∷ d ∷ u) ≡ ends_three (b ∷ c ∷ d ∷ u)
ends-tail a b c d u =
    let s : List ℕ = b ∷ c ∷ d ∷ u in
    let one : length (a ∷ s) - 1 ≡ suc (length s - 1) = omega arith in
    let two : length (a ∷ s) - 2 ≡ suc (length s - 2) = omega arith in
    let three : length (a ∷ s) - 3 ≡ suc (length s - 3) = omega arith in
    ap (λ t. t && (slice_index (a ∷ s) (length (a ∷ s) - 3) == 0) && (slice_index (a ∷ s) (length (a ∷ s) - 2) == 0) && (slice_index (a ∷ s) (length (a ∷ s) - 1) == 3))
    (le-leb 3 (length (a ∷ s)) (omega arith) ∙ sym (le-leb 3 (length s) (omega arith)))
    ∙ ap (λ n. nat_le 3 (length s) && (slice_index (a ∷ s) n == 0) && (slice_index (a ∷ s) (length (a ∷ s) - 2) == 0) && (slice_index (a ∷ s) (length (a ∷ s) - 1) == 3)) three
    ∙ ap (λ n. nat_le 3 (length s) && (slice_index s (length s - 3) == 0) && (slice_index (a ∷ s) n == 0) && (slice_index (a ∷ s) (length (a ∷ s) - 1) == 3)) two
    ∙ ap (λ n. nat_le 3 (length s) && (slice_index s (length s - 3) == 0) && (slice_index s (length s - 2) == 0) && (slice_index (a ∷ s) n == 3)) one

-- behind a unit in the making only what follows may break the rule
pub emulation-behind : (u w : List ℕ) → IsTrimmed u → has_emulation u ≡ false → (ends_three u && above_three w) ≡ false → has_emulation (u ++ w) ≡ has_emulation w
unfolding has_emulation
emulation-behind [] w is quiet three = refl
emulation-behind (a ∷ []) w is quiet three = ap (λ t. t || has_emulation w) (begins-first a w (one_nonzero a is))
emulation-behind (a ∷ b ∷ []) w is quiet three =
    let rest : IsTrimmed (b ∷ []) = (trimmed-tail a (b ∷ []) is).1 in
    ap (λ t. t || has_emulation (b ∷ w)) (begins-second a b w (one_nonzero b rest))
    ∙ emulation-behind (b ∷ []) w rest refl refl
emulation-behind (a ∷ b ∷ c ∷ []) w is quiet three =
    let rest : IsTrimmed (b ∷ c ∷ []) = (trimmed-tail a (b ∷ c ∷ []) is).1 in
    let last : IsTrimmed (c ∷ []) = (trimmed-tail b (c ∷ []) rest).1 in
    let parts = or_parts (begins_emulation (a ∷ b ∷ c ∷ [])) (has_emulation (b ∷ c ∷ [])) quiet in
    ap (λ t. t || has_emulation (b ∷ c ∷ w)) (third (a == 0) (b == 0) (c == 0) (c == 2) (c == 3) (above_three w) (one_nonzero c last) parts.0 three)
    ∙ emulation-behind (b ∷ c ∷ []) w rest parts.1 refl
emulation-behind (a ∷ b ∷ c ∷ d ∷ u) w is quiet three =
    let rest : IsTrimmed (b ∷ c ∷ d ∷ u) = (trimmed-tail a (b ∷ c ∷ d ∷ u) is).1 in
    let parts = or_parts (begins_emulation (a ∷ b ∷ c ∷ d ∷ u)) (has_emulation (b ∷ c ∷ d ∷ u)) quiet in
    ap (λ t. t || has_emulation (b ∷ c ∷ d ∷ (u ++ w))) parts.0
    ∙ emulation-behind (b ∷ c ∷ d ∷ u) w rest parts.1 (ap (λ t. t && above_three w) (sym (ends-tail a b c d u)) ∙ three)

-- what breaks it further on breaks it
pub emulates-later : (u w : List ℕ) → has_emulation w ≡ true → has_emulation (u ++ w) ≡ true
unfolding has_emulation
emulates-later [] w h = h
emulates-later (a ∷ u) w h = or_right _ _ (emulates-later u w h)

-- zero bytes and one other behind a unit in the making, by how many they are
three_off : (u : List ℕ) (t : Bool) → t ≡ false → (ends_three u && t) ≡ false
three_off u t h = and_right (ends_three u) t h

at_end : (p q r s t v : Bool) → ((p && q && t) && v) ≡ true → (p && q && (r || s || (t && v))) ≡ true
at_end false q r s t v h = absurd (true≢false (sym h))
at_end true false r s t v h = absurd (true≢false (sym h))
at_end true true true s t v h = refl
at_end true true false true t v h = refl
at_end true true false false t v h = h

ends-emulates : (u : List ℕ) (b : ℕ) → (ends_three u && nat_lt 3 b) ≡ true → has_emulation (u ++ b ∷ []) ≡ true
unfolding has_emulation
ends-emulates [] b h = absurd (true≢false (sym h))
ends-emulates (x ∷ []) b h = absurd (true≢false (sym h))
ends-emulates (x ∷ y ∷ []) b h = absurd (true≢false (sym h))
ends-emulates (x ∷ y ∷ z ∷ []) b h = or_left _ _ (at_end (x == 0) (y == 0) (z == 0) (z == 2) (z == 3) (nat_lt 3 b) h)
ends-emulates (x ∷ y ∷ z ∷ d ∷ u) b h = or_right _ _ (ends-emulates (y ∷ z ∷ d ∷ u) b (ap (λ t. t && nat_lt 3 b) (sym (ends-tail x y z d u)) ∙ h))

pub with_none : (u : List ℕ) (b : ℕ) → IsQuiet u → b ≢ 0 → (ends_three u && nat_lt 3 b) ≡ has_emulation (u ++ b ∷ [])
unfolding has_emulation
with_none u b q nonzero = go (ends_three u && nat_lt 3 b) refl
  where
    go : (t : Bool) → (ends_three u && nat_lt 3 b) ≡ t → t ≡ has_emulation (u ++ b ∷ [])
    go false off = sym (emulation-behind u (b ∷ []) q.ends q.quiet off)
    go true on = sym (ends-emulates u b on)

pub with_one : (u : List ℕ) (b : ℕ) → IsQuiet u → false ≡ has_emulation (u ++ 0 ∷ b ∷ [])
unfolding has_emulation
with_one u b q = sym (emulation-behind u (0 ∷ b ∷ []) q.ends q.quiet (three_off u false refl))

pub with_two : (u : List ℕ) (b : ℕ) → IsQuiet u → b ≢ 0 → (b == 2) ≡ has_emulation (u ++ 0 ∷ 0 ∷ b ∷ [])
unfolding has_emulation
with_two u b q nonzero = sym (emulation-behind u (0 ∷ 0 ∷ b ∷ []) q.ends q.quiet (three_off u false refl) ∙ go (b == 0) (b == 2) (b == 3) (is_nonzero b nonzero))
  where
    go : (x y z : Bool) → x ≡ false → ((x || y || (z && false)) || false) ≡ y
    go true y z e = absurd (true≢false e)
    go false true z e = refl
    go false false true e = refl
    go false false false e = refl

    is_nonzero : (b : ℕ) → b ≢ 0 → (b == 0) ≡ false
    is_nonzero b h = ne_eqb b 0 h

pub with_three : (u : List ℕ) (n b : ℕ) → 3 ≤ n → true ≡ has_emulation (u ++ (replicate n 0 ++ b ∷ []))
unfolding has_emulation
with_three u zero b low = absurd (omega arith)
with_three u (suc zero) b low = absurd (omega arith)
with_three u (suc (suc zero)) b low = absurd (omega arith)
with_three u (suc (suc (suc n))) b low = sym (emulates-later u (0 ∷ 0 ∷ 0 ∷ (replicate n 0 ++ b ∷ [])) refl)

-- the first bytes of quiet ones
prefix-quiet : (n : ℕ) (x : List ℕ) → has_emulation x ≡ false → has_emulation (take n x) ≡ false
prefix-quiet n x h = has_emulation-front (take n x) (drop n x) (ap has_emulation (take-append-drop n x) ∙ h)

zeros-quiet : (u : List ℕ) (n : ℕ) → IsQuiet u → n ≤ 2 → has_emulation (u ++ replicate n 0) ≡ false
unfolding has_emulation
zeros-quiet u zero q low = emulation-behind u [] q.ends q.quiet (three_off u false refl)
zeros-quiet u (suc zero) q low = emulation-behind u (0 ∷ []) q.ends q.quiet (three_off u false refl)
zeros-quiet u (suc (suc zero)) q low = emulation-behind u (0 ∷ 0 ∷ []) q.ends q.quiet (three_off u false refl)
zeros-quiet u (suc (suc (suc n))) q low = absurd (omega arith)

pub early-rule : (u : List ℕ) (z b : ℕ) (e : Bool) → IsQuiet u → length u ≤ longest_unit → e ≡ has_emulation (u ++ (replicate z 0 ++ b ∷ [])) →
    early_rule (u ++ (replicate z 0 ++ b ∷ [])) ≡ cond (e && nat_lt (min z 2) (longest_unit - length u)) (Some Rule.Emulation) (cond (nat_le (longest_unit - length u) z) (Some Rule.Long) None)
unfolding has_emulation
early-rule u z b e q fits is = go (cases_lt (min z 2) (longest_unit - length u)) (cases_lt z (longest_unit - length u)) e is
  where
    x : List ℕ
    x = u ++ (replicate z 0 ++ b ∷ [])

    long : length x ≡ length u + z + 1
    long = omega (arith, length-append u (replicate z 0 ++ b ∷ []), length-append (replicate z 0) (b ∷ []), length-replicate {A = ℕ} z 0)

    whole : z < longest_unit - length u → emulation x ≡ has_emulation x
    whole below = ap has_emulation (take-short longest_unit x (omega (arith, long)))

    is_long : longest_unit - length u ≤ z → long_unit x ≡ true
    is_long above = lt-ltb longest_unit (length x) (omega (arith, long))

    isnt_long : z < longest_unit - length u → long_unit x ≡ false
    isnt_long below = le-ltb longest_unit (length x) (omega (arith, long))

    front : (m : ℕ) → m ≤ z → x ≡ (u ++ replicate m 0) ++ (replicate (z - m) 0 ++ b ∷ [])
    front m low =
        let same : m + (z - m) ≡ z = omega arith in
        ap (λ zs. u ++ (zs ++ b ∷ [])) (ap (λ n. replicate n 0) (sym same) ∙ sym (replicate-append-replicate m (z - m) 0))
        ∙ ap (λ r. u ++ r) (append_assoc (replicate m 0) (replicate (z - m) 0) (b ∷ []))
        ∙ sym (append_assoc u (replicate m 0) (replicate (z - m) 0 ++ b ∷ []))

    cut : longest_unit - length u ≤ min z 2 → emulation x ≡ false
    cut above =
        let n : length (u ++ replicate (min z 2) 0) ≡ length u + min z 2 = omega (arith, length-append u (replicate (min z 2) 0), length-replicate {A = ℕ} (min z 2) 0) in
        ap emulation (front (min z 2) (omega arith))
        ∙ ap has_emulation (take-append-le longest_unit (u ++ replicate (min z 2) 0) (replicate (z - min z 2) 0 ++ b ∷ []) (omega arith))
        ∙ prefix-quiet longest_unit (u ++ replicate (min z 2) 0) (zeros-quiet u (min z 2) q (omega arith))

    three : min z 2 < longest_unit - length u → longest_unit - length u ≤ z → emulation x ≡ true
    three below above =
        let n : length (u ++ replicate 3 0) ≡ length u + 3 = omega (arith, length-append u (replicate 3 0)) in
        ap emulation (front 3 (omega arith))
        ∙ emulation-more (u ++ replicate 3 0) (replicate (z - 3) 0 ++ b ∷ [])
        (ap has_emulation (take-short longest_unit (u ++ replicate 3 0) (omega arith)) ∙ emulates-later u (replicate 3 0) refl)

    rest : Option Rule
    rest = cond (nat_le (longest_unit - length u) z) (Some Rule.Long) None

    go : (min z 2 < longest_unit - length u) ⊎ (longest_unit - length u ≤ min z 2) → (z < longest_unit - length u) ⊎ (longest_unit - length u ≤ z) → (e : Bool) → e ≡ has_emulation x →
        early_rule x ≡ cond (e && nat_lt (min z 2) (longest_unit - length u)) (Some Rule.Emulation) rest
    go (inl small) (inl below) true is =
        ap (λ t. cond t (Some Rule.Emulation) (cond (long_unit x) (Some Rule.Long) None)) (whole below ∙ sym is)
        ∙ ap (λ t. cond t (Some Rule.Emulation) rest) (sym (lt-ltb _ _ small))
    go (inl small) (inr above) true is =
        ap (λ t. cond t (Some Rule.Emulation) (cond (long_unit x) (Some Rule.Long) None)) (three small above)
        ∙ ap (λ t. cond t (Some Rule.Emulation) rest) (sym (lt-ltb _ _ small))
    go (inl small) (inl below) false is =
        ap (λ t. cond t (Some Rule.Emulation) (cond (long_unit x) (Some Rule.Long) None)) (whole below ∙ sym is)
        ∙ ap (λ t. cond t (Some Rule.Long) None) (isnt_long below)
        ∙ ap (λ t. cond t (Some Rule.Long) None) (sym (lt-leb _ _ below))
    go (inl small) (inr above) false is =
        ap (λ t. cond t (Some Rule.Emulation) (cond (long_unit x) (Some Rule.Long) None)) (prefix-quiet longest_unit x (sym is))
        ∙ ap (λ t. cond t (Some Rule.Long) None) (is_long above)
        ∙ ap (λ t. cond t (Some Rule.Long) None) (sym (le-leb _ _ above))
    go (inr full) (inl below) e is = absurd (omega arith)
    go (inr full) (inr above) e is =
        ap (λ t. cond t (Some Rule.Emulation) (cond (long_unit x) (Some Rule.Long) None)) (cut full)
        ∙ ap (λ t. cond t (Some Rule.Long) None) (is_long above)
        ∙ ap (λ t. cond t (Some Rule.Long) None) (sym (le-leb _ _ above))
        ∙ ap (λ t. cond t (Some Rule.Emulation) rest) (sym (and_right e _ (le-ltb _ _ full)))

-- the same by the number of zero bytes, as the code tells them apart
abbrev At : List ℕ → ℕ → ℕ → Bool
At u z b = has_emulation (u ++ (replicate z 0 ++ b ∷ []))

pub at_none-on : (u : List ℕ) (z b : ℕ) (t : Bool) → t ≡ ends_three u → t ≡ true → z ≡ 0 → b ≢ 0 → IsQuiet u → nat_lt 3 b ≡ At u z b
at_none-on u z b t is on none nonzero q =
    ap (λ t. t && nat_lt 3 b) (sym on ∙ is) ∙ with_none u b q nonzero ∙ ap (λ z. At u z b) (sym none)

pub at_none-off : (u : List ℕ) (z b : ℕ) (t : Bool) → t ≡ ends_three u → t ≡ false → z ≡ 0 → b ≢ 0 → IsQuiet u → t ≡ At u z b
at_none-off u z b t is off none nonzero q =
    off ∙ ap (λ t. t && nat_lt 3 b) (sym off ∙ is) ∙ with_none u b q nonzero ∙ ap (λ z. At u z b) (sym none)

pub at_one : (u : List ℕ) (z b : ℕ) → z ≡ 1 → IsQuiet u → false ≡ At u z b
at_one u z b one q = with_one u b q ∙ ap (λ z. At u z b) (sym one)

pub at_two : (u : List ℕ) (z b : ℕ) → z ≡ 2 → b ≢ 0 → IsQuiet u → (b == 2) ≡ At u z b
at_two u z b two nonzero q = with_two u b q nonzero ∙ ap (λ z. At u z b) (sym two)

abbrev Behind : List ℕ → ℕ → ℕ → List ℕ
Behind u z b = u ++ (replicate z 0 ++ b ∷ [])

rule-by : (u : List ℕ) (z b m : ℕ) (e t : Bool) → IsQuiet u → length u ≤ longest_unit → e ≡ At u z b → m ≡ min z 2 → (e && nat_lt m (longest_unit - length u)) ≡ t →
    early_rule (Behind u z b) ≡ cond t (Some Rule.Emulation) (cond (nat_le (longest_unit - length u) z) (Some Rule.Long) None)
rule-by u z b m e t q fits is least test =
    early-rule u z b e q fits is
    ∙ ap (λ n. cond (e && nat_lt n (longest_unit - length u)) (Some Rule.Emulation) (cond (nat_le (longest_unit - length u) z) (Some Rule.Long) None)) (sym least)
    ∙ ap (λ t. cond t (Some Rule.Emulation) (cond (nat_le (longest_unit - length u) z) (Some Rule.Long) None)) test

pub shown-emulation : (u : List ℕ) (z b m : ℕ) (e : Bool) → length u ≤ longest_unit → (IsQuiet u → e ≡ At u z b) → m ≡ min z 2 → (e && nat_lt m (longest_unit - length u)) ≡ true → IsQuiet u →
    Some Rule.Emulation ≡ early_rule (Behind u z b)
shown-emulation u z b m e fits is least test q = sym (rule-by u z b m e true q fits (is q) least test)

pub shown-long : (u : List ℕ) (z b m : ℕ) (e : Bool) → length u ≤ longest_unit → (IsQuiet u → e ≡ At u z b) → m ≡ min z 2 → (e && nat_lt m (longest_unit - length u)) ≡ false → longest_unit - length u ≤ z → IsQuiet u →
    Some Rule.Long ≡ early_rule (Behind u z b)
shown-long u z b m e fits is least test above q =
    sym (rule-by u z b m e false q fits (is q) least test ∙ ap (λ t. cond t (Some Rule.Long) None) (le-leb _ _ above))

pub shown-none : (u : List ℕ) (z b m : ℕ) (e : Bool) → length u ≤ longest_unit → (IsQuiet u → e ≡ At u z b) → m ≡ min z 2 → (e && nat_lt m (longest_unit - length u)) ≡ false → z < longest_unit - length u → IsQuiet u →
    None ≡ early_rule (Behind u z b)
shown-none u z b m e fits is least test below q =
    sym (rule-by u z b m e false q fits (is q) least test ∙ ap (λ t. cond t (Some Rule.Long) None) (lt-leb _ _ below))
