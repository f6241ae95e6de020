-- Emulation prevention put in and taken out (7.3.1.1, 7.4.2): one step of each, and what one undoes of the other.
use Rattle.std.proofs.Common.{◌≡◌, ℕ, suc, ◌+◌, ◌*◌, ◌<◌, ◌≤◌, Bool, true, false, ◌==◌, ◌&&◌, ◌||◌, nat_le, nat_lt, List, [], ◌∷◌, length, refl, ap, ◌∙◌, arith, if◌then◌else◌}
use Rattle.std.proofs.lemmas.Bool.{or_from, and_parts, leb-false}
use Rattle.std.proofs.lemmas.Bool.Decides.{nat_tests}
use Rattle.mv_units.specs.Units.{is_code, has_code}
use Rattle.mv_units.specs.Rules.{above_three, begins_emulation, has_emulation}
use Rattle.mv_units.specs.Escapes.{both_zero, unescaped, escaped}

-- two bytes of which the second isn't zero
pub both_zero-second : (a b : ℕ) → (b == 0) ≡ false → both_zero a b ≡ false
both_zero-second a b isnt = go (a == 0)
  where
    go : (t : Bool) → (t && (b == 0)) ≡ false
    go true = isnt
    go false = refl

-- a test after two bytes that aren't both zero
pub and-false : (t : Bool) (r : Bool) → t ≡ false → (t && r) ≡ false
and-false t r is = ap (λ z. z && r) is

-- one byte of a unit
pub unescaped-drops : (a b : ℕ) (s : List ℕ) → both_zero a b ≡ true → unescaped a b (3 ∷ s) ≡ unescaped b 3 s
unfolding unescaped
unescaped-drops a b s is = ap (λ t. if t && (3 == 3) then unescaped b 3 s else 3 ∷ unescaped b 3 s) is

pub unescaped-keeps : (a b c : ℕ) (s : List ℕ) → (both_zero a b && (c == 3)) ≡ false → unescaped a b (c ∷ s) ≡ c ∷ unescaped b c s
unfolding unescaped
unescaped-keeps a b c s is = ap (λ t. if t then unescaped b c s else c ∷ unescaped b c s) is

-- one byte of a payload, and its end
pub escaped-puts : (a b c : ℕ) (s : List ℕ) → (both_zero a b && nat_le c 3) ≡ true → escaped a b (c ∷ s) ≡ 3 ∷ c ∷ escaped 3 c s
unfolding escaped
escaped-puts a b c s is = ap (λ t. if t then 3 ∷ c ∷ escaped 3 c s else c ∷ escaped b c s) is

pub escaped-keeps : (a b c : ℕ) (s : List ℕ) → (both_zero a b && nat_le c 3) ≡ false → escaped a b (c ∷ s) ≡ c ∷ escaped b c s
unfolding escaped
escaped-keeps a b c s is = ap (λ t. if t then 3 ∷ c ∷ escaped 3 c s else c ∷ escaped b c s) is

pub escaped-ends : (a b : ℕ) → both_zero a b ≡ true → escaped a b [] ≡ 3 ∷ []
unfolding escaped
escaped-ends a b is = ap (λ t. if t then 3 ∷ [] else []) is

pub escaped-stops : (a b : ℕ) → both_zero a b ≡ false → escaped a b [] ≡ []
unfolding escaped
escaped-stops a b is = ap (λ t. if t then 3 ∷ [] else []) is

-- what holds of a list that one of two bits chooses
pub choice : (t : Bool) (P : Type 0) → (t ≡ true → P) → (t ≡ false → P) → P
choice true P yes_ no_ = yes_ refl
choice false P yes_ no_ = no_ refl

-- a byte above 03 is no 03
no_three : (z : Bool) (c : ℕ) → (z && nat_le c 3) ≡ false → (z && (c == 3)) ≡ false
no_three true c isnt = let above : 3 < c = leb-false c 3 isnt in grind (arith, nat_tests)
no_three false c isnt = refl

-- what was put in is taken out
pub unescaped-escaped : (a b : ℕ) (p : List ℕ) → unescaped a b (escaped a b p) ≡ p
unfolding unescaped
unescaped-escaped a b [] =
    choice (both_zero a b) (unescaped a b (escaped a b []) ≡ [])
    (λ is. ap (unescaped a b) (escaped-ends a b is) ∙ unescaped-drops a b [] is)
    (λ isnt. ap (unescaped a b) (escaped-stops a b isnt))
unescaped-escaped a b (c ∷ p) =
    choice (both_zero a b && nat_le c 3) (unescaped a b (escaped a b (c ∷ p)) ≡ c ∷ p)
    (λ is.
    ap (unescaped a b) (escaped-puts a b c p is)
    ∙ unescaped-drops a b (c ∷ escaped 3 c p) (and_parts (both_zero a b) (nat_le c 3) is).0
    ∙ unescaped-keeps b 3 c (escaped 3 c p) (and-false (both_zero b 3) (c == 3) (both_zero-second b 3 refl))
    ∙ ap (λ s. c ∷ s) (unescaped-escaped 3 c p))
    (λ isnt.
    ap (unescaped a b) (escaped-keeps a b c p isnt)
    ∙ unescaped-keeps a b c (escaped b c p) (no_three (both_zero a b) c isnt)
    ∙ ap (λ s. c ∷ s) (unescaped-escaped b c p))

-- a byte that follows two zeros unescaped begins no start code prefix and no other string that may not stand in a unit
no_code : (z : Bool) (c : ℕ) → (z && nat_le c 3) ≡ false → (z && (c == 1)) ≡ false
no_code true c isnt = let above : 3 < c = leb-false c 3 isnt in grind (arith, nat_tests)
no_code false c isnt = refl

no_emulation : (z : Bool) (c : ℕ) (t : Bool) → (z && nat_le c 3) ≡ false → (z && ((c == 0) || (c == 2) || ((c == 3) && t))) ≡ false
no_emulation true c t isnt =
    let above : 3 < c = leb-false c 3 isnt in
    let zero_ : (c == 0) ≡ false = grind (arith, nat_tests) in
    let two : (c == 2) ≡ false = grind (arith, nat_tests) in
    let three : (c == 3) ≡ false = grind (arith, nat_tests) in
    rw (zero_, two, three) refl
no_emulation false c t isnt = refl

-- two bytes that stand before a 03
three_behind : (a b : ℕ) → is_code a b 3 ≡ false
three_behind a b = go (both_zero a b)
  where
    go : (z : Bool) → (z && (3 == 1)) ≡ false
    go true = refl
    go false = refl

-- a 03 that was put in is followed by no byte above 03
put_behind : (a b c : ℕ) (s : List ℕ) → nat_le c 3 ≡ true → begins_emulation (a ∷ b ∷ 3 ∷ c ∷ s) ≡ false
put_behind a b c s low = go (both_zero a b) (nat_lt 3 c) (let t : nat_lt 3 c ≡ false = grind (arith, nat_tests) in t)
  where
    go : (z t : Bool) → t ≡ false → (z && ((3 == 0) || (3 == 2) || ((3 == 3) && t))) ≡ false
    go true t is = is
    go false t is = refl

end_behind : (a b : ℕ) → begins_emulation (a ∷ b ∷ 3 ∷ []) ≡ false
end_behind a b = go (both_zero a b)
  where
    go : (z : Bool) → (z && ((3 == 0) || (3 == 2) || ((3 == 3) && false))) ≡ false
    go true = refl
    go false = refl

-- a 03 between two bytes is no second zero
three_between : (b c : ℕ) (s : List ℕ) → begins_emulation (b ∷ 3 ∷ c ∷ s) ≡ false
three_between b c s = and-false (both_zero b 3) ((c == 0) || (c == 2) || ((c == 3) && above_three s)) (both_zero-second b 3 refl)

-- no start code prefix stands in a unit that was escaped
pub has_code-escaped : (a b : ℕ) (p : List ℕ) → has_code (a ∷ b ∷ escaped a b p) ≡ false
unfolding has_code
has_code-escaped a b [] =
    choice (both_zero a b) (has_code (a ∷ b ∷ escaped a b []) ≡ false)
    (λ is. ap (λ s. has_code (a ∷ b ∷ s)) (escaped-ends a b is) ∙ or_from (is_code a b 3) false (three_behind a b) refl)
    (λ isnt. ap (λ s. has_code (a ∷ b ∷ s)) (escaped-stops a b isnt))
has_code-escaped a b (c ∷ p) =
    choice (both_zero a b && nat_le c 3) (has_code (a ∷ b ∷ escaped a b (c ∷ p)) ≡ false)
    (λ is.
    ap (λ s. has_code (a ∷ b ∷ s)) (escaped-puts a b c p is)
    ∙ or_from (is_code a b 3) (has_code (b ∷ 3 ∷ c ∷ escaped 3 c p)) (three_behind a b)
    (or_from (is_code b 3 c) (has_code (3 ∷ c ∷ escaped 3 c p)) (and-false (both_zero b 3) (c == 1) (both_zero-second b 3 refl)) (has_code-escaped 3 c p)))
    (λ isnt.
    ap (λ s. has_code (a ∷ b ∷ s)) (escaped-keeps a b c p isnt)
    ∙ or_from (is_code a b c) (has_code (b ∷ c ∷ escaped b c p)) (no_code (both_zero a b) c isnt) (has_code-escaped b c p))

-- nor other bytes that may not stand in a unit
pub has_emulation-escaped : (a b : ℕ) (p : List ℕ) → has_emulation (a ∷ b ∷ escaped a b p) ≡ false
unfolding has_emulation
has_emulation-escaped a b [] =
    choice (both_zero a b) (has_emulation (a ∷ b ∷ escaped a b []) ≡ false)
    (λ is. ap (λ s. has_emulation (a ∷ b ∷ s)) (escaped-ends a b is) ∙ or_from (begins_emulation (a ∷ b ∷ 3 ∷ [])) false (end_behind a b) refl)
    (λ isnt. ap (λ s. has_emulation (a ∷ b ∷ s)) (escaped-stops a b isnt))
has_emulation-escaped a b (c ∷ p) =
    choice (both_zero a b && nat_le c 3) (has_emulation (a ∷ b ∷ escaped a b (c ∷ p)) ≡ false)
    (λ is.
    ap (λ s. has_emulation (a ∷ b ∷ s)) (escaped-puts a b c p is)
    ∙ or_from (begins_emulation (a ∷ b ∷ 3 ∷ c ∷ escaped 3 c p)) (has_emulation (b ∷ 3 ∷ c ∷ escaped 3 c p))
    (put_behind a b c (escaped 3 c p) (and_parts (both_zero a b) (nat_le c 3) is).1)
    (or_from (begins_emulation (b ∷ 3 ∷ c ∷ escaped 3 c p)) (has_emulation (3 ∷ c ∷ escaped 3 c p)) (three_between b c (escaped 3 c p)) (has_emulation-escaped 3 c p)))
    (λ isnt.
    ap (λ s. has_emulation (a ∷ b ∷ s)) (escaped-keeps a b c p isnt)
    ∙ or_from (begins_emulation (a ∷ b ∷ c ∷ escaped b c p)) (has_emulation (b ∷ c ∷ escaped b c p)) (no_emulation (both_zero a b) c _ isnt) (has_emulation-escaped b c p))

-- at most one byte more for each byte, and one at the end
pub length-escaped : (a b : ℕ) (p : List ℕ) → length (escaped a b p) ≤ 2 * length p + 1
length-escaped a b [] =
    choice (both_zero a b) (length (escaped a b []) ≤ 2 * length {A = ℕ} [] + 1)
    (λ is. let e : length (escaped a b []) ≡ 1 = ap length (escaped-ends a b is) in omega arith)
    (λ isnt. let e : length (escaped a b []) ≡ 0 = ap length (escaped-stops a b isnt) in omega arith)
length-escaped a b (c ∷ p) =
    choice (both_zero a b && nat_le c 3) (length (escaped a b (c ∷ p)) ≤ 2 * length (c ∷ p) + 1)
    (λ is. let e : length (escaped a b (c ∷ p)) ≡ suc (suc (length (escaped 3 c p))) = ap length (escaped-puts a b c p is) in omega (arith, length-escaped 3 c p))
    (λ isnt. let e : length (escaped a b (c ∷ p)) ≡ suc (length (escaped b c p)) = ap length (escaped-keeps a b c p isnt) in omega (arith, length-escaped b c p))
