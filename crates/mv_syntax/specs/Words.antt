-- The words that tables are written with, beside the constructors.
use Rattle.std.specs.Prelude.{ℕ, suc, ◌+◌, ◌-◌, Bool, not, List, [], ◌∷◌, length, Option, Some, None, nat_lt, nat_eq, if◌then◌else◌}
use Rattle.mv_syntax.specs.Bits.{align_bits, trailing_bits}
use Rattle.mv_syntax.specs.Table.{Table, refused, checked, ◌>>=◌, repeat, by_rule, padded}
use Rattle.mv_rules.specs.Rule.{rule_number}
use Rattle.mv_rules.specs.declared.rule.Rule.{Rule}

-- `t ! r ∶ bad`: the field t, which breaks rule r where its value is bad
infixl 20 ◌!◌∶◌
abbrev pub ◌!◌∶◌ : {A : Type 0} → Table A → Rule → (A → Bool) → Table A
t ! r ∶ bad = refused (rule_number r) bad t

-- `t unless bad`: a field of a structure that several headers share, which is past its limit where its value is bad; which rule
-- that breaks, the header says that holds the structure; until then it is counted as 0
infixl 20 ◌unless◌
abbrev pub ◌unless◌ : {A : Type 0} → Table A → (A → Bool) → Table A
t unless bad = refused 0 bad t

-- `t under r`: a shared structure in a header, whose limits break rule r there
infixl 20 ◌under◌
abbrev pub ◌under◌ : {A : Type 0} → Table A → Rule → Table A
t under r = by_rule (rule_number r) t

-- rules tried at a point between two fields, each with whether it is broken, the least first
abbrev pub tried : {A : Type 0} → List (Rule × Bool) → Table A → Table A
tried [] t = t
tried (rule ∷ rules) t = checked (rule_number rule.0) rule.1 (tried rules t)

-- a value is over n, is n, or is not n
abbrev pub over : ℕ → ℕ → Bool
over n v = nat_lt n v

-- a value is not below n
abbrev pub at_least : ℕ → ℕ → Bool
at_least n v = not (nat_lt v n)

abbrev pub is : ℕ → ℕ → Bool
is n v = nat_eq v n

abbrev pub is_not : ℕ → ℕ → Bool
is_not n v = not (nat_eq v n)

-- a flag, u(1), is set
abbrev pub is_set : ℕ → Bool
is_set flag = nat_eq flag 1

-- the value of a field, or the stated one where a condition leaves it out
infix 30 ◌otherwise◌
abbrev pub ◌otherwise◌ : {A : Type 0} → Option A → A → A
(Some v) otherwise stated = v
None otherwise stated = stated

-- a field that a condition leaves out has the value 0 where no other is stated
abbrev pub or_zero : Option ℕ → ℕ
or_zero o = o otherwise 0

-- a flag is coded and set
abbrev pub coded_set : Option ℕ → Bool
coded_set o = is_set (or_zero o)

-- the last of some values that was coded, or the stated one: "absent: that of the one before"
abbrev pub last_coded : {A : Type 0} → List (Option A) → A → A
last_coded [] stated = stated
last_coded (o ∷ os) stated = last_coded os (o otherwise stated)

-- values in coded order: `a ▸ b ▸ c`
infixr 5 ◌▸◌
abbrev pub ◌▸◌ : {A B : Type 0} → A → B → A × B
a ▸ b = (a, b)

-- the types of values in coded order: `A ⊗ B ⊗ C`
infixr 5 ◌⊗◌
abbrev pub ◌⊗◌ : Type 0 → Type 0 → Type 0
A ⊗ B = A × B

-- `for each`: n turns, numbered from 0; the body may ask for the items before
abbrev pub for_each : {A : Type 0} → ℕ → (List A → Table A) → Table (List A)
for_each n t = repeat (λ turn. turn) n t

-- `for i = a to n-1`: no turn where n is at most a; the body has i and the items before
abbrev pub for_below : {A : Type 0} → ℕ → ℕ → (ℕ → List A → Table A) → Table (List A)
for_below a n t = repeat (λ turn. a + turn) (n - a) (λ before. t (a + length before) before)

-- `for i = a to b`: both ends included, no turn where b is below a; the body has i and the items before; where b is one less
-- than a number that may be 0, it is `for_below`
abbrev pub for_range : {A : Type 0} → ℕ → ℕ → (ℕ → List A → Table A) → Table (List A)
for_range a b t = repeat (λ turn. a + turn) (suc b - a) (λ before. t (a + length before) before)

-- bits equal to x up to a byte's end, behind t where the test holds of its value
abbrev pub aligned_where : {A : Type 0} → (A → Bool) → Bool → Table A → Table A
aligned_where test x t = padded (λ v place. if test v then align_bits x place else []) t

-- a slice segment header: its fields, and behind them a one bit and zeros up to the byte's end (7.3.2.12, byte_alignment())
abbrev pub whole_bytes : {A : Type 0} → Table A → Table A
whole_bytes t = padded (λ v place. trailing_bits place) t

-- a line whose value no later line asks for
infixl 10 ◌>>◌
abbrev pub ◌>>◌ : {A B : Type 0} → Table A → Table B → Table (A × B)
t >> more = t >>= (λ _. more)
