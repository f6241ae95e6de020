-- Syntax tables as values: a table says what is printed for a value, which values are valid, what reads and which rule cuts.
-- Each of these is a recursion on the table (clause 7.3 and annex F.7.3 of H.265).
use Rattle.std.specs.Prelude.{◌≡◌, ℕ, zero, suc, ◌-◌, ◌^◌, ◌<◌, Bool, true, false, List, [], ◌∷◌, ◌++◌, length, ℤ, Option, Some, None, ◌⊎◌}
use Prim.Native.String.{String}
use Rattle.mv_syntax.specs.Bits.{u_bits, ue_bits, se_code, se_bits}

infixl 10 ◌>>=◌
-- a table of coded fields whose value is an A
pub data Table : Type 0 → Type 1 where
  -- u(n): n bits, most significant first; with n = 0 no bits and the value 0
  u : ℕ → Table ℕ
  -- ue(v) and se(v): the unsigned and the signed exponential Golomb code
  ue : Table ℕ
  se : Table ℤ
  -- the field has this name
  named : {A : Type 0} → String → Table A → Table A
  -- behind its last field, rule r is broken where the test holds of the value
  refused : {A : Type 0} → ℕ → (A → Bool) → Table A → Table A
  -- before its first field, rule r is tried, and broken where the test holds
  checked : {A : Type 0} → ℕ → Bool → Table A → Table A
  -- a first part, and a second part that may ask for the values of the first
  ◌>>=◌ : {A B : Type 0} → Table A → (A → Table B) → Table (A × B)
  -- coded where the condition holds, and else absent
  when : {A : Type 0} → Bool → Table A → Table (Option A)
  -- a loop of n turns, whose body may ask for the items before; turn k has the index that the numbering gives it
  repeat : {A : Type 0} → (ℕ → ℕ) → ℕ → (List A → Table A) → Table (List A)
  -- each rule that a shared structure breaks counts as rule r of the header that holds it
  by_rule : {A : Type 0} → ℕ → Table A → Table A
  -- behind its last field stand the bits that are given for its value and its number of bits: an alignment
  padded : {A : Type 0} → (A → ℕ → List Bool) → Table A → Table A
  -- the same fields, with the value in another form
  shaped : {A B : Type 0} → (to : A → B) (from : B → A) → ((x : A) → from (to x) ≡ x) → Table A → Table B

-- the items of a list in turn, each asked with the items before it
abbrev pub in_turn : {A B : Type 0} → (List A → A → List B) → List A → List A → List B
in_turn one before [] = []
in_turn one before (v ∷ vs) = one before v ++ in_turn one (before ++ v ∷ []) vs

-- each item of a list has the property, which may ask for the items before it
abbrev pub EachValid : {A : Type 0} → (List A → A → Type 0) → List A → List A → Type 0
EachValid one before [] = Unit {0}
EachValid one before (v ∷ vs) = one before v × EachValid one (before ++ v ∷ []) vs

-- what the table prints for a value: each coded field in order
abbrev pub bits_of : {A : Type 0} → Table A → A → List Bool
bits_of (u n) v = u_bits n v
bits_of ue v = ue_bits v
bits_of se v = se_bits v
bits_of (named name t) v = bits_of t v
bits_of (refused r bad t) v = bits_of t v
bits_of (checked r bad t) v = bits_of t v
bits_of (t >>= f) v = bits_of t v.0 ++ bits_of (f v.0) v.1
bits_of (when c t) (Some v) = bits_of t v
bits_of (when c t) None = []
bits_of (repeat index n t) vs = in_turn (λ before v. bits_of (t before) v) [] vs
bits_of (by_rule r t) v = bits_of t v
bits_of (padded pad t) v = bits_of t v ++ pad v (length (bits_of t v))
bits_of (shaped to from same t) v = bits_of t (from v)

-- the values that obey every condition of the table
abbrev pub Valid : {A : Type 0} → Table A → A → Type 0
Valid (u n) v = v < 2 ^ n
Valid ue v = v < 2 ^ 32 - 1
Valid se v = se_code v < 2 ^ 32 - 1
Valid (named name t) v = Valid t v
Valid (refused r bad t) v = Valid t v × (bad v ≡ false)
Valid (checked r bad t) v = (bad ≡ false) × Valid t v
Valid (t >>= f) v = Valid t v.0 × Valid (f v.0) v.1
Valid (when c t) (Some v) = (c ≡ true) × Valid t v
Valid (when c t) None = c ≡ false
Valid (repeat index n t) vs = (length vs ≡ n) × EachValid (λ before v. Valid (t before) v) [] vs
Valid (by_rule r t) v = Valid t v
Valid (padded pad t) v = Valid t v
Valid (shaped to from same t) v = Valid t (from v) × (to (from v) ≡ v)

-- a value reads at the head of b: it is valid, and b is what the table prints for it and the rest
pub record Reads {A : Type 0} (t : Table A) (b : List Bool) (v : A) (rest : List Bool) : Type 0 where
  pub valid : Valid t v
  pub bits : b ≡ bits_of t v ++ rest

-- a loop is cut in one of its turns, the turns before being read
abbrev pub EachCut : {A : Type 0} → (List A → List Bool → Type 0) → (List A → List Bool → A → List Bool → Type 0) → ℕ → List A → List Bool → Type 0
EachCut cut reads zero before b = ⊥
EachCut {A = A} cut reads (suc n) before b =
    cut before b ⊎ ((v : A) × (rest : List Bool) × reads before b v rest × EachCut cut reads n (before ++ v ∷ []) rest)

-- rule r cuts b: the fields up to one are read, and that field is the first that breaks a rule, r
abbrev pub Cut : {A : Type 0} → Table A → List Bool → ℕ → Type 0
Cut (u n) b r = ⊥
Cut ue b r = ⊥
Cut se b r = ⊥
Cut (named name t) b r = Cut t b r
Cut (refused {A = A} s bad t) b r = Cut t b r ⊎ ((v : A) × (rest : List Bool) × Reads t b v rest × (bad v ≡ true) × (r ≡ s))
Cut (checked s bad t) b r = ((bad ≡ true) × (r ≡ s)) ⊎ ((bad ≡ false) × Cut t b r)
Cut (◌>>=◌ {A = A} t f) b r = Cut t b r ⊎ ((v : A) × (rest : List Bool) × Reads t b v rest × Cut (f v) rest r)
Cut (when c t) b r = (c ≡ true) × Cut t b r
Cut (repeat index n t) b r = EachCut (λ before c. Cut (t before) c r) (λ before c v rest. Reads (t before) c v rest) n [] b
Cut (by_rule s t) b r = (r ≡ s) × ((q : ℕ) × Cut t b q)
Cut (padded pad t) b r = Cut t b r
Cut (shaped to from same t) b r = Cut t b r
