-- The reader of a table on lists of bits: by law it answers a value exactly where one reads, and a broken rule exactly where that
-- rule cuts.
use Rattle.std.specs.Prelude.{ℕ, zero, suc, ◌-◌, Bool, true, false, List, [], ◌∷◌, ◌++◌, length, Some, None, Result, Ok, Err, if◌then◌else◌}
use Rattle.mv_syntax.specs.Bits.{Fault, short, breaks, kept, take_bits, take_ue, take_se}
use Rattle.mv_syntax.specs.Bits as bits
use Rattle.mv_syntax.specs.Table.{Table, u, ue, se, named, refused, checked, ◌>>=◌, when, repeat, by_rule, padded, shaped}

-- the same answer, where a broken rule counts as rule r
abbrev pub counted_as : {A : Type 0} → ℕ → Result A Fault → Result A Fault
counted_as r (Ok x) = Ok x
counted_as r (Err short) = Err short
counted_as r (Err (breaks s)) = Err (breaks r)

-- a loop of n turns, with the items so far
abbrev pub read_each : {A : Type 0} → (List A → List Bool → Result (A × List Bool) Fault) → ℕ → List A → List Bool → Result (List A × List Bool) Fault
read_each one zero before b = Ok (before, b)
read_each one (suc n) before b = bits.◌>>=◌ (one before b) (λ x. read_each one n (before ++ x.0 ∷ []) x.1)

-- the rest of b, where b begins with these bits
abbrev pub behind : List Bool → List Bool → Result (List Bool) Fault
behind [] b = Ok b
behind (x ∷ xs) [] = Err short
behind (true ∷ xs) (true ∷ b) = behind xs b
behind (true ∷ xs) (false ∷ b) = Err short
behind (false ∷ xs) (true ∷ b) = Err short
behind (false ∷ xs) (false ∷ b) = behind xs b

-- the reader on lists of bits: the value and the rest, the first broken rule, or short
abbrev pub read : {A : Type 0} → Table A → List Bool → Result (A × List Bool) Fault
read (u n) b = take_bits n 0 b
read ue b = take_ue b
read se b = take_se b
read (named name t) b = read t b
read (refused r bad t) b = bits.◌>>=◌ (read t b) (λ x. if bad x.0 then Err (breaks r) else Ok x)
read (checked r bad t) b = if bad then Err (breaks r) else read t b
read (t >>= f) b = bits.◌>>=◌ (read t b) (λ x. kept (λ y. (x.0, y)) (read (f x.0) x.1))
read (when true t) b = kept Some (read t b)
read (when false t) b = Ok (None, b)
read (repeat index n t) b = read_each (λ before c. read (t before) c) n [] b
read (by_rule r t) b = counted_as r (read t b)
read (padded pad t) b =
    bits.◌>>=◌ (read t b) (λ x. bits.◌>>=◌ (behind (pad x.0 (length b - length x.1)) x.1) (λ rest. Ok (x.0, rest)))
read (shaped to from same t) b = kept to (read t b)
