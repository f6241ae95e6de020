-- What holds of every table: of three answers exactly one, both round trips, and the split between two fields.
use Rattle.std.specs.Prelude.{◌≡◌, ℕ, List, ◌++◌, ◌⊎◌, ◌↔◌, Bool}
use Rattle.mv_syntax.specs.Table.{Table, ◌>>=◌, bits_of, Valid, Reads, Cut}

-- exactly one of three holds: one value reads, one rule cuts, or neither, which is the syntax rule
pub record ExactlyOneOf {V : Type 0} (reads : V → Type 0) (cut : ℕ → Type 0) : Type 0 where
  pub one_of : ((v : V) × reads v) ⊎ ((r : ℕ) × cut r) ⊎ (¬ ((v : V) × reads v) × ¬ ((r : ℕ) × cut r))
  pub not_both : (v : V) (r : ℕ) → reads v → cut r → ⊥
  pub one_value : (v w : V) → reads v → reads w → v ≡ w
  pub one_rule : (r s : ℕ) → cut r → cut s → r ≡ s

-- a value and the bits behind it read at the head of b
abbrev pub ReadsAt : {A : Type 0} → Table A → List Bool → A × List Bool → Type 0
ReadsAt t b x = Reads t b x.0 x.1

-- the three answers of a table
abbrev pub ExactlyOne : {A : Type 0} → Table A → List Bool → Type 0
ExactlyOne {A} t b = ExactlyOneOf {V = A × List Bool} (ReadsAt t b) (Cut t b)

-- what was written reads back before any rest, as that value and no other, and no rule cuts it; what reads is what is written of the
-- value
pub record RoundTrips {A : Type 0} (t : Table A) : Type 0 where
  pub written_reads : (v : A) (rest : List Bool) → Valid t v → Reads t (bits_of t v ++ rest) v rest
  pub reads_alone : (v w : A) (rest more : List Bool) → Valid t v → Reads t (bits_of t v ++ rest) w more → (w ≡ v) × (more ≡ rest)
  pub not_cut : (v : A) (rest : List Bool) (r : ℕ) → Valid t v → ¬ Cut t (bits_of t v ++ rest) r
  pub read_writes : (b : List Bool) (v : A) (rest : List Bool) → Reads t b v rest → Valid t v × (b ≡ bits_of t v ++ rest)

-- a table split between two of its fields: a value reads in the whole exactly where its first part reads and its second part
-- reads what follows; a rule cuts the whole exactly where it cuts the first part, or the first part reads and the rule cuts
-- the second in what follows
pub record Splits {A B : Type 0} (t : Table A) (f : A → Table B) (b : List Bool) : Type 0 where
  pub reads : (v : A × B) (rest : List Bool) → Reads (t >>= f) b v rest ↔ ((middle : List Bool) × Reads t b v.0 middle × Reads (f v.0) middle v.1 rest)
  pub cut : (r : ℕ) → Cut (t >>= f) b r ↔ (Cut t b r ⊎ ((v : A) × (middle : List Bool) × Reads t b v middle × Cut (f v) middle r))

-- the same of a table whose value holds those of its two parts in another form
pub record SplitsAs {A B V : Type 0} (whole : Table V) (parts : V → A × B) (t : Table A) (f : A → Table B) (b : List Bool) : Type 0 where
  pub reads : (v : V) (rest : List Bool) → Reads whole b v rest ↔ ((middle : List Bool) × Reads t b (parts v).0 middle × Reads (f (parts v).0) middle (parts v).1 rest)
  pub cut : (r : ℕ) → Cut whole b r ↔ (Cut t b r ⊎ ((v : A) × (middle : List Bool) × Reads t b v middle × Cut (f v) middle r))

-- what reads, or is cut, at the head of some bits does so whatever bits follow
pub record Prefixes {A : Type 0} (t : Table A) (b more : List Bool) : Type 0 where
  pub reads : (v : A) (rest : List Bool) → Reads t b v rest → Reads t (b ++ more) v (rest ++ more)
  pub cut : (r : ℕ) → Cut t b r → Cut t (b ++ more) r
