-- Whole payloads: the size limit, a table, an opaque tail where the table's value says so, and the trailing bits.
use Rattle.std.specs.Prelude.{◌≡◌, ℕ, ◌*◌, ◌≤◌, ◌<◌, Bool, List, [], ◌∷◌, ◌++◌, length, pos, Option, Some, None, is_some, ◌⊎◌}
use Rattle.mv_rules.specs.Rule.{rule_number}
use Rattle.mv_rules.specs.declared.rule.Rule.{Rule}
use Rattle.mv_syntax.specs.Table.{Table, Valid, bits_of, Cut}
use Rattle.mv_syntax.specs.Laws.{ExactlyOneOf}
use Rattle.mv_syntax.specs.Lines.{Line, lines}
pub use Rattle.mv_syntax.specs.Ending.{tail_bits}
use Rattle.mv_syntax.specs.Ending.{end_bits}

-- the greatest payload of a parameter set, in bits: 65,536 bytes (this project's profile)
abbrev pub size_limit : ℕ
size_limit = 8 * 65536

-- a payload: the table of its fields, the rule that its size breaks, and whether a tail stands behind the fields
pub record Payload (A : Type 0) : Type 1 where
  pub fields : Table A
  pub size_rule : Rule
  pub has_tail : A → Bool

-- the fields, the tail, and the trailing bits, which end the last byte (7.3.2.11)
abbrev pub payload_bits : {A : Type 0} → Payload A → A × Option (List Bool) → List Bool
payload_bits p v =
    let own = bits_of p.fields v.0 in
    own ++ end_bits (length own) v.1

-- the fields obey their table, there is a tail just where the fields say so, and the payload is not too long
pub record ValidPayload {A : Type 0} (p : Payload A) (v : A × Option (List Bool)) : Type 0 where
  pub fields : Valid p.fields v.0
  pub tail : is_some v.1 ≡ p.has_tail v.0
  pub size : length (payload_bits p v) ≤ size_limit

-- a value reads in a payload: it is valid, and the payload is what is printed for it
pub record ReadsPayload {A : Type 0} (p : Payload A) (b : List Bool) (v : A × Option (List Bool)) : Type 0 where
  pub valid : ValidPayload p v
  pub bits : b ≡ payload_bits p v

-- a rule cuts a payload: its size breaks the size rule, or it is not too long and the rule cuts its fields
abbrev pub CutPayload : {A : Type 0} → Payload A → List Bool → ℕ → Type 0
CutPayload p b r = ((size_limit < length b) × (r ≡ rule_number p.size_rule)) ⊎ ((length b ≤ size_limit) × Cut p.fields b r)

-- of a payload exactly one of three holds: a value reads, a rule cuts, or neither, which is the syntax rule
abbrev pub PayloadExactlyOne : {A : Type 0} → Payload A → List Bool → Type 0
PayloadExactlyOne p b = ExactlyOneOf (ReadsPayload p b) (CutPayload p b)

-- what was written reads back, as that value and no other, and no rule cuts it; what reads is what is written of the value
pub record PayloadRoundTrips {A : Type 0} (p : Payload A) : Type 0 where
  pub written_reads : (v : A × Option (List Bool)) → ValidPayload p v → ReadsPayload p (payload_bits p v) v
  pub reads_alone : (v w : A × Option (List Bool)) → ValidPayload p v → ReadsPayload p (payload_bits p v) w → w ≡ v
  pub not_cut : (v : A × Option (List Bool)) (r : ℕ) → ValidPayload p v → ¬ CutPayload p (payload_bits p v) r
  pub read_writes : (b : List Bool) (v : A × Option (List Bool)) → ReadsPayload p b v → ValidPayload p v × (b ≡ payload_bits p v)

-- a tail is shown by its number of bits
abbrev pub tail_line : Option (List Bool) → List Line
tail_line (Some tail) = record { name = "tail"; indexes = []; value = pos (length tail) } ∷ []
tail_line None = []

-- the lines of a payload: those of its fields, and for a tail its number of bits
abbrev pub payload_lines : {A : Type 0} → Payload A → A × Option (List Bool) → List Line
payload_lines p v = lines p.fields v.0 ++ tail_line v.1
