-- What a call answers that reads the header of a slice segment at the head of bits.
use Rattle.std.specs.Prelude.{◌≡◌, ℕ, ◌+◌, ◌*◌, Bool, List, length, Option, Some, None, Result, Ok, Err}
use Rattle.mv_rules.specs.Rule.{rule_number}
use Rattle.mv_rules.specs.declared.refusal.ReadFault.{ReadFault}
use Rattle.mv_rules.specs.declared.refusal.ReadFault.TheVariants.{Refused, Memory as out_of_memory}
use Rattle.mv_syntax.specs.Table.{Table, Reads, Cut}
use Rattle.mv_slice.specs.declared.slice.SliceHead.{SliceHead}
use Rattle.mv_slice.specs.declared.header.SliceRead.{SliceRead}

-- a header stands at the head of bits, and has this many bytes with its alignment
abbrev pub BeginsWith : Table SliceHead → List Bool → SliceRead → Type 0
BeginsWith t b s = (rest : List Bool) × Reads t b s.head rest × (length b ≡ 8 * s.bytes + length rest)

-- from the first bits of a payload: a header stands there; or, with None, none does and no rule cuts these bits, so that it goes on
-- behind them or never comes; or a rule cuts them; of want of memory nothing is said
abbrev pub ReadsStart : Table SliceHead → List Bool → Result (Option SliceRead) ReadFault → Type 0
ReadsStart t b (Ok (Some s)) = BeginsWith t b s
ReadsStart t b (Ok None) = ¬ ((s : SliceRead) × BeginsWith t b s) × ¬ ((r : ℕ) × Cut t b r)
ReadsStart t b (Err (Refused rule)) = Cut t b (rule_number rule)
ReadsStart t b (Err out_of_memory) = Unit {0}
