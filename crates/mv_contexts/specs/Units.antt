-- The header of a slice unit, from its bytes (7.3.1.1, 7.3.6.1, F.7.3.6.1), and what the calls promise that read it.
use Rattle.std.specs.Prelude.{◌≡◌, ◌⊎◌, ℕ, Bool, true, ◌||◌, List, Option, None, Result, Ok, Err}
use Rattle.mv_rules.specs.declared.rule.Rule.{Rule}
use Rattle.mv_rules.specs.declared.refusal.ReadFault.{ReadFault}
use Rattle.mv_rules.specs.declared.refusal.ReadFault.TheVariants.{Refused, Memory as out_of_memory}
use Rattle.mv_syntax.specs.Bits.{Fault, byte_bits}
use Rattle.mv_syntax.specs.inner.Reader.{read}
use Rattle.mv_units.specs.declared.head.UnitHead.{UnitHead}
use Rattle.mv_units.specs.Escapes.{payload}
use Rattle.mv_slice.specs.Context.{SliceContextValue}
use Rattle.mv_slice.specs.Slice.{slice_header}
use Rattle.mv_syntax.specs.Table.{Table}
use Rattle.mv_slice.specs.Peek.{Peeks}
use Rattle.mv_slice.specs.declared.peek.SlicePeek.{SlicePeek}
use Rattle.mv_slice.specs.declared.opening.SliceOpening.{SliceOpening}
use Rattle.mv_slice.specs.declared.slice.SliceHead.{SliceHead}
use Rattle.mv_pictures.specs.UnitRules.{fails, is_cut}

-- the header of a unit with this head, or the fault that stands there
abbrev pub header_in : SliceContextValue → UnitHead → List ℕ → Result SliceHead Fault
header_in ctx h unit = elim (read (slice_header ctx h.kind) (byte_bits (payload unit))) [ Ok x ↦ Ok x.0 | Err fault ↦ Err fault ]

-- why it isn't told: no header reads and no other rule cuts, which is SliceSyntax, or cross_layer_bla_flag is 1; of want of
-- memory nothing is said
abbrev pub IsWhy : Result SliceHead Fault → ReadFault → Type 0
IsWhy there (Refused rule) =
    ((rule ≡ Rule.SliceSyntax) × ((fails there || is_cut Rule.SliceSyntax there) ≡ true))
    ⊎ ((rule ≡ Rule.CrossLayerBla) × (is_cut Rule.CrossLayerBla there ≡ true))
IsWhy there out_of_memory = Unit {0}

-- why the first fields aren't told: they don't read
abbrev pub IsWhyNoOpening : Option SliceOpening → ReadFault → Type 0
IsWhyNoOpening there (Refused rule) = (rule ≡ Rule.SliceSyntax) × (there ≡ None)
IsWhyNoOpening there out_of_memory = Unit {0}

-- what is told of the first fields, or that they don't read: from bits
abbrev pub PeeksUnit : Table SliceOpening → List Bool → Result SlicePeek ReadFault → Type 0
PeeksUnit t b (Ok told) = Peeks t b (Ok told)
PeeksUnit t b (Err (Refused rule)) = Peeks t b (Err rule)
PeeksUnit t b (Err out_of_memory) = Unit {0}
