-- What is told of a slice segment from its first fields.
use Rattle.std.specs.Prelude.{◌≡◌, Bool, List, Result, Ok, Err}
use Rattle.mv_rules.specs.declared.rule.Rule.{Rule}
use Rattle.mv_rules.specs.declared.rule.Rule.TheVariants.{SliceSyntax}
use Rattle.mv_syntax.specs.Table.{Table, Reads}
use Rattle.mv_syntax.specs.Words.{is_set}
use Rattle.mv_slice.specs.declared.opening.SliceOpening.{SliceOpening}
use Rattle.mv_slice.specs.declared.peek.SlicePeek.{SlicePeek}

-- the first flag and the id of the picture parameter set
abbrev pub peek : SliceOpening → SlicePeek
peek v = record { first = is_set v.first_slice_segment_in_pic_flag; pps_id = v.slice_pic_parameter_set_id }

-- the answer tells the fields that read at the head of these bits; or none do, and it is SliceSyntax (the table's only rule is
-- the same)
abbrev pub Peeks : Table SliceOpening → List Bool → Result SlicePeek Rule → Type 0
Peeks t b (Ok told) = (v : SliceOpening) × (rest : List Bool) × Reads t b v rest × (told ≡ peek v)
Peeks t b (Err rule) = (rule ≡ SliceSyntax) × ¬ ((v : SliceOpening) × (rest : List Bool) × Reads t b v rest)
