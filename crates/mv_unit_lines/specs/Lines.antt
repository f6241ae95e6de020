-- The lines that are shown of a unit, and of a picture behind the fields of its first header.
use Rattle.std.specs.Prelude.{ℕ, Bool, List, [], ◌∷◌, ◌++◌, ℤ, Option, Some, None, codes, decimal, if◌then◌else◌}
use Rattle.std.specs.Fmt.{signed_decimal}
use Rattle.std.specs.List.{flat_map}
use Rattle.mv_units.specs.declared.head.UnitHead.{UnitHead}
use Rattle.mv_unit_lines.specs.Names.{type_name}
use Rattle.mv_unit_lines.specs.declared.lines.PictureState.{PictureState}
use Rattle.mv_unit_lines.specs.declared.lines.Reference.{Reference}

-- the head of a unit
abbrev pub head_text : UnitHead → List ℕ
head_text head = codes "layer " ++ decimal head.layer ++ codes " tid " ++ decimal head.tid ++ codes " " ++ type_name head.kind

abbrev pub stray_text : Bool → List ℕ
stray_text stray = if stray then codes " stray" else []

-- its number and the byte at which it stands
abbrev pub place_text : ℕ → ℕ → List ℕ
place_text unit byte = codes "unit " ++ decimal unit ++ codes " at " ++ decimal byte ++ codes ": "

unfoldable pub unit_line : ℕ → ℕ → UnitHead → Bool → List ℕ
unit_line unit byte head stray =
    place_text unit byte ++ head_text head ++ stray_text stray ++ codes "\n"

-- what became of a picture
abbrev pub state_name : PictureState → List ℕ
state_name PictureState.Start = codes "start"
state_name PictureState.Decoded = codes "decoded"
state_name PictureState.Skipped = codes "skipped"

-- its picture order count, which a picture may lack
abbrev pub count_text : Option ℤ → List ℕ
count_text (Some count) = signed_decimal count
count_text None = codes "none"

unfoldable pub picture_line : Option ℤ → PictureState → List ℕ
picture_line count state = codes "  picture count=" ++ count_text count ++ codes " state=" ++ state_name state ++ codes "\n"

-- an entry of a reference picture list: the picture's layer and its count
abbrev pub reference_text : Reference → List ℕ
reference_text reference = decimal reference.layer ++ codes ":" ++ signed_decimal reference.count

-- the entries, joined by commas
abbrev pub others_text : List Reference → List ℕ
others_text references = flat_map (λ (r : Reference). codes "," ++ reference_text r) references

abbrev pub references_text : List Reference → List ℕ
references_text [] = []
references_text (first ∷ more) = reference_text first ++ others_text more

-- list 0 or 1
unfoldable pub list_line : ℕ → List Reference → List ℕ
list_line list references = codes "  list" ++ decimal list ++ codes "=" ++ references_text references ++ codes "\n"
