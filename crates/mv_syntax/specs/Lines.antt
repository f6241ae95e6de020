-- What is shown of a value: a line for each coded field, in coded order.
use Rattle.std.specs.Prelude.{ℕ, List, [], ◌∷◌, ◌++◌, length, ℤ, pos, Some, None, codes, decimal}
use Rattle.std.specs.Fmt.{signed_decimal}
use Prim.Native.String.{String}
use Rattle.mv_syntax.specs.Table.{Table, u, ue, se, named, refused, checked, ◌>>=◌, when, repeat, by_rule, padded, shaped, in_turn}

-- a coded field: its name, the indexes of all loops around it from the outermost, and its value
pub record Line : Type 0 where
  pub name : String
  pub indexes : List ℕ
  pub value : ℤ

-- the lines of a value in a table that stands under a name and in turns with these indexes
abbrev pub lines_in : {A : Type 0} → Table A → String → List ℕ → A → List Line
lines_in (u n) name at v = record { name = name; indexes = at; value = pos v } ∷ []
lines_in ue name at v = record { name = name; indexes = at; value = pos v } ∷ []
lines_in se name at v = record { name = name; indexes = at; value = v } ∷ []
lines_in (named own t) name at v = lines_in t own at v
lines_in (refused r bad t) name at v = lines_in t name at v
lines_in (checked r bad t) name at v = lines_in t name at v
lines_in (t >>= f) name at v = lines_in t name at v.0 ++ lines_in (f v.0) name at v.1
lines_in (when c t) name at (Some v) = lines_in t name at v
lines_in (when c t) name at None = []
lines_in (repeat index n t) name at vs = in_turn (λ before v. lines_in (t before) name (at ++ index (length before) ∷ []) v) [] vs
lines_in (by_rule r t) name at v = lines_in t name at v
lines_in (padded pad t) name at v = lines_in t name at v
lines_in (shaped to from same t) name at v = lines_in t name at (from v)

-- the lines of a value of a whole table
abbrev pub lines : {A : Type 0} → Table A → A → List Line
lines t v = lines_in t "" [] v

-- the brackets of some indexes, the outermost first
abbrev pub bracket : ℕ → List ℕ
bracket index = codes "[" ++ decimal index ++ codes "]"

abbrev pub brackets : List ℕ → List ℕ
brackets [] = []
brackets (index ∷ indexes) = bracket index ++ brackets indexes

-- a line as text: two blanks, the field's name, the brackets of all loops around it, `=`, its number and a newline
abbrev pub line_text : Line → List ℕ
line_text line = codes "  " ++ (codes line.name ++ (brackets line.indexes ++ (codes "=" ++ (signed_decimal line.value ++ codes "\n"))))

abbrev pub text_of : List Line → List ℕ
text_of [] = []
text_of (line ∷ more) = line_text line ++ text_of more
