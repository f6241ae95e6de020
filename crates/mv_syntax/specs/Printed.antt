-- What a table prints for a value, field by field: one fold over the table, into bits or into the text of lines.
use Rattle.std.specs.Prelude.{ℕ, ◌-◌, Bool, List, [], ◌∷◌, ◌++◌, length, take, ℤ, pos, Some, None, codes}
use Rattle.std.specs.Fmt.{signed_decimal}
use Rattle.mv_syntax.specs.Bits.{u_bits, ue_bits, se_bits}
use Rattle.mv_syntax.specs.Lines.{bracket}
use Rattle.mv_syntax.specs.Table.{Table, u, ue, se, named, refused, checked, ◌>>=◌, when, repeat, by_rule, padded, shaped}

-- what was printed so far: bits, or the text of lines; a text has the brackets of the loops that are open, the outermost first
pub data Output : Type 0 where
  bits : List Bool → Output
  lines : List ℕ → List ℕ → Output

-- a line behind a text: two blanks, the field's name, the brackets of all loops around it, `=`, its number and a newline
abbrev pub with_line : List ℕ → List ℕ → ℤ → List ℕ → List ℕ
with_line name around value text = text ++ codes "  " ++ name ++ around ++ codes "=" ++ signed_decimal value ++ codes "\n"

-- one field: its code, or its line
abbrev pub u_to : ℕ → List ℕ → ℕ → Output → Output
u_to n name v (bits b) = bits (b ++ u_bits n v)
u_to n name v (lines text around) = lines (with_line name around (pos v) text) around

abbrev pub ue_to : List ℕ → ℕ → Output → Output
ue_to name v (bits b) = bits (b ++ ue_bits v)
ue_to name v (lines text around) = lines (with_line name around (pos v) text) around

abbrev pub se_to : List ℕ → ℤ → Output → Output
se_to name v (bits b) = bits (b ++ se_bits v)
se_to name v (lines text around) = lines (with_line name around v text) around

-- a turn of a loop begins, and ends: in a text its bracket is opened, and closed again
abbrev pub opened : ℕ → Output → Output
opened index (bits b) = bits b
opened index (lines text around) = lines text (around ++ bracket index)

abbrev pub depth : Output → ℕ
depth (bits b) = 0
depth (lines text around) = length around

abbrev pub closed : ℕ → Output → Output
closed outer (bits b) = bits b
closed outer (lines text around) = lines text (take outer around)

-- alignment bits behind what was printed from `before` on; no line shows them
abbrev pub padded_to : (ℕ → List Bool) → Output → Output → Output
padded_to pad (bits before) (bits b) = bits (b ++ pad (length b - length before))
padded_to pad (bits before) (lines text around) = lines text around
padded_to pad (lines before at) out = out

-- the items of a list printed in turn
abbrev pub print_each : {A Out : Type 0} → (List A → A → Out → Out) → List A → List A → Out → Out
print_each one before [] out = out
print_each one before (v ∷ vs) out = print_each one (before ++ v ∷ []) vs (one before v out)

-- one turn of a loop, with its bracket around what its body prints
abbrev pub in_bracket : ℕ → (Output → Output) → Output → Output
in_bracket index body out = closed (depth out) (body (opened index out))

-- what stands in an output once a value of a table was printed behind it; the table stands under a name
abbrev pub printed_in : {A : Type 0} → Table A → List ℕ → A → Output → Output
printed_in (u n) name v out = u_to n name v out
printed_in ue name v out = ue_to name v out
printed_in se name v out = se_to name v out
printed_in (named own t) name v out = printed_in t (codes own) v out
printed_in (refused r bad t) name v out = printed_in t name v out
printed_in (checked r bad t) name v out = printed_in t name v out
printed_in (t >>= f) name v out = printed_in (f v.0) name v.1 (printed_in t name v.0 out)
printed_in (when c t) name (Some v) out = printed_in t name v out
printed_in (when c t) name None out = out
printed_in (repeat index n t) name vs out =
    print_each (λ before v o. in_bracket (index (length before)) (λ inner. printed_in (t before) name v inner) o) [] vs out
printed_in (by_rule r t) name v out = printed_in t name v out
printed_in (padded pad t) name v out = padded_to (pad v) out (printed_in t name v out)
printed_in (shaped to from same t) name v out = printed_in t name (from v) out

-- the same of a whole table, whose fields have names of their own
abbrev pub printed : {A : Type 0} → Table A → A → Output → Output
printed t v out = printed_in t [] v out
