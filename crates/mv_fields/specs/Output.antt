-- What a printer holds.
use Rattle.std.specs.Prelude.{◌≡◌, ℕ, ◌%◌, Bool, List, [], ◌++◌, length}
use Rattle.mv_syntax.specs.Bits.{align_bits}
use Rattle.mv_syntax.specs.Printed.{Output, bits, lines}
use Rattle.mv_fields.specs.declared.printer.To.{To}
use Rattle.mv_fields.specs.declared.printer.To.TheVariants.{Bits, Lines}

abbrev pub output_of : To → Output
output_of (Bits writer) = bits writer
output_of (Lines shown) = lines shown.text.items shown.around.items

-- it holds bits
abbrev pub IsBits : Output → Type 0
IsBits (bits b) = Unit {0}
IsBits (lines text around) = ⊥

-- where it holds bits, they are whole bytes
abbrev pub IsWhole : Output → Type 0
IsWhole (bits b) = length b % 8 ≡ 0
IsWhole (lines text around) = Unit {0}

-- it holds lines, and no loop is open
abbrev pub IsText : Output → Type 0
IsText (bits b) = ⊥
IsText (lines text around) = around ≡ []

-- the bits, or the text, that it holds
abbrev pub bits_in : Output → List Bool
bits_in (bits b) = b
bits_in (lines text around) = []

abbrev pub text_in : Output → List ℕ
text_in (bits b) = []
text_in (lines text around) = text

-- other text behind the lines
abbrev pub with_text : List ℕ → Output → Output
with_text more (bits b) = bits b
with_text more (lines text around) = lines (text ++ more) around

-- bits equal to x up to the end of the byte; no line shows them
abbrev pub aligned : Bool → Output → Output
aligned x (bits b) = bits (b ++ align_bits x (length b))
aligned x (lines text around) = lines text around
