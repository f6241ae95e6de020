-- What is printed for a whole payload: its fields, and then its end.
use Rattle.std.specs.Prelude.{ℕ, Bool, List, ◌++◌, length, pos, Option, Some, None, codes}
use Rattle.mv_syntax.specs.Ending.{end_bits}
use Rattle.mv_syntax.specs.Payload.{Payload}
use Rattle.mv_syntax.specs.Printed.{Output, bits, lines, with_line, printed}

-- the line of a tail behind a text: its number of bits
abbrev pub with_tail : Option (List Bool) → List ℕ → List ℕ → List ℕ
with_tail (Some tail) around text = with_line (codes "tail") around (pos (length tail)) text
with_tail None around text = text

-- the end: in bits the tail and the trailing bits (7.3.2.11), in lines the tail's number of bits
abbrev pub printed_end : Option (List Bool) → Output → Output
printed_end tail (bits b) = bits (b ++ end_bits (length b) tail)
printed_end tail (lines text around) = lines (with_tail tail around text) around

abbrev pub printed_payload : {A : Type 0} → Payload A → A × Option (List Bool) → Output → Output
printed_payload p v out = printed_end v.1 (printed p.fields v.0 out)
