-- A header at the head of a payload: how it is read, written and shown.
use Rattle.std.proofs.Common.{◌≡◌, ℕ, ◌+◌, ◌-◌, ◌*◌, ◌/◌, ◌%◌, ◌≤◌, Bool, List, [], ◌++◌, length, None, add-zero, Err, refl, ap, ◌∙◌, arith}
use Rattle.mv_syntax.specs.Bits.{Fault, short, breaks, trailing_bits}
use Rattle.mv_syntax.specs.Table.{Table, Reads, Cut, bits_of}
use Rattle.mv_syntax.specs.inner.Reader.{read}
use Rattle.mv_syntax.specs.Words.{whole_bytes}
use Rattle.mv_syntax.specs.Lines.{lines as lines_of, text_of}
use Rattle.mv_syntax.specs.Printed.{Output, bits, lines, printed}
use Rattle.mv_syntax.specs.PrintedPayload.{printed_end}
use Rattle.mv_syntax.proofs.TableLaws.{table_answered, short-neither, cut-read, put-nil}
use Rattle.mv_syntax.proofs.PrintedLaws.{bits-same, printed-bits, printed-text}
use Rattle.mv_fields.specs.Output.{IsBits, IsText, text_in}
use Rattle.mv_slice.specs.declared.slice.SliceHead.{SliceHead}
use Rattle.mv_slice.specs.declared.header.SliceRead.{SliceRead}
use Rattle.mv_slice.specs.Header.{BeginsWith}

-- where the reader on lists is short, no header stands there and no rule cuts
pub no_header : (t : Table SliceHead) (b : List Bool) → read t b ≡ Err short → ¬ ((s : SliceRead) × BeginsWith t b s) × ¬ ((r : ℕ) × Cut t b r)
no_header t b e =
    let neither = short-neither (read t b) (λ v. Reads t b v.0 v.1) (Cut t b) (table_answered t b) e in
    (λ h. neither.0 ((h.0.head, h.1.0), h.1.1), neither.1)

-- the place behind a header counts its bytes
pub head_counted : (total left place : ℕ) → total % 8 ≡ 0 → left % 8 ≡ 0 → left ≤ total → place ≡ total - left → total ≡ 8 * (place / 8) + left
head_counted total left place h k within e = omega arith

-- the fields, and the alignment behind them
closing : (b : List Bool) → printed_end None (bits b) ≡ bits (b ++ trailing_bits (length b))
closing b = ap (λ n. bits (b ++ trailing_bits n)) (add-zero (length b))

whole_is : {A : Type 0} (t : Table A) (v : A) (start front whole : Output) → start ≡ bits [] → front ≡ printed t v start → whole ≡ printed_end None front
    → whole ≡ bits (bits_of (whole_bytes t) v)
whole_is t v start front whole none fields end =
    let fields_are : front ≡ bits (bits_of t v) = fields ∙ ap (printed t v) none ∙ printed-bits t [] v [] ∙ ap bits (put-nil t v) in
    end ∙ ap (printed_end None) fields_are ∙ closing (bits_of t v)

pub head_is_bits : {A : Type 0} (t : Table A) (v : A) (start front whole : Output) → start ≡ bits [] → front ≡ printed t v start → whole ≡ printed_end None front → IsBits whole
head_is_bits t v start front whole none fields end = rw (whole_is t v start front whole none fields end) tt

pub head_written : {A : Type 0} (t : Table A) (v : A) (bytes : List Bool) (start front whole : Output) → start ≡ bits [] → front ≡ printed t v start
    → whole ≡ printed_end None front → bits bytes ≡ whole → bytes ≡ bits_of (whole_bytes t) v
head_written t v bytes start front whole none fields end all =
    bits-same bytes (bits_of (whole_bytes t) v) (all ∙ whole_is t v start front whole none fields end)

-- behind a text stand the lines of the header
pub head_shown : {A : Type 0} (t : Table A) (v : A) (start whole : Output) → IsText start → whole ≡ printed t v start
    → whole ≡ lines (text_in start ++ text_of (lines_of (whole_bytes t) v)) []
head_shown t v (bits b) whole h e = absurd h
head_shown t v (lines text around) whole h e = e ∙ rw h (printed-text t v text)
