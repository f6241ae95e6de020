-- A value printed whole on a printer of its own, and appended to a writer.
use Rattle.std.proofs.Common.{◌≡◌, Bool, List, [], ◌++◌, refl, sym, ap, ◌∙◌}
use Rattle.mv_syntax.specs.Table.{Table, bits_of}
use Rattle.mv_syntax.specs.inner.Writer.{put}
use Rattle.mv_syntax.specs.Printed.{Output, bits, printed}
use Rattle.mv_syntax.proofs.TableLaws.{put-nil}
use Rattle.mv_syntax.proofs.PrintedLaws.{printed-bits}
use Rattle.mv_fields.specs.Output.{IsBits, bits_in}

-- what is printed from no bits on is bits, those of the value
pub printed_alone : {A : Type 0} (t : Table A) (v : A) (start own : Output) → start ≡ bits [] → own ≡ printed t v start → own ≡ bits (bits_of t v)
printed_alone t v start own none e = e ∙ ap (printed t v) none ∙ printed-bits t [] v [] ∙ ap bits (put-nil t v)

pub is_bits : {A : Type 0} (t : Table A) (v : A) (start own : Output) → start ≡ bits [] → own ≡ printed t v start → IsBits own
is_bits t v start own none e = rw (printed_alone t v start own none e) tt

pub appended : {A : Type 0} (t : Table A) (v : A) (start own : Output) (old new : List Bool) → start ≡ bits [] → own ≡ printed t v start → new ≡ old ++ bits_in own → new ≡ old ++ bits_of t v
appended t v start own old new none e all = all ∙ ap (λ o. old ++ bits_in o) (printed_alone t v start own none e)
