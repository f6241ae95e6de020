-- From the answer of the reader on lists to the words of the table.
use Rattle.std.proofs.Common.{◌≡◌, ℕ, Option, Some, None, Result, Ok, Err, refl, sym, ap, ◌∙◌, subst}
use Rattle.mv_syntax.specs.Bits.{Fault, short, breaks}
use Rattle.mv_syntax.specs.Cursor.{Cursor}
use Rattle.mv_syntax.specs.Table.{Table, Reads, Cut}
use Rattle.mv_syntax.specs.inner.Reader.{read}
use Rattle.mv_syntax.specs.Answers.{Refuses, Answers}
use Rattle.mv_syntax.specs.inner.Filling.{FailsAs, Fills}
use Rattle.mv_syntax.proofs.TableLaws.{Answered, short-neither, table_answered, reads-of}

-- an error that agrees with the answer says why nothing reads
pub refuses : {V : Type 0} (answer : Result V Fault) (reads : V → Type 0) (cut : ℕ → Type 0) → Answered answer reads cut
    → (fault : Option Fault) → FailsAs fault answer → Refuses reads cut fault
refuses answer reads cut h None e = tt
refuses answer reads cut h (Some short) e = short-neither answer reads cut h e
refuses answer reads cut h (Some (breaks r)) e = h.is_rule r e

-- a call that read from `start` on, a fork of its reader at `old`: on a value the reader moved where the fork is, on an error it
-- stands where it stood
pub answers_ok : {A X E : Type 0} (view : X → A) (means : E → Option Fault) (t : Table A) (old start new : Cursor) (x : X)
    → start ≡ old → Fills view means start new (Ok x) (read t start.left) → Answers view means t old new (Ok x)
answers_ok view means t old start new x same h =
    (reads-of t old.left (view x) new.left (sym (ap (λ c. read t c.left) same) ∙ h.0), h.1 ∙ ap (λ c. c.total) same)

pub answers_err : {A X E : Type 0} (view : X → A) (means : E → Option Fault) (t : Table A) (old start : Cursor) (e : E)
    → start ≡ old → FailsAs (means e) (read t start.left) → Answers view means t old old (Err e)
answers_err view means t old start e same h = (
  refuses (read t old.left) (λ v. Reads t old.left v.0 v.1) (Cut t old.left) (table_answered t old.left) (means e)
      (subst (λ c. FailsAs (means e) (read t c.left)) same h),
  refl,
)
