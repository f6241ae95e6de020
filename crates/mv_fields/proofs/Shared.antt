-- A structure that headers share, in a header: its limit counts as a rule of the header.
use Rattle.std.proofs.Common.{◌≡◌, ℕ, Bool, List, Result, Ok, Err, refl}
use Rattle.mv_syntax.specs.Bits.{short, breaks}
use Rattle.mv_syntax.specs.Cursor.{Cursor}
use Rattle.mv_syntax.specs.Table.{Table, Reads, Cut}
use Rattle.mv_syntax.specs.inner.Reader.{read}
use Rattle.mv_syntax.specs.Words.{◌under◌}
use Rattle.mv_syntax.specs.Answers.{Answers}
use Rattle.mv_syntax.specs.inner.Filling.{FailsAs}
use Rattle.mv_syntax.proofs.TableLaws.{read-reads, read-cut, neither-short, table_answered}
use Rattle.mv_rules.specs.declared.rule.Rule.{Rule}
use Rattle.mv_fields.specs.declared.fault.Fault.{Fault}
use Rattle.mv_fields.specs.declared.fault.Fault.TheVariants.{NoBits, Breaks, Memory}
use Rattle.mv_fields.specs.declared.fault.Limit.{Limit}
use Rattle.mv_fields.specs.Faults.{means, shared_means, broken_as, in_header}
use Rattle.mv_fields.specs.Reading.{ReadsAs}

by_limit : {A X : Type 0} (rule : Rule) (view : X → A) (t : Table A) (old new : Cursor) (fault : Fault Limit)
    → Answers {X = X} view shared_means t old new (Err fault) → FailsAs (means (broken_as rule fault)) (read (t under rule) old.left)
by_limit {A} rule view t old new NoBits h = rw (neither-short (read t old.left) (λ v. Reads t old.left v.0 v.1) (Cut t old.left) (table_answered t old.left) h.0.0 h.0.1) refl
by_limit rule view t old new (Breaks limit) h = rw (read-cut t old.left 0 h.0) refl
by_limit rule view t old new Memory h = tt

-- what a call that reads the structure promises, in a header
pub shared : {A X : Type 0} (rule : Rule) (view : X → A) (t : Table A) (old new : Cursor) (answer : Result X (Fault Limit))
    → Answers view shared_means t old new answer → ReadsAs view (t under rule) old new (in_header rule answer)
shared rule view t old new (Ok x) h = (rw (read-reads t old.left (view x) new.left h.0) refl, h.1)
shared rule view t old new (Err fault) h = by_limit rule view t old new fault h

pub ruleset shared_steps = (shared)
