-- What the calls promise that read by a table.
use Rattle.std.specs.Prelude.{◌≡◌, ℕ, Bool, List, Result, Ok, Err, ◌⊎◌}
use Rattle.mv_syntax.specs.Cursor.{Cursor}
use Rattle.mv_syntax.specs.Table.{Table}
use Rattle.mv_syntax.specs.inner.Reader.{read}
use Rattle.mv_syntax.specs.Answers.{Answers}
use Rattle.mv_syntax.specs.inner.Filling.{Fills}
use Rattle.mv_bits.specs.Cursor.{Takes}
use Rattle.mv_rules.specs.Rule.{rule_number}
use Rattle.mv_rules.specs.declared.rule.Rule.{Rule}
use Rattle.mv_rules.specs.declared.refusal.ReadFault.{ReadFault}
use Rattle.mv_rules.specs.declared.refusal.ReadFault.TheVariants.{Refused, Memory as out_of_memory}
use Rattle.mv_fields.specs.declared.fault.Fault.{Fault}
use Rattle.mv_fields.specs.declared.fault.Limit.{Limit}
use Rattle.mv_fields.specs.Faults.{means, shared_means}

-- a field that breaks no rule: its value stands at the old place and the reader at what stands behind it, or the bits are short
-- and nothing moved
abbrev pub TakesBy : {A E : Type 0} → Table A → Cursor → Cursor → Result A E → Type 0
TakesBy t old new answer = Takes old new answer (read t old.left)

-- a part of a header: its value stands at the old place and the reader at what stands behind it, or the fault says why none does:
-- the bits are short, or the rule that cuts them; of want of memory nothing is said, nor of the place after a fault
abbrev pub ReadsBy : {A : Type 0} → Table A → Cursor → Cursor → Result A (Fault Rule) → Type 0
ReadsBy t old new answer = Fills (λ v. v) means old new answer (read t old.left)

-- the same, where contracts see what is answered in another form than the table's
abbrev pub ReadsAs : {A X : Type 0} → (X → A) → Table A → Cursor → Cursor → Result X (Fault Rule) → Type 0
ReadsAs view t old new answer = Fills view means old new answer (read t old.left)

-- a part of a structure that several headers share, in the same way
abbrev pub ReadsShared : {A : Type 0} → Table A → Cursor → Cursor → Result A (Fault Limit) → Type 0
ReadsShared t old new answer = Fills (λ v. v) shared_means old new answer (read t old.left)

abbrev pub ReadsSharedAs : {A X : Type 0} → (X → A) → Table A → Cursor → Cursor → Result X (Fault Limit) → Type 0
ReadsSharedAs view t old new answer = Fills view shared_means old new answer (read t old.left)

-- a call that reads a whole shared structure, in the words of its table: its value reads at the old place and leaves what stands at
-- the new one; or no value reads and no rule cuts (NoBits), or a field is past its limit (Breaks), and the reader stands where it
-- stood; of want of memory nothing is said
abbrev pub AnswersShared : {A : Type 0} → Table A → Cursor → Cursor → Result A (Fault Limit) → Type 0
AnswersShared t old new answer = Answers (λ v. v) shared_means t old new answer

-- a whole header: what is answered reads; or it is refused: by the rule that cuts it, or by its syntax rule where nothing reads and
-- no rule cuts; of want of memory nothing is said
abbrev pub ReadsWhole : {X : Type 0} → (X → Type 0) → (ℕ → Type 0) → Rule → Result X ReadFault → Type 0
ReadsWhole reads cut syntax (Ok x) = reads x
ReadsWhole {X} reads cut syntax (Err (Refused rule)) = cut (rule_number rule) ⊎ ((rule ≡ syntax) × (¬ ((x : X) × reads x) × ¬ ((r : ℕ) × cut r)))
ReadsWhole reads cut syntax (Err out_of_memory) = Unit {0}
