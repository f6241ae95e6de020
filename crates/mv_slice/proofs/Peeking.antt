-- Why nothing is told of a slice segment.
use Rattle.std.proofs.Common.{◌≡◌, ◌≢◌, Bool, List, Err, refl, sym, ◌∙◌}
use Rattle.mv_syntax.specs.Bits.{Fault, short, breaks}
use Rattle.mv_syntax.specs.Table.{Table, Reads}
use Rattle.mv_syntax.specs.inner.Reader.{read}
use Rattle.mv_syntax.specs.inner.Filling.{FailsAs}
use Rattle.mv_syntax.proofs.TableLaws.{ok_err, read-reads}
use Rattle.mv_rules.specs.Rule.{rule_number}
use Rattle.mv_rules.specs.declared.rule.Rule.{Rule}
use Rattle.mv_fields.specs.Faults.{means}
use Rattle.mv_fields.specs.declared.fault.Fault.{Fault as PartFault}
use Rattle.mv_fields.specs.declared.fault.Fault.TheVariants.{NoBits, Breaks, Memory}

nothing : {A : Type 0} (t : Table A) (b : List Bool) (fault : Fault) → read t b ≡ Err fault → (v : A) (rest : List Bool) → Reads t b v rest → ⊥
nothing t b fault e v rest h = ok_err (v, rest) fault (sym (read-reads t b v rest h) ∙ e)

-- a fault other than want of memory says that nothing reads
pub nothing_reads : {A : Type 0} (t : Table A) (b : List Bool) (fault : PartFault Rule) → fault ≢ Memory → FailsAs (means fault) (read t b)
    → (v : A) (rest : List Bool) → Reads t b v rest → ⊥
nothing_reads t b NoBits other e = nothing t b short e
nothing_reads t b (Breaks rule) other e = nothing t b (breaks (rule_number rule)) e
nothing_reads t b Memory other e = λ v rest h. absurd (other refl)
