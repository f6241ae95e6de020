use Rattle.std.proofs.Common.{arith}
use Rattle.mv_units.specs.Escapes.{head_first, head_second}
use Rattle.mv_units.proofs.Escaped.{has_code-escaped, has_emulation-escaped, length-escaped}
use Rattle.mv_units.proofs.Unescaped.{framable-escape}
use Rattle.mv_units.proofs.escape_laws.an_escaped_unit_is_clean.Goals as goal

pub returns-clause-code : goal.returns-clause-code
returns-clause-code c = λ h p. has_code-escaped (head_first h) (head_second h) p

pub returns-clause-emulation : goal.returns-clause-emulation
returns-clause-emulation c = λ h p. has_emulation-escaped (head_first h) (head_second h) p

pub returns-clause-length : goal.returns-clause-length
returns-clause-length c = λ h p. omega (arith, length-escaped (head_first h) (head_second h) p)

pub returns-clause-framable : goal.returns-clause-framable
returns-clause-framable c = λ h p some. framable-escape h p some
