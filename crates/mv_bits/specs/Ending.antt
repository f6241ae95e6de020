-- What a call that reads the end of a payload promises.
use Rattle.std.specs.Prelude.{Option, Some, None}
use Rattle.mv_syntax.specs.Bits.{Fault, short}
use Rattle.mv_bits.specs.declared.end_fault.EndFault.{EndFault}
use Rattle.mv_bits.specs.declared.end_fault.EndFault.TheVariants.{NoBits, Memory}

-- NoBits comes only where nothing that ends a payload stands there; want of memory says nothing
abbrev pub Misses : Type 0 → EndFault → Type 0
Misses missing NoBits = missing
Misses missing Memory = Unit {0}

-- the same for those who read by a table
abbrev pub means : EndFault → Option Fault
means NoBits = Some short
means Memory = None
