-- A small table, with what it prints, reads and shows.
use Rattle.std.proofs.Common.{◌≡◌, ℕ, true, false, List, [], ◌∷◌, pos, Option, Some, None, Ok, Err, refl}
use Rattle.mv_syntax.specs.Bits.{short, breaks, u_bits, take_bits}
use Rattle.mv_syntax.specs.Table.{Table, u, named, ◌>>=◌, when, bits_of}
use Rattle.mv_syntax.specs.inner.Reader.{read}
use Rattle.mv_syntax.specs.Words.{◌>>◌, ◌!◌∶◌, over, is_set, ◌⊗◌, ◌▸◌}
use Rattle.mv_syntax.specs.Loops.{items}
use Rattle.mv_rules.specs.declared.rule.Rule.TheVariants.{VpsLimit}
use Rattle.mv_syntax.specs.Lines.{lines}

unfoldable pub example : Table (ℕ ⊗ Option ℕ ⊗ List ℕ)
example = do
  present ← named "present" (u 1)
  named "kind" (when (is_set present) (u 3 ! VpsLimit ∶ over 5))
  items 1 2 λ i. named "size" (u 2)

-- one flag, a kind in three bits, and two sizes in two bits each
printed : bits_of example (1 ▸ Some 5 ▸ 2 ∷ 3 ∷ []) ≡ true ∷ true ∷ false ∷ true ∷ true ∷ false ∷ true ∷ true ∷ []
unfolding example items u_bits
printed = refl

reads : read example (true ∷ true ∷ false ∷ true ∷ true ∷ false ∷ true ∷ true ∷ false ∷ []) ≡ Ok (1 ▸ Some 5 ▸ 2 ∷ 3 ∷ [], false ∷ [])
unfolding example items take_bits
reads = refl

-- without its flag no kind is coded
reads_absent : read example (false ∷ true ∷ false ∷ false ∷ true ∷ []) ≡ Ok (0 ▸ None ▸ 2 ∷ 1 ∷ [], [])
unfolding example items take_bits
reads_absent = refl

-- a kind over 5 breaks rule 26, whatever follows
cuts : read example (true ∷ true ∷ true ∷ false ∷ []) ≡ Err (breaks 26)
unfolding example items take_bits
cuts = refl

-- bits that end in a field are short
ends_early : read example (true ∷ true ∷ []) ≡ Err short
unfolding example items take_bits
ends_early = refl

-- a line a coded field, with the indexes of the loop
shown : lines example (1 ▸ Some 5 ▸ 2 ∷ 3 ∷ [])
    ≡ record { name = "present"; indexes = []; value = pos 1 }
    ∷ record { name = "kind"; indexes = []; value = pos 5 }
    ∷ record { name = "size"; indexes = 1 ∷ []; value = pos 2 }
    ∷ record { name = "size"; indexes = 2 ∷ []; value = pos 3 }
    ∷ []
unfolding example items
shown = refl
