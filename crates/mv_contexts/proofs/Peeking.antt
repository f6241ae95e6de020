-- The first fields of a slice unit, from its first bytes and from its whole.
use Rattle.std.proofs.Common.{◌≡◌, ℕ, Bool, true, false, List, take, Option, Some, None, option_map, Result, Ok, Err, refl, sym, ap, ◌∙◌}
use Rattle.std.specs.Prelude.{IfErr, IfOk}
use Rattle.mv_rules.specs.declared.refusal.ReadFault.{ReadFault}
use Rattle.mv_rules.specs.declared.refusal.ReadFault.TheVariants.{Refused, Memory as out_of_memory}
use Rattle.mv_syntax.specs.Bits.{Fault, byte_bits}
use Rattle.mv_syntax.specs.Table.{Reads}
use Rattle.mv_syntax.specs.inner.Reader.{read}
use Rattle.mv_syntax.proofs.TableLaws.{read-reads, reads-of}
use Rattle.mv_units.specs.declared.head.UnitHead.{UnitHead}
use Rattle.mv_units.specs.Escapes.{payload}
use Rattle.mv_slice.specs.Opening.{opening}
use Rattle.mv_slice.specs.Peek.{peek}
use Rattle.mv_slice.specs.declared.opening.SliceOpening.{SliceOpening}
use Rattle.mv_slice.specs.declared.peek.SlicePeek.{SlicePeek}
use Rattle.mv_pictures.specs.Items.{opening_of}
use Rattle.mv_pictures.specs.Kinds.{is_slice_kind}
use Rattle.mv_contexts.specs.Units.{IsWhyNoOpening, PeeksUnit}
use Rattle.mv_contexts.proofs.Reading.{reads-there}

-- what is found of the first fields of a slice unit
abbrev found : Result (SliceOpening × List Bool) Fault → Option SliceOpening
found r = elim r [ Ok x ↦ Some x.0 | Err fault ↦ None ]

opening-is : (h : UnitHead) (u : List ℕ) → is_slice_kind h.kind ≡ true → opening_of h u ≡ found (read (opening h.kind) (byte_bits (payload u)))
unfolding opening_of
opening-is h u slice = ap (λ b. elim b [ true ↦ found (read (opening h.kind) (byte_bits (payload u))) | false ↦ None ]) slice

reads-told : (h : UnitHead) (u : List ℕ) (v : SliceOpening) (rest : List Bool) → is_slice_kind h.kind ≡ true → Reads (opening h.kind) (byte_bits (payload u)) v rest → opening_of h u ≡ Some v
reads-told h u v rest slice there = opening-is h u slice ∙ ap found (read-reads (opening h.kind) (byte_bits (payload u)) v rest there)

pub peeks-there : (h : UnitHead) (n : ℕ) (u : List ℕ) (p : SlicePeek) → is_slice_kind h.kind ≡ true → PeeksUnit (opening h.kind) (byte_bits (payload (take n u))) (Ok p)
    → option_map peek (opening_of h u) ≡ Some p
peeks-there h n u p slice (v, rest, there, is) =
    let whole = reads-there (opening h.kind) n u v rest there in
    ap (option_map peek) (reads-told h u v whole.0 slice whole.1) ∙ ap Some (sym is)

pub peeks-here : (h : UnitHead) (u : List ℕ) (p : SlicePeek) → is_slice_kind h.kind ≡ true → PeeksUnit (opening h.kind) (byte_bits (payload u)) (Ok p)
    → option_map peek (opening_of h u) ≡ Some p
peeks-here h u p slice (v, rest, there, is) = ap (option_map peek) (reads-told h u v rest slice there) ∙ ap Some (sym is)

nothing-found : (h : UnitHead) (u : List ℕ) → ¬ ((v : SliceOpening) × (rest : List Bool) × Reads (opening h.kind) (byte_bits (payload u)) v rest)
    → found (read (opening h.kind) (byte_bits (payload u))) ≡ None
nothing-found h u none = go (read (opening h.kind) (byte_bits (payload u))) refl
  where
    go : (r : Result (SliceOpening × List Bool) Fault) → read (opening h.kind) (byte_bits (payload u)) ≡ r → found r ≡ None
    go (Ok x) e = absurd (none (x.0, x.1, reads-of (opening h.kind) (byte_bits (payload u)) x.0 x.1 e))
    go (Err fault) e = refl

pub nothing-here : (h : UnitHead) (u : List ℕ) (fault : ReadFault) → is_slice_kind h.kind ≡ true → PeeksUnit (opening h.kind) (byte_bits (payload u)) (Err fault)
    → IsWhyNoOpening (opening_of h u) fault
nothing-here h u (Refused rule) slice (is, none) = (is, opening-is h u slice ∙ nothing-found h u none)
nothing-here h u out_of_memory slice free = tt

-- ---- of each answer
pub start-fields : (h : UnitHead) (n : ℕ) (u : List ℕ) (r : Result SlicePeek ReadFault) → is_slice_kind h.kind ≡ true → PeeksUnit (opening h.kind) (byte_bits (payload (take n u))) r
    → IfOk r (λ p. option_map peek (opening_of h u) ≡ Some p)
start-fields h n u (Ok p) slice told = peeks-there h n u p slice told
start-fields h n u (Err fault) slice told = tt

pub whole-fields : (h : UnitHead) (u : List ℕ) (r : Result SlicePeek ReadFault) → is_slice_kind h.kind ≡ true → PeeksUnit (opening h.kind) (byte_bits (payload u)) r
    → IfOk r (λ p. option_map peek (opening_of h u) ≡ Some p)
whole-fields h u (Ok p) slice told = peeks-here h u p slice told
whole-fields h u (Err fault) slice told = tt

pub whole-refused : (h : UnitHead) (u : List ℕ) (r : Result SlicePeek ReadFault) → is_slice_kind h.kind ≡ true → PeeksUnit (opening h.kind) (byte_bits (payload u)) r
    → IfErr r (IsWhyNoOpening (opening_of h u))
whole-refused h u (Ok p) slice told = tt
whole-refused h u (Err fault) slice told = nothing-here h u fault slice told
