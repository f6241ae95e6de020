-- What a table prints for a value behind what was written before, as code writes it: field by field.
use Rattle.std.specs.Prelude.{◌-◌, Bool, List, [], ◌∷◌, ◌++◌, length, Some, None}
use Rattle.mv_syntax.specs.Bits.{u_bits, ue_bits, se_bits}
use Rattle.mv_syntax.specs.Table.{Table, u, ue, se, named, refused, checked, ◌>>=◌, when, repeat, by_rule, padded, shaped}

-- the items of a list written in turn
abbrev pub put_each : {A : Type 0} → (List A → A → List Bool → List Bool) → List A → List A → List Bool → List Bool
put_each one before [] out = out
put_each one before (v ∷ vs) out = put_each one (before ++ v ∷ []) vs (one before v out)

-- what was written with the bits of a value behind it, field by field
abbrev pub put : {A : Type 0} → Table A → A → List Bool → List Bool
put (u n) v out = out ++ u_bits n v
put ue v out = out ++ ue_bits v
put se v out = out ++ se_bits v
put (named name t) v out = put t v out
put (refused r bad t) v out = put t v out
put (checked r bad t) v out = put t v out
put (t >>= f) v out = put (f v.0) v.1 (put t v.0 out)
put (when c t) (Some v) out = put t v out
put (when c t) None out = out
put (repeat index n t) vs out = put_each (λ before v c. put (t before) v c) [] vs out
put (by_rule r t) v out = put t v out
put (padded pad t) v out = put t v out ++ pad v (length (put t v out) - length out)
put (shaped to from same t) v out = put t (from v) out
