-- What is looked up in a table of sets, and how it goes on.
use Rattle.std.specs.Prelude.{ℕ, ◌+◌, ◌*◌, List, [], ◌∷◌, Option, Some, None, option_and_then, slice_get, slice_set, nat_lt, if◌then◌else◌, map, replicate}
use Rattle.mv_sets.specs.Numbered.{Numbered, TableValue}

-- the place of the entry of a layer and an id
abbrev pub slot_of : ℕ → ℕ → ℕ → Option ℕ
slot_of ids layer id = if nat_lt id ids then Some (layer * ids + id) else None

-- the entry at a place, where there is one
abbrev pub entry_at : {A : Type 0} → List (Option A) → ℕ → Option A
entry_at entries slot = option_and_then (λ entry. entry) (slice_get entries slot)

-- the set of a layer and an id
abbrev pub found : {A : Type 0} → TableValue A → ℕ → ℕ → Option (Numbered A)
found t id layer = option_and_then (entry_at t.entries) (slot_of t.ids layer id)

-- whichever has the greater number
abbrev pub later : {A : Type 0} → Option (Numbered A) → Option (Numbered A) → Option (Numbered A)
later None b = b
later (Some a) None = Some a
later (Some a) (Some b) = Some (if nat_lt a.number b.number then b else a)

-- the one with the greatest number, of one and those of some layers
unfoldable pub latest_from : {A : Type 0} → (ℕ → Option (Numbered A)) → Option (Numbered A) → List ℕ → Option (Numbered A)
latest_from at best [] = best
latest_from at best (layer ∷ layers) = latest_from at (later best (at layer)) layers

abbrev pub latest : {A : Type 0} → TableValue A → ℕ → List ℕ → Option (Numbered A)
latest t id layers = latest_from (found t id) None layers

-- the table with a set more
abbrev pub with_set : {A : Type 0} → TableValue A → ℕ → ℕ → A → TableValue A
with_set t layer id set = record {
  ids = t.ids;
  entries = slice_set t.entries (layer * t.ids + id) (Some (record { number = t.count + 1; set = set }));
  count = t.count + 1;
}

-- a table without sets
abbrev pub no_sets : {A : Type 0} → ℕ → TableValue A
no_sets ids = record { ids = ids; entries = replicate (64 * ids) None; count = 0 }

abbrev pub emptied : {A : Type 0} → TableValue A → TableValue A
emptied t = record { ids = t.ids; entries = map (λ entry. None) t.entries; count = 0 }
