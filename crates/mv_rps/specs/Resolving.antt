-- Which pictures of a buffer a reference picture set matches, and which are kept (8.3.2). Pictures are named by their places
-- in decoding order, from 0.
use Rattle.std.specs.Prelude.{ℕ, pos, int_lt, Bool, false, true, not, ◌&&◌, ◌||◌, List, map, length, reverse, Option, Some, None, is_none, option_map, nat_lt, if◌then◌else◌}
use Rattle.std.specs.List.{enumerate_from, filter, filter_map, find, list_any}
use Rattle.mv_rules.specs.declared.rule.Rule.{Rule}
use Rattle.mv_rules.specs.declared.rule.Rule.TheVariants.{MissingRef}
use Rattle.mv_layers.specs.OutputLayers.{is_among}
use Rattle.mv_dpb.specs.declared.held.Held.{Held}
use Rattle.mv_dpb.specs.declared.held.Keep.{Keep}
use Rattle.mv_pictures.specs.SliceFields.{Aim, Entry, at_delta, at_lsb, at_cycle}
use Rattle.mv_pictures.specs.Held.{fits_long, fits_short}
use Rattle.mv_rps.specs.RefSet.{RefSetValue}

-- the pictures with their places, the last decoded first
abbrev pub latest : List Held → List (ℕ × Held)
latest held = reverse (enumerate_from 0 held)

-- ---- Matches

-- a picture fits a long-term entry
abbrev pub fits_as_long : RefSetValue → Entry → Held → Bool
fits_as_long set e h = fits_long set.max_lsb set.current e.aim (Some h.count)

-- the place of the picture that a long-term entry matches: the last decoded that fits
abbrev pub long_place : RefSetValue → List Held → Entry → Option ℕ
long_place set held e = option_map (λ (p : ℕ × Held). p.0) (find (λ (p : ℕ × Held). fits_as_long set e p.1) (latest held))

unfoldable pub long_places : RefSetValue → List Held → List ℕ
long_places set held = filter_map (long_place set held) set.entries

-- a short-term entry takes no picture that is marked for long-term reference, or that a long-term entry matches
abbrev pub is_free : List ℕ → ℕ × Held → Bool
is_free longs p = not p.1.long && not (is_among longs p.0)

abbrev pub fits : RefSetValue → List ℕ → Entry → ℕ × Held → Bool
fits set longs e p = fits_as_long set e p.1 || (fits_short set.current e.aim (Some p.1.count) && is_free longs p)

-- the place of the picture that an entry matches: the last decoded that fits
unfoldable pub match_place : RefSetValue → List Held → Entry → Option ℕ
match_place set held e = option_map (λ (p : ℕ × Held). p.0) (find (fits set (long_places set held) e) (latest held))

unfoldable pub match_places : RefSetValue → List Held → List ℕ
match_places set held = filter_map (match_place set held) set.entries

-- an entry that the picture uses has no match
unfoldable pub is_missing : RefSetValue → List Held → Bool
is_missing set held = list_any (λ (e : Entry). e.used && is_none (match_place set held e)) set.entries

-- the rule that refuses such a set
abbrev pub missing : RefSetValue → List Held → Option Rule
missing set held = if is_missing set held then Some MissingRef else None

-- ---- What is kept

-- a picture that an entry matches is kept; one that a long-term entry matches is marked for good
abbrev pub kept_at : List ℕ → List ℕ → ℕ × Held → Option Keep
kept_at matched longs p = if is_among matched p.0 then Some (record { place = p.0; long = p.1.long || is_among longs p.0 }) else None

unfoldable pub kept_of : RefSetValue → List Held → List Keep
kept_of set held = filter_map (kept_at (match_places set held) (long_places set held)) (enumerate_from 0 held)

-- ---- The parts of the set: of the pictures that are used, where they stand among those that are kept

-- where a place stands among those that are kept: as many stand before it
abbrev pub index_of : List Keep → ℕ → ℕ
index_of keep place = length (filter (λ (k : Keep). nat_lt k.place place) keep)

abbrev pub is_before : Aim → Bool
is_before (at_delta delta) = int_lt delta (pos 0)
is_before (at_lsb bits) = false
is_before (at_cycle bits cycle) = false

abbrev pub is_after : Aim → Bool
is_after (at_delta delta) = not (int_lt delta (pos 0))
is_after (at_lsb bits) = false
is_after (at_cycle bits cycle) = false

abbrev pub is_long : Aim → Bool
is_long (at_delta delta) = false
is_long (at_lsb bits) = true
is_long (at_cycle bits cycle) = true

unfoldable pub part : (Aim → Bool) → RefSetValue → List Held → List ℕ
part in_part set held =
    map (index_of (kept_of set held)) (filter_map (match_place set held) (filter (λ (e : Entry). e.used && in_part e.aim) set.entries))
