-- Which pictures of its layer a picture finds held as references, and which of them its entries match (8.3.2).
use Rattle.std.specs.Prelude.{ℕ, ◌*◌, ℤ, pos, ◌+ℤ◌, ◌-ℤ◌, Bool, false, not, ◌&&◌, ◌||◌, List, [], ◌∷◌, map, Option, option_map, if◌then◌else◌}
use Rattle.std.specs.List.{filter_map, find, list_all, list_any}
use Rattle.std.specs.Ordering.{int_eq}
use Rattle.mv_syntax.specs.Words.{◌otherwise◌}
use Rattle.mv_layers.specs.OutputLayers.{is_among}
use Rattle.mv_pictures.specs.Facts.{Fact}
use Rattle.mv_pictures.specs.SliceFields.{Aim, Entry, at_delta, at_lsb, at_cycle, entries, max_lsb}
use Rattle.mv_pictures.specs.Judged.{Judged, au}
use Rattle.mv_pictures.specs.Look.{Look}
use Rattle.mv_pictures.specs.Starts.{is_start, is_decoded}
use Rattle.mv_pictures.specs.Counts.{residue, count}

-- ---- Held pictures

-- a picture that is held, and whether it is marked as used for long-term reference
pub record Held : Type 0 where
  pub it : Judged
  pub long : Bool

-- a later unit of the layer leaves a picture held: it isn't a decoded picture, or it is no start and names it
abbrev pub spares : Judged → Judged → Bool
spares d later = not later.decoded || (not later.start && is_among later.names (au d.fact))

-- a later unit marks it for long-term reference: a long-term entry of it matches it
abbrev pub marks : Judged → Judged → Bool
marks d later = is_among later.longs (au d.fact)

-- of the units of a layer those decoded pictures that are held behind all of them, the latest first; `behind` are the units
-- that follow them
unfoldable pub held_behind : List Judged → List Judged → List Held
held_behind behind [] = []
held_behind behind (d ∷ earlier) =
    if d.decoded && list_all (spares d) behind
    then record { it = d; long = list_any (marks d) behind } ∷ held_behind (d ∷ behind) earlier
    else held_behind (d ∷ behind) earlier

-- a start finds none
unfoldable pub held : Look → Fact → List Held
held l p = if is_start l p then [] else held_behind [] l.own

-- ---- Entries

-- a picture with this count, if it has one, has that count
abbrev pub has_count : ℤ → Option ℤ → Bool
has_count wanted c = option_map (int_eq wanted) c otherwise false

abbrev pub has_residue : ℕ → ℕ → Option ℤ → Bool
has_residue max bits c = option_map (λ n. int_eq (residue max n) (pos bits)) c otherwise false

-- pocLt of a long-term entry with its cycle (8.3.2): PicOrderCntVal less so many MaxPicOrderCntLsb, with these low bits
unfoldable pub full_count : ℕ → ℤ → ℕ → ℕ → ℤ
full_count max current bits cycle = pos bits +ℤ current -ℤ pos (cycle * max) -ℤ residue max current

-- a picture with this count fits a long-term entry of a picture with the count `current`
unfoldable pub fits_long : ℕ → ℤ → Aim → Option ℤ → Bool
fits_long max current (at_delta delta) c = false
fits_long max current (at_lsb bits) c = has_residue max bits c
fits_long max current (at_cycle bits cycle) c = has_count (full_count max current bits cycle) c

-- the same of a short-term entry
unfoldable pub fits_short : ℤ → Aim → Option ℤ → Bool
fits_short current (at_delta delta) c = has_count (current +ℤ delta) c
fits_short current (at_lsb bits) c = false
fits_short current (at_cycle bits cycle) c = false

-- ---- Matches

-- PicOrderCntVal of the picture itself
abbrev pub current : Look → Fact → ℤ
current l p = count l p otherwise pos 0

-- the held picture that a long-term entry matches: the latest that fits
unfoldable pub long_match : Look → Fact → Entry → Option Held
long_match l p e = find (λ (h : Held). fits_long (max_lsb p) (current l p) e.aim h.it.count) (held l p)

-- the access units of those that long-term entries match
unfoldable pub long_names : Look → Fact → List ℕ
long_names l p = map (λ (h : Held). au h.it.fact) (filter_map (long_match l p) (entries p))

-- a short-term entry takes no picture that is marked for long-term reference, or that a long-term entry matches
unfoldable pub fits : Look → Fact → Entry → Held → Bool
fits l p e h =
    fits_long (max_lsb p) (current l p) e.aim h.it.count
    || (fits_short (current l p) e.aim h.it.count && not h.long && not (is_among (long_names l p) (au h.it.fact)))

-- the held picture that an entry matches: the latest that fits
unfoldable pub match_of : Look → Fact → Entry → Option Held
match_of l p e = find (fits l p e) (held l p)

-- only a decoded picture names others: those that its entries match, and of them those that its long-term entries do
unfoldable pub names : Look → Fact → List ℕ
names l p = if is_decoded l p then map (λ (h : Held). au h.it.fact) (filter_map (match_of l p) (entries p)) else []

unfoldable pub longs : Look → Fact → List ℕ
longs l p = if is_decoded l p then long_names l p else []
