-- What the steps of the search for matches answer, by the entries as they are kept (8.3.2).
use Rattle.std.specs.Prelude.{ℕ, Bool, false, ◌&&◌, List, [], map, Option, None, is_none, option_map, if◌then◌else◌}
use Rattle.std.specs.List.{enumerate_from, filter_map, find}
use Rattle.mv_dpb.specs.declared.held.Held.{Held}
use Rattle.mv_dpb.specs.declared.held.Keep.{Keep}
use Rattle.mv_pictures.specs.SliceFields.{Aim, Entry}
use Rattle.mv_rps.specs.declared.entries.CodedAim.{CodedAim}
use Rattle.mv_rps.specs.declared.entries.CodedEntry.{CodedEntry}
use Rattle.mv_rps.specs.declared.resolving.Match.{Match}
use Rattle.mv_rps.specs.declared.resolving.Origin.{Origin}
use Rattle.mv_rps.specs.declared.resolving.Part.{Part}
use Rattle.mv_rps.specs.declared.resolving.Part.TheVariants.{Before, After, Long}
use Rattle.mv_rps.specs.RefSet.{RefSetValue, aim_of, entry_of}
use Rattle.mv_rps.specs.Resolving.{fits, index_of, is_after, is_before, is_long, kept_at, latest, long_place}

-- a set, and one without entries
abbrev pub set_with : Origin → List CodedEntry → RefSetValue
set_with o entries = record { entries = map entry_of entries; max_lsb = o.max_lsb; current = o.current }

abbrev pub set_of : Origin → RefSetValue
set_of o = record { entries = []; max_lsb = o.max_lsb; current = o.current }

abbrev pub entry_to : CodedAim → Entry
entry_to aim = record { aim = aim_of aim; used = false }

-- the place of the picture that an entry matches, where long-term entries match those at the places `longs`
abbrev pub place_of : Origin → List ℕ → List Held → CodedAim → Option ℕ
place_of o longs held aim = option_map (λ (p : ℕ × Held). p.0) (find (fits (set_of o) longs (entry_to aim)) (latest held))

abbrev pub long_place_of : Origin → List Held → CodedAim → Option ℕ
long_place_of o held aim = long_place (set_of o) held (entry_to aim)

abbrev pub long_place_at : Origin → List Held → CodedEntry → Option ℕ
long_place_at o held e = long_place_of o held e.aim

abbrev pub with_match : Origin → List ℕ → List Held → CodedEntry → Match
with_match o longs held e = record { entry = e; place = place_of o longs held e.aim }

-- an entry that is used has no match
abbrev pub is_lost : Match → Bool
is_lost m = m.entry.used && is_none m.place

abbrev pub in_part : Part → Aim → Bool
in_part Before = is_before
in_part After = is_after
in_part Long = is_long

-- the index among the kept pictures of the match of an entry that is used and in a part
abbrev pub index_in : Part → List Keep → Match → Option ℕ
index_in part keep m = if m.entry.used && in_part part (aim_of m.entry.aim) then option_map (index_of keep) m.place else None

-- what is kept by the matches of entries
abbrev pub keep_of : List ℕ → List Match → List Held → List Keep
keep_of longs matches held = filter_map (kept_at (filter_map (λ (m : Match). m.place) matches) longs) (enumerate_from 0 held)
