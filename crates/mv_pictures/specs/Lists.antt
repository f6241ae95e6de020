-- The reference picture lists of a slice segment (8.3.4, F.8.3.4): places in the list of its picture's references.
use Rattle.std.specs.Prelude.{ℕ, ◌%◌, ◌&&◌, List, [], ◌∷◌, map, length, get_or, Option, Some, None, option_map, if◌then◌else◌}
use Rattle.std.specs.List.{enumerate_from, filter, find, flat_map, range_with_len}
use Rattle.mv_syntax.specs.Words.{◌otherwise◌}
use Rattle.mv_pictures.specs.Facts.{Fact}
use Rattle.mv_pictures.specs.SliceFields.{is_full, active_l0, active_l1, list_entry_l0, list_entry_l1}
use Rattle.mv_pictures.specs.Terms.{Tag, Lists, same_tag, before, after, long, inter_zero, inter_one}
use Rattle.mv_pictures.specs.Judged.{Judged, au, is_slice, is_picture, in_au}
use Rattle.mv_pictures.specs.Look.{Look}
use Rattle.mv_pictures.specs.References.{tags}

-- the places of the references with a tag
unfoldable pub places : List Tag → Tag → List ℕ
places all tag = map (λ (r : ℕ × Tag). r.0) (filter (λ (r : ℕ × Tag). same_tag tag r.1) (enumerate_from 0 all))

-- the order of the parts in RefPicListTemp0 and RefPicListTemp1
abbrev pub order0 : List Tag
order0 = before ∷ inter_zero ∷ after ∷ long ∷ inter_one ∷ []

abbrev pub order1 : List Tag
order1 = after ∷ inter_one ∷ before ∷ long ∷ inter_zero ∷ []

unfoldable pub all_places : List Tag → List Tag → List ℕ
all_places order all = flat_map (places all) order

-- entry i of an initial list, which repeats these places
abbrev pub entry : List ℕ → ℕ → ℕ
entry initial i = get_or initial (i % length initial) 0

-- a list: with the modification the initial entry at each list_entry, and else the first of them
unfoldable pub list : List ℕ → ℕ → Option (List ℕ) → List ℕ
list [] active list_entry = []
list (place ∷ more) active (Some list_entry) = map (entry (place ∷ more)) list_entry
list (place ∷ more) active None = map (entry (place ∷ more)) (range_with_len 0 active)

-- the lists of a segment with a full header, by the parts of its picture's references
unfoldable pub full_lists : List Tag → Fact → Lists
full_lists all p = record {
  list0 = list (all_places order0 all) (active_l0 p) (list_entry_l0 p);
  list1 = list (all_places order1 all) (active_l1 p) (list_entry_l1 p);
}

abbrev pub no_lists : Lists
no_lists = record { list0 = []; list1 = [] }

-- the picture of a segment that isn't a first one, and the segment before it
abbrev pub picture_before : Look → Fact → Option Judged
picture_before l p = find (λ (d : Judged). is_picture d.fact && in_au (au p) d) l.own

abbrev pub segment_before : Look → Fact → Option Judged
segment_before l p = find (λ (d : Judged). is_slice d.fact && in_au (au p) d) l.own

-- the parts of the references of a segment's picture
unfoldable pub segment_tags : Look → Fact → List Tag
segment_tags l p =
    if is_picture p then tags l p else (option_map (λ (d : Judged). d.tags) (picture_before l p) otherwise [])

-- the lists of a segment: a dependent one has those of the segment before it
unfoldable pub lists : Look → Fact → Lists
lists l p =
    if is_full p then full_lists (segment_tags l p) p else (option_map (λ (d : Judged). d.lists) (segment_before l p) otherwise no_lists)
