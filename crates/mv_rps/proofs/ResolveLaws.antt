-- What the steps of the search for matches give is what the definitions say of the set.
use Rattle.std.proofs.Common.{◌≡◌, ℕ, Bool, true, false, cond, List, [], ◌∷◌, map, Option, Some, None, refl, sym, ap, ap₂, ◌∙◌}
use Rattle.std.specs.Prelude.{◌&&◌, is_none, option_map, if◌then◌else◌}
use Rattle.std.specs.List.{cons_option, enumerate_from, filter, filter_map, list_any}
use Rattle.mv_layers.proofs.AnyLaws.{any_map}
use Rattle.mv_dpb.specs.declared.held.Held.{Held}
use Rattle.mv_pictures.specs.SliceFields.{Entry}
use Rattle.mv_rps.specs.declared.entries.CodedEntry.{CodedEntry}
use Rattle.mv_rps.specs.declared.resolving.Match.{Match}
use Rattle.mv_rps.specs.declared.resolving.Origin.{Origin}
use Rattle.mv_rps.specs.declared.resolving.Part.{Part}
use Rattle.mv_rps.specs.RefSet.{entry_of}
use Rattle.mv_rps.specs.Resolving.{index_of, is_missing, kept_at, kept_of, long_place, long_places, match_place, match_places, part}
use Rattle.mv_rps.specs.Matched.{set_with, in_part, index_in, is_lost, keep_of, long_place_at, with_match}

pub filter_map_map : {A B C : Type 0} (h : B → Option C) (g : A → B) (xs : List A) → filter_map h (map g xs) ≡ filter_map (λ x. h (g x)) xs
filter_map_map h g [] = refl
filter_map_map h g (x ∷ xs) = ap (cons_option (h (g x))) (filter_map_map h g xs)

-- of those that pass a test what f gives, and of this what g does
filter_map_where : {A B C : Type 0} (t : A → Bool) (f : A → Option B) (g : B → C) (xs : List A) → filter_map (λ x. cond (t x) (option_map g (f x)) None) xs ≡ map g (filter_map f (filter t xs))
filter_map_where t f g [] = refl
filter_map_where t f g (x ∷ xs) = go (t x) (f x) refl (filter_map_where t f g xs)
  where
    go : (b : Bool) (o : Option _) → f x ≡ o → filter_map (λ x. cond (t x) (option_map g (f x)) None) xs ≡ map g (filter_map f (filter t xs))
        → cons_option (cond b (option_map g o) None) (filter_map (λ x. cond (t x) (option_map g (f x)) None) xs) ≡ map g (filter_map f (cond b (x ∷ filter t xs) (filter t xs)))
    go false o e rest = rest
    go true None e rest = rest ∙ sym (ap (λ o. map g (cons_option o (filter_map f (filter t xs)))) e)
    go true (Some y) e rest = ap (λ l. g y ∷ l) rest ∙ sym (ap (λ o. map g (cons_option o (filter_map f (filter t xs)))) e)

pub longs_are : (o : Origin) (entries : List CodedEntry) (held : List Held) → filter_map (long_place_at o held) entries ≡ long_places (set_with o entries) held
unfolding long_places
longs_are o entries held = sym (filter_map_map (long_place (set_with o entries) held) entry_of entries)

-- the entries with their matches
abbrev pub matched_all : Origin → List CodedEntry → List Held → List Match
matched_all o entries held = map (with_match o (long_places (set_with o entries) held) held) entries

pub missing_is : (o : Origin) (entries : List CodedEntry) (held : List Held) → list_any is_lost (matched_all o entries held) ≡ is_missing (set_with o entries) held
unfolding is_missing match_place
missing_is o entries held =
    any_map (with_match o (long_places (set_with o entries) held) held) is_lost entries
    ∙ sym (any_map entry_of (λ (e : Entry). e.used && is_none (match_place (set_with o entries) held e)) entries)

matches_are : (o : Origin) (entries : List CodedEntry) (held : List Held) → filter_map (λ (m : Match). m.place) (matched_all o entries held) ≡ match_places (set_with o entries) held
unfolding match_places match_place
matches_are o entries held =
    filter_map_map (λ (m : Match). m.place) (with_match o (long_places (set_with o entries) held) held) entries
    ∙ sym (filter_map_map (match_place (set_with o entries) held) entry_of entries)

pub keep_is : (o : Origin) (entries : List CodedEntry) (held : List Held) → keep_of (long_places (set_with o entries) held) (matched_all o entries held) held ≡ kept_of (set_with o entries) held
unfolding kept_of
keep_is o entries held =
    ap (λ places. filter_map (kept_at places (long_places (set_with o entries) held)) (enumerate_from 0 held)) (matches_are o entries held)

pub part_is : (p : Part) (o : Origin) (entries : List CodedEntry) (held : List Held) → filter_map (index_in p (kept_of (set_with o entries) held)) (matched_all o entries held) ≡ part (in_part p) (set_with o entries) held
unfolding part match_place
part_is p o entries held =
    let indexed : Entry → Option ℕ =
    λ (e : Entry). if e.used && in_part p e.aim then option_map (index_of (kept_of (set_with o entries) held)) (match_place (set_with o entries) held e) else None in
    filter_map_map (index_in p (kept_of (set_with o entries) held)) (with_match o (long_places (set_with o entries) held) held) entries
    ∙ sym (filter_map_map indexed entry_of entries)
    ∙ filter_map_where (λ (e : Entry). e.used && in_part p e.aim) (match_place (set_with o entries) held) (index_of (kept_of (set_with o entries) held)) (map entry_of entries)

-- the same of lists that are equal to those
pub kept_by : (o : Origin) (entries : List CodedEntry) (held : List Held) (longs : List ℕ) (matches : List Match)
    → longs ≡ long_places (set_with o entries) held → matches ≡ matched_all o entries held → keep_of longs matches held ≡ kept_of (set_with o entries) held
kept_by o entries held longs matches l m = ap₂ (λ l m. keep_of l m held) l m ∙ keep_is o entries held

pub part_by : (p : Part) (o : Origin) (entries : List CodedEntry) (held : List Held) (longs : List ℕ) (matches : List Match)
    → longs ≡ long_places (set_with o entries) held → matches ≡ matched_all o entries held
    → filter_map (index_in p (keep_of longs matches held)) matches ≡ part (in_part p) (set_with o entries) held
part_by p o entries held longs matches l m =
    ap₂ (λ k m. filter_map (index_in p k) m) (kept_by o entries held longs matches l m) m ∙ part_is p o entries held

pub missing_by : (o : Origin) (entries : List CodedEntry) (held : List Held) (matches : List Match)
    → matches ≡ matched_all o entries held → list_any is_lost matches ≡ is_missing (set_with o entries) held
missing_by o entries held matches m = ap (list_any is_lost) m ∙ missing_is o entries held

pub matched_by : (o : Origin) (entries : List CodedEntry) (held : List Held) (longs : List ℕ) (matches : List Match)
    → longs ≡ filter_map (long_place_at o held) entries → matches ≡ map (with_match o longs held) entries → matches ≡ matched_all o entries held
matched_by o entries held longs matches l m = m ∙ ap (λ l. map (with_match o l held) entries) (l ∙ longs_are o entries held)
