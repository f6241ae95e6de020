-- What is asked of a picture of a stream for its count, and what a buffer tells of those that it finds held (8.3.1, 8.3.2).
use Rattle.std.specs.Prelude.{◌≡◌, ◌<◌, ℕ, pos, true, ◌||◌, List, All, length, get_or, map, reverse, Option, Some, None, is_some, option_and_then, option_map, slice_get, if◌then◌else◌}
use Rattle.mv_syntax.specs.Words.{◌otherwise◌}
use Rattle.mv_layers.specs.OutputLayers.{is_among}
use Rattle.mv_dpb.specs.declared.held.Held.{Held as InBuffer}
use Rattle.mv_dpb.specs.declared.held.Keep.{Keep}
use Rattle.mv_pictures.specs.AccessUnits.{tid}
use Rattle.mv_pictures.specs.Facts.{Fact}
use Rattle.mv_pictures.specs.SliceFields.{coded_lsb, entries, max_lsb}
use Rattle.mv_pictures.specs.Judged.{au, layer, kind}
use Rattle.mv_pictures.specs.Look.{Look}
use Rattle.mv_pictures.specs.Starts.{is_start}
use Rattle.mv_pictures.specs.Counts.{base_count}
use Rattle.mv_pictures.specs.Held.{Held, current}
use Rattle.mv_rps.specs.RefSet.{RefSetValue}
use Rattle.mv_rps.specs.declared.counts.PocAsk.{PocAsk}

abbrev pub asked_of : Look → Fact → PocAsk
asked_of l p = record {
  layer = layer p;
  kind = kind p;
  tid = tid p.placed;
  start = is_start l p;
  lsb = coded_lsb p;
  max_lsb = max_lsb p;
  base = base_count l p;
}

-- what is told of a picture that is held, and of those that a picture finds held, in decoding order
abbrev pub told_of : Held → InBuffer
told_of h = record { count = h.it.count otherwise pos 0; au = au h.it.fact; long = h.long }

abbrev pub told : List Held → List InBuffer
told held = map told_of (reverse held)

-- the set of a picture
abbrev pub set_for : Look → Fact → RefSetValue
set_for l p = record { entries = entries p; max_lsb = max_lsb p; current = current l p }

-- each picture that is held has a count
abbrev pub AreCounted : List Held → Type 0
AreCounted held = All (λ (h : Held). is_some h.it.count ≡ true) held

-- no two pictures of a buffer are of one access unit
abbrev pub AreApart : List InBuffer → Type 0
AreApart held = (i j : ℕ) (d : InBuffer) → i < length held → j < length held → (get_or held i d).au ≡ (get_or held j d).au → i ≡ j

-- a picture is kept whose access unit is among those that are named, and marked for good where it is among those that
-- long-term entries name
abbrev pub kept_by_name : List ℕ → List ℕ → ℕ × InBuffer → Option Keep
kept_by_name names longs p = if is_among names p.1.au then Some (record { place = p.0; long = p.1.long || is_among longs p.1.au }) else None

-- the access unit of the picture at an index among those that are kept
abbrev pub au_kept : List InBuffer → List Keep → ℕ → Option ℕ
au_kept held keep i = option_and_then (λ (k : Keep). option_map (λ (h : InBuffer). h.au) (slice_get held k.place)) (slice_get keep i)
