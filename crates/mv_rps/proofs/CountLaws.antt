-- The count of a picture by what is asked of it.
use Rattle.std.proofs.Common.{◌≡◌, Bool, true, false, cond, sym, ap, ◌∙◌, refl}
use Rattle.std.specs.Prelude.{◌||◌, None, option_map}
use Rattle.mv_pictures.specs.Facts.{Fact}
use Rattle.mv_pictures.specs.SliceFields.{max_lsb}
use Rattle.mv_pictures.specs.Judged.{is_base}
use Rattle.mv_pictures.specs.Look.{Look}
use Rattle.mv_pictures.specs.Starts.{is_start, is_decoded}
use Rattle.mv_pictures.specs.Counts.{anchor, count, lsb, nearest, start_count}
use Rattle.mv_rps.specs.Asked.{count_of}
use Rattle.mv_rps.specs.Asked.{start_count as told_start}
use Rattle.mv_rps.specs.Standing.{asked_of}

other : (b : Bool) → (b || true) ≡ true
other true = refl
other false = refl

counted_where : (l : Look) (p : Fact) → (is_decoded l p || is_base p) ≡ true → count_of (anchor l) (asked_of l p) ≡ count l p
unfolding count start_count
counted_where l p h =
    sym (ap (λ b. cond (is_start l p) (start_count l p) (cond b (option_map (nearest (max_lsb p) (lsb p)) (anchor l)) None)) h)

pub counted_decoded : (l : Look) (p : Fact) → is_decoded l p ≡ true → count_of (anchor l) (asked_of l p) ≡ count l p
counted_decoded l p h = counted_where l p (ap (λ b. b || is_base p) h)

pub counted_base : (l : Look) (p : Fact) → is_base p ≡ true → count_of (anchor l) (asked_of l p) ≡ count l p
counted_base l p h = counted_where l p (ap (λ b. is_decoded l p || b) h ∙ other (is_decoded l p))

pub counted_start : (l : Look) (p : Fact) → is_start l p ≡ true → count_of (anchor l) (asked_of l p) ≡ count l p
unfolding count start_count
counted_start l p h =
    ap (λ b. cond b (told_start (asked_of l p)) (option_map (nearest (max_lsb p) (lsb p)) (anchor l))) h
    ∙ sym (ap (λ b. cond b (start_count l p) (cond (is_decoded l p || is_base p) (option_map (nearest (max_lsb p) (lsb p)) (anchor l)) None)) h)
