-- The picture in the making stands for its parts so far (this project's profile). Histories have the latest first.
use Rattle.std.specs.Prelude.{◌≡◌, ℕ, ℤ, Bool, true, false, List, Option, Some, None, nat_eq, option_and_then, option_map, if◌then◌else◌}
use Rattle.std.specs.List.{find}
use Rattle.mv_syntax.specs.Words.{◌otherwise◌}
use Rattle.mv_dpb.specs.declared.shown.Shown.{Shown}
use Rattle.mv_pictures.specs.Decoding.{decoded_of}
use Rattle.mv_pictures.specs.Judged.{Judged, au, is_picture}
use Rattle.mv_pictures.specs.Output.{is_output}
use Rattle.mv_rebuild.specs.Parts.{Making}
use Rattle.mv_rebuild.specs.Value.{shown_of}
use Rattle.mv_walk_values.specs.Values.{parts_of, term_of}

-- a picture in the making: the work on it so far, what is shown of it where it is put out, the number of its access unit, and
-- whether the output layer set that is asked for puts it out
pub record MadeValue (W : Type 0) : Type 0 where
  pub work : W
  pub shown : Shown
  pub au : ℕ
  pub output : Bool

-- its count and its access unit, where it is of layer n
abbrev pub made_of : {W : Type 0} → ℕ → MadeValue W → Option (ℤ × ℕ)
made_of n m = if nat_eq m.shown.layer n then Some (m.shown.count, m.au) else None

abbrev pub made_in : {W : Type 0} → Option (MadeValue W) → ℕ → Option (ℤ × ℕ)
made_in making n = option_and_then (made_of n) making

-- one that is put out is in the making
abbrev pub is_output_made : {W : Type 0} → Option (MadeValue W) → Bool
is_output_made making = option_map (λ m. m.output) making otherwise false

-- it is the latest picture of a history, which is decoded: the work stands for its parts so far
pub record IsInMaking {W P : Type 0} (meaning : Making W P) (o : ℕ) (past : List Judged) (m : MadeValue W) : Type 0 where
  pub it : Judged
  pub latest : find (λ (d : Judged). is_picture d.fact) past ≡ Some it
  pub decoded : it.decoded ≡ true
  pub work_stands : meaning.stands m.work (parts_of meaning.picture (term_of past it))
  pub shown_is : m.shown ≡ shown_of (decoded_of past it)
  pub au_is : m.au ≡ au it.fact
  pub output_is : m.output ≡ is_output o it
