-- Laws of reading: the longest front, one spelling, and units that are framed and packed again.
use Rattle.std.proofs.Common.{◌≡◌, ℕ, List, [], ◌∷◌, ◌++◌, All, map, ap, sym, ◌∙◌}
use Rattle.std.proofs.lemmas.List.Elements.{All-nil, All-cons, All-head, All-tail}
use Rattle.mv_units.specs.Framing.{IsFramable, frame}
use Rattle.mv_units.specs.Units.{NalUnit, units}
use Rattle.mv_units.proofs.Framed.{units-frame}
use Rattle.mv_prefixed.specs.LenForm.{IsPlain, lenform}
use Rattle.mv_prefixed.specs.Reading.{Reading, read}
use Rattle.mv_prefixed.proofs.ReadLaws.{read-form, read-lenform}

pub longest : (s rest : List ℕ) (us : List (List ℕ)) → All IsPlain us → s ≡ lenform us ++ rest → (read s).units ≡ us ++ (read rest).units
longest s rest us plain parts = ap (λ v. (read v).units) parts ∙ ap (λ (r : Reading). r.units) (read-lenform us rest plain)

pub one-spelling : (us vs : List (List ℕ)) → All IsPlain us → All IsPlain vs → lenform us ≡ lenform vs → us ≡ vs
one-spelling us vs first second same =
    sym (ap (λ (r : Reading). r.units) (read-form us first)) ∙ ap (λ v. (read v).units) same ∙ ap (λ (r : Reading). r.units) (read-form vs second)

framable : (us : List (List ℕ)) → All IsPlain us → All IsFramable us
framable [] plain = All-nil IsFramable
framable (u ∷ us) plain =
    let is = All-head IsPlain u us plain in
    All-cons IsFramable u us (record { head = is.head; clean = is.clean; ends = is.ends }) (framable us (All-tail IsPlain u us plain))

pub units-back : (us : List (List ℕ)) → All IsPlain us → map (λ (u : NalUnit). u.bytes) (units (frame us)) ≡ us
units-back us plain = units-frame us (framable us plain)
