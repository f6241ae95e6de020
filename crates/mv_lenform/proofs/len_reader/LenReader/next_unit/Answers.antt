use Rattle.std.proofs.Common.{◌≡◌, ◌-◌, length, Some, refl, sym, ap, ◌∙◌, subst, arith}
use Rattle.mv_lenform.specs.LenScan.{LenScan, StandsFor, handed_out}
use Rattle.mv_lenform.specs.Stages.{scan_of}
use Rattle.mv_lenform.proofs.Feeding.{handing-stands}
use Rattle.mv_lenform.proofs.len_reader.LenReader.next_unit.Goals as goal

pub returns : goal.returns
returns c =
    let handed : scan_of c.hand_out.new.self ≡ handed_out c.args.self.now = c.hand_out.ensures.handed ∙ ap handed_out c.self.view_is in
    let place : c.saturating_sub.result ≡ c.hand_out.new.self.fed - length c.hand_out.new.self.unit.items = omega (arith, c.saturating_sub.ensures, c.len.ensures, c.hand_out.new.self.unit.ok.0) in (
      (refl, λ _. tt, (handed, λ s h. subst (λ (scan : LenScan). StandsFor scan s) (sym handed) (handing-stands c.args.self.now s h))),
      record {
        found =
            ap (λ n. Some (record { place = n; bytes = c.deref.result.now })) place
            ∙ ap (λ bytes. Some (record { place = c.hand_out.new.self.fed - length c.hand_out.new.self.unit.items; bytes = bytes })) c.deref.ensures.value
            ∙ sym c.if-not-hand_out.ensures.waiting
            ∙ ap (λ (scan : LenScan). scan.waiting) c.self.view_is;
        after_borrow = tt;
      },
    )
