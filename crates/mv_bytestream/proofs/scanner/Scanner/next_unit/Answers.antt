use Rattle.std.proofs.Common.{◌≡◌, Some, refl, sym, ap, ◌∙◌, subst}
use Rattle.mv_bytestream.specs.Scan.{Scan, StandsFor, handed_out}
use Rattle.mv_bytestream.specs.Stages.{scan_of}
use Rattle.mv_bytestream.proofs.Closes.{handing-stands}
use Rattle.mv_bytestream.proofs.scanner.Scanner.next_unit.Goals as goal

pub returns : goal.returns
returns c =
    let handed : scan_of c.hand_out.new.self ≡ handed_out c.args.self.now = c.hand_out.ensures.handed ∙ ap handed_out c.self.view_is in (
      (refl, λ _. tt, (handed, λ s h. subst (λ (scan : Scan). StandsFor scan s) (sym handed) (handing-stands c.args.self.now s h))),
      record {
        found =
            ap (λ bytes. Some (record { place = c.hand_out.new.self.place; bytes = bytes })) c.deref.ensures.value
            ∙ sym c.if-not-hand_out.ensures.waiting
            ∙ ap (λ (scan : Scan). scan.waiting) c.self.view_is;
        after_borrow = tt;
      },
    )
