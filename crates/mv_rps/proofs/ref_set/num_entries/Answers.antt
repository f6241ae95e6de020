use Rattle.std.proofs.Common.{◌≡◌, ◌∙◌, ◌≤◌, length, sym, ap, arith}
use Rattle.std.proofs.lemmas.List.{length-map}
use Rattle.mv_rps.specs.RefSet.{entries_of, entry_of}
use Rattle.mv_rps.proofs.EntryLaws.{entries_few}
use Rattle.mv_rps.proofs.ref_set.num_entries.Goals as goal

pub overflow_cast-result : goal.overflow_cast-result
overflow_cast-result c =
    let few : length (entries_of c.args.ctx.now c.args.head.now) ≤ 48 = entries_few c.args.ctx.now c.args.kind c.args.head.now c.requires.fits c.requires.valid in
    let same : length c.in_ok-entries.entries.items ≡ length (entries_of c.args.ctx.now c.args.head.now) =
    sym (length-map c.in_ok-entries.entries.items entry_of) ∙ ap length c.in_ok-entries.ensures in
    omega (arith, few, same, c.len.ensures.value)
