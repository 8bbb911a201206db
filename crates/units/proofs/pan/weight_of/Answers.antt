use Rattle.std.proofs.Common.{◌<◌, arith}
use Rattle.units.proofs.Tables.{entry, entry_bound, entry_value}
use Rattle.units.proofs.pan.weight_of.Goals as goal

pub returns : goal.returns
returns c =
    let h : c.args.position < 257 = omega arith in
    record { rule = search entry; value = search entry_value; bound = search entry_bound }
