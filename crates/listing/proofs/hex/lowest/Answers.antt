use Rattle.std.proofs.Common.{◌%◌, arith}
use Rattle.listing.proofs.hex.lowest.Goals as goal
use Rattle.listing.specs.Hex.{digit}
use Rattle.std.proofs.lemmas.List.FromFn.{get_or-map-range_with_len}

pub returns : goal.returns
returns c = get_or-map-range_with_len digit 0 16 (c.args.n % 16) (c.args.n % 16) 0 (omega arith) (omega arith)
