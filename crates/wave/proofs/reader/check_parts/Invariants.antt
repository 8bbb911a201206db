use Rattle.wave.proofs.reader.check_parts.Given as goal
use Rattle.wave.specs.Judged.{parts_fault}
use Rattle.std.proofs.Common.{◌≡◌, drop}

abbrev pub invariant-loop-track : goal.invariant-loop-track
invariant-loop-track l = parts_fault l.rate l.bytes l.track (drop l.track l.parts) ≡ parts_fault l.rate l.bytes 0 l.parts
