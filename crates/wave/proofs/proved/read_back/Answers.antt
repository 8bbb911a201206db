use Rattle.std.proofs.Common.{refl}
use Rattle.wave.proofs.Reading.{files_read_back, round_trip}
use Rattle.wave.proofs.proved.read_back.Goals as goal

pub returns : goal.returns
returns c = record { answer = refl; files_read_back = files_read_back; round_trip = round_trip }
