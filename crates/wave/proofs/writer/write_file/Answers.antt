use Rattle.session.specs.Sessions.{held}
use Rattle.std.proofs.Common.{rules}
use Rattle.wave.proofs.Reading.{file_read_back}
use Rattle.wave.proofs.writer.write_file.Goals as goal

pub returns-clause-back : goal.returns-clause-back
returns-clause-back c =
    file_read_back (held c.args.session.now) c.args.frames.now _ c.in_ok-check_frames.ensures.node c.in_ok-check_frames.ensures.few c.put_all.ensures.samples (search rules)
