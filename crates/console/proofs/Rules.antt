-- A session that has our patch keeps the rules.
use Rattle.patch.proofs.Assembling.{some_node}
use Rattle.patch.specs.Ours.{OurPatch}
use Rattle.patch.specs.declared.patches.Patch.{Patch}
use Rattle.frames.specs.declared.samples.Frame.{Frame}
use Rattle.session.proofs.Rules.{full}
use Rattle.session.specs.Plan.{KeepsRules}
use Rattle.session.specs.Sessions.{held}
use Rattle.session.specs.declared.sessions.Session.{Session}
use Rattle.std.proofs.Common.{List}
use Rattle.voices.specs.Meaning.{Meaning}

pub rules_of : (s : Session) (rack : List (Meaning Frame)) (r : Patch) → OurPatch (held s).plan rack r → KeepsRules (held s).plan
rules_of s rack r ours = (full s (some_node (held s).plan rack ours.clear)).keeps
