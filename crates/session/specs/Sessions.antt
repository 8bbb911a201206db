-- A session by what it holds.
use Rattle.session.specs.Drafts.{drafted}
use Rattle.session.specs.Held.{Held}
use Rattle.session.specs.declared.sessions.Session.{Session}

abbrev pub held : Session → Held
held s = drafted s.draft
