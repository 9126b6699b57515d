use Rattle.cb_wire.proofs.Introducing.{version_read, version_text_spells}
use Rattle.cb_wire.proofs.RoundTrips.{version_only}
use Rattle.cb_wire.proofs.payload_laws.versions_are_read_as_spelled.Goals as goal

pub returns-clause-back : goal.returns-clause-back
returns-clause-back c = version_read

pub returns-clause-only : goal.returns-clause-only
returns-clause-only c = version_only

pub returns-clause-text : goal.returns-clause-text
returns-clause-text c = version_text_spells
