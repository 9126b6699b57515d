use Rattle.cb_wire.proofs.RoundTrips.{relay_trip, request_trip}
use Rattle.cb_wire.proofs.payload_laws.requests_are_read_as_written.Goals as goal

pub returns-clause-relay : goal.returns-clause-relay
returns-clause-relay c = relay_trip

pub returns-clause-request : goal.returns-clause-request
returns-clause-request c = request_trip
