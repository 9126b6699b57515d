use Rattle.cb_peer_state.proofs.Rooms.{each_fetched, flies_on, left_where_full, unlisted_stays}
use Rattle.cb_peer_state.proofs.fetch_laws.what_is_left_out_has_no_room.Goals as goal

pub returns-clause-full : goal.returns-clause-full
returns-clause-full c = left_where_full

pub returns-clause-others : goal.returns-clause-others
returns-clause-others c = each_fetched

pub returns-clause-stays : goal.returns-clause-stays
returns-clause-stays c = unlisted_stays

pub returns-clause-flight : goal.returns-clause-flight
returns-clause-flight c = flies_on
