-- What a node promises when it finishes has the headline in it.
use Rattle.std.proofs.Common.{List, [], ◌∷◌}
use Rattle.std.specs.Prelude.{Option, None, ℕ}
use Rattle.std.specs.List.{AllZip}
use Rattle.cb_crew.specs.declared.work.Given.{Given}
use Rattle.cb_crew.specs.declared.reader_side.ReaderSide.{ReaderSide}
use Rattle.cb_crew.specs.Work.{connections_of}
use Rattle.cb_crew.specs.Desk.{DeskState}
use Rattle.cb_crew.specs.Crew.{CrewState, all_queued}
use Rattle.cb_crew.specs.Headline.{works_of}
use Rattle.cb_session.specs.declared.input.Input.{Input}
use Rattle.cb_work.specs.PeerWork.{WorkState}
use Rattle.cb_peers.specs.Headline.{ServesConnection, ServesSide}
use Rattle.cb_node.specs.Node.{HasFinished}
use Rattle.cb_node.specs.Headline.{KeepsConnection, KeepsHeadline, KeepsPeer, TookAll}

-- what holds of two lists place by place, where it leads to something else
zip_map : {A B : Type 0} (R Q : A → B → Type 0) → ((x : A) (y : B) → R x y → Q x y) → (xs : List A) (ys : List B) → AllZip R xs ys → AllZip Q xs ys
zip_map R Q leads [] [] all = tt
zip_map R Q leads [] (y ∷ ys) all = absurd all
zip_map R Q leads (x ∷ xs) [] all = absurd all
zip_map R Q leads (x ∷ xs) (y ∷ ys) all = (leads x y all.0, zip_map R Q leads xs ys all.1)

connection_of : {S H F : Type 0} (contents : S → Option (List ℕ)) (work : WorkState S H F) (queued : List (Given Input)) → ServesConnection contents work queued → KeepsConnection work queued
connection_of contents work queued served = record {
  trace = served.history;
  dropped = served.stands.dropped;
  its_trace = served.stands.parts;
  later = served.in_order.later;
  prefix = served.in_order.beginning;
  none_after = served.in_order.none_after;
  fold = served.session;
  blocks = served.blocks;
}

peer_of : {S H F : Type 0} (contents : S → Option (List ℕ)) (side : ReaderSide Input (WorkState S H F)) (desk : DeskState (WorkState S H F) Input) → ServesSide contents side desk → KeepsPeer side desk
peer_of contents side desk served = zip_map (ServesConnection contents) KeepsConnection (connection_of contents) (works_of desk) (connections_of (all_queued side)) served.served.each

pub headline_of : {S H F : Type 0} (crew : CrewState) (read : List (List (List ℕ))) (desks : List (DeskState (WorkState S H F) Input)) → HasFinished crew read desks → KeepsHeadline crew read desks
headline_of crew read desks finished = record {
  sides = finished.sides;
  readers = finished.own;
  spelled = finished.spelled;
  inboxes = finished.headline.inboxes;
  taken = zip_map (ServesSide (λ sink. None)) TookAll (λ side desk served. served.taken) finished.sides desks finished.headline.each;
  each = zip_map (ServesSide (λ sink. None)) KeepsPeer (peer_of (λ sink. None)) finished.sides desks finished.headline.each;
}
