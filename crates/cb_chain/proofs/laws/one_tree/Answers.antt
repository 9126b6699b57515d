use Rattle.cb_chain.proofs.Once.{one_block, one_header, one_heading, one_history}
use Rattle.cb_chain.proofs.laws.one_tree.Goals as goal

pub returns-clause-tree : goal.returns-clause-tree
returns-clause-tree c = one_history

pub returns-clause-header : goal.returns-clause-header
returns-clause-header c = λ old one other header a b is are. (one_header old one other header a b is are).0

pub returns-clause-block : goal.returns-clause-block
returns-clause-block c = λ old one other block a b is are. (one_block old one other block a b is are).0

pub returns-clause-headers : goal.returns-clause-headers
returns-clause-headers c = λ old one other headers against again met others is are. one_heading headers old one other against again met others is are
