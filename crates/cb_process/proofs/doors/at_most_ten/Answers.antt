use Rattle.cb_process.proofs.Windows.{ten}
use Rattle.cb_process.proofs.doors.at_most_ten.Goals as goal

pub returns : goal.returns
returns c = ten
