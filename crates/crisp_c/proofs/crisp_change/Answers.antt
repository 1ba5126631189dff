-- `crisp_c::crisp_change` meets its contract: that of `entries::change`. Assumes nothing.
use Rattle.crisp_c.proofs.crisp_change.Goals as goal

pub returns : goal.returns
returns c = c.change.ensures
