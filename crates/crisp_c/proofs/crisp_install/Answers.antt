-- `crisp_c::crisp_install` meets its contract: that of `entries::install`. Assumes nothing.
use Rattle.crisp_c.proofs.crisp_install.Goals as goal

pub returns : goal.returns
returns c = c.install.ensures
