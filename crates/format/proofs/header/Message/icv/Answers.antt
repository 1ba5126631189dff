-- An ICV stands at the end of a message whose header was read. Assumes nothing.
use Rattle.std.proofs.Common.{arith}
use Rattle.format.proofs.Room.{read_room}
use Rattle.format.proofs.Suites.{icv_most}
use Rattle.format.proofs.header.Message.icv.Goals as goal

pub read-requires : goal.read-requires
read-requires c =
    let room = read_room _ c.args.self.now.read in
    (omega (arith, room.enough), omega (arith, icv_most c.args.self.now.header.suite))
