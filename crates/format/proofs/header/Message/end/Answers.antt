-- A header that was read leaves room for the ICV. Assumes nothing.
use Rattle.std.proofs.Common.{arith}
use Rattle.format.proofs.Room.{read_room}
use Rattle.format.proofs.header.Message.end.Goals as goal

pub overflow_sub-result : goal.overflow_sub-result
overflow_sub-result c = let room = read_room _ c.args.self.now.read in omega (arith, room.enough)
