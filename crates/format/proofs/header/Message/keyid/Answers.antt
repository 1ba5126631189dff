-- A header that was read gives room for the KeyId. Assumes nothing.
use Rattle.std.proofs.Common.{arith}
use Rattle.format.proofs.Room.{read_room}
use Rattle.format.proofs.header.Message.keyid.Goals as goal

pub overflow_add-result : goal.overflow_add-result
overflow_add-result c = let room = read_room _ c.args.self.now.read in omega (arith, room.short, room.enough)

pub slice_bounds-result-end : goal.slice_bounds-result-end
slice_bounds-result-end c = let room = read_room _ c.args.self.now.read in omega (arith, room.enough)
