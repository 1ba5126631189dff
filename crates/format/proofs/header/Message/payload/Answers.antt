-- A header that was read gives room for the payload, between the KeyId and the ICV. Assumes nothing.
use Rattle.std.proofs.Common.{arith}
use Rattle.format.proofs.Room.{read_room}
use Rattle.format.proofs.header.Message.payload.Goals as goal

pub overflow_add-result : goal.overflow_add-result
overflow_add-result c = let room = read_room _ c.args.self.now.read in omega (arith, room.short, room.enough)

pub slice_bounds-result-count : goal.slice_bounds-result-count
slice_bounds-result-count c = let room = read_room _ c.args.self.now.read in omega (arith, room.enough)

pub slice_bounds-result-start : goal.slice_bounds-result-start
slice_bounds-result-start c = let room = read_room _ c.args.self.now.read in omega (arith, room.enough)
