-- `message::sealing::open` meets its contract: the payload is written only where the ICV is right, and has room there. Assumes nothing.
use Rattle.std.proofs.Common.{◌≡◌, ◌∙◌, ap, arith}
use Rattle.magma.specs.Magma.{key_words}
use Rattle.message.specs.Sealing.{opened_under}
use Rattle.message.proofs.Opening.{Compared, same_right, other_wrong}
use Rattle.format.proofs.Room.{read_room}
use Rattle.message.proofs.sealing.open.Goals.{After-icv}
use Rattle.message.proofs.sealing.open.Goals as goal

-- the words are those of the key's 32 bytes
base : (c : After-icv) → c.key_words-base.result ≡ key_words c.args.key.now
base c = c.key_words-base.ensures ∙ ap key_words (rw c.unwrap.ensures at c.try_into.ensures).1.same

compared : (c : After-icv) → let a = c.args in let m = a.message.now in
    Compared m.header a.edition a.key.now a.source.now m.bytes.now c.icv.result c.icv-icv.result
compared c =
    let keys = c.new-keys.ensures in
    record { carries = c.icv.ensures; should = rw (keys, base c, c.covered.ensures) at c.icv-icv.ensures }

pub returns-then-icv : goal.returns-then-icv
returns-then-icv c =
    let e = other_wrong (compared (goal.at.returns-then-icv c).After-icv) (λ same. omega arith) in
    record { answers = rw e; writes = rw e }

pub encipher-requires : goal.encipher-requires
encipher-requires c =
    let room = read_room _ c.args.message.now.read in
    (omega (arith, c.payload-payload.ensures.long, room.short, c.requires), omega (arith, c.payload-payload.ensures.long, room.short))

pub returns : goal.returns
unfolding opened_under
returns c =
    let keys = c.new-keys.ensures in
    let payload = c.payload-payload.ensures in
    let e = same_right (compared (goal.at.returns c).After-icv) (omega arith) in
    record { answers = rw (payload.long, e); writes = rw (c.encipher.ensures, keys, base (goal.at.returns c).After-icv, payload.value, e) }
