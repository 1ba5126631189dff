-- The calls that a capture makes (02, No. 1): "Each readable record is an arrival, in file order, and demand 3 reads the calls it makes." Then
-- what an auditor asks of captures, by what came back from calls.
use Rattle.std.specs.Prelude.{◌≡◌, cond, List, [], ◌∷◌, ℕ, eqb}
use Rattle.octets.specs.Octets.{Bytes}
use Rattle.answers.specs.declared.Answer.{Answer}
use Rattle.gateway.specs.Receive.{Received}
use Rattle.capture.specs.Capture.{Item, records_of}
use Rattle.feed.specs.Report.{blank, turn_of}
use Rattle.promises.specs.Calls.{Call, arrival, install, remove, change, load}

-- the calls of some records, and of a file: an arrival for each record that can be read, with an output of zeros
abbrev pub calls_of : List Item → List Call
calls_of [] = []
calls_of (r ∷ rs) = cond (eqb r.reply 0) (arrival r.message r.source blank ∷ calls_of rs) (calls_of rs)

abbrev pub calls_in : List ℕ → List Call
calls_in file = calls_of (records_of file)

-- nothing but arrivals, of bytes
abbrev pub Arrives : Call → Type 0
Arrives (arrival message source out) = Bytes message
Arrives (install k f) = ⊥
Arrives (remove i) = ⊥
Arrives (change i k f) = ⊥
Arrives (load text) = ⊥

abbrev pub AllArrive : List Call → Type 0
AllArrive [] = Unit {0}
AllArrive (c ∷ cs) = Arrives c × AllArrive cs

-- ---- what came back from arrivals

-- nothing is handed out
abbrev pub NothingHanded : List Received → Type 0
NothingHanded [] = Unit {0}
NothingHanded (r ∷ rs) = (r.answer.reply ≡ 0 → ⊥) × NothingHanded rs

-- the lines of some records, read on a table: each has a refusal and no payload
abbrev pub AllRefused : List ℕ → List Item → Type 0
AllRefused t [] = Unit {0}
AllRefused t (r ∷ rs) = ((turn_of t r).reply ≡ 0 → ⊥) × ((turn_of t r).payload ≡ []) × AllRefused (turn_of t r).table rs

-- none is handed out at that slot with that number
abbrev pub Spared : Answer → List Received → Type 0
Spared a [] = Unit {0}
Spared a (r ∷ rs) = (r.answer.reply ≡ 0 → a.slot ≡ r.answer.slot → a.seqnum ≡ r.answer.seqnum → ⊥) × Spared a rs

-- no number is handed out twice at one slot
abbrev pub BooksOnce : List Received → Type 0
BooksOnce [] = Unit {0}
BooksOnce (r ∷ rs) = (r.answer.reply ≡ 0 → Spared r.answer rs) × BooksOnce rs
