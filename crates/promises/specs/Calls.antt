-- Calls on a table: what each answers and leaves, by the definitions that the functions' contracts cite; what several leave, one after the
-- other; and calls that were really made, of which no more is known than that each function met its contract.
use Rattle.std.specs.Prelude.{◌≡◌, Bool, ◌&&◌, List, [], ◌∷◌, ℕ, eqb}
use Rattle.octets.specs.Octets.{Bytes}
use Rattle.answers.specs.declared.Answer.{Answer}
use Rattle.window.specs.declared.Frame.{Frame}
use Rattle.format.specs.KeyData.{KeyData}
use Rattle.entries.specs.Change.{changed}
use Rattle.entries.specs.Install.{Left, IsLeft, installed, removed}
use Rattle.loading.specs.Load.{loaded}
use Rattle.gateway.specs.Receive.{Received, IsReceived, received}

pub data Call : Type 0 where
  -- a message, the source supplied with it, and the output
  arrival : List ℕ → List ℕ → List ℕ → Call
  -- an entry's key data, and what it settles of the window
  install : KeyData → Frame → Call
  -- a slot
  remove : ℕ → Call
  -- a slot, and the key data and frame that its entry is to have (02, No. 7)
  change : ℕ → KeyData → Frame → Call
  -- the text of a listing
  load : List ℕ → Call

-- messages and KeyIds are of bytes, as all that a caller can hand in is
abbrev pub OfBytes : Call → Type 0
OfBytes (arrival message source out) = Bytes message
OfBytes (install k f) = Bytes k.key_id
OfBytes (remove i) = Unit {0}
OfBytes (change i k f) = Bytes k.key_id
OfBytes (load text) = Unit {0}

abbrev pub AllOfBytes : List Call → Type 0
AllOfBytes [] = Unit {0}
AllOfBytes (c ∷ cs) = OfBytes c × AllOfBytes cs

-- ---- what a call leaves

-- "Install and remove write no buffer": none is lent to them, nor to a change or a load
abbrev pub unwritten : Left → Received
unwritten l = record { answer = l.answer; table = l.table; out = [] }

-- the answer, the table and the output after a call
abbrev pub called : List ℕ → Call → Received
called t (arrival message source out) = received t message source out
called t (install k f) = unwritten (installed t k f)
called t (remove i) = unwritten (removed t i)
called t (change i k f) = unwritten (changed t i k f)
called t (load text) = unwritten (loaded t text)

-- the table after a call, the table after several, and what came back from each of them
abbrev pub after : List ℕ → Call → List ℕ
after t c = (called t c).table

abbrev pub run : List ℕ → List Call → List ℕ
run t [] = t
run t (c ∷ cs) = run (after t c) cs

abbrev pub results : List ℕ → List Call → List Received
results t [] = []
results t (c ∷ cs) = called t c ∷ results (after t c) cs

-- whether an answer says "done", at slot i
abbrev pub is_done : ℕ → Answer → Bool
is_done i a = eqb a.reply 0 && eqb a.slot i

-- ---- calls that were made

-- what came back from a call is what the contract of its function allows
abbrev pub Allowed : List ℕ → Call → Received → Type 0
Allowed t (arrival message source out) r = IsReceived (received t message source out) r.answer r.table r.out
Allowed t (install k f) r = IsLeft (installed t k f) r.answer r.table × (r.out ≡ [])
Allowed t (remove i) r = IsLeft (removed t i) r.answer r.table × (r.out ≡ [])
Allowed t (change i k f) r = IsLeft (changed t i k f) r.answer r.table × (r.out ≡ [])
Allowed t (load text) r = IsLeft (loaded t text) r.answer r.table × (r.out ≡ [])

-- calls, each on the table that the one before it left, and what came back from them
abbrev pub Trace : List ℕ → List Call → List Received → Type 0
Trace t [] [] = Unit {0}
Trace t [] (r ∷ rs) = ⊥
Trace t (c ∷ cs) [] = ⊥
Trace t (c ∷ cs) (r ∷ rs) = Allowed t c r × Trace r.table cs rs

-- the table at the end
abbrev pub last_of : List ℕ → List Received → List ℕ
last_of t [] = t
last_of t (r ∷ rs) = last_of r.table rs
