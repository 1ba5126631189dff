-- Two results that a public function's contract allows are equal: the answer, the table or record after it, and every byte of the output.
-- Assumes nothing.
use mathlib.Core.Path.{◌≡◌, sym, ap, ◌∙◌}
use mathlib.Core.List.{List}
use Prim.Native.Nat.{ℕ}
use Rattle.window.specs.declared.Frame.{Frame}
use Rattle.format.specs.KeyData.{KeyData}
use Rattle.answers.specs.declared.Answer.{Answer}
use Rattle.entries.specs.Change.{changed}
use Rattle.entries.specs.Install.{Left, IsLeft, installed, removed}
use Rattle.loading.specs.Load.{loaded}
use Rattle.listing.specs.Listing.{IsListed, listed}
use Rattle.gateway.specs.Receive.{IsReceived, received}
use Rattle.std.specs.Prelude.{Option}
use Rattle.capture.specs.Capture.{order_of, record_at}
use Rattle.capture.specs.declared.order.Order.{Order}
use Rattle.capture.specs.declared.record.Record.{Record}
use Rattle.feed.specs.Report.{IsReported, reported}
use Rattle.feed.specs.declared.Summary.{Summary}
use Rattle.sender.specs.Protect.{Protects, with_number}
use Rattle.sender.specs.declared.Sender.{Sender}

same : {A : Type 0} {x y z : A} → x ≡ z → y ≡ z → x ≡ y
same p q = p ∙ sym q

module _ {a b : Answer} {t u : List ℕ} where
  left_determined : {l : Left} → IsLeft l a t → IsLeft l b u → (a ≡ b) × (t ≡ u)
  left_determined p q = (same p.answers q.answers, same p.leaves q.leaves)

  pub install_determined : (table : List ℕ) (k : KeyData) (f : Frame)
      → IsLeft (installed table k f) a t → IsLeft (installed table k f) b u → (a ≡ b) × (t ≡ u)
  install_determined table k f = left_determined

  pub remove_determined : (table : List ℕ) (i : ℕ) → IsLeft (removed table i) a t → IsLeft (removed table i) b u → (a ≡ b) × (t ≡ u)
  remove_determined table i = left_determined

  pub change_determined : (table : List ℕ) (i : ℕ) (k : KeyData) (f : Frame)
      → IsLeft (changed table i k f) a t → IsLeft (changed table i k f) b u → (a ≡ b) × (t ≡ u)
  change_determined table i k f = left_determined

  pub load_determined : (table text : List ℕ) → IsLeft (loaded table text) a t → IsLeft (loaded table text) b u → (a ≡ b) × (t ≡ u)
  load_determined table text = left_determined

  pub listing_determined : (table : List ℕ) (i : ℕ) (out : List ℕ) → IsListed (listed table i out) a t → IsListed (listed table i out) b u → (a ≡ b) × (t ≡ u)
  listing_determined table i out p q = (same p.answers q.answers, same p.writes q.writes)

  pub receive_determined : (table message source out : List ℕ) {x y : List ℕ}
      → IsReceived (received table message source out) a t x → IsReceived (received table message source out) b u y → (a ≡ b) × (t ≡ u) × (x ≡ y)
  receive_determined table message source out p q = (same p.answers q.answers, same p.leaves q.leaves, same p.writes q.writes)

  pub protect_determined : (s : Sender) (payload out : List ℕ) {x y : Sender}
      → Protects s payload out a x t → Protects s payload out b y u → (a ≡ b) × (x ≡ y) × (t ≡ u)
  protect_determined s payload out p q = (same p.answers q.answers, same p.moves q.moves, same p.writes q.writes)

  -- by value the number comes back, and the record with it is what the contract speaks of
  pub by_value_determined : (s : Sender) (payload out : List ℕ) {m n : ℕ}
      → Protects s payload out a (with_number s m) t → Protects s payload out b (with_number s n) u → (a ≡ b) × (m ≡ n) × (t ≡ u)
  by_value_determined s payload out p q =
      let d = protect_determined s payload out p q in
      (d.0, ap (λ (x : Sender). x.current) d.1, d.2)

-- ---- captures

pub report_determined : (table file out : List ℕ) {r s : Summary} {t u x y : List ℕ}
    → IsReported (reported table file out) r t x → IsReported (reported table file out) s u y → (r ≡ s) × (t ≡ u) × (x ≡ y)
report_determined table file out p q = (same p.answers q.answers, same p.leaves q.leaves, same p.writes q.writes)

-- of a file no more is answered than what its bytes say
pub order_determined : (file : List ℕ) {o p : Option Order} → o ≡ order_of file → p ≡ order_of file → o ≡ p
order_determined file = same

pub record_determined : (o : Option Order) (file : List ℕ) (at : ℕ) {r s : Record} → r ≡ record_at o file at → s ≡ record_at o file at → r ≡ s
record_determined o file at = same
