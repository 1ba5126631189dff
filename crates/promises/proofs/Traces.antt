-- Calls that were made, each as its function's contract allows, are a run: the same answers, tables and outputs.
-- Assumes nothing.
use mathlib.Core.Path.{◌≡◌, refl, ap, ◌∙◌}
use mathlib.Core.List.{List, [], ◌∷◌, ◌++◌}
use Prim.Native.Nat.{ℕ}
use Rattle.answers.specs.declared.Answer.{Answer}
use Rattle.gateway.specs.Receive.{Received}
use Rattle.promises.specs.Calls.{Call, arrival, install, remove, change, load, called, run, results, Allowed, Trace, last_of}

same_received : (r q : Received) → r.answer ≡ q.answer → r.table ≡ q.table → r.out ≡ q.out → r ≡ q
same_received r q a t o =
    ap (λ (x : Answer). record { answer = x; table = r.table; out = r.out }) a
    ∙ ap (λ (x : List ℕ). record { answer = q.answer; table = x; out = r.out }) t
    ∙ ap (λ (x : List ℕ). record { answer = q.answer; table = q.table; out = x }) o

-- A contract allows one result.
pub allowed_called : (t : List ℕ) (c : Call) (r : Received) → Allowed t c r → r ≡ called t c
allowed_called t (arrival message source out) r a = same_received r (called t (arrival message source out)) a.answers a.leaves a.writes
allowed_called t (install k f) r a = same_received r (called t (install k f)) a.0.answers a.0.leaves a.1
allowed_called t (remove i) r a = same_received r (called t (remove i)) a.0.answers a.0.leaves a.1
allowed_called t (change i k f) r a = same_received r (called t (change i k f)) a.0.answers a.0.leaves a.1
allowed_called t (load text) r a = same_received r (called t (load text)) a.0.answers a.0.leaves a.1

pub trace_results : (t : List ℕ) (cs : List Call) (rs : List Received) → Trace t cs rs → rs ≡ results t cs
trace_results t [] [] p = refl
trace_results t [] (r ∷ rs) p = absurd p
trace_results t (c ∷ cs) [] p = absurd p
trace_results t (c ∷ cs) (r ∷ rs) p =
    let is = allowed_called t c r p.0 in
    let rest = trace_results r.table cs rs p.1 in
    ap (λ (x : Received). x ∷ rs) is ∙ ap (λ (xs : List Received). called t c ∷ xs) (rest ∙ ap (λ (x : Received). results x.table cs) is)

pub trace_run : (t : List ℕ) (cs : List Call) (rs : List Received) → Trace t cs rs → last_of t rs ≡ run t cs
trace_run t [] [] p = refl
trace_run t [] (r ∷ rs) p = absurd p
trace_run t (c ∷ cs) [] p = absurd p
trace_run t (c ∷ cs) (r ∷ rs) p = trace_run r.table cs rs p.1 ∙ ap (λ (x : Received). run x.table cs) (allowed_called t c r p.0)

-- ---- further calls

-- what the definitions say of calls is a trace of them
pub results_trace : (t : List ℕ) (cs : List Call) → Trace t cs (results t cs)
results_trace t [] = tt
results_trace t (c ∷ cs) = (called_allowed c, results_trace (called t c).table cs)
  where
    called_allowed : (d : Call) → Allowed t d (called t d)
    called_allowed (arrival message source out) = record { answers = refl; leaves = refl; writes = refl }
    called_allowed (install k f) = (record { answers = refl; leaves = refl }, refl)
    called_allowed (remove i) = (record { answers = refl; leaves = refl }, refl)
    called_allowed (change i k f) = (record { answers = refl; leaves = refl }, refl)
    called_allowed (load text) = (record { answers = refl; leaves = refl }, refl)

-- a trace goes on by another that begins where it ended
pub trace_append : (t : List ℕ) (cs ds : List Call) (rs qs : List Received) → Trace t cs rs → Trace (last_of t rs) ds qs → Trace t (cs ++ ds) (rs ++ qs)
trace_append t [] ds [] qs p q = q
trace_append t [] ds (r ∷ rs) qs p q = absurd p
trace_append t (c ∷ cs) ds [] qs p q = absurd p
trace_append t (c ∷ cs) ds (r ∷ rs) qs p q = (p.0, trace_append r.table cs ds rs qs p.1 q)

pub last_append : (t : List ℕ) (rs qs : List Received) → last_of t (rs ++ qs) ≡ last_of (last_of t rs) qs
last_append t [] qs = refl
last_append t (r ∷ rs) qs = last_append r.table rs qs
