-- `gateway::receiving::receive_in` meets its contract: what each step found is the fact of its reply. Assumes nothing.
use Rattle.std.proofs.Common.{◌≡◌, refl, sym, ap, ◌∙◌, arith, List, ℕ}
use Rattle.answers.specs.Answers.{refused}
use Rattle.format.specs.Header.{read_of, key_id_bytes}
use Rattle.lookup.specs.Lookup.{leads_to}
use Rattle.gateway.proofs.Arrivals.{unread, nothing_found, arrived_is_received, leaves_same, leaves_kept}
use Rattle.gateway.proofs.receiving.receive_in.Goals.{In-Ok, After-leads_to}
use Rattle.gateway.proofs.receiving.receive_in.Goals as goal
use Rattle.std.specs.Prelude.{Ok}

pub returns-in_default : goal.returns-in_default
returns-in_default c =
    let a = c.args in
    leaves_kept
    (unread a.table.now a.bytes.now a.source.now a.out.now (omega arith) _ (sym c.read_header-parsed.ensures ∙ c.unwrap_err.ensures))
    (ap refused c.into.ensures)

-- the header that was read
was_read : (c : In-Ok) → read_of c.args.bytes.now ≡ Ok c.in-Ok.header
was_read c = sym c.read_header-parsed.ensures ∙ c.in-Ok.is

-- the slot that was found, if any
found : (c : After-leads_to) → let a = c.args in let h = c.in-Ok.header in
    leads_to a.table.now h.flag (key_id_bytes h a.bytes.now) a.source.now ≡ c.leads_to.result
found c =
    let a = c.args in
    ap (λ (k : List ℕ). leads_to a.table.now c.in-Ok.header.flag k a.source.now) (sym c.keyid.ensures) ∙ sym c.leads_to.ensures

pub returns-in_default-leads_to : goal.returns-in_default-leads_to
returns-in_default-leads_to c =
    let a = c.args in
    leaves_kept
    (nothing_found a.table.now a.bytes.now a.source.now a.out.now (omega arith) _ (was_read (goal.at.returns-in_default-leads_to c).In-Ok) (found (goal.at.returns-in_default-leads_to c).After-leads_to ∙ c.in_default-leads_to.is))
    refl

pub returns : goal.returns
returns c =
    leaves_same
    (arrived_is_received (record { room = omega arith; read = was_read (goal.at.returns c).In-Ok; found = found (goal.at.returns c).After-leads_to ∙ c.in-Some.is }))
    c.arrive.ensures
