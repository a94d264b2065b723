-- A session as the rules see it, for every value of the struct: a document in both sets is held exclusively,
-- and the tick of a grant is counted from the begin of the session.
use Rattle.std.specs.Prelude.{ℕ, ◌+◌, ◌-◌, min, Bool, cond, List, get_or, eqb, ltb}
use Rattle.rules.specs.Limits.{document_count}
use Rattle.rules.specs.Lists.{keep}
use Rattle.rules.specs.Values.{Place}
use Rattle.rules.specs.Tables as M
use Rattle.rules.specs.Changes.{Update}
use Rattle.rules.specs.Effects.{or_shared, with_shared, grant}
use Rattle.docset.specs.Sets.{docs}
use Rattle.changes.specs.View.{view_changes}
use Rattle.sessions.specs.declared.session.Session.{Session}

-- leases by two sets and the ticks of the grants
unfoldable pub leases : (ℕ → Bool) → (ℕ → Bool) → (ℕ → ℕ) → ℕ → M.Lease
leases shared exclusive tick d = cond (exclusive d) (M.exclusive (tick d)) (cond (shared d) (M.shared (tick d)) M.free)

unfoldable pub ticks : ℕ → List ℕ → ℕ → ℕ
ticks begun granted d = begun + get_or granted d 0

unfoldable pub view_session : Session → M.Session
view_session s =
    record {
      begun = s.begun;
      doomed = s.doomed;
      lease = leases (docs s.shared) (docs s.exclusive) (ticks s.begun s.granted);
      changes = view_changes s.changes;
    }

unfoldable pub view_slot : Session → M.Slot
view_slot s = record { number = s.number; session = view_session s }

-- the places whose document is one of the documents
unfoldable pub within : List Place → List Place
within = keep (λ q. ltb q.document document_count)

-- one document shared, if there is such a document: a held lease keeps its grant
unfoldable pub with_shared_one : ℕ → ℕ → M.Session → M.Session
with_shared_one now d s = cond (ltb d document_count) (M.with_leases (λ e. cond (eqb e d) (or_shared now (s.lease e)) (s.lease e)) s) s

-- ── the tick that is kept of a grant at now: 16 bits of ticks since the begin, which is now itself in a session's life (proofs/Granting) ──
abbrev pub last_grant : ℕ
last_grant = 65535

abbrev pub since : ℕ → ℕ → ℕ
since begun now = min (now - begun) last_grant

abbrev pub granting : ℕ → M.Session → ℕ
granting now s = s.begun + since s.begun now

unfoldable pub with_shared_at : ℕ → List Place → M.Session → M.Session
with_shared_at now qs s = with_shared (granting now s) qs s

unfoldable pub grant_at : ℕ → ℕ → Update → ℕ → M.Session → M.Session
grant_at now n c m s = grant (granting now s) n c m s
